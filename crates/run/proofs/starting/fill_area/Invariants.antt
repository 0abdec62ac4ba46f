-- The loop's invariant: the rows above are filled. All rows are the start levels.
use Rattle.run.specs.Records.{canvas_side}
use Rattle.run.specs.Starting.{start_level}
use Rattle.run.proofs.PartLaws.{RowsFilled}
use Rattle.run.proofs.starting.fill_area.Given as goal

abbrev pub invariant-loop-row : goal.invariant-loop-row
invariant-loop-row l =
    RowsFilled (canvas_side l.frame.width l.frame.margin) (canvas_side l.frame.height l.frame.margin)
    (start_level l.frame.width l.frame.height l.frame.margin l.sheet l.starts.on l.starts.off l.starts.outside) l.row l.levels
