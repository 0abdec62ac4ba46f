-- The loop's invariant: the rows above are copied.
use Rattle.run.specs.Patches.{level_in}
use Rattle.run.proofs.PartLaws.{RowsFilled}
use Rattle.run.proofs.pictures.copy_rows.Given as goal

abbrev pub invariant-loop-row : goal.invariant-loop-row
invariant-loop-row l = RowsFilled l.frame.width l.frame.height (level_in l.frame.width l.frame.margin l.levels) l.row l.out
