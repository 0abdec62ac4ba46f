-- The loop's invariant: the row has had the passes of the first n cells.
use Rattle.row.specs.RowRule.{more, least}
use Rattle.row.specs.Passes.{Pass}
use Rattle.row.proofs.by_other_rows.Given as goal

abbrev pub invariant-loop-n : goal.invariant-loop-n
invariant-loop-n l =
    Pass 0 l.area.width (λ col. more (least l.area l.part l.row col l.first l.n)) l.initial.worked l.worked
