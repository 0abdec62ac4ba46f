-- The loop's invariant: the rows above are stored.
use Rattle.filters.proofs.StoreLaws.{stored_level}
use Rattle.run.proofs.PatchLaws.{Rows}
use Rattle.filters.proofs.levels.store_frame.Given as goal

abbrev pub invariant-loop-row : goal.invariant-loop-row
invariant-loop-row l =
    Rows l.frame.width (stored_level l.frame l.levels l.bounds l.value l.initial.out) l.row l.initial.out l.out
