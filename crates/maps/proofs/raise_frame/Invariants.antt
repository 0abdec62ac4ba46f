-- The loop's invariant: the rows above are raised.
use Rattle.maps.specs.Raising.{Raised}
use Rattle.maps.proofs.raise_frame.Given as goal

abbrev pub invariant-loop-row : goal.invariant-loop-row
invariant-loop-row l = Raised l.frame.width l.frame.margin l.row l.most l.map l.initial.levels l.levels
