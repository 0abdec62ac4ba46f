-- The loop's invariant: the first i levels are raised, the others are as they were.
use Rattle.filters.proofs.StoreLaws.{Storing}
use Rattle.maps.specs.Raising.{raised}
use lib.ListN.{length, get_or}
use Rattle.maps.proofs.raise_row.Given as goal

abbrev pub invariant-loop-i : goal.invariant-loop-i
invariant-loop-i l =
    Storing (length l.map) (λ j. raised l.most (get_or l.map j 0) (get_or l.initial.levels j 0)) l.initial.levels l.i l.levels
