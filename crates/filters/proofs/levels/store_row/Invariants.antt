-- The loop's invariant: the first i levels are stored, the others are as they were.
use Rattle.filters.specs.Back.{chosen}
use Rattle.filters.proofs.StoreLaws.{Storing}
use lib.ListN.{length, get_or}
use Rattle.filters.proofs.levels.store_row.Given as goal

abbrev pub invariant-loop-i : goal.invariant-loop-i
invariant-loop-i l =
    Storing (length l.levels)
    (λ j. chosen l.bounds.low l.bounds.high l.value (get_or l.initial.out j 0) (get_or l.levels j 0)) l.initial.out l.i l.out
