-- The loop's invariant: the first k levels are marked.
use Rattle.basics.proofs.TableLaws.{Filling}
use Rattle.filters.specs.Back.{chosen}
use lib.ListN.{length, get_or}
use Rattle.filters.proofs.back.mark.Given as goal

abbrev pub invariant-loop-k : goal.invariant-loop-k
invariant-loop-k l =
    Filling (length l.first) (λ j. chosen l.bounds.low l.bounds.high l.on l.off (get_or l.first j 0)) l.k l.second
