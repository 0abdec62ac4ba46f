-- The loop's invariant: the first n entries, each weighed by its level, are added.
use Rattle.basics.specs.Sums.{sum}
use Prim.Native.Nat.{◌*◌}
use mathlib.Core.Path.{◌≡◌}
use lib.ListN.{get_or}
use Rattle.spectrum.proofs.fractions.levels_added.Given as goal

abbrev pub invariant-loop-n : goal.invariant-loop-n
invariant-loop-n l = l.added ≡ sum l.n (λ k. k * get_or l.table k 0)
