-- The loop's invariant: the levels before are counted, of which no more than all are held.
use Rattle.basics.specs.Sums.{sum}
use Rattle.run.specs.Patches.{held_between}
use Prim.Native.Nat.{◌≤◌}
use mathlib.Core.Path.{◌≡◌}
use lib.ListN.{get_or}
use Rattle.spectrum.proofs.counting.count_row.Given as goal

abbrev pub invariant-loop-i : goal.invariant-loop-i
invariant-loop-i l =
    (l.count ≤ l.i) ×
    (l.count ≡ sum l.i (λ k. held_between l.bounds.low l.bounds.high (get_or l.levels k 0)))
