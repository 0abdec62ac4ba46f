-- The loop's invariant: the rows above are counted.
use Rattle.basics.specs.Sums.{sum}
use Rattle.run.specs.Patches.{held_between, level_in}
use Prim.Native.Nat.{◌*◌, ◌≤◌}
use mathlib.Core.Path.{◌≡◌}
use Rattle.spectrum.proofs.counting.count_frame.Given as goal

abbrev pub invariant-loop-row : goal.invariant-loop-row
invariant-loop-row l =
    (l.count ≤ l.row * 4096) ×
    (l.count ≡ sum l.row (λ row. sum l.frame.width
    (λ col. held_between l.bounds.low l.bounds.high (level_in l.frame.width l.frame.margin l.levels row col))))
