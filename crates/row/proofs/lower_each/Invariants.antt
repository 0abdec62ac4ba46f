-- The loop's invariant: the first i levels are lowered, the others stand as at entry.
use Prim.Native.Nat.{ℕ, ◌≤◌, ◌<◌, min}
use mathlib.Core.Path.{◌≡◌}
use lib.ListN.{get_or}
use Rattle.row.specs.RowRule.{more}
use Rattle.row.proofs.lower_each.Given as goal

abbrev pub invariant-loop-i : goal.invariant-loop-i
invariant-loop-i g l =
    record {
      lowered : (k : ℕ) → k < l.i
          → (level : ℕ) × goal.F-post g l.offer k level × (get_or l.levels k 0 ≡ min (get_or l.initial.levels k 0) (more level));
      left : (k : ℕ) → l.i ≤ k → get_or l.levels k 0 ≡ get_or l.initial.levels k 0;
    }
