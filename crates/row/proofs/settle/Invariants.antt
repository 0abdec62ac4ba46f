-- The loop's invariant: the first i levels are stored, and those that fell are counted. A turn stores to a level that stood as at
-- entry.
use Prim.Native.Nat.{◌≤◌}
use mathlib.Core.Path.{◌≡◌}
use lib.ListN.{get_or}
use Rattle.row.specs.RowRule.{points_lowered}
use Rattle.row.specs.Passes.{Put}
use Rattle.row.proofs.settle.Given as goal

abbrev pub invariant-loop-i : goal.invariant-loop-i
invariant-loop-i l =
    record {
      few : l.fallen ≤ l.i;
      put : Put 0 l.i (λ col. get_or l.worked col 0) l.initial.stored l.stored;
      counted : l.fallen ≡ points_lowered l.initial.stored l.stored;
    }
