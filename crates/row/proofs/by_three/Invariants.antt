-- The loop's invariant: the first t columns are worked, and the three locals are the levels worked last.
use Prim.Native.Nat.{◌≤◌}
use Rattle.row.specs.RowRule.{none}
use Rattle.row.proofs.Own.{Kept}
use Rattle.row.proofs.by_three.Given as goal

abbrev pub invariant-loop-t : goal.invariant-loop-t
invariant-loop-t l =
    record {
      middle_small : l.middle ≤ none;
      far_small : l.far ≤ none;
      kept : Kept l.upward l.width l.beyond l.one l.two l.three l.t l.near l.middle l.far l.initial.worked l.worked;
    }
