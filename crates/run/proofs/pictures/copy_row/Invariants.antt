-- The loop's invariant: the first i entries of the stretch are copied.
use Rattle.run.specs.Patches.{Patch, read_as}
use Prim.Native.Nat.{◌+◌, ◌-◌, ◌≤◌}
use lib.ListN.{get_or}
use Rattle.run.proofs.pictures.copy_row.Given as goal

abbrev pub invariant-loop-i : goal.invariant-loop-i
invariant-loop-i l = (l.i ≤ l.n) × Patch l.at l.i (λ j. read_as l.reading (get_or l.levels (l.from + j) 0)) l.initial.out l.out

abbrev pub decreases-loop-i : goal.decreases-loop-i
decreases-loop-i l = l.n - l.i
