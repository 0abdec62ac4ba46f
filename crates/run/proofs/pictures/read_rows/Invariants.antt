-- The loop's invariant: the rows above are copied.
use Rattle.run.proofs.PatchLaws.{Rows}
use Rattle.run.proofs.PictureLaws.{copied_level}
use Prim.Native.Nat.{◌-◌, ◌≤◌}
use Rattle.run.proofs.pictures.read_rows.Given as goal

abbrev pub invariant-loop-row : goal.invariant-loop-row
invariant-loop-row l =
    (l.row ≤ l.frame.height) × Rows l.frame.width (copied_level l.frame l.levels l.reading) l.row l.initial.out l.out

abbrev pub decreases-loop-row : goal.decreases-loop-row
decreases-loop-row l = l.frame.height - l.row
