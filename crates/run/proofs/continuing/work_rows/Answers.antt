-- The area of a sound record is small, and its cells stay within reach.
use Rattle.element.proofs.ElementLaws.{side_bounds}
use Rattle.run.proofs.RecordLaws.{sound}
use Rattle.run.proofs.ScanCells.{scan_reaches}
use Rattle.run.proofs.ContinueLaws.{work_lent}
use native.Mathlib.Omega.{arith}
use Rattle.run.proofs.continuing.work_rows.Goals as goal

pub overflow_sub-reach : goal.overflow_sub-reach
overflow_sub-reach c =
    let run = c.args.sound.run in
    let b = side_bounds run.side (sound run c.args.sound.taken).side_is in
    omega arith

pub scan_rows-requires : goal.scan_rows-requires
scan_rows-requires c =
    let run = c.args.sound.run in
    let s = sound run c.args.sound.taken in
    let due = c.requires.1 in
    rw c.area.ensures (work_lent run s c.args.levels.now c.requires.0, (due, scan_reaches run s))
