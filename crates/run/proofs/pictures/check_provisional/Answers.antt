-- A sound record has a small frame, so that the bytes wanted can be counted.
use Rattle.sheet.proofs.FrameLaws.{raster_small}
use Rattle.run.proofs.RecordLaws.{judged_sound}
use native.Mathlib.Omega.{arith}
use Prim.Native.Nat.{◌*◌}
use mathlib.Core.Path.{ap}
use Rattle.run.proofs.pictures.check_provisional.Goals as goal

pub row_bytes-requires : goal.row_bytes-requires
row_bytes-requires c = (judged_sound c.in_ok-sound.sound c.in_ok-sound.ensures.1).wide.1

pub overflow_mul-wanted : goal.overflow_mul-wanted
overflow_mul-wanted c =
    let run = c.args.run in
    let s = judged_sound c.in_ok-sound.sound c.in_ok-sound.ensures.1 in
    let small = raster_small run.width run.height s.wide.1 s.high.1 in
    let e = ap (λ bytes. run.height * bytes) c.row_bytes.ensures in
    omega arith
