-- The sides of an accepted frame are in their limits, so the bytes of a sheet are few.
use Rattle.sheet.proofs.FrameLaws.{frame_sides, raster_small}
use native.Mathlib.Omega.{arith}
use Prim.Native.Nat.{◌*◌}
use mathlib.Core.Path.{sym, ap}
use Rattle.sheet.proofs.check_sheet.Goals as goal

pub row_bytes-requires : goal.row_bytes-requires
row_bytes-requires c = (frame_sides c.args.width c.args.height (sym c.in_ok-check_frame.ensures)).0.1

pub overflow_mul-height : goal.overflow_mul-height
overflow_mul-height c =
    let args = c.args in
    let f = frame_sides args.width args.height (sym c.in_ok-check_frame.ensures) in
    let s = raster_small args.width args.height f.0.1 f.1.1 in
    let e = ap (λ n. args.height * n) c.row_bytes.ensures in
    omega arith
