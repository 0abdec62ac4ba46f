-- The byte is in the sheet by what is required; its bit is the pixel by definition.
use Rattle.sheet.specs.Sheets.{pixel}
use Prim.Native.Nat.{◌+◌, ◌*◌, ◌-◌, ◌/◌, ◌%◌, ◌^◌}
use mathlib.Core.Path.{ap}
use lib.ListN.{get_or}
use Rattle.sheet.proofs.pixel_at.Goals as goal

pub returns : goal.returns
unfolding pixel
returns c =
    let args = c.args in
    ap (λ n. get_or args.sheet.now (args.row * n + args.col / 8) 0 / 2 ^ (7 - args.col % 8) % 2)
    c.row_bytes.ensures
