-- A size above the cap counts where the pixel is 1.
use Rattle.basics.proofs.Arithmetic.{entry_below}
use Rattle.run.proofs.PatchLaws.{row_end}
use Rattle.run.proofs.RecordLaws.{area_small}
use Rattle.run.specs.declared.Input.{Input}
use Rattle.sheet.specs.Sheets.{row_bytes}
use Rattle.maps.specs.Raising.{Fits}
use Rattle.maps.proofs.SeenLaws.{seen_above}
use native.Mathlib.Omega.{arith}
use Prim.Native.Nat.{ℕ, ◌+◌, ◌*◌, ◌<◌, ◌≤◌}
use mathlib.Core.List.{List}
use lib.ListN.{length}
use Rattle.maps.proofs.is_above.Goals as goal

-- a point's place lies in the map, which is not longer than the largest frame
in_map : {input : Input} {sheet map : List ℕ} {row col : ℕ} → Fits input sheet map × ((row < input.height) × (col < input.width))
    → (row * input.width + col < length map) × (length map ≤ 16777216)
in_map {input = input} {row = row} {col = col} (fits, (a, b)) =
    let e = entry_below input.width input.height row col a b in
    let f = fits.map_size in
    let w = fits.wide.1 in
    let m = area_small input.height input.width fits.high w in
    (omega arith, omega arith)

pub overflow_mul-place : goal.overflow_mul-place
overflow_mul-place c = let l = in_map c.requires in omega arith

pub overflow_add-place : goal.overflow_add-place
overflow_add-place c = let l = in_map c.requires in omega arith

pub pixel_at-pixel-requires : goal.pixel_at-pixel-requires
pixel_at-pixel-requires c =
    let args = c.args in
    let fits = c.requires.0 in
    let w = fits.wide in
    let col = c.requires.1.1 in
    let e = row_end (row_bytes args.input.width) args.input.height args.row c.requires.1.0 in
    let s = fits.sheet_size_lem in
    let h = fits.high in
    (w.1, (omega arith, (col, omega arith)))

pub offset_bounds-map-place : goal.offset_bounds-map-place
offset_bounds-map-place c = let l = in_map c.requires in omega arith

pub bounds-map-place : goal.bounds-map-place
bounds-map-place c = (in_map c.requires).0

pub returns : goal.returns
returns c =
    let args = c.args in
    rw c.from.ensures (seen_above args.input args.sheet.now args.map.now args.cap args.row args.col c.pixel_at-pixel.result
    c.requires.1.0 c.requires.1.1 c.pixel_at-pixel.ensures)
