-- The levels and the bytes of a picture, by row and column.
use Prim.Native.Nat.{ℕ, ◌+◌, ◌*◌}
use native.Mathlib.Omega.{arith}
use mathlib.Core.List.{List}
use mathlib.Core.Path.{◌≡◌, ap}
use lib.ListN.{get_or}
use Rattle.sheet.specs.Sheets.{row_bytes, byte_packed, packed}
use Rattle.run.specs.declared.kinds.Bounds.{Bounds}
use Rattle.run.specs.declared.kinds.Reading.{Reading}
use Rattle.run.specs.declared.records.Frame.{Frame}
use Rattle.run.specs.Records.{canvas_side}
use Rattle.run.specs.Patches.{Patch, level_in, read_as, held_between}
use Rattle.run.proofs.PatchLaws.{Rows, rows_turn, patch_as}
use Rattle.run.proofs.PartLaws.{RowsFilled, rows_end}

-- the collected levels, by row and column
abbrev pub copied_level : Frame → List ℕ → Reading → ℕ → ℕ → ℕ
copied_level frame levels reading row col = read_as reading (level_in frame.width frame.margin levels row col)

-- a row of the frame, copied from its margin on, is a row of the picture
pub copied_row : (frame : Frame) (levels : List ℕ) (reading : Reading) {row : ℕ} {out after last : List ℕ}
    → Rows frame.width (copied_level frame levels reading) row out after
    → Patch (row * frame.width) frame.width
    (λ i. read_as reading (get_or levels ((row + frame.margin) * canvas_side frame.width frame.margin + frame.margin + i) 0))
    after last
    → Rows frame.width (copied_level frame levels reading) (row + 1) out last
copied_row frame levels reading {row} P Q =
    let start = (row + frame.margin) * canvas_side frame.width frame.margin in
    rows_turn P (patch_as Q (copied_level frame levels reading row)
    (λ i l. ap (λ k. read_as reading (get_or levels k 0))
    (let e : start + frame.margin + i ≡ start + (i + frame.margin) = omega arith in e)))

-- the bytes of the packed sheet, by row and place
abbrev pub packed_level : Frame → List ℕ → Bounds → ℕ → ℕ → ℕ
packed_level frame levels bounds row =
    byte_packed frame.width (λ col. held_between bounds.low bounds.high (level_in frame.width frame.margin levels row col))

-- all packed rows are the packed sheet
pub packed_rows : (frame : Frame) (levels : List ℕ) (bounds : Bounds) {row : ℕ} {out : List ℕ}
    → RowsFilled (row_bytes frame.width) frame.height (packed_level frame levels bounds) row out → row ≡ frame.height
    → out ≡ packed frame.width frame.height
    (λ row col. held_between bounds.low bounds.high (level_in frame.width frame.margin levels row col))
unfolding packed
packed_rows frame levels bounds h e = rows_end h e
