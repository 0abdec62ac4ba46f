-- What reading and writing keep, said of the two contracts alone.
use Rattle.std.specs.Prelude.{ℕ, ◌*◌, ◌≤◌, ◌≡◌, List, length, take}
use Rattle.sheet.specs.Sheets.{row_bytes}
use Rattle.sheet.specs.SamePixels.{SamePixels}
use Rattle.pbm.specs.Header.{whole, header}
use Rattle.pbm.specs.Pbm.{ReadsPbm, pbm_text, WritesPbm}

-- the sheet that reading leaves at the front of the output
abbrev pub sheet_in : ℕ → ℕ → List ℕ → List ℕ
sheet_in width height out = take (height * row_bytes width) out

-- WRITING AND THEN READING gives the frame and the pixels again
abbrev pub WriteThenRead : Type 0
WriteThenRead =
    (width height : ℕ) (sheet room : List ℕ) (size : ℕ) (written : List ℕ) → WritesPbm width height sheet room 0 size written
    → (out : List ℕ) → height * row_bytes width ≤ length out → (number width' height' : ℕ) (after : List ℕ)
    → ReadsPbm (take size written) out number width' height' after
    → (number ≡ 0) × (width' ≡ width) × (height' ≡ height) × SamePixels width height (sheet_in width height after) sheet

-- READING AND THEN WRITING, with room for it, gives the file in the writer's own layout: its frame, and its raster with padding
-- cleared; and the same bytes where the file was in that layout
abbrev pub ReadThenWrite : Type 0
ReadThenWrite =
    (file out : List ℕ) (width height : ℕ) (after : List ℕ) → ReadsPbm file out 0 width height after →
    (raster : List ℕ) × (header file ≡ whole width height raster) ×
    ((room : List ℕ) → length (pbm_text width height raster) ≤ length room → (number size : ℕ) (written : List ℕ)
    → WritesPbm width height (sheet_in width height after) room number size written
    → (number ≡ 0) × (take size written ≡ pbm_text width height raster) ×
    ((width' height' : ℕ) (sheet : List ℕ) → file ≡ pbm_text width' height' sheet → take size written ≡ file))

-- PADDING BITS CHANGE NOTHING: sheets with the same pixels are written alike
abbrev pub WrittenAlike : Type 0
WrittenAlike =
    (width height : ℕ) (one other : List ℕ) → length one ≡ length other → SamePixels width height one other → (out : List ℕ)
    (m n size size' : ℕ) (x y : List ℕ) → WritesPbm width height one out m size x → WritesPbm width height other out n size' y
    → (m ≡ n) × (size ≡ size') × (x ≡ y)
