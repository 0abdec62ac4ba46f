-- A sheet in memory is the PBM raster: rows top to bottom, each padded to a byte, leftmost pixel in the highest bit, 1
-- foreground.
use Rattle.std.specs.Prelude.{ℕ, ◌+◌, ◌-◌, ◌*◌, ◌/◌, ◌%◌, ◌^◌, Bool, not, cond, ◌||◌, List, [], ◌∷◌, ◌++◌, eqb, ltb, length, get_or}
use Rattle.basics.specs.Limits.{longest_side}
use Rattle.basics.specs.Refusals.{Refusal}
use Rattle.basics.specs.Tables.{raster}
use Rattle.grid.specs.Sets.{PointSet}
use Rattle.grid.specs.Figures.{figure}

-- bytes to a row
abbrev pub row_bytes : ℕ → ℕ
row_bytes width = (width + 7) / 8

-- bit i of a byte, counted from the highest
abbrev pub bit : ℕ → ℕ → ℕ
bit byte i = byte / 2 ^ (7 - i) % 2

unfoldable pub pixel : ℕ → List ℕ → ℕ → ℕ → ℕ
pixel width bytes row col = bit (get_or bytes (row * row_bytes width + col / 8) 0) (col % 8)

-- the set A that a sheet means; padding bits are never looked at
abbrev pub foreground : ℕ → ℕ → List ℕ → PointSet
foreground width height bytes = figure width height (pixel width bytes)

-- when a frame or a sheet is refused
unfoldable pub is_side_out : ℕ → Bool
is_side_out side = eqb side 0 || ltb longest_side side

abbrev pub frame_refusals : ℕ → ℕ → List Refusal
frame_refusals width height = (2, is_side_out width || is_side_out height) ∷ []

abbrev pub sheet_refusals : ℕ → ℕ → List ℕ → List Refusal
sheet_refusals width height bytes = frame_refusals width height ++ (3, not (eqb (length bytes) (height * row_bytes width))) ∷ []

-- the sheet with the pixels given, padding 0
unfoldable pub byte_packed : ℕ → (ℕ → ℕ) → ℕ → ℕ
byte_packed width pixels k = 128 * at 0 + 64 * at 1 + 32 * at 2 + 16 * at 3 + 8 * at 4 + 4 * at 5 + 2 * at 6 + at 7
  where
    at : ℕ → ℕ
    at i = cond (ltb (k * 8 + i) width) (pixels (k * 8 + i)) 0

unfoldable pub packed : ℕ → ℕ → (ℕ → ℕ → ℕ) → List ℕ
packed width height pixels = raster (row_bytes width) height (λ row k. byte_packed width (pixels row) k)
