-- Dilating each foreground point by a size of its own. A lent map has a size for each point of the frame, row by row.
use Rattle.std.specs.Prelude.{ℕ, ◌+◌, ◌*◌, ◌≡◌, not, cond, List, [], ◌∷◌, ◌++◌, eqb, length, get_or, replicate}
use Rattle.basics.specs.Bounds.{any_above}
use Rattle.basics.specs.Refusals.{Refusal, Answers}
use Rattle.basics.specs.Tables.{raster}
use Rattle.grid.specs.Points.{Point}
use Rattle.grid.specs.Sizes.{dilated_by_sizes, sizes_of}
use Rattle.sheet.specs.Sheets.{pixel}
use Rattle.run.specs.Starting.{dilation_refusals}
use Rattle.run.specs.declared.Input.{Input}
use Rattle.filters.specs.Filters.{IsSheet, foreground_of, element_of, frame_size, sheet_size}

-- the size at a row and a column, and so at a point of the frame
abbrev pub size_in : ℕ → List ℕ → ℕ → ℕ → ℕ
size_in width map row col = get_or map (row * width + col) 0

abbrev pub size_of : Input → List ℕ → Point → ℕ
size_of input map = sizes_of (size_in input.width map)

-- the sizes that are looked at: those at foreground points, and 0 in the place of the others
unfoldable pub sizes_seen : Input → List ℕ → List ℕ → List ℕ
sizes_seen input sheet map = raster input.width input.height
    (λ row col. cond (eqb (pixel input.width sheet row col) 1) (size_in input.width map row col) 0)

-- the work buffer and the output, lent
pub record Buffers : Type 0 where
  pub work : List ℕ
  pub out : List ℕ

-- refused as the start of a dilation, the work buffer being its levels; then 10 for the map, 11, and last 8 for a size above the cap
abbrev pub map_refusals : Input → List ℕ → List ℕ → ℕ → List ℕ → Buffers → List Refusal
map_refusals input sheet bytes cap map lent =
    dilation_refusals input.width input.height sheet input.side bytes cap lent.work ++
    (10, not (eqb (length map) (frame_size input))) ∷ (11, not (eqb (length lent.out) (sheet_size input))) ∷
    (8, any_above cap (sizes_seen input sheet map)) ∷ []

-- after an accepted call the work buffer is all zero, and the output is the sheet of the foreground dilated by its sizes
abbrev pub DilatesByMap : Input → List ℕ → List ℕ → ℕ → List ℕ → Buffers → ℕ → Buffers → Type 0
DilatesByMap input sheet bytes cap map lent =
    Answers (map_refusals input sheet bytes cap map lent) lent
    (λ after. (after.work ≡ replicate (length lent.work) 0) × IsSheet input.width input.height
    (dilated_by_sizes (foreground_of input sheet) (size_of input map) (element_of input bytes)) after.out)
