-- A run's record, and what follows from it: the area worked on, the rows due, and whether a start could have given it.
use Rattle.std.specs.Prelude.{ℕ, ◌+◌, ◌*◌, ◌/◌, ◌%◌, Bool, false, not, ◌&&◌, ◌||◌, List, [], ◌∷◌, eqb, ltb, get_or, replicate}
use Rattle.basics.specs.Limits.{longest_side, highest_cap}
use Rattle.basics.specs.Bounds.{any_above}
use Rattle.grid.specs.Figures.{reach}
use Rattle.element.specs.Elements.{is_side, count_set}
use Rattle.element.specs.Cells.{is_held}
use Rattle.sheet.specs.Sheets.{is_side_out}
use Rattle.row.specs.declared.Area.{Area}
use Rattle.scan.specs.Scan.{area}
use Rattle.run.specs.declared.Record.{Record}
use Rattle.run.specs.declared.records.Frame.{Frame}
use Rattle.run.specs.Kinds.{dilation_kind, background_beyond, foreground_beyond, kind_of, by_kind, cells_of, beyond_of}

-- the margin of the canvas; the cap of a plain erosion is 0, so its area is the frame itself
abbrev pub margin_of : ℕ → ℕ → ℕ
margin_of cap side = cap * reach side

abbrev pub canvas_side : ℕ → ℕ → ℕ
canvas_side side margin = side + (margin + margin)

abbrev pub margin : Record → ℕ
margin r = margin_of r.cap r.side

abbrev pub area_width : Record → ℕ
area_width r = canvas_side r.width (margin r)

abbrev pub area_height : Record → ℕ
area_height r = canvas_side r.height (margin r)

-- the frame with its margin
abbrev pub frame_of : Record → Frame
frame_of r = record { width = r.width; height = r.height; margin = margin r }

-- 2H rows are due
abbrev pub due : Record → ℕ
due r = area_height r + area_height r

-- the scan, by its kind
abbrev pub area_of : Record → Area
area_of r = area (area_width r) (area_height r) (beyond_of r) (cells_of r)

-- cell k of the 49 is set outside the side's square; one of the cells from k on is
unfoldable pub outside : ℕ → ℕ → ℕ → Bool
outside side cell k = not (eqb cell 0) && not (is_held side (k / 7) && is_held side (k % 7))

unfoldable pub any_outside : ℕ → List ℕ → ℕ → Bool
any_outside side [] k = false
any_outside side (cell ∷ rest) k = outside side cell k || any_outside side rest (k + 1)

-- the record is none that a start could give, rows done aside (refusal 1 asks for the rows too)
unfoldable pub element_foreign : ℕ → List ℕ → Bool
element_foreign side cells = not (is_side side) || any_above 1 cells || any_outside side cells 0 || eqb (get_or cells 24 0) 0 ||
    eqb (count_set cells) 1

-- a plain erosion has no cap, a dilation has background beyond its frame, a cropped run foreground
unfoldable pub kind_foreign : Record → Bool
kind_foreign r =
    by_kind (kind_of r) (not (eqb r.cap 0)) (not (eqb r.kind dilation_kind) || not (eqb r.edge background_beyond))
    (not (eqb r.edge foreground_beyond))

unfoldable pub cap_foreign : Record → Bool
cap_foreign r = ltb highest_cap r.cap || ltb longest_side (area_width r) || ltb longest_side (area_height r)

unfoldable pub foreign : Record → Bool
foreign r = is_side_out r.width || is_side_out r.height || element_foreign r.side r.cells || kind_foreign r || cap_foreign r

unfoldable pub record_bad : Record → Bool
record_bad r = foreign r || ltb (due r) r.rows

-- all zero, beside a refusal's number
abbrev pub empty_record : Record
empty_record = record { kind = 0; width = 0; height = 0; cap = 0; side = 0; rows = 0; cells = replicate 49 0; edge = 0 }
