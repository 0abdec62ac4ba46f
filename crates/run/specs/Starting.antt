-- What starting an erosion, a dilation and a cropped run answers.
use Rattle.std.specs.Prelude.{ℕ, ◌+◌, ◌-◌, ◌*◌, ◌≡◌, Bool, not, cond, ◌&&◌, ◌||◌, List, [], ◌∷◌, ◌++◌, eqb, leb, ltb, length}
use Rattle.basics.specs.Limits.{longest_side, highest_cap}
use Rattle.basics.specs.Refusals.{Refusal, Answers}
use Rattle.basics.specs.Tables.{raster}
use Rattle.element.specs.Elements.{element_refusals}
use Rattle.element.specs.Cells.{centred, flat}
use Rattle.sheet.specs.Sheets.{pixel, sheet_refusals}
use Rattle.run.specs.declared.Record.{Record}
use Rattle.run.specs.declared.kinds.Kind.{Kind}
use Rattle.run.specs.declared.kinds.Kind.TheVariants.{Eroding, Dilating, Cropping}
use Rattle.run.specs.Kinds.{kind_number, edge_rule, beyond_of, on_of, off_of}
use Rattle.run.specs.Records.{margin_of, margin, canvas_side, empty_record}

-- the record of a start, by its kind and edge rule
abbrev pub fresh_record : ℕ → ℕ → ℕ → ℕ → ℕ → ℕ → List ℕ → Record
fresh_record kind edge width height cap side bytes = record {
  kind = kind;
  width = width;
  height = height;
  cap = cap;
  side = side;
  rows = 0;
  cells = flat (centred side bytes);
  edge = edge;
}

abbrev pub start_record : Kind → ℕ → ℕ → ℕ → ℕ → List ℕ → Record
start_record kind = fresh_record (kind_number kind) (edge_rule kind)

-- the area's point at a row and a column lies in the frame
unfoldable pub framed : ℕ → ℕ → ℕ → ℕ → ℕ → Bool
framed width height margin row col = (leb margin row && ltb row (margin + height)) && (leb margin col && ltb col (margin + width))

-- the level that it starts with: one on the foreground, one on the frame's background, one in the margin
abbrev pub start_level : ℕ → ℕ → ℕ → List ℕ → ℕ → ℕ → ℕ → ℕ → ℕ → ℕ
start_level width height margin sheet on off outside row col =
    cond (framed width height margin row col) (cond (eqb (pixel width sheet (row - margin) (col - margin)) 1) on off) outside

unfoldable pub start_area : ℕ → ℕ → ℕ → List ℕ → ℕ → ℕ → ℕ → List ℕ
start_area width height margin sheet on off outside =
    raster (canvas_side width margin) (canvas_side height margin) (start_level width height margin sheet on off outside)

-- a run's start levels, by its kind, and the run with them
abbrev pub start_levels : Record → List ℕ → List ℕ
start_levels r sheet = start_area r.width r.height (margin r) sheet (on_of r) (off_of r) (beyond_of r)

abbrev pub begun : Record → List ℕ → Record × List ℕ
begun r sheet = (r, start_levels r sheet)

-- starting an erosion: 2 3 4 5 6 7 10
abbrev pub erosion_refusals : ℕ → ℕ → List ℕ → ℕ → List ℕ → List ℕ → List Refusal
erosion_refusals width height sheet side bytes levels =
    sheet_refusals width height sheet ++ (element_refusals side bytes ++ (10, not (eqb (length levels) (height * width))) ∷ [])

-- 65,535 on A and 0 elsewhere
abbrev pub StartsErosion : ℕ → ℕ → List ℕ → ℕ → List ℕ → List ℕ → ℕ → Record × List ℕ → Type 0
StartsErosion width height sheet side bytes levels =
    Answers (erosion_refusals width height sheet side bytes levels) (empty_record, levels)
    (λ after. after ≡ begun (start_record Eroding width height 0 side bytes) sheet)

-- the canvas of a cap: a side above 4,096, and its size
abbrev pub canvas_wrong : ℕ → ℕ → ℕ → ℕ → Bool
canvas_wrong width height cap side = ltb longest_side (canvas_side width (margin_of cap side)) ||
    ltb longest_side (canvas_side height (margin_of cap side))

abbrev pub canvas_size : ℕ → ℕ → ℕ → ℕ → ℕ
canvas_size width height cap side = canvas_side height (margin_of cap side) * canvas_side width (margin_of cap side)

-- 9 and 10 of a canvas with so many levels
abbrev pub canvas_refusals : ℕ → ℕ → ℕ → ℕ → ℕ → List Refusal
canvas_refusals width height cap side count = (9, canvas_wrong width height cap side) ∷
    (10, not (eqb count (canvas_size width height cap side))) ∷ []

-- starting a dilation: 2 3 4 5 6 7 8 9 10
abbrev pub dilation_refusals : ℕ → ℕ → List ℕ → ℕ → List ℕ → ℕ → List ℕ → List Refusal
dilation_refusals width height sheet side bytes cap levels =
    sheet_refusals width height sheet ++
    (element_refusals side bytes ++ (8, ltb highest_cap cap) ∷ canvas_refusals width height cap side (length levels))

-- 1 on A and 65,535 elsewhere on the canvas
abbrev pub StartsDilation : ℕ → ℕ → List ℕ → ℕ → List ℕ → ℕ → List ℕ → ℕ → Record × List ℕ → Type 0
StartsDilation width height sheet side bytes cap levels =
    Answers (dilation_refusals width height sheet side bytes cap levels) (empty_record, levels)
    (λ after. after ≡ begun (start_record Dilating width height cap side bytes) sheet)

-- refused as a dilation; 1 on the frame's background and 65,535 elsewhere on the canvas
abbrev pub StartsCropped : ℕ → ℕ → List ℕ → ℕ → List ℕ → ℕ → List ℕ → ℕ → Record × List ℕ → Type 0
StartsCropped width height sheet side bytes cap levels =
    Answers (dilation_refusals width height sheet side bytes cap levels) (empty_record, levels)
    (λ after. after ≡ begun (start_record Cropping width height cap side bytes) sheet)
