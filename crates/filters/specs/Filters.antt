-- What opening and closing by one size and their two transforms answer: the definitions on the infinite grid, seen at the points
-- of the frame.
use Rattle.std.specs.Prelude.{ℕ, ◌*◌, ◌≡◌, Bool, not, ◌||◌, List, [], ◌∷◌, ◌++◌, eqb, ltb, length, replicate}
use Rattle.basics.specs.Limits.{largest_size, highest_cap}
use Rattle.basics.specs.Refusals.{Refusal, Answers}
use Rattle.grid.specs.Points.{Point}
use Rattle.grid.specs.Sets.{PointSet, opened, closed}
use Rattle.grid.specs.Levels.{IsOpeningLevel, IsClosingLevel}
use Rattle.element.specs.Elements.{element_set, element_refusals}
use Rattle.sheet.specs.Sheets.{row_bytes, pixel, packed, foreground, sheet_refusals}
use Rattle.sheet.specs.Means.{LevelsMean, SheetMeans}
use Rattle.run.specs.Starting.{canvas_wrong, canvas_size}
use Rattle.run.specs.declared.Input.{Input}

-- two work buffers and the output, lent
pub record Buffers : Type 0 where
  pub first : List ℕ
  pub second : List ℕ
  pub out : List ℕ

-- after an accepted call the work buffers are all zero
pub record Cleared (before after : Buffers) : Type 0 where
  pub first : after.first ≡ replicate (length before.first) 0
  pub second : after.second ≡ replicate (length before.second) 0

-- the output is the packed sheet of a set, padding 0
pub record IsSheet (width height : ℕ) (A : PointSet) (out : List ℕ) : Type 0 where
  pub pixels : SheetMeans width height A out
  pub padding : out ≡ packed width height (pixel width out)

-- the output holds the levels of the frame's points
pub record AreLevels (width height : ℕ) (IsLevel : Point → ℕ → Type 0) (out : List ℕ) : Type 0 where
  pub levels : LevelsMean width height IsLevel out
  pub size : length out ≡ height * width

-- an input has a frame, which a sheet fills, and an element's side; the sets that sheet and bytes mean
abbrev pub foreground_of : Input → List ℕ → PointSet
foreground_of input sheet = foreground input.width input.height sheet

abbrev pub element_of : Input → List ℕ → PointSet
element_of input bytes = element_set input.side bytes

-- 2 to 7, judged of the input
abbrev pub input_refusals : Input → List ℕ → List ℕ → List Refusal
input_refusals input sheet bytes = sheet_refusals input.width input.height sheet ++ element_refusals input.side bytes

-- 9: the canvas of a closing by a size, or up to a cap, has a side above 4,096
abbrev pub is_canvas_wrong : Input → ℕ → Bool
is_canvas_wrong input size = canvas_wrong input.width input.height size input.side

-- 10 and 11: buffers of another length than asked for
abbrev pub is_work_wrong : ℕ → Buffers → Bool
is_work_wrong size lent = not (eqb (length lent.first) size) || not (eqb (length lent.second) size)

abbrev pub is_out_wrong : ℕ → Buffers → Bool
is_out_wrong size lent = not (eqb (length lent.out) size)

-- the points of the frame and of a closing's canvas, the bytes of a packed sheet
abbrev pub frame_size : Input → ℕ
frame_size input = input.height * input.width

abbrev pub closing_size : Input → ℕ → ℕ
closing_size input size = canvas_size input.width input.height size input.side

abbrev pub sheet_size : Input → ℕ
sheet_size input = input.height * row_bytes input.width

-- opening by a size: 2 3 4 5 6 7 8 10 11
abbrev pub open_refusals : Input → List ℕ → List ℕ → ℕ → Buffers → List Refusal
open_refusals input sheet bytes size lent = input_refusals input sheet bytes ++
    (8, ltb largest_size size) ∷ (10, is_work_wrong (frame_size input) lent) ∷ (11, is_out_wrong (sheet_size input) lent) ∷ []

abbrev pub Opens : Input → List ℕ → List ℕ → ℕ → Buffers → ℕ → Buffers → Type 0
Opens input sheet bytes size lent =
    Answers (open_refusals input sheet bytes size lent) lent
    (λ after. Cleared lent after ×
    IsSheet input.width input.height (opened (foreground_of input sheet) (element_of input bytes) size) after.out)

-- closing by a size: 2 3 4 5 6 7 8 9 10 11
abbrev pub close_refusals : Input → List ℕ → List ℕ → ℕ → Buffers → List Refusal
close_refusals input sheet bytes size lent = input_refusals input sheet bytes ++
    (8, ltb highest_cap size) ∷ (9, is_canvas_wrong input size) ∷ (10, is_work_wrong (closing_size input size) lent) ∷
    (11, is_out_wrong (sheet_size input) lent) ∷ []

abbrev pub Closes : Input → List ℕ → List ℕ → ℕ → Buffers → ℕ → Buffers → Type 0
Closes input sheet bytes size lent =
    Answers (close_refusals input sheet bytes size lent) lent
    (λ after. Cleared lent after ×
    IsSheet input.width input.height (closed (foreground_of input sheet) (element_of input bytes) size) after.out)

-- opening levels: 2 3 4 5 6 7 10 11
abbrev pub opening_refusals : Input → List ℕ → List ℕ → Buffers → List Refusal
opening_refusals input sheet bytes lent = input_refusals input sheet bytes ++
    (10, is_work_wrong (frame_size input) lent) ∷ (11, is_out_wrong (frame_size input) lent) ∷ []

abbrev pub OpeningLevels : Input → List ℕ → List ℕ → Buffers → ℕ → Buffers → Type 0
OpeningLevels input sheet bytes lent =
    Answers (opening_refusals input sheet bytes lent) lent
    (λ after. Cleared lent after ×
    AreLevels input.width input.height (IsOpeningLevel (foreground_of input sheet) (element_of input bytes)) after.out)

-- closing levels up to a cap: 2 3 4 5 6 7 8 9 10 11
abbrev pub closing_refusals : Input → List ℕ → List ℕ → ℕ → Buffers → List Refusal
closing_refusals input sheet bytes cap lent = input_refusals input sheet bytes ++
    (8, ltb highest_cap cap) ∷ (9, is_canvas_wrong input cap) ∷ (10, is_work_wrong (closing_size input cap) lent) ∷
    (11, is_out_wrong (frame_size input) lent) ∷ []

abbrev pub ClosingLevels : Input → List ℕ → List ℕ → ℕ → Buffers → ℕ → Buffers → Type 0
ClosingLevels input sheet bytes cap lent =
    Answers (closing_refusals input sheet bytes cap lent) lent
    (λ after. Cleared lent after ×
    AreLevels input.width input.height (IsClosingLevel cap (foreground_of input sheet) (element_of input bytes)) after.out)
