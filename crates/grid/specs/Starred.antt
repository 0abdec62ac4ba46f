-- The small sheets of docs/RULES.md, worked by hand, those marked *, and two cropped ones: one starred_cases, proved in
-- proofs/Starred.antt to hold of the definitions.
-- Sheets, elements and answers are drawn row by row; an element's origin is at the centre of its square.
use Rattle.std.specs.Prelude.{◌≡◌, ◌⊎◌, List, [], ◌∷◌, ℕ, ◌<◌, pos, get_or}
use Rattle.grid.specs.Points.{Point, at}
use Rattle.grid.specs.Sets.{PointSet, reflect, dilate, dilated, eroded, opened, ◌≈◌}
use Rattle.grid.specs.Levels.{IsErosionLevel, IsOpeningLevel, IsDilationLevel, IsClosingLevel, IsErosionLevelUpTo}
use Rattle.grid.specs.Figures.{frame, figure, element}
use Rattle.grid.specs.Crops.{uncropped}

abbrev pub Drawing : Type 0
Drawing = List (List ℕ)

abbrev pub drawn : Drawing → ℕ → ℕ → ℕ
drawn drawing row col = get_or (get_or drawing row []) col 0

-- what is asked of a sheet and an element; the numbers are sizes and caps, of a cropped sheet its frame's sides and the cap
pub data Question : Type 0 where
  erosion_levels opening_levels : Question
  dilation_levels closing_levels : ℕ → Question
  eroded_by opened_by : ℕ → Question
  cropped_levels : ℕ → ℕ → ℕ → Question

-- a pixel is 1 where its point is held, and 0 where it is not
abbrev pub IsPixel : Type 0 → ℕ → Type 0
IsPixel held v = ((v ≡ 1) × held) ⊎ ((v ≡ 0) × ¬ held)

-- v is the right answer at x
abbrev pub IsAnswer : Question → PointSet → PointSet → Point → ℕ → Type 0
IsAnswer erosion_levels A K x v = IsErosionLevel A K x v
IsAnswer opening_levels A K x v = IsOpeningLevel A K x v
IsAnswer (dilation_levels R) A K x v = IsDilationLevel R A K x v
IsAnswer (closing_levels R) A K x v = IsClosingLevel R A K x v
IsAnswer (eroded_by n) A K x v = IsPixel (eroded A K n x) v
IsAnswer (opened_by n) A K x v = IsPixel (opened A K n x) v
IsAnswer (cropped_levels width height R) A K x v = IsErosionLevelUpTo R (uncropped width height A) K x v

pub record Case : Type 0 where
  pub width : ℕ
  pub height : ℕ
  pub sheet : Drawing
  pub shape : Drawing
  pub question : Question
  pub expected : Drawing

-- every element of the starred_cases is drawn in a square of side 3
abbrev pub figure_of : Case → PointSet
figure_of c = figure c.width c.height (drawn c.sheet)

abbrev pub shape_of : Case → PointSet
shape_of c = element 3 (drawn c.shape)

-- the expected answers are right at every point of the frame
abbrev pub Holds : Case → Type 0
Holds c = (row : ℕ) → row < c.height → (col : ℕ) → col < c.width
    → IsAnswer c.question (figure_of c) (shape_of c) (at (pos row) (pos col)) (drawn c.expected row col)

abbrev pub AllHold : List Case → Type 0
AllHold [] = Unit {0}
AllHold (c ∷ cases) = Holds c × AllHold cases

-- the elements: the cross; T, the origin with its right neighbour; T reflected; and case 5's, the origin with right-down and left
abbrev pub cross : Drawing
cross =
    (0 ∷ 1 ∷ 0 ∷ []) ∷
    (1 ∷ 1 ∷ 1 ∷ []) ∷
    (0 ∷ 1 ∷ 0 ∷ []) ∷ []

abbrev pub pair : Drawing
pair =
    (0 ∷ 0 ∷ 0 ∷ []) ∷
    (0 ∷ 1 ∷ 1 ∷ []) ∷
    (0 ∷ 0 ∷ 0 ∷ []) ∷ []

abbrev pub pair_reflected : Drawing
pair_reflected =
    (0 ∷ 0 ∷ 0 ∷ []) ∷
    (1 ∷ 1 ∷ 0 ∷ []) ∷
    (0 ∷ 0 ∷ 0 ∷ []) ∷ []

abbrev pub hook : Drawing
hook =
    (0 ∷ 0 ∷ 0 ∷ []) ∷
    (1 ∷ 1 ∷ 0 ∷ []) ∷
    (0 ∷ 0 ∷ 1 ∷ []) ∷ []

abbrev pub full : Drawing
full =
    (1 ∷ 1 ∷ 1 ∷ []) ∷
    (1 ∷ 1 ∷ 1 ∷ []) ∷
    (1 ∷ 1 ∷ 1 ∷ []) ∷ []

abbrev pub empty : Drawing
empty =
    (0 ∷ 0 ∷ 0 ∷ []) ∷
    (0 ∷ 0 ∷ 0 ∷ []) ∷
    (0 ∷ 0 ∷ 0 ∷ []) ∷ []

abbrev pub ring : Drawing
ring =
    (1 ∷ 1 ∷ 1 ∷ []) ∷
    (1 ∷ 0 ∷ 1 ∷ []) ∷
    (1 ∷ 1 ∷ 1 ∷ []) ∷ []

abbrev pub one_row : List ℕ → Drawing
one_row row = row ∷ []

abbrev pub case : ℕ → ℕ → Drawing → Drawing → Question → Drawing → Case
case width height sheet shape question expected =
    record { width = width; height = height; sheet = sheet; shape = shape; question = question; expected = expected }

-- case 2, of which docs/RULES.md also says what stands after one row
abbrev pub full_row : Case
full_row = case 5 1 (one_row (1 ∷ 1 ∷ 1 ∷ 1 ∷ 1 ∷ [])) pair erosion_levels (one_row (5 ∷ 4 ∷ 3 ∷ 2 ∷ 1 ∷ []))

abbrev pub starred_cases : List Case
starred_cases =
    -- 1
    case 3 3 full cross erosion_levels
    ((1 ∷ 1 ∷ 1 ∷ []) ∷
    (1 ∷ 2 ∷ 1 ∷ []) ∷
    (1 ∷ 1 ∷ 1 ∷ []) ∷ []) ∷
    case 3 3 full cross (eroded_by 1)
    ((0 ∷ 0 ∷ 0 ∷ []) ∷
    (0 ∷ 1 ∷ 0 ∷ []) ∷
    (0 ∷ 0 ∷ 0 ∷ []) ∷ []) ∷
    case 3 3 full cross (eroded_by 2) empty ∷
    -- 2 and 3
    full_row ∷
    case 5 1 (one_row (1 ∷ 1 ∷ 1 ∷ 1 ∷ 1 ∷ [])) pair_reflected erosion_levels (one_row (1 ∷ 2 ∷ 3 ∷ 4 ∷ 5 ∷ [])) ∷
    -- 4
    case 5 1 (one_row (0 ∷ 0 ∷ 1 ∷ 0 ∷ 0 ∷ [])) pair (dilation_levels 2) (one_row (0 ∷ 0 ∷ 1 ∷ 2 ∷ 3 ∷ [])) ∷
    case 5 1 (one_row (0 ∷ 0 ∷ 1 ∷ 0 ∷ 0 ∷ [])) pair (dilation_levels 1) (one_row (0 ∷ 0 ∷ 1 ∷ 2 ∷ 0 ∷ [])) ∷
    -- 5
    case 1 2 ((1 ∷ []) ∷ (0 ∷ []) ∷ []) hook (dilation_levels 2) ((1 ∷ []) ∷ (3 ∷ []) ∷ []) ∷
    case 1 2 ((1 ∷ []) ∷ (0 ∷ []) ∷ []) hook (dilation_levels 1) ((1 ∷ []) ∷ (0 ∷ []) ∷ []) ∷
    -- 6
    case 5 1 (one_row (1 ∷ 0 ∷ 1 ∷ 1 ∷ 1 ∷ [])) pair erosion_levels (one_row (1 ∷ 0 ∷ 3 ∷ 2 ∷ 1 ∷ [])) ∷
    case 5 1 (one_row (1 ∷ 0 ∷ 1 ∷ 1 ∷ 1 ∷ [])) pair opening_levels (one_row (1 ∷ 0 ∷ 3 ∷ 3 ∷ 3 ∷ [])) ∷
    case 5 1 (one_row (1 ∷ 0 ∷ 1 ∷ 1 ∷ 1 ∷ [])) pair (opened_by 1) (one_row (0 ∷ 0 ∷ 1 ∷ 1 ∷ 1 ∷ [])) ∷
    -- 7
    case 4 1 (one_row (1 ∷ 0 ∷ 0 ∷ 1 ∷ [])) pair (closing_levels 2) (one_row (1 ∷ 3 ∷ 3 ∷ 1 ∷ [])) ∷
    case 4 1 (one_row (1 ∷ 0 ∷ 0 ∷ 1 ∷ [])) pair (closing_levels 1) (one_row (1 ∷ 0 ∷ 0 ∷ 1 ∷ [])) ∷
    -- 8
    case 3 3 empty cross erosion_levels empty ∷
    case 3 3 empty cross opening_levels empty ∷
    case 3 3 empty cross (dilation_levels 1) empty ∷
    case 3 3 empty cross (closing_levels 1) empty ∷
    case 1 1 (one_row (1 ∷ [])) cross erosion_levels (one_row (1 ∷ [])) ∷
    case 1 1 (one_row (1 ∷ [])) cross (dilation_levels 1) (one_row (1 ∷ [])) ∷
    -- a crop whose sheet is full, and one with its centre unset
    case 3 3 full cross (cropped_levels 3 3 2)
    ((65535 ∷ 65535 ∷ 65535 ∷ []) ∷
    (65535 ∷ 65535 ∷ 65535 ∷ []) ∷
    (65535 ∷ 65535 ∷ 65535 ∷ []) ∷ []) ∷
    case 3 3 ring cross (cropped_levels 3 3 2)
    ((2 ∷ 1 ∷ 2 ∷ []) ∷
    (1 ∷ 0 ∷ 1 ∷ []) ∷
    (2 ∷ 1 ∷ 2 ∷ []) ∷ []) ∷
    []

-- case 3's element is case 2's, reflected
abbrev pub PairReflects : Type 0
PairReflects = element 3 (drawn pair_reflected) ≈ reflect (element 3 (drawn pair))

-- Case 5's error: dilating by 2 one step at a time, each step clipped to the frame, misses a point that dilating by 2 holds
abbrev pub clipped : ℕ → ℕ → PointSet → PointSet
clipped width height A x = A x × frame width height x

abbrev pub column : PointSet
column = figure 1 2 (drawn ((1 ∷ []) ∷ (0 ∷ []) ∷ []))

abbrev pub hook_set : PointSet
hook_set = element 3 (drawn hook)

abbrev pub ClippingMisses : Type 0
ClippingMisses =
    dilated column hook_set 2 (at (pos 1) (pos 0)) ×
    ¬ clipped 1 2 (dilate (clipped 1 2 (dilate column hook_set)) hook_set) (at (pos 1) (pos 0))
