-- What holds of every outcome that the contract of the spectrum allows.
use Rattle.std.specs.Prelude.{ℕ, ◌+◌, ◌-◌, ◌*◌, ◌≤◌, ◌<◌, max, ◌≡◌, List, [], ◌∷◌, eqb, pos, length, get_or}
use Rattle.std.specs.Float.{binary64}
use Rattle.std.specs.Float.Ieee.{of_int, to_unsigned}
use Rattle.basics.specs.Sums.{sum, points_where}
use Rattle.basics.specs.Tables.{raster}
use Rattle.grid.specs.Starred.{drawn, one_row, pair}
use Rattle.sheet.specs.Sheets.{pixel, packed}
use Rattle.sheet.specs.SamePixels.{SamePixels}
use Rattle.run.specs.declared.Input.{Input}
use Rattle.filters.specs.Filters.{Buffers, OpeningLevels, frame_size}
use Rattle.filters.specs.StarredFilters.{Fits}
use Rattle.spectrum.specs.declared.Summary.{Summary}
use Rattle.spectrum.specs.Spectrum.{foreground_points, levels_added, exact_limit, fraction, GivesSpectrum}

-- a fact about the table of every accepted call
abbrev pub OfEveryTable : (Input → List ℕ → List ℕ → Type 0) → Type 0
OfEveryTable Fact =
    (input : Input) (sheet bytes : List ℕ) (lent after : Buffers) (summary : Summary)
    → GivesSpectrum input sheet bytes lent 0 (after, summary) → Fact input sheet after.out

-- THE ENTRIES ADD UP to the points of the frame, and those but the background's to the foreground's points, which are some
pub record AddsUp (input : Input) (sheet counts : List ℕ) : Type 0 where
  pub all : sum (length counts) (λ n. get_or counts n 0) ≡ frame_size input
  pub but_background : foreground_points counts ≡ frame_size input - get_or counts 0 0
  pub foreground : foreground_points counts
      ≡ points_where input.width input.height (λ row col. eqb (pixel input.width sheet row col) 1)
  pub some : 0 < foreground_points counts

-- NOTHING IS LOST: each number divided is below 2 ^ 53, and its double converted back is the number
pub record Exact (n : ℕ) : Type 0 where
  pub small : n < exact_limit
  pub back : to_unsigned 64 (of_int binary64 (pos n)) ≡ n

pub record NothingLost (input : Input) (sheet counts : List ℕ) : Type 0 where
  pub levels : Exact (levels_added counts)
  pub at_one : Exact (get_or counts 1 0)
  pub points : Exact (foreground_points counts)

-- THE TABLE COUNTS THE TRANSFORM'S ANSWER: how often each level stands in it
abbrev pub CountsTransform : Type 0
CountsTransform =
    (input : Input) (sheet bytes : List ℕ) (lent after : Buffers) (summary : Summary)
    → GivesSpectrum input sheet bytes lent 0 (after, summary)
    → (other levels : Buffers) → OpeningLevels input sheet bytes other 0 levels
    → (n : ℕ) → n ≤ max input.width input.height
    → get_or after.out n 0
    ≡ points_where input.width input.height (λ row col. eqb (get_or levels.out (row * input.width + col) 0) n)

-- PADDING BITS CHANGE NOTHING
abbrev pub PaddingIgnored : Type 0
PaddingIgnored =
    (input : Input) (one other : List ℕ) → length one ≡ length other → SamePixels input.width input.height one other
    → (bytes : List ℕ) (lent : Buffers) (m n : ℕ) (x y : Buffers × Summary)
    → GivesSpectrum input one bytes lent m x → GivesSpectrum input other bytes lent n y → (m ≡ n) × (x ≡ y)

-- CASE 6, through the contract: opening levels 1 0 3 3 3
abbrev pub row_of_five : Input
row_of_five = record { width = 5; height = 1; side = 3 }

abbrev pub CaseSixGiven : Type 0
CaseSixGiven =
    (lent : Buffers) → Fits 5 6 lent → (number : ℕ) (after : Buffers) (summary : Summary)
    → GivesSpectrum row_of_five (packed 5 1 (drawn (one_row (1 ∷ 0 ∷ 1 ∷ 1 ∷ 1 ∷ [])))) (raster 3 3 (drawn pair)) lent number
    (after, summary)
    → (number ≡ 0) × ((after.out ≡ 1 ∷ 1 ∷ 0 ∷ 3 ∷ 0 ∷ 0 ∷ []) ×
    (summary ≡ record { mean = fraction 10 4; share = fraction 1 4 }))
