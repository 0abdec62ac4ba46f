-- The spectrum of sizes: how many of the frame's points have each opening level, and two fractions of the foreground.
use Rattle.std.specs.Prelude.{ℕ, ◌+◌, ◌-◌, ◌*◌, ◌<◌, max, ◌≡◌, Bool, not, ◌||◌, List, [], ◌∷◌, ◌++◌, eqb, Float, pos, length, get_or}
use Rattle.std.specs.Float.{binary64}
use Rattle.std.specs.Float.Ieee.{div, of_int, of_bits}
use Rattle.basics.specs.Refusals.{Refusal, Answers}
use Rattle.basics.specs.Sums.{sum, points_where}
use Rattle.basics.specs.Tables.{table}
use Rattle.grid.specs.Points.{at}
use Rattle.grid.specs.Sets.{PointSet}
use Rattle.grid.specs.Levels.{IsOpeningLevel}
use Rattle.sheet.specs.Sheets.{pixel}
use Rattle.run.specs.declared.Input.{Input}
use Rattle.filters.specs.Filters.{Buffers, Cleared, foreground_of, element_of, input_refusals, frame_size}
use Rattle.spectrum.specs.declared.Summary.{Summary}

-- entry n counts the frame's points of opening level n, for n up to the larger side; entry 0 is the background
pub record IsSpectrum (width height : ℕ) (A K : PointSet) (counts : List ℕ) : Type 0 where
  pub level : ℕ → ℕ → ℕ
  pub is_level : (row col : ℕ) → row < height → col < width → IsOpeningLevel A K (at (pos row) (pos col)) (level row col)
  pub counted : counts ≡ table (max width height + 1) (λ n. points_where width height (λ row col. eqb (level row col) n))

-- the points of the foreground, and the levels of all points added up
abbrev pub foreground_points : List ℕ → ℕ
foreground_points counts = sum (length counts - 1) (λ n. get_or counts (n + 1) 0)

abbrev pub levels_added : List ℕ → ℕ
levels_added counts = sum (length counts) (λ n. n * get_or counts n 0)

-- one division of two whole numbers, each as a double; up to 2 ^ 53 every whole number is one
abbrev pub exact_limit : ℕ
exact_limit = 9007199254740992

abbrev pub fraction : ℕ → ℕ → Float
fraction part whole = div binary64 (of_int binary64 (pos part)) (of_int binary64 (pos whole))

-- the mean level over the foreground, and the share of the foreground at level 1
abbrev pub summary_of : List ℕ → Summary
summary_of counts = record {
  mean = fraction (levels_added counts) (foreground_points counts);
  share = fraction (get_or counts 1 0) (foreground_points counts);
}

-- beside a refusal both are +0, whose bits are all 0
abbrev pub no_summary : Summary
no_summary = record { mean = of_bits binary64 0; share = of_bits binary64 0 }

-- an entry for each level from 0 to the larger side
abbrev pub table_size : Input → ℕ
table_size input = max input.width input.height + 1

-- 14: no pixel of the frame is 1
abbrev pub is_blank : ℕ → ℕ → List ℕ → Bool
is_blank width height sheet = eqb (points_where width height (λ row col. eqb (pixel width sheet row col) 1)) 0

-- 2 to 7 of the input; 10 for work buffers and 11 for a table of another length than asked for; 14
abbrev pub refusals_by : Input → List ℕ → List ℕ → ℕ → ℕ → ℕ → List Refusal
refusals_by input sheet bytes one two entries = input_refusals input sheet bytes ++
    (10, not (eqb one (frame_size input)) || not (eqb two (frame_size input))) ∷
    (11, not (eqb entries (table_size input))) ∷
    (14, is_blank input.width input.height sheet) ∷ []

abbrev pub spectrum_refusals : Input → List ℕ → List ℕ → Buffers → List Refusal
spectrum_refusals input sheet bytes lent =
    refusals_by input sheet bytes (length lent.first) (length lent.second) (length lent.out)

-- what the buffers hold afterwards, the table being the output, and the summary
abbrev pub GivesSpectrum : Input → List ℕ → List ℕ → Buffers → ℕ → Buffers × Summary → Type 0
GivesSpectrum input sheet bytes lent =
    Answers (spectrum_refusals input sheet bytes lent) (lent, no_summary)
    (λ after. Cleared lent after.0 ×
    (IsSpectrum input.width input.height (foreground_of input sheet) (element_of input bytes) after.0.out ×
    (after.1 ≡ summary_of after.0.out)))
