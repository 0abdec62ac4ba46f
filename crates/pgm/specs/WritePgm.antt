-- What writing a finished run's collected levels as plain PGM answers.
use Rattle.std.specs.Prelude.{ℕ, ◌+◌, ◌*◌, max, ◌≡◌, not, List, [], ◌∷◌, eqb, ltb, length}
use Rattle.basics.specs.Bounds.{any_above}
use Rattle.basics.specs.Refusals.{Refusal, Answers}
use Rattle.text.specs.Writing.{begun}
use Rattle.row.specs.RowRule.{none}
use Rattle.run.specs.declared.Record.{Record}
use Rattle.run.specs.Kinds.{kind_of, by_kind}
use Rattle.run.specs.Records.{due, record_bad}
use Rattle.run.specs.Continuing.{is_done}
use Rattle.pgm.specs.declared.Header.{Header}
use Rattle.pgm.specs.PgmText.{pgm_text}

-- the larger frame side for a plain erosion, R + 1 for a dilation, 65,535 for a cropped sheet's erosion
abbrev pub maximum : Record → ℕ
maximum r = by_kind (kind_of r) (max r.width r.height) (r.cap + 1) none

-- what the lines before the levels state
abbrev pub header_of : Record → Header
header_of r = record { done = r.rows; due = due r; width = r.width; height = r.height; maximum = maximum r }

abbrev pub picture : Record → List ℕ → List ℕ
picture r levels = pgm_text r.width r.height (maximum r) r.rows (due r) levels

abbrev pub pgm_refusals : Record → List ℕ → List ℕ → List Refusal
pgm_refusals r levels out =
    (1, record_bad r) ∷ (8, any_above (maximum r) levels) ∷ (10, not (eqb (length levels) (r.height * r.width))) ∷
    (11, ltb (length out) (length (picture r levels))) ∷ (13, not (is_done r)) ∷ []

-- the text's length, and the text at the front of the output, the rest as it was
abbrev pub WritesPgm : Record → List ℕ → List ℕ → ℕ → ℕ × List ℕ → Type 0
WritesPgm r levels out =
    Answers (pgm_refusals r levels out) (0, out) (λ after. after ≡ (length (picture r levels), begun (picture r levels) out))
