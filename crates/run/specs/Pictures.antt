-- What collecting and thresholding a run answer.
use Rattle.std.specs.Prelude.{ℕ, ◌+◌, ◌*◌, ◌≡◌, not, cond, List, [], ◌∷◌, eqb, ltb, length, get_or}
use Rattle.basics.specs.Refusals.{Refusal, Answers}
use Rattle.basics.specs.Tables.{raster}
use Rattle.sheet.specs.Sheets.{row_bytes, packed}
use Rattle.run.specs.declared.Record.{Record}
use Rattle.run.specs.Kinds.{collected_level, is_held_at, size_limit}
use Rattle.run.specs.Records.{margin, area_width, record_bad}
use Rattle.run.specs.Continuing.{levels_wrong, is_done}

-- the level at a row and a column of the frame
abbrev pub frame_level : Record → List ℕ → ℕ → ℕ → ℕ
frame_level r levels row col = get_or levels ((row + margin r) * area_width r + (col + margin r)) 0

unfoldable pub collected : Record → List ℕ → List ℕ
collected r levels = raster r.width r.height (λ row col. collected_level r (frame_level r levels row col))

-- collecting, which asks for no size: 1 10 11 13
abbrev pub collect_refusals : Record → List ℕ → List ℕ → List Refusal
collect_refusals r levels out =
    (1, record_bad r) ∷ (10, levels_wrong r levels) ∷
    (11, not (eqb (length out) (r.height * r.width))) ∷ (13, not (is_done r)) ∷ []

abbrev pub Collects : Record → List ℕ → List ℕ → ℕ → List ℕ → Type 0
Collects r levels out = Answers (collect_refusals r levels out) out (λ after. after ≡ collected r levels)

unfoldable pub thresholded : Record → List ℕ → ℕ → List ℕ
thresholded r levels n = packed r.width r.height (λ row col. cond (is_held_at r n (frame_level r levels row col)) 1 0)

-- 8, 10, 11 and 13 of a picture at a size, with `room` entries lent of `wanted`
abbrev pub release_refusals : Record → List ℕ → ℕ → ℕ → ℕ → List Refusal
release_refusals r levels n room wanted =
    (8, ltb (size_limit r) n) ∷ (10, levels_wrong r levels) ∷ (11, not (eqb room wanted)) ∷ (13, not (is_done r)) ∷ []

-- thresholding: 1 8 10 11 13
abbrev pub threshold_refusals : Record → List ℕ → ℕ → List ℕ → List Refusal
threshold_refusals r levels n out = (1, record_bad r) ∷ release_refusals r levels n (length out) (r.height * row_bytes r.width)

abbrev pub Thresholds : Record → List ℕ → ℕ → List ℕ → ℕ → List ℕ → Type 0
Thresholds r levels n out = Answers (threshold_refusals r levels n out) out (λ after. after ≡ thresholded r levels n)
