-- A look at a run whose rows may still be due: the ordinary threshold's rule, on the levels as they stand. It is no picture.
use Rattle.std.specs.Prelude.{ℕ, ◌*◌, ◌≡◌, Bool, false, not, List, [], ◌∷◌, eqb, ltb, length}
use Rattle.basics.specs.Refusals.{Refusal, Answers}
use Rattle.sheet.specs.Sheets.{row_bytes}
use Rattle.run.specs.declared.Record.{Record}
use Rattle.run.specs.Kinds.{size_limit}
use Rattle.run.specs.Records.{record_bad}
use Rattle.run.specs.Continuing.{levels_wrong, is_done}
use Rattle.run.specs.Pictures.{thresholded}

-- 8, 10 and 11 of levels read at a size, with `room` entries lent of `wanted`
abbrev pub view_refusals : Record → List ℕ → ℕ → ℕ → ℕ → List Refusal
view_refusals r levels n room wanted =
    (8, ltb (size_limit r) n) ∷ (10, levels_wrong r levels) ∷ (11, not (eqb room wanted)) ∷ []

-- the ordinary threshold's refusals, but for the rows due: 1 8 10 11
abbrev pub provisional_refusals : Record → List ℕ → ℕ → List ℕ → List Refusal
provisional_refusals r levels n out = (1, record_bad r) ∷ view_refusals r levels n (length out) (r.height * row_bytes r.width)

-- whether the sheet is final, which it is exactly with all rows done, and the sheet
abbrev pub ShowsProvisional : Record → List ℕ → ℕ → List ℕ → ℕ → Bool × List ℕ → Type 0
ShowsProvisional r levels n out =
    Answers (provisional_refusals r levels n out) (false, out) (λ after. after ≡ (is_done r, thresholded r levels n))
