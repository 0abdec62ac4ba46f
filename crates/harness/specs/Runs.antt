-- What the calls on runs answer at the boundary: as the library's calls do, with the record as words.
-- Each answers all slices lent to it for writing; a refused call leaves them all as they were.
use Rattle.std.specs.Prelude.{ℕ, ◌≡◌, Bool, cond, List, [], ◌∷◌, ◌++◌}
use Rattle.basics.specs.Refusals.{Refusal, Answers}
use Rattle.run.specs.declared.Record.{Record}
use Rattle.run.specs.declared.kinds.Kind.TheVariants.{Eroding, Dilating, Cropping}
use Rattle.run.specs.Starting.{start_record, start_levels, erosion_refusals, dilation_refusals}
use Rattle.run.specs.Continuing.{State, is_done, continue_refusals, continued, lowered_by}
use Rattle.run.specs.Pictures.{collected, collect_refusals, thresholded, threshold_refusals}
use Rattle.run.specs.Provisional.{provisional_refusals}
use Rattle.harness.specs.Boundary.{record_words, words_of, record_of, words_refusal, answer_refusal, at_eleven}

-- starting: the levels, and the record
abbrev pub StartsWords : List Refusal → Record → List ℕ → List ℕ → List ℕ → ℕ → List ℕ × List ℕ → Type 0
StartsWords refusals run sheet levels words =
    Answers (refusals ++ answer_refusal record_words words ∷ []) (levels, words)
    (λ after. after ≡ (start_levels run sheet, words_of run))

abbrev pub StartsErosionWords : ℕ → ℕ → List ℕ → ℕ → List ℕ → List ℕ → List ℕ → ℕ → List ℕ × List ℕ → Type 0
StartsErosionWords width height sheet side cells levels =
    StartsWords (erosion_refusals width height sheet side cells levels) (start_record Eroding width height 0 side cells) sheet levels

abbrev pub StartsDilationWords : ℕ → ℕ → List ℕ → ℕ → List ℕ → ℕ → List ℕ → List ℕ → ℕ → List ℕ × List ℕ → Type 0
StartsDilationWords width height sheet side cells cap levels =
    StartsWords (dilation_refusals width height sheet side cells cap levels) (start_record Dilating width height cap side cells) sheet
    levels

abbrev pub StartsCroppedWords : ℕ → ℕ → List ℕ → ℕ → List ℕ → ℕ → List ℕ → List ℕ → ℕ → List ℕ × List ℕ → Type 0
StartsCroppedWords width height sheet side cells cap levels =
    StartsWords (dilation_refusals width height sheet side cells cap levels) (start_record Cropping width height cap side cells) sheet
    levels

-- continuing: the record, the levels, and two words: whether all rows are done, as 1 or 0, and how many points were lowered
abbrev pub flag : Bool → ℕ
flag b = cond b 1 0

abbrev pub continue_words : State × ℕ → List ℕ × List ℕ × List ℕ
continue_words ((run, all, levels), lowered) = (words_of run, levels, flag all ∷ lowered ∷ [])

abbrev pub ContinuesWords : List ℕ → List ℕ → ℕ → List ℕ → ℕ → List ℕ × List ℕ × List ℕ → Type 0
ContinuesWords words levels allowance answer =
    Answers (words_refusal words ∷ at_eleven (answer_refusal 2 answer) (continue_refusals (record_of words) levels allowance)) (
      words,
      levels,
      answer,
    )
    (λ after. after ≡ continue_words (continued (record_of words) levels allowance, lowered_by (record_of words) levels allowance))

-- collecting and thresholding: the output
abbrev pub CollectsWords : List ℕ → List ℕ → List ℕ → ℕ → List ℕ → Type 0
CollectsWords words levels out =
    Answers (words_refusal words ∷ collect_refusals (record_of words) levels out) out
    (λ after. after ≡ collected (record_of words) levels)

abbrev pub ThresholdsWords : List ℕ → List ℕ → ℕ → List ℕ → ℕ → List ℕ → Type 0
ThresholdsWords words levels size out =
    Answers (words_refusal words ∷ threshold_refusals (record_of words) levels size out) out
    (λ after. after ≡ thresholded (record_of words) levels size)

-- a look: the sheet, and whether it is final, as 1 or 0
abbrev pub ShowsProvisionalWords : List ℕ → List ℕ → ℕ → List ℕ → List ℕ → ℕ → List ℕ × List ℕ → Type 0
ShowsProvisionalWords words levels size out state =
    Answers (words_refusal words ∷ at_eleven (answer_refusal 1 state) (provisional_refusals (record_of words) levels size out)) (
      out,
      state,
    )
    (λ after. after ≡ (thresholded (record_of words) levels size, flag (is_done (record_of words)) ∷ []))
