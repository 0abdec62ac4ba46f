-- What the calls on files answer at the boundary: as the library's calls do, with the values beside the number in a slice.
-- Each answers all slices lent to it for writing; a refused call leaves them all as they were.
use Rattle.std.specs.Prelude.{ℕ, ◌≡◌, List, [], ◌∷◌, ◌++◌, length}
use Rattle.basics.specs.Refusals.{Refusal, Answers}
use Rattle.pbm.specs.Header.{header}
use Rattle.text.specs.Writing.{begun}
use Rattle.pbm.specs.Pbm.{pbm_text, read_refusals, read_answer, write_refusals}
use Rattle.pgm.specs.WritePgm.{picture, pgm_refusals}
use Rattle.harness.specs.Boundary.{record_of, words_refusal, answer_refusal, at_eleven}

-- reading PBM: the sheet in the output's first bytes; the width and the height
abbrev pub reads_refusals : List ℕ → List ℕ → List ℕ → List Refusal
reads_refusals file out frame = read_refusals file out ++ answer_refusal 2 frame ∷ []

abbrev pub framed : ℕ × ℕ × List ℕ → List ℕ × List ℕ
framed (width, height, sheet) = (sheet, width ∷ height ∷ [])

abbrev pub ReadsSheet : List ℕ → List ℕ → List ℕ → ℕ → List ℕ × List ℕ → Type 0
ReadsSheet file out frame =
    Answers (reads_refusals file out frame) (out, frame) (λ after. after ≡ framed (read_answer (header file) out))

-- writing PBM: the text in the output's first bytes; its length
abbrev pub writes_refusals : ℕ → ℕ → List ℕ → List ℕ → List ℕ → List Refusal
writes_refusals width height sheet out answer = write_refusals width height sheet out ++ answer_refusal 1 answer ∷ []

abbrev pub WritesSheet : ℕ → ℕ → List ℕ → List ℕ → List ℕ → ℕ → List ℕ × List ℕ → Type 0
WritesSheet width height sheet out answer =
    Answers (writes_refusals width height sheet out answer) (out, answer)
    (λ after. after ≡ (begun (pbm_text width height sheet) out, length (pbm_text width height sheet) ∷ []))

-- writing PGM: the text in the output's first bytes; its length
abbrev pub picture_refusals : List ℕ → List ℕ → List ℕ → List ℕ → List Refusal
picture_refusals words levels out answer = words_refusal words ∷
    at_eleven (answer_refusal 1 answer) (pgm_refusals (record_of words) levels out)

abbrev pub WritesPicture : List ℕ → List ℕ → List ℕ → List ℕ → ℕ → List ℕ × List ℕ → Type 0
WritesPicture words levels out answer =
    Answers (picture_refusals words levels out answer) (out, answer)
    (λ after. after ≡ (begun (picture (record_of words) levels) out, length (picture (record_of words) levels) ∷ []))
