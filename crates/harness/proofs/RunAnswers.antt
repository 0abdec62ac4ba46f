-- The answers of the calls on runs at the boundary, each from the tests that led to it and from the library's answer.
use Prim.Native.Nat.{ℕ}
use mathlib.Core.Path.{◌≡◌, refl, sym, ap, ◌∙◌}
use mir.Val.{bool_byte}
use mathlib.Core.Bool.{Bool, true, false}
use mathlib.Core.Logic.{◌≢◌}
use mathlib.Core.List.{List, [], ◌∷◌, ◌++◌, append-nil}
use lib.Dec.{T, ltb}
use lib.ListN.{length, set}
use borrow.Author.Tests.{eq-eqb, ne_eqb}
use Rattle.basics.specs.declared.refusal.Refusal as declared
use Rattle.basics.specs.Refusals.{Refusal, first, number_of}
use Rattle.basics.proofs.RefusalLaws.{numbered, number_positive}
use Rattle.run.specs.declared.continuing.Continued.{Continued}
use Rattle.run.specs.declared.Record.{Record}
use Rattle.run.specs.Records.{record_bad, empty_record}
use Rattle.run.specs.Continuing.{levels_wrong, continue_refusals, Continues}
use Rattle.run.specs.Provisional.{provisional_refusals, ShowsProvisional}
use Rattle.harness.specs.Boundary.{record_words, words_of, record_of, holds_no_record, words_refusal, answer_refusal}
use Rattle.harness.specs.Boundary.{at_eleven, at_latest}
use Rattle.harness.specs.Runs.{StartsWords, flag, continue_words, ContinuesWords, ShowsProvisionalWords}
use Rattle.harness.proofs.AnswerLaws.{up_to_eleven, latest_refuses, carried_refusal, carried_answer}
use Rattle.harness.proofs.AnswerLaws.{one_stored, two_stored}

-- STARTING, where the words are of another length than a record's
module _ (refusals : List Refusal) (t : T (numbered refusals)) (r : Record) (sheet levels words : List ℕ) where
  pub start_other : T (up_to_eleven refusals) → length words ≢ record_words → {number n : ℕ} → number ≡ at_latest n
      → n ≡ first refusals → StartsWords refusals r sheet levels words number (levels, words)
  start_other u a e f =
      latest_refuses refusals [] t u tt (refusals ++ answer_refusal record_words words ∷ [])
      (rw (ne_eqb (length words) record_words a)) e
      (f ∙ ap first (sym (append-nil refusals)))

-- a bool as a word
pub flagged : (so : Bool) (v : ℕ) → v ≡ bool_byte so → v ≡ flag so
flagged true v e = e
flagged false v e = e

-- CONTINUING
module _ (words levels : List ℕ) (allowance : ℕ) (answer : List ℕ) where
  module _ (h : holds_no_record words ≡ false) (run : Record) (q : run ≡ record_of words) where
    pub continue_other : length answer ≢ 2 → {number n : ℕ} → number ≡ at_latest n
        → n ≡ first (continue_refusals run levels allowance)
        → ContinuesWords words levels allowance answer number (words, levels, answer)
    continue_other a e f =
        latest_refuses ((1, record_bad (record_of words)) ∷ (10, levels_wrong (record_of words) levels) ∷ [])
        ((12, ltb 8192 allowance) ∷ []) tt tt tt
        (words_refusal words ∷ at_eleven (answer_refusal 2 answer) (continue_refusals (record_of words) levels allowance))
        (rw (h, ne_eqb (length answer) 2 a)) e (f ∙ ap (λ r. first (continue_refusals r levels allowance)) q)

    module _ (a : length answer ≡ 2) where
      continue_fits : first (words_refusal words ∷
          at_eleven (answer_refusal 2 answer) (continue_refusals (record_of words) levels allowance))
          ≡ first (continue_refusals (record_of words) levels allowance)
      continue_fits = rw (h, eq-eqb (length answer) 2 a)

      pub continue_refuses : (refusal : declared.Refusal) (after : List ℕ)
          → Continues run levels allowance (number_of refusal) ((empty_record, false, after), 0)
          → ContinuesWords words levels allowance answer (number_of refusal) (words, after, answer)
      continue_refuses refusal after p = carried_refusal (rw q at p) continue_fits (number_positive refusal) (words, after, answer)
          (λ e. ap (λ x. (words, x.0.2, answer)) e)

      pub continue_accepts : (next : Continued) (after : List ℕ)
          → Continues run levels allowance 0 ((next.run, next.done, after), next.lowered)
          → (written : List ℕ) → written ≡ words_of next.run → (v : ℕ) → v ≡ flag next.done
          → ContinuesWords words levels allowance answer 0 (written, after, set (set answer 0 v) 1 next.lowered)
      continue_accepts next after p written w v f =
          carried_answer (rw q at p) continue_fits refl (
            written,
            after,
            set (set answer 0 v) 1 next.lowered,
          ) (λ e. rw (w, two_stored answer v next.lowered a, f) (ap continue_words e))

-- A LOOK
module _ (words levels : List ℕ) (size : ℕ) (out state : List ℕ) where
  module _ (h : holds_no_record words ≡ false) (run : Record) (q : run ≡ record_of words) where
    abbrev refusals : List Refusal
    refusals = words_refusal words ∷ at_eleven (answer_refusal 1 state) (provisional_refusals (record_of words) levels size out)

    pub look_other : length state ≢ 1 → {number n : ℕ} → number ≡ at_latest n
        → n ≡ first (provisional_refusals run levels size out)
        → ShowsProvisionalWords words levels size out state number (out, state)
    look_other a e f =
        latest_refuses (provisional_refusals (record_of words) levels size out) [] tt tt tt refusals
        (rw (h, ne_eqb (length state) 1 a)) e (f ∙ ap (λ r. first (provisional_refusals r levels size out)) q)

    module _ (a : length state ≡ 1) where
      look_fits : first refusals ≡ first (provisional_refusals (record_of words) levels size out)
      look_fits = rw (h, eq-eqb (length state) 1 a)

      pub look_refuses : (refusal : declared.Refusal) (after : List ℕ)
          → ShowsProvisional run levels size out (number_of refusal) (false, after)
          → ShowsProvisionalWords words levels size out state (number_of refusal) (after, state)
      look_refuses refusal after p = carried_refusal (rw q at p) look_fits (number_positive refusal) (after, state)
          (λ e. ap (λ x. (x.1, state)) e)

      pub look_accepts : (is_final : Bool) (after : List ℕ) → ShowsProvisional run levels size out 0 (is_final, after)
          → (v : ℕ) → v ≡ flag is_final → ShowsProvisionalWords words levels size out state 0 (after, set state 0 v)
      look_accepts is_final after p v f =
          carried_answer (rw q at p) look_fits refl (after, set state 0 v)
          (λ e. rw (one_stored state v a, f) (ap (λ x. (x.1, flag x.0 ∷ [])) e))
