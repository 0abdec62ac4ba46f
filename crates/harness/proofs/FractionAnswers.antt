-- The spectrum's answer carried over to a slice of two doubles.
use Prim.Native.Nat.{ℕ}
use mathlib.Core.Path.{◌≡◌, ap, ◌∙◌}
use mathlib.Core.Bool.{not}
use mathlib.Core.Logic.{◌≢◌}
use mathlib.Core.List.{List, [], ◌∷◌, ◌++◌}
use lib.Dec.{eqb}
use lib.Ieee.{Float}
use lib.ListN.{length, set}
use borrow.Author.Tests.{eq-eqb, ne_eqb}
use Rattle.basics.specs.Refusals.{Refusal, first}
use Rattle.run.specs.declared.Input.{Input}
use Rattle.filters.specs.Filters.{Buffers, input_refusals, is_work_wrong, frame_size}
use Rattle.spectrum.specs.declared.Summary.{Summary}
use Rattle.spectrum.specs.Spectrum.{is_blank, table_size, spectrum_refusals, GivesSpectrum}
use Rattle.harness.specs.Boundary.{at_latest}
use Rattle.harness.specs.Fractions.{fractions_of, fraction_refusals, GivesFractions}
use Rattle.harness.proofs.AnswerLaws.{latest_refuses, carried_answer, two_stored}

module _ (input : Input) (sheet bytes : List ℕ) (lent : Buffers) (fractions : List Float) where
  -- 2 to 11, and 14
  abbrev lower : List Refusal
  lower = input_refusals input sheet bytes ++ (10, is_work_wrong (frame_size input) lent) ∷
      (11, not (eqb (length lent.out) (table_size input))) ∷ []

  abbrev higher : List Refusal
  higher = (14, is_blank input.width input.height sheet) ∷ []

  pub fractions_other : length fractions ≢ 2 → {number n : ℕ} → number ≡ at_latest n
      → n ≡ first (spectrum_refusals input sheet bytes lent) → GivesFractions input sheet bytes lent fractions number (lent, fractions)
  fractions_other a e f =
      latest_refuses lower higher tt tt tt (fraction_refusals input sheet bytes lent fractions)
      (rw (ne_eqb (length fractions) 2 a)) e f

  module _ (a : length fractions ≡ 2) where
    fits : first (fraction_refusals input sheet bytes lent fractions) ≡ first (spectrum_refusals input sheet bytes lent)
    fits = rw (eq-eqb (length fractions) 2 a)

    module _ {n : ℕ} {after : Buffers} {summary : Summary} (p : GivesSpectrum input sheet bytes lent n (after, summary)) where
      pub fractions_given : n ≡ 0
          → GivesFractions input sheet bytes lent fractions 0 (after, set (set fractions 0 summary.mean) 1 summary.share)
      fractions_given z =
          carried_answer p fits z (after, set (set fractions 0 summary.mean) 1 summary.share)
          (λ right. (right.0, (right.1.0, two_stored fractions summary.mean summary.share a ∙ ap fractions_of right.1.1)))
