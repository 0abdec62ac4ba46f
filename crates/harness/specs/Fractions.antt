-- What the spectrum answers at the boundary: as the library's call, with the summary's two fractions in a slice of doubles.
use Rattle.std.specs.Prelude.{ℕ, ◌≡◌, List, [], ◌∷◌, Float}
use Rattle.basics.specs.Refusals.{Refusal, Answers}
use Rattle.run.specs.declared.Input.{Input}
use Rattle.filters.specs.Filters.{Buffers, Cleared, foreground_of, element_of}
use Rattle.spectrum.specs.declared.Summary.{Summary}
use Rattle.spectrum.specs.Spectrum.{IsSpectrum, summary_of, spectrum_refusals}
use Rattle.harness.specs.Boundary.{answer_refusal, at_eleven}

abbrev pub fractions_of : Summary → List Float
fractions_of summary = summary.mean ∷ summary.share ∷ []

abbrev pub fraction_refusals : Input → List ℕ → List ℕ → Buffers → List Float → List Refusal
fraction_refusals input sheet bytes lent fractions =
    at_eleven (answer_refusal 2 fractions) (spectrum_refusals input sheet bytes lent)

abbrev pub GivesFractions : Input → List ℕ → List ℕ → Buffers → List Float → ℕ → Buffers × List Float → Type 0
GivesFractions input sheet bytes lent fractions =
    Answers (fraction_refusals input sheet bytes lent fractions) (lent, fractions)
    (λ after. Cleared lent after.0 ×
    (IsSpectrum input.width input.height (foreground_of input sheet) (element_of input bytes) after.0.out ×
    (after.1 ≡ fractions_of (summary_of after.0.out))))
