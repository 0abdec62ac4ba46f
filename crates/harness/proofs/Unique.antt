-- NO SECOND OUTCOME: the inputs of each call at the boundary fix its number and all that stands in the slices lent to it.
use Prim.Native.Nat.{ℕ}
use mathlib.Core.Path.{◌≡◌}
use mathlib.Core.List.{List}
use lib.Ieee.{Float}
use Rattle.basics.proofs.RefusalLaws.{rule_unique, answers_unique}
use Rattle.element.specs.Reflect.{Reflects}
use Rattle.run.specs.declared.Input.{Input}
use Rattle.filters.specs.Filters.{Buffers}
use Rattle.spectrum.specs.Spectrum.{summary_of}
use Rattle.spectrum.proofs.Promises.{right_one}
use Rattle.harness.specs.Fractions.{fractions_of, GivesFractions}
use Rattle.harness.specs.Files.{ReadsSheet, WritesSheet, WritesPicture}
use Rattle.harness.specs.Runs.{StartsErosionWords, StartsDilationWords, StartsCroppedWords, ContinuesWords, CollectsWords}
use Rattle.harness.specs.Runs.{ThresholdsWords, ShowsProvisionalWords}

module _ (m n : ℕ) where
  pub spectrum_unique : (input : Input) (sheet bytes : List ℕ) (lent : Buffers) (fractions : List Float) (x y : Buffers × List Float)
      → GivesFractions input sheet bytes lent fractions m x → GivesFractions input sheet bytes lent fractions n y → (m ≡ n) × (x ≡ y)
  spectrum_unique input sheet bytes lent fractions x y =
      answers_unique (right_one (λ counts. fractions_of (summary_of counts)) input sheet bytes lent) m n x y

  pub reflect_unique : (side : ℕ) (cells out x y : List ℕ) → Reflects side cells out m x → Reflects side cells out n y
      → (m ≡ n) × (x ≡ y)
  reflect_unique side cells out x y = rule_unique m n x y

  pub collect_unique : (words levels out x y : List ℕ) → CollectsWords words levels out m x → CollectsWords words levels out n y
      → (m ≡ n) × (x ≡ y)
  collect_unique words levels out x y = rule_unique m n x y

  pub threshold_unique : (words levels : List ℕ) (size : ℕ) (out x y : List ℕ) → ThresholdsWords words levels size out m x
      → ThresholdsWords words levels size out n y → (m ≡ n) × (x ≡ y)
  threshold_unique words levels size out x y = rule_unique m n x y

  pub continue_unique : (words levels : List ℕ) (allowance : ℕ) (answer : List ℕ) (x y : List ℕ × List ℕ × List ℕ)
      → ContinuesWords words levels allowance answer m x → ContinuesWords words levels allowance answer n y → (m ≡ n) × (x ≡ y)
  continue_unique words levels allowance answer x y = rule_unique m n x y

  module _ (x y : List ℕ × List ℕ) where
    pub read_pbm_unique : (file out frame : List ℕ) → ReadsSheet file out frame m x → ReadsSheet file out frame n y
        → (m ≡ n) × (x ≡ y)
    read_pbm_unique file out frame = rule_unique m n x y

    pub write_pbm_unique : (width height : ℕ) (sheet out answer : List ℕ) → WritesSheet width height sheet out answer m x
        → WritesSheet width height sheet out answer n y → (m ≡ n) × (x ≡ y)
    write_pbm_unique width height sheet out answer = rule_unique m n x y

    pub write_pgm_unique : (words levels out answer : List ℕ) → WritesPicture words levels out answer m x
        → WritesPicture words levels out answer n y → (m ≡ n) × (x ≡ y)
    write_pgm_unique words levels out answer = rule_unique m n x y

    pub provisional_unique : (words levels : List ℕ) (size : ℕ) (out state : List ℕ)
        → ShowsProvisionalWords words levels size out state m x → ShowsProvisionalWords words levels size out state n y
        → (m ≡ n) × (x ≡ y)
    provisional_unique words levels size out state = rule_unique m n x y

    pub start_erosion_unique : (width height : ℕ) (sheet : List ℕ) (side : ℕ) (cells levels words : List ℕ)
        → StartsErosionWords width height sheet side cells levels words m x
        → StartsErosionWords width height sheet side cells levels words n y → (m ≡ n) × (x ≡ y)
    start_erosion_unique width height sheet side cells levels words = rule_unique m n x y

    pub start_dilation_unique : (width height : ℕ) (sheet : List ℕ) (side : ℕ) (cells : List ℕ) (cap : ℕ) (levels words : List ℕ)
        → StartsDilationWords width height sheet side cells cap levels words m x
        → StartsDilationWords width height sheet side cells cap levels words n y → (m ≡ n) × (x ≡ y)
    start_dilation_unique width height sheet side cells cap levels words = rule_unique m n x y

    pub start_cropped_unique : (width height : ℕ) (sheet : List ℕ) (side : ℕ) (cells : List ℕ) (cap : ℕ) (levels words : List ℕ)
        → StartsCroppedWords width height sheet side cells cap levels words m x
        → StartsCroppedWords width height sheet side cells cap levels words n y → (m ≡ n) × (x ≡ y)
    start_cropped_unique width height sheet side cells cap levels words = rule_unique m n x y
