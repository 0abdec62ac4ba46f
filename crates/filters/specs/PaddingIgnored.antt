-- Padding bits change nothing: two sheets of one length with the same pixels get the same answer from each of the four calls.
use Rattle.std.specs.Prelude.{ℕ, ◌≡◌, List, length}
use Rattle.sheet.specs.SamePixels.{SamePixels}
use Rattle.run.specs.declared.Input.{Input}
use Rattle.filters.specs.Filters.{Buffers, Opens, Closes, OpeningLevels, ClosingLevels}

-- what is allowed for the one sheet is allowed for the other, and no two outcomes differ
abbrev pub IgnoresPadding : Input → (List ℕ → ℕ → Buffers → Type 0) → Type 0
IgnoresPadding input Contract =
    (one other : List ℕ) → length one ≡ length other → SamePixels input.width input.height one other
    → ((number : ℕ) (after : Buffers) → Contract one number after → Contract other number after) ×
    ((m n : ℕ) (x y : Buffers) → Contract one m x → Contract other n y → (m ≡ n) × (x ≡ y))

pub record PaddingIgnored (input : Input) (bytes : List ℕ) (lent : Buffers) : Type 0 where
  pub opens : (size : ℕ) → IgnoresPadding input (λ sheet. Opens input sheet bytes size lent)
  pub closes : (size : ℕ) → IgnoresPadding input (λ sheet. Closes input sheet bytes size lent)
  pub opening_levels : IgnoresPadding input (λ sheet. OpeningLevels input sheet bytes lent)
  pub closing_levels : (cap : ℕ) → IgnoresPadding input (λ sheet. ClosingLevels input sheet bytes cap lent)
