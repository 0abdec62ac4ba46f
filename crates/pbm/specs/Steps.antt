-- What the steps of reading a header answer.
use Rattle.std.specs.Prelude.{ℕ, ◌≤◌, min, ◌≡◌, Bool, true, false, List, length, drop}
use Rattle.basics.specs.Refusals.{first}
use Rattle.pbm.specs.Header.{missing, number, field, whole, header}
use Rattle.pbm.specs.Pbm.{header_refusals}

-- a number from `at` on: whether it is there, its amount, and the place after it. Beyond all frames the amount is cut
abbrev pub amount_end : ℕ
amount_end = 65536

pub record FieldRead (file : List ℕ) (at : ℕ) (found : Bool) (amount next : ℕ) : Type 0 where
  pub within : next ≤ length file
  pub lost : found ≡ false → field (drop at file) ≡ missing
  pub there : found ≡ true → (exact : ℕ) × (field (drop at file) ≡ number exact (drop next file)) × (amount ≡ min exact amount_end)

-- the header: its refusal, and where there is none the frame and the place of the raster
pub record HeaderRead (file : List ℕ) (refusal width height at : ℕ) : Type 0 where
  pub first_is : refusal ≡ first (header_refusals file)
  pub accepted : refusal ≡ 0 → (at ≤ length file) × (header file ≡ whole width height (drop at file))
