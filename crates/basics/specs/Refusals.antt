-- How every public call answers, on all inputs.
use Rattle.std.specs.Prelude.{ℕ, ◌≡◌, ◌≢◌, Bool, cond, List, [], ◌∷◌, Result, Ok, Err}
use Rattle.basics.specs.declared.refusal.Refusal as declared
use Rattle.basics.specs.declared.refusal.Refusal.TheVariants.{Record, FrameSide, SheetLength, ElementSide, ElementByte, CentreUnset, CentreAlone}
use Rattle.basics.specs.declared.refusal.Refusal.TheVariants.{Size, CanvasSide, LevelsLength, OutputLength, Allowance, RowsDue, BlankSheet}
use Rattle.basics.specs.declared.refusal.Refusal.TheVariants.{NoPbm, Header, ShortRaster, LongRaster}

-- a call lists its refusals in the order of docs/RULES.md, each a number and whether it applies; it gives the first that applies,
-- and 0 where none does
abbrev pub Refusal : Type 0
Refusal = ℕ × Bool

abbrev pub first : List Refusal → ℕ
first [] = 0
first (r ∷ rest) = cond r.1 r.0 (first rest)

-- `number` is answered, and `after` stands in the buffers lent and in the values beside the number: what is right where the call
-- is accepted, and else what was `kept`
pub record Answers {A : Type 0} (refusals : List Refusal) (kept : A) (Right : A → Type 0) (number : ℕ) (after : A) : Type 0 where
  pub refusal : number ≡ first refusals
  pub accepted : number ≡ 0 → Right after
  pub refused : number ≢ 0 → after ≡ kept

-- the number of a refusal
abbrev pub number_of : declared.Refusal → ℕ
number_of Record = 1
number_of FrameSide = 2
number_of SheetLength = 3
number_of ElementSide = 4
number_of ElementByte = 5
number_of CentreUnset = 6
number_of CentreAlone = 7
number_of Size = 8
number_of CanvasSide = 9
number_of LevelsLength = 10
number_of OutputLength = 11
number_of Allowance = 12
number_of RowsDue = 13
number_of BlankSheet = 14
number_of NoPbm = 21
number_of Header = 22
number_of ShortRaster = 23
number_of LongRaster = 24

-- what a call's result says to `Answers`: the number, and the value beside it, which is `none` beside a refusal
abbrev pub number : {A : Type 0} → Result A declared.Refusal → ℕ
number (Ok _) = 0
number (Err refusal) = number_of refusal

abbrev pub value_or : {A : Type 0} → A → Result A declared.Refusal → A
value_or none (Ok value) = value
value_or none (Err _) = none
