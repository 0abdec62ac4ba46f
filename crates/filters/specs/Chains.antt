-- Calls chained: the sheet that opening by n answers is passed on to opening by m, with the same frame and element; closings
-- likewise. One call by the larger size gives the same sheet, byte for byte; so a chain is one call by its largest size.
use Rattle.std.specs.Prelude.{ℕ, max, ◌≡◌, List, [], ◌∷◌}
use Rattle.run.specs.declared.Input.{Input}
use Rattle.filters.specs.Filters.{Buffers, frame_size, closing_size, Opens, Closes}
use Rattle.filters.specs.StarredFilters.{Gives}

-- a call by sheet and size: the buffers lent, the number and the buffers afterwards
abbrev pub SizedCall : Type 1
SizedCall = List ℕ → ℕ → Buffers → ℕ → Buffers → Type 0

-- accepted calls by these sizes, each of the sheet that the one before it answered; from the first sheet to the last
pub data Chain (Filter : SizedCall) : List ℕ → List ℕ → List ℕ → Type 0 where
  last : (sheet : List ℕ) (n : ℕ) (lent after : Buffers) → Filter sheet n lent 0 after
      → Chain Filter sheet (n ∷ []) after.out
  next : (sheet : List ℕ) (n : ℕ) (lent after : Buffers) (sizes answer : List ℕ) → Filter sheet n lent 0 after
      → Chain Filter after.out sizes answer → Chain Filter sheet (n ∷ sizes) answer

abbrev pub largest : List ℕ → ℕ
largest [] = 0
largest (n ∷ sizes) = max n (largest sizes)

-- where the work buffers for a size are `work` long
pub record ChainsFold (Filter : SizedCall) (work : ℕ → ℕ) : Type 0 where
  -- what an accepted call answers may be passed on: the next answers the number that it would of the first sheet
  pub passes : (sheet : List ℕ) (n m : ℕ) (lent after other x y : Buffers) (i j : ℕ) → Filter sheet n lent 0 after
      → Filter after.out m other i x → Filter sheet m other j y → i ≡ j
  -- where both are accepted, one call by the larger, with buffers that fit and whatever these hold, gives what the second gave
  pub folds : (sheet : List ℕ) (n m : ℕ) (lent after other x : Buffers) → Filter sheet n lent 0 after
      → Filter after.out m other 0 x → Gives (Filter sheet (max n m)) (work (max n m)) x.out
  -- and a chain of any length is one call by its largest size
  pub shortens : (sheet sizes answer : List ℕ) → Chain Filter sheet sizes answer
      → Gives (Filter sheet (largest sizes)) (work (largest sizes)) answer

-- CHAINED CALLS FOLD, for every frame and element
pub record CallsFold (input : Input) (bytes : List ℕ) : Type 0 where
  pub openings : ChainsFold (λ sheet size. Opens input sheet bytes size) (λ size. frame_size input)
  pub closings : ChainsFold (λ sheet size. Closes input sheet bytes size) (closing_size input)
