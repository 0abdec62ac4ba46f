-- The starred cases of docs/RULES.md once more, through the contracts of opening and closing: with buffers that fit, the one
-- outcome that a contract allows is 0 with the table's answer.
use Rattle.std.specs.Prelude.{ℕ, ◌≡◌, List, [], ◌∷◌, length, replicate}
use Rattle.grid.specs.Starred.{Question, erosion_levels, opening_levels, dilation_levels, closing_levels, eroded_by, opened_by, Case}
use Rattle.grid.specs.Starred.{cropped_levels, AllHold, starred_cases as cases, PairReflects, ClippingMisses}
use Rattle.run.specs.StarredRuns.{sheet_of, bytes_of, levels_of, picture_of, RunsGive, AfterOneRow}
use Rattle.run.specs.declared.Input.{Input}
use Rattle.filters.specs.Filters.{Buffers, frame_size, closing_size, Opens, OpeningLevels, ClosingLevels}

-- buffers of the sizes asked for, whatever they hold
pub record Fits (work size : ℕ) (lent : Buffers) : Type 0 where
  pub first : length lent.first ≡ work
  pub second : length lent.second ≡ work
  pub out : length lent.out ≡ size

-- what an accepted call leaves in them
abbrev pub left : ℕ → List ℕ → Buffers
left work answer = record { first = replicate work 0; second = replicate work 0; out = answer }

-- the contract allows one outcome with such buffers: 0, with `answer`
abbrev pub Gives : (Buffers → ℕ → Buffers → Type 0) → ℕ → List ℕ → Type 0
Gives Contract work answer =
    (lent : Buffers) → Fits work (length answer) lent
    → Contract lent 0 (left work answer) ×
    ((number : ℕ) (after : Buffers) → Contract lent number after → (number ≡ 0) × (after ≡ left work answer))

-- the elements drawn have a side of 3
abbrev pub input_of : Case → Input
input_of c = record { width = c.width; height = c.height; side = 3 }

-- so for the opening and closing questions of the table; the others are runs' (StarredRuns of run)
abbrev pub FilterGives : Question → Case → Type 0
FilterGives opening_levels c = Gives (OpeningLevels (input_of c) (sheet_of c) (bytes_of c)) (frame_size (input_of c)) (levels_of c)
FilterGives (closing_levels R) c =
    Gives (ClosingLevels (input_of c) (sheet_of c) (bytes_of c) R) (closing_size (input_of c) R) (levels_of c)
FilterGives (opened_by n) c = Gives (Opens (input_of c) (sheet_of c) (bytes_of c) n) (frame_size (input_of c)) (picture_of c)
FilterGives erosion_levels c = Unit {0}
FilterGives (dilation_levels R) c = Unit {0}
FilterGives (eroded_by n) c = Unit {0}
FilterGives (cropped_levels width height R) c = Unit {0}

abbrev pub FiltersGive : List Case → Type 0
FiltersGive [] = Unit {0}
FiltersGive (c ∷ cases) = FilterGives c.question c × FiltersGive cases

-- EVERY STARRED CASE: of the definitions, of the runs and of the contracts; that case 3's element is case 2's reflected, and that
-- clipping at each step misses case 5's 3
pub record EveryStarredCase : Type 0 where
  pub definitions : AllHold cases
  pub runs : RunsGive cases
  pub one_row_lem : AfterOneRow
  pub filters : FiltersGive cases
  pub reflected : PairReflects
  pub clipping : ClippingMisses
