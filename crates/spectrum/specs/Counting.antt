-- What the code counts, in the terms of the definitions.
use Rattle.std.specs.Prelude.{ℕ, ◌+◌, ◌*◌, ◌≤◌, ◌<◌, ◌≡◌, false, List, eqb, ltb, pos, length, get_or}
use Rattle.basics.specs.Limits.{longest_side}
use Rattle.basics.specs.Sums.{sum, points_where}
use Rattle.basics.specs.Tables.{table}
use Rattle.grid.specs.Points.{at}
use Rattle.grid.specs.Levels.{IsOpeningLevel}
use Rattle.run.specs.declared.Record.{Record}
use Rattle.run.specs.declared.Input.{Input}
use Rattle.filters.specs.declared.judging.Plan.{Plan}
use Rattle.filters.specs.Filters.{foreground_of, element_of}
use Rattle.filters.specs.Plans.{FirstRun}

-- opening levels, which have no size to ask for
abbrev pub opening : Plan
opening = record { closing = false; size = 0; packed = false }

-- an opening's first run, finished, and the levels of the frame's points
pub record HasLevels (r : Record) (first : List ℕ) : Type 0 where
  pub input : Input
  pub sheet : List ℕ
  pub bytes : List ℕ
  pub run : FirstRun input sheet bytes opening r first
  pub level : ℕ → ℕ → ℕ
  pub is_level : (row col : ℕ) → row < r.height → col < r.width
      → IsOpeningLevel (foreground_of input sheet) (element_of input bytes) (at (pos row) (pos col)) (level row col)

-- how many points have a level above n, and how often each level occurs
abbrev pub CountsAbove : Record → List ℕ → ℕ → ℕ → Type 0
CountsAbove r first n count =
    (given : HasLevels r first) → count ≡ points_where r.width r.height (λ row col. ltb n (given.level row col))

abbrev pub FillsTable : Record → List ℕ → ℕ → List ℕ → Type 0
FillsTable r first entries counts =
    (given : HasLevels r first)
    → counts ≡ table entries (λ n. points_where r.width r.height (λ row col. eqb (given.level row col) n))

-- a table for the longest side at most, whose entries add up to the largest frame at most
pub record IsTable (counts : List ℕ) : Type 0 where
  pub long : 2 ≤ length counts
  pub short : length counts ≤ longest_side + 1
  pub adds_up : sum (length counts) (λ n. get_or counts n 0) ≤ longest_side * longest_side
