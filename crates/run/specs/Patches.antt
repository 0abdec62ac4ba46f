-- What the functions that fill a buffer by stretches say of it, and of the levels that they read.
use Rattle.std.specs.Prelude.{ℕ, ◌+◌, ◌-◌, ◌*◌, ◌≤◌, ◌<◌, min, ◌≡◌, cond, ◌&&◌, ◌||◌, List, eqb, leb, ltb, length, get_or}
use Rattle.basics.specs.Limits.{longest_side}
use Rattle.row.specs.RowRule.{none}
use Rattle.run.specs.declared.Record.{Record}
use Rattle.run.specs.declared.kinds.Bounds.{Bounds}
use Rattle.run.specs.declared.kinds.Reading.{Reading}
use Rattle.run.specs.Kinds.{kind_of, by_kind}
use Rattle.run.specs.Records.{canvas_side}

-- The n entries from at on are f of their place in the stretch; the others are as they were.
pub record Patch (at n : ℕ) (f : ℕ → ℕ) (buffer after : List ℕ) : Type 0 where
  pub size : length after ≡ length buffer
  pub inside : (i : ℕ) → i < n → get_or after (at + i) 0 ≡ f i
  pub earlier : (k : ℕ) → k < at → get_or after k 0 ≡ get_or buffer k 0
  pub later : (k : ℕ) → at + n ≤ k → get_or after k 0 ≡ get_or buffer k 0

-- Levels for all of the area that a margin makes of a frame, its sides in their limits.
pub record Canvas (width height margin : ℕ) (levels : List ℕ) : Type 0 where
  pub wide : canvas_side width margin ≤ longest_side
  pub high : canvas_side height margin ≤ longest_side
  pub room : length levels ≡ canvas_side height margin * canvas_side width margin

-- the level at a row and a column of the frame
abbrev pub level_in : ℕ → ℕ → List ℕ → ℕ → ℕ → ℕ
level_in width margin levels row col = get_or levels ((row + margin) * canvas_side width margin + (col + margin)) 0

-- a level up to the limit, so much less but not below 0; another above it; 65,535 limits nothing
unfoldable pub read_as : Reading → ℕ → ℕ
read_as reading level = cond (eqb reading.limit none || leb level reading.limit) (level - reading.less) reading.other

-- 1 where a level is above low and at most high, else 0; 65,535 as high limits nothing
unfoldable pub held_between : ℕ → ℕ → ℕ → ℕ
held_between low high level = cond ((eqb high none || leb level high) && ltb low level) 1 0

-- how a run's levels are read when they are collected, and the bounds of those that it holds at a size
abbrev pub reading_of : Record → Reading
reading_of r = record {
  limit = by_kind (kind_of r) none (r.cap + 1) (r.cap + 1);
  less = by_kind (kind_of r) 0 0 1;
  other = by_kind (kind_of r) 0 0 none;
}

abbrev pub low_of : Record → ℕ → ℕ
low_of r n = by_kind (kind_of r) n 0 (min n r.cap + 1)

abbrev pub high_of : Record → ℕ → ℕ
high_of r n = by_kind (kind_of r) none (n + 1) none

abbrev pub bounds_of : Record → ℕ → Bounds
bounds_of r n = record { low = low_of r n; high = high_of r n }
