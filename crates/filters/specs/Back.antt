-- The way back from a finished run: an opening dilates what an erosion left, a closing erodes what a dilation gave, on all of
-- the area that the run worked on.
use Rattle.std.specs.Prelude.{ℕ, ◌+◌, ◌-◌, ◌*◌, ◌≤◌, ◌<◌, ◌≡◌, Bool, false, cond, List, eqb, length, get_or}
use Rattle.basics.specs.Tables.{table, raster}
use Rattle.sheet.specs.Sheets.{packed}
use Rattle.run.specs.declared.Record.{Record}
use Rattle.run.specs.declared.kinds.Bounds.{Bounds}
use Rattle.run.specs.Kinds.{erosion_kind, dilation_kind, background_beyond, on_of, off_of, is_held_at}
use Rattle.run.specs.Records.{area_width, area_height, foreign}
use Rattle.run.specs.Patches.{held_between}
use Rattle.run.specs.Pictures.{frame_level}
use Rattle.run.specs.Demand2.{finished}

-- the run of the other kind; its frame is the whole area, so it has no margin of its own
abbrev pub back : Record → Record
back r = record {
  kind = cond (eqb r.kind erosion_kind) dilation_kind erosion_kind;
  width = area_width r;
  height = area_height r;
  cap = 0;
  side = r.side;
  rows = 0;
  cells = r.cells;
  edge = background_beyond;
}

-- it starts with the points that the first run holds at a size
unfoldable pub back_start : Record → List ℕ → ℕ → List ℕ
back_start r levels n = table (length levels) (λ k. cond (is_held_at r n (get_or levels k 0)) (on_of (back r)) (off_of (back r)))

-- the levels after all its rows
abbrev pub way_back : Record → List ℕ → ℕ → List ℕ
way_back r levels n = finished (back r) (back_start r levels n)

-- a point of the frame is found at a size: it is held there after the way back
abbrev pub is_found : Record → List ℕ → ℕ → ℕ → ℕ → Bool
is_found r second n row col = is_held_at (back r) n (frame_level r second row col)

-- the packed sheet of the points found
unfoldable pub kept_sheet : Record → List ℕ → ℕ → List ℕ
kept_sheet r second n = packed r.width r.height (λ row col. cond (is_found r second n row col) 1 0)

-- the points found get the size and one as their level, the others keep theirs
unfoldable pub stored : Record → List ℕ → ℕ → List ℕ → List ℕ
stored r second n out =
    raster r.width r.height
    (λ row col. cond (is_found r second n row col) (n + 1) (get_or out (row * r.width + col) 0))

-- the size taken in step k of `count`: an opening goes up from 0, a closing down to 0
abbrev pub size_at : Bool → ℕ → ℕ → ℕ
size_at closing count k = cond closing (count - 1 - k) k

-- m bounds the first k levels, and is at most every bound of all of them; where k is their count it is the highest
pub record Highest (levels : List ℕ) (k m : ℕ) : Type 0 where
  pub all : (j : ℕ) → j < k → get_or levels j 0 ≤ m
  pub least : (bound : ℕ) → ((j : ℕ) → j < length levels → get_or levels j 0 ≤ bound) → m ≤ bound

-- a record that a start could give, and two work buffers of its area's size
pub record Ready (r : Record) (first second : List ℕ) : Type 0 where
  pub taken : foreign r ≡ false
  pub first_size : length first ≡ area_height r * area_width r
  pub second_size : length second ≡ area_height r * area_width r

-- the levels between the bounds are those that are held after the way back
abbrev pub HoldsAfter : Record → ℕ → Bounds → Type 0
HoldsAfter r n bounds = (level : ℕ) → held_between bounds.low bounds.high level ≡ cond (is_held_at (back r) n level) 1 0

-- on where a level is above low and at most high, else off
abbrev pub chosen : ℕ → ℕ → ℕ → ℕ → ℕ → ℕ
chosen low high on off level = cond (eqb (held_between low high level) 1) on off
