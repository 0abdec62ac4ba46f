-- How the levels start: as a dilation's, with R + 1 - S(a) in the place of the 1 at each foreground point a.
use Rattle.std.specs.Prelude.{ℕ, suc, ◌+◌, ◌-◌, ◌*◌, ◌≤◌, ◌<◌, ◌≡◌, Bool, false, cond, List, eqb, length, get_or, drop}
use Rattle.basics.specs.Bounds.{any_above}
use Rattle.basics.specs.Limits.{longest_side}
use Rattle.sheet.specs.Sheets.{row_bytes}
use Rattle.run.specs.declared.Record.{Record}
use Rattle.run.specs.declared.kinds.Kind.TheVariants.{Dilating}
use Rattle.run.specs.Kinds.{size_limit}
use Rattle.run.specs.Records.{canvas_side, margin, area_width, area_height, foreign}
use Rattle.run.specs.Starting.{framed, start_record, start_levels}
use Rattle.run.specs.declared.Input.{Input}
use Rattle.filters.specs.Filters.{frame_size, sheet_size}
use Rattle.maps.specs.Maps.{size_in}

-- the level that a point with a size starts with, where the dilation's level is 1
abbrev pub raised : ℕ → ℕ → ℕ → ℕ
raised most size level = cond (eqb level 1) (most - size) level

-- the frame's first `rows` rows of the levels are raised by the map, all else is as it was
pub record Raised (width margin rows most : ℕ) (map before after : List ℕ) : Type 0 where
  pub size : length after ≡ length before
  pub level : (row col : ℕ) → col < canvas_side width margin → let place = row * canvas_side width margin + col in
      get_or after place 0 ≡ cond (framed width rows margin row col)
      (raised most (size_in width map (row - margin) (col - margin)) (get_or before place 0)) (get_or before place 0)

-- the record of the dilation, and the levels that it starts with by a map
abbrev pub map_record : Input → List ℕ → ℕ → Record
map_record input bytes cap = start_record Dilating input.width input.height cap input.side bytes

pub record StartsByMap (input : Input) (sheet bytes : List ℕ) (cap : ℕ) (map : List ℕ) (r : Record) (levels : List ℕ) : Type 0 where
  pub run : r ≡ map_record input bytes cap
  pub start : Raised input.width (margin (map_record input bytes cap)) input.height (suc cap) map
      (start_levels (map_record input bytes cap) sheet) levels

-- a frame in its limits, with a sheet and a map of it
pub record Fits (input : Input) (sheet map : List ℕ) : Type 0 where
  pub wide : (1 ≤ input.width) × (input.width ≤ longest_side)
  pub high : input.height ≤ longest_side
  pub sheet_size_lem : length sheet ≡ sheet_size input
  pub map_size : length map ≡ frame_size input

-- some size from a place on is above the cap
abbrev pub above_from : ℕ → List ℕ → ℕ → Bool
above_from cap sizes place = any_above cap (drop place sizes)

-- a run that a start gave, with room for its levels and for the sheet that it holds at its cap
pub record Finishes (r : Record) (levels out : List ℕ) : Type 0 where
  pub taken : foreign r ≡ false
  pub fresh : r.rows ≡ 0
  pub size : length levels ≡ area_height r * area_width r
  pub cap_held : r.cap ≤ size_limit r
  pub room : length out ≡ r.height * row_bytes r.width
