-- A scan of rows: rows 1 to H go top to bottom, rows H + 1 to 2H bottom to top.
use Rattle.std.specs.Prelude.{ℕ, zero, suc, ◌+◌, ◌-◌, ◌*◌, ◌/◌, ◌≤◌, ◌<◌, ◌≡◌, ◌≢◌, ◌⊎◌, length, Bool, true, false, cond, List, ltb}
use Rattle.basics.specs.Limits.{longest_side}
use Rattle.row.specs.declared.Area.{Area}
use Rattle.row.specs.RowRule.{cell_number, first_met, row_rule, points_lowered}

-- the row that is worked after `done` rows
unfoldable pub scan_row : Area → ℕ → List ℕ → List ℕ
scan_row area done levels =
    cond (ltb done area.height) (row_rule area false done levels)
    (row_rule area true (area.height + area.height - suc done) levels)

-- n rows, after `done` rows
unfoldable pub scan_rows : Area → ℕ → ℕ → List ℕ → List ℕ
scan_rows area done zero levels = levels
scan_rows area done (suc n) levels = scan_rows area (suc done) n (scan_row area done levels)

-- how many points these rows lower, each row counted by itself
unfoldable pub rows_lowered : Area → ℕ → ℕ → List ℕ → ℕ
rows_lowered area done zero levels = 0
rows_lowered area done (suc n) levels =
    points_lowered levels (scan_row area done levels) + rows_lowered area (suc done) n (scan_row area done levels)

abbrev pub area : ℕ → ℕ → ℕ → List (List ℕ) → Area
area width height beyond cells = record { width = width; height = height; beyond = beyond; cells = cells }

-- what the code asks of the levels lent, and of an element and its reach
pub record Lent (width height : ℕ) (levels : List ℕ) : Type 0 where
  pub wide : (1 ≤ width) × (width ≤ longest_side)
  pub high : (1 ≤ height) × (height ≤ longest_side)
  pub size : length levels ≡ height * width

-- every partner met of a row lies in the part that begins at row `start`, or beyond the area
pub record Within (upward : Bool) (start row : ℕ) (cells : List (List ℕ)) : Type 0 where
  pub met : (k : ℕ) → first_met upward ≤ k → k < first_met upward + 24 → cell_number cells k ≢ 0
      → (start ≡ 0) ⊎ (start + 3 ≤ row + k / 7)

pub record Reaches (reach : ℕ) (cells : List (List ℕ)) : Type 0 where
  pub above : (k : ℕ) → k < 49 → cell_number cells k ≢ 0 → 3 ≤ k / 7 + reach
