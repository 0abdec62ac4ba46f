-- How the lists that are worked on are read on the infinite grid: levels as a function of points, cells as a set of offsets, and
-- a level cut at a cap.
use Rattle.std.specs.Prelude.{◌≡◌, ◌≢◌, cond, ◌&&◌, List, ℕ, suc, ◌+◌, ◌*◌, ◌/◌, ◌%◌, ◌<◌, leb, ltb, ℤ, pos, negsuc, ◌-ℤ◌, get_or}
use Rattle.grid.specs.Points.{Point, at}
use Rattle.grid.specs.Sets.{PointSet}
use Rattle.row.specs.declared.Area.{Area}
use Rattle.row.specs.RowRule.{cell_number}
use Rattle.scan.specs.Scan.{scan_rows}

-- the levels after all rows down and all rows up
abbrev pub full_scan : Area → List ℕ → List ℕ
full_scan area levels = scan_rows area 0 (area.height + area.height) levels

-- the level at a point: in the area what the list holds, elsewhere what the area reads beyond
unfoldable pub level_on : Area → List ℕ → ℤ → ℤ → ℕ
level_on area levels (pos row) (pos col) =
    cond (ltb row area.height && ltb col area.width) (get_or levels (row * area.width + col) 0) area.beyond
level_on area levels (pos row) (negsuc col) = area.beyond
level_on area levels (negsuc row) col = area.beyond

unfoldable pub look : Area → List ℕ → Point → ℕ
look area levels p = level_on area levels p.row p.col

-- where cell k leads: from 3 rows up and 3 columns left, in reading order
abbrev pub offset : ℕ → Point
offset k = at (pos (k / 7) -ℤ pos 3) (pos (k % 7) -ℤ pos 3)

-- the set that seven rows of seven cells mean: the cells that are not 0
abbrev pub partners : List (List ℕ) → PointSet
partners cells b = (k : ℕ) × (k < 49) × (cell_number cells k ≢ 0) × (b ≡ offset k)

-- a level up to R + 1, and 0 for one above
unfoldable pub cap : ℕ → ℕ → ℕ
cap R level = cond (leb level (suc R)) level 0
