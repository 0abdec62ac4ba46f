-- How a row is worked: docs/RULES.md, "Runs", for any levels.
-- Levels stand row by row in one list. Cells of the element are numbered 0 to 48 in reading order; cell 24 is its centre.
use Rattle.std.specs.Prelude.{ℕ, zero, suc, ◌+◌, ◌-◌, ◌*◌, ◌/◌, ◌%◌, min, Bool, true, false, cond, ◌&&◌, List, [], ◌∷◌, eqb, leb, ltb, get_or, set}
use Rattle.row.specs.declared.Area.{Area}

-- 65,535 means "nothing found yet"; adding one to it gives it again
abbrev pub none : ℕ
none = 65535

abbrev pub more : ℕ → ℕ
more level = min (level + 1) none

unfoldable pub cell_number : List (List ℕ) → ℕ → ℕ
cell_number cells k = get_or (get_or cells (k / 7) []) (k % 7) 0

-- place p, counted from 3 before the first of n, is one of the n
unfoldable pub within : ℕ → ℕ → Bool
within n p = leb 3 p && ltb p (n + 3)

-- what a partner reads at a row and a column that are counted from 3 before the area's first
unfoldable pub level_at : Area → List ℕ → ℕ → ℕ → ℕ
level_at area levels y x =
    cond (within area.height y && within area.width x) (get_or levels ((y - 3) * area.width + (x - 3)) 0) area.beyond

-- the level of the partner that cell k gives the point at row and col; 65,535 where the cell is 0
unfoldable pub partner : Area → List ℕ → ℕ → ℕ → ℕ → ℕ
partner area levels row col k = cond (eqb (cell_number area.cells k) 0) none (level_at area levels (row + k / 7) (col + k % 7))

-- the least level among the partners of n cells, from cell k on
unfoldable pub least : Area → List ℕ → ℕ → ℕ → ℕ → ℕ → ℕ
least area levels row col k zero = none
least area levels row col k (suc n) = min (partner area levels row col k) (least area levels row col (suc k) n)

-- the partners met: going down, those of the 24 cells before the centre; going up, those of the 24 after it
unfoldable pub first_met : Bool → ℕ
first_met false = 0
first_met true = 25

-- the level that a point gets: the smaller of its own and one plus the least among the partners met
unfoldable pub lowered : Area → Bool → List ℕ → ℕ → ℕ → ℕ
lowered area upward levels row col =
    min (get_or levels (row * area.width + col) 0) (more (least area levels row col (first_met upward) 24))

unfoldable pub point_rule : Area → Bool → ℕ → List ℕ → ℕ → List ℕ
point_rule area upward row levels col = set levels (row * area.width + col) (lowered area upward levels row col)

-- going down a row is worked left to right, going up right to left: its column number t
unfoldable pub place : Bool → ℕ → ℕ → ℕ
place false n t = t
place true n t = n - suc t

-- the first t columns of a row
unfoldable pub columns : Area → Bool → ℕ → ℕ → List ℕ → List ℕ
columns area upward row zero levels = levels
columns area upward row (suc t) levels =
    point_rule area upward row (columns area upward row t levels) (place upward area.width t)

-- the whole row
unfoldable pub row_rule : Area → Bool → ℕ → List ℕ → List ℕ
row_rule area upward row levels = columns area upward row area.width levels

-- how many points have a smaller level after than before
unfoldable pub points_lowered : List ℕ → List ℕ → ℕ
points_lowered (level ∷ before) (lower ∷ after) = cond (ltb lower level) 1 0 + points_lowered before after
points_lowered (level ∷ before) [] = 0
points_lowered [] after = 0
