-- Sizes that follow perspective: every point of a set is dilated by a size of its own.
use Rattle.std.specs.Prelude.{ℕ, ◌<◌, ◌≡◌, [], ◌∷◌, pos, nat_abs}
use Rattle.grid.specs.Points.{Point, at}
use Rattle.grid.specs.Sets.{PointSet, translate, fold, dilated, ◌≈◌}
use Rattle.grid.specs.Figures.{figure, element}
use Rattle.grid.specs.Starred.{Drawing, drawn, IsPixel, pair, one_row}

-- the union, over the points a of A, of S(a)K moved to a
abbrev pub dilated_by_sizes : PointSet → (Point → ℕ) → PointSet → PointSet
dilated_by_sizes A S K x = (a : Point) × A a × translate (fold K (S a)) a x

-- sizes given by row and column, for the points of a frame, where neither is negative
abbrev pub sizes_of : (ℕ → ℕ → ℕ) → Point → ℕ
sizes_of size a = size (nat_abs a.row) (nat_abs a.col)

-- ONE SIZE FOR ALL is the plain dilation
abbrev pub OneSizeDilates : Type 1
OneSizeDilates = (A K : PointSet) (S : Point → ℕ) (n : ℕ) → ((a : Point) → A a → S a ≡ n) → dilated_by_sizes A S K ≈ dilated A K n

-- Worked by hand, and drawn as the starred cases are: points 1 and 5 of a row of seven, dilated by sizes 0 and 1 with the origin
-- and its right neighbour. The sizes at background points are of no account.
abbrev pub two_points : Drawing
two_points = one_row (0 ∷ 1 ∷ 0 ∷ 0 ∷ 0 ∷ 1 ∷ 0 ∷ [])

abbrev pub their_sizes : Drawing
their_sizes = one_row (9 ∷ 0 ∷ 9 ∷ 9 ∷ 9 ∷ 1 ∷ 9 ∷ [])

abbrev pub their_points : Drawing
their_points = one_row (0 ∷ 1 ∷ 0 ∷ 0 ∷ 0 ∷ 1 ∷ 1 ∷ [])

abbrev pub TwoSizes : Type 0
TwoSizes = (row : ℕ) → row < 1 → (col : ℕ) → col < 7
    → IsPixel (dilated_by_sizes (figure 7 1 (drawn two_points)) (sizes_of (drawn their_sizes)) (element 3 (drawn pair))
    (at (pos row) (pos col))) (drawn their_points row col)
