-- Sets given cell by cell: the frame, the foreground of a sheet, and an element.
use Rattle.std.specs.Prelude.{◌≡◌, ℕ, ◌-◌, ◌/◌, ◌<◌, pos}
use Rattle.grid.specs.Points.{at, ◌⊕◌}
use Rattle.grid.specs.Sets.{PointSet}

-- the frame, its upper left point at the origin
abbrev pub frame : ℕ → ℕ → PointSet
frame width height p = (row col : ℕ) × (row < height) × (col < width) × (p ≡ at (pos row) (pos col))

-- the points of the frame whose cell, by row and column, is 1
abbrev pub figure : ℕ → ℕ → (ℕ → ℕ → ℕ) → PointSet
figure width height cell p = (row col : ℕ) × (row < height) × (col < width) × (cell row col ≡ 1) × (p ≡ at (pos row) (pos col))

-- how far an element of a side reaches from its centre
abbrev pub reach : ℕ → ℕ
reach side = (side - 1) / 2

-- an element: the cells that are 1 in a square, with the origin at its centre
abbrev pub element : ℕ → (ℕ → ℕ → ℕ) → PointSet
element side cell b = figure side side cell (b ⊕ at (pos (reach side)) (pos (reach side)))
