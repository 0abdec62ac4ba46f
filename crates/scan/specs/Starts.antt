-- What the start levels of an erosion and of a dilation must hold for the scan to find the levels of a set A by an element K.
use Rattle.std.specs.Prelude.{◌≡◌, ◌≢◌, List, ℕ, suc, ◌+◌, ◌*◌, ◌≤◌, ◌<◌, pos, ◌-ℤ◌, nat_abs, length, get_or}
use Rattle.grid.specs.Points.{Point, at, origin}
use Rattle.grid.specs.Sets.{PointSet, reflect, ◌⊆◌, ◌≈◌}
use Rattle.grid.specs.Figures.{frame}
use Rattle.row.specs.declared.Area.{Area}
use Rattle.row.specs.RowRule.{none}
use Rattle.scan.specs.Look.{partners}

-- An erosion is worked on the frame: 65,535 on A and 0 elsewhere in the frame and beyond it. The partners are K.
pub record ErosionStart (area : Area) (A K : PointSet) (start : List ℕ) : Type 0 where
  pub narrow : area.width < none
  pub low : area.height < none
  pub zero_beyond : area.beyond ≡ 0
  pub partners_are : partners area.cells ≈ K
  pub has_origin : K origin
  pub other : Point
  pub has_other : K other
  pub not_origin : other ≢ origin
  pub decide : (x : Point) → Dec (A x)
  pub inside : A ⊆ frame area.width area.height
  pub size : length start ≡ area.height * area.width
  pub on : (row col : ℕ) → row < area.height → col < area.width → A (at (pos row) (pos col))
      → get_or start (row * area.width + col) 0 ≡ none
  pub off : (row col : ℕ) → row < area.height → col < area.width → ¬ A (at (pos row) (pos col))
      → get_or start (row * area.width + col) 0 ≡ 0

-- the point of the grid at a row and a column of a canvas with a margin
abbrev pub on_canvas : ℕ → ℕ → ℕ → Point
on_canvas margin row col = at (pos row -ℤ pos margin) (pos col -ℤ pos margin)

-- A dilation up to the cap R is worked on a canvas: the frame with a margin of R times the reach r of K on each side. Each point of
-- A starts with a level of its own, and 65,535 stands elsewhere and beyond. The partners are K turned about.
pub record OwnStart (area : Area) (width height R r : ℕ) (A K : PointSet) (own : Point → ℕ) (start : List ℕ) : Type 0 where
  pub canvas_width : area.width ≡ width + 2 * (R * r)
  pub canvas_height : area.height ≡ height + 2 * (R * r)
  pub none_beyond : area.beyond ≡ none
  pub partners_are : partners area.cells ≈ reflect K
  pub row_reach : (b : Point) → K b → nat_abs b.row ≤ r
  pub col_reach : (b : Point) → K b → nat_abs b.col ≤ r
  pub cap_fits : suc R < none
  pub decide : (x : Point) → Dec (A x)
  pub inside : A ⊆ frame width height
  pub size : length start ≡ area.height * area.width
  pub on : (row col : ℕ) → row < area.height → col < area.width → A (on_canvas (R * r) row col)
      → get_or start (row * area.width + col) 0 ≡ own (on_canvas (R * r) row col)
  pub off : (row col : ℕ) → row < area.height → col < area.width → ¬ A (on_canvas (R * r) row col)
      → get_or start (row * area.width + col) 0 ≡ none

-- a plain dilation starts with 1 on all of A
abbrev pub DilationStart : Area → ℕ → ℕ → ℕ → ℕ → PointSet → PointSet → List ℕ → Type 0
DilationStart area width height R r A K = OwnStart area width height R r A K (λ a. 1)
