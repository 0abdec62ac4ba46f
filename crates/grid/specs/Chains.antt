-- Filters chained with one element: opening by n and then by m is opening by the larger, and closings likewise; also where the
-- set between them is looked at in the frame only, as it is where a sheet is passed on.
use Rattle.std.specs.Prelude.{ℕ, max}
use Rattle.grid.specs.Points.{Point}
use Rattle.grid.specs.Sets.{PointSet, opened, closed, ◌⊆◌, ◌≈◌}
use Rattle.grid.specs.Figures.{frame, element}
use Rattle.grid.specs.Starred.{clipped}

-- CHAINS FOLD, of every set and element
abbrev pub OpeningsFold : Type 1
OpeningsFold = (A K : PointSet) (n m : ℕ) → opened (opened A K n) K m ≈ opened A K (max n m)

abbrev pub ClosingsFold : Type 1
ClosingsFold = (A K : PointSet) (n m : ℕ) → closed (closed A K n) K m ≈ closed A K (max n m)

-- NOTHING LEAVES THE FRAME: an opening lies in its set; a closing of a set in a frame lies in the frame, for every element that
-- has a point
abbrev pub OpeningsStay : Type 1
OpeningsStay = (A K : PointSet) (n : ℕ) → opened A K n ⊆ A

abbrev pub ClosingsStay : Type 1
ClosingsStay =
    (width height : ℕ) (A : PointSet) → A ⊆ frame width height → (side : ℕ) (cell : ℕ → ℕ → ℕ) (b : Point) → element side cell b
    → (n : ℕ) → closed A (element side cell) n ⊆ frame width height

-- SO CLIPPED CHAINS FOLD: nothing is lost at the frame between the two. Of dilations this is false (ClippingMisses)
abbrev pub ClippedOpeningsFold : Type 1
ClippedOpeningsFold =
    (width height : ℕ) (A K : PointSet) → A ⊆ frame width height → (n m : ℕ)
    → opened (clipped width height (opened A K n)) K m ≈ opened A K (max n m)

abbrev pub ClippedClosingsFold : Type 1
ClippedClosingsFold =
    (width height : ℕ) (A : PointSet) → A ⊆ frame width height → (side : ℕ) (cell : ℕ → ℕ → ℕ) (b : Point) → element side cell b
    → (n m : ℕ) → let K = element side cell in closed (clipped width height (closed A K n)) K m ≈ closed A K (max n m)
