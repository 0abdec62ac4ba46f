-- A sheet cropped from a larger one: its border is no real edge, so beyond the frame there is foreground.
use Rattle.std.specs.Prelude.{◌↔◌, ◌⊎◌, ℕ}
use Rattle.grid.specs.Points.{Point}
use Rattle.grid.specs.Sets.{PointSet, reflect, eroded, dilated}
use Rattle.grid.specs.Figures.{frame}

-- the set together with every point outside the frame
abbrev pub uncropped : ℕ → ℕ → PointSet → PointSet
uncropped width height A x = A x ⊎ ¬ frame width height x

-- the frame's points that are not in the set
abbrev pub background : ℕ → ℕ → PointSet → PointSet
background width height A x = frame width height x × ¬ A x

-- DUALITY: at every size, eroding with foreground beyond the frame leaves exactly what dilating the frame's background by the
-- reflected element does not reach. It holds at every point of the grid; in the frame it is the frame's complement.
abbrev pub Duality : Type 1
Duality =
    (width height : ℕ) (A K : PointSet) → ((x : Point) → Dec (A x)) → (n : ℕ) (x : Point) →
    eroded (uncropped width height A) K n x ↔ (¬ dilated (background width height A) (reflect K) n x)
