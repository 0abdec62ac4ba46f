-- How the lists of an answer are read on the infinite grid, at the points of the frame.
use Rattle.std.specs.Prelude.{ℕ, ◌+◌, ◌*◌, ◌<◌, ◌≡◌, ◌↔◌, List, pos, get_or}
use Rattle.grid.specs.Points.{Point, at}
use Rattle.grid.specs.Sets.{PointSet}
use Rattle.sheet.specs.Sheets.{pixel}

-- levels, row by row: each is the level of its point
abbrev pub LevelsMean : ℕ → ℕ → (Point → ℕ → Type 0) → List ℕ → Type 0
LevelsMean width height IsLevel levels = (row col : ℕ) → row < height → col < width
    → IsLevel (at (pos row) (pos col)) (get_or levels (row * width + col) 0)

-- a packed sheet: its pixels are 1 exactly at the points of the set
abbrev pub SheetMeans : ℕ → ℕ → PointSet → List ℕ → Type 0
SheetMeans width height A sheet = (row col : ℕ) → row < height → col < width
    → (pixel width sheet row col ≡ 1) ↔ A (at (pos row) (pos col))

-- a packed sheet that holds all points of the set, or none but these
abbrev pub SheetContains : ℕ → ℕ → PointSet → List ℕ → Type 0
SheetContains width height A sheet = (row col : ℕ) → row < height → col < width
    → A (at (pos row) (pos col)) → pixel width sheet row col ≡ 1

abbrev pub SheetWithin : ℕ → ℕ → PointSet → List ℕ → Type 0
SheetWithin width height A sheet = (row col : ℕ) → row < height → col < width
    → pixel width sheet row col ≡ 1 → A (at (pos row) (pos col))
