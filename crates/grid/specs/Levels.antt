-- The level of a point, after Chen and Haralick's definitions 12, 13, 14 and 18, with a cap: docs/RULES.md.
-- F n says that the point is held at size n.
use Rattle.std.specs.Prelude.{◌≡◌, ◌⊎◌, ℕ, suc, ◌≤◌, ◌<◌}
use Rattle.grid.specs.Points.{Point}
use Rattle.grid.specs.Sets.{PointSet, eroded, dilated, opened, closed}

-- m is the largest for which size m - 1 holds, and 0 if there is none
pub record IsLast (F : ℕ → Type 0) (m : ℕ) : Type 0 where
  pub holds : (k : ℕ) → m ≡ suc k → F k
  pub above : (j : ℕ) → F j → j < m

-- m is the least from 1 to R + 1 for which size m - 1 holds, and 0 if there is none
pub record IsFirst (R : ℕ) (F : ℕ → Type 0) (m : ℕ) : Type 0 where
  pub capped : m ≤ suc R
  pub holds : (k : ℕ) → m ≡ suc k → F k
  pub below : (j : ℕ) → j ≤ R → F j → (0 < m) × (m ≤ suc j)

-- m is the level of x, of the set A and the element K
abbrev pub IsErosionLevel : PointSet → PointSet → Point → ℕ → Type 0
IsErosionLevel A K x = IsLast (λ n. eroded A K n x)

abbrev pub IsOpeningLevel : PointSet → PointSet → Point → ℕ → Type 0
IsOpeningLevel A K x = IsLast (λ n. opened A K n x)

-- the same up to the cap R
abbrev pub IsDilationLevel : ℕ → PointSet → PointSet → Point → ℕ → Type 0
IsDilationLevel R A K x = IsFirst R (λ n. dilated A K n x)

abbrev pub IsClosingLevel : ℕ → PointSet → PointSet → Point → ℕ → Type 0
IsClosingLevel R A K x = IsFirst R (λ n. closed A K n x)

-- the erosion level where it is at most R; 65,535 where eroding by R still holds the point
abbrev pub more_than_cap : ℕ
more_than_cap = 65535

abbrev pub IsErosionLevelUpTo : ℕ → PointSet → PointSet → Point → ℕ → Type 0
IsErosionLevelUpTo R A K x m = ((m ≤ R) × IsErosionLevel A K x m) ⊎ ((m ≡ more_than_cap) × eroded A K R x)
