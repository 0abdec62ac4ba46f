-- A level found by going through the sizes one by one, where each size that holds is written over what was found before.
-- Upwards the last that holds stands in the end, downwards the first. Neither law asks whether what holds shrinks or grows.
use mathlib.Core.Path.{◌≡◌, subst}
use Prim.Native.Nat.{ℕ, suc, ◌+◌, ◌≤◌, ◌<◌}
use native.Mathlib.Decide.{ℕ_discrete}
use native.Mathlib.Omega.{arith}
use Rattle.grid.specs.Levels.{IsLast, IsFirst}

-- m is the largest for which size m - 1 holds, of the sizes below n
pub record LastBelow (n : ℕ) (F : ℕ → Type 0) (m : ℕ) : Type 0 where
  pub holds : (k : ℕ) → m ≡ suc k → F k
  pub above : (j : ℕ) → j < n → F j → j < m

pub last_start : (F : ℕ → Type 0) → LastBelow 0 F 0
last_start F = record { holds = λ k e. absurd (omega arith); above = λ j l. absurd (omega arith) }

module _ {n : ℕ} {F : ℕ → Type 0} {m : ℕ} (found : LastBelow n F m) where
  pub last_held : F n → LastBelow (n + 1) F (n + 1)
  last_held h = record { holds = λ k e. subst F (let q : n ≡ k = omega arith in q) h; above = λ j l _. omega arith }

  pub last_passed : ¬ F n → LastBelow (n + 1) F m
  last_passed f = record { holds = found.holds; above = λ j l h. go j l h (ℕ_discrete j n) }
    where
      go : (j : ℕ) → j < n + 1 → F j → Dec (j ≡ n) → j < m
      go j l h (yes e) = absurd (f (subst F e h))
      go j l h (no e) = found.above j (omega arith) h

  -- where no size from n on holds
  pub last_end : ((j : ℕ) → F j → j < n) → IsLast F m
  last_end bound = record { holds = found.holds; above = λ j h. found.above j (bound j h) h }

-- m is the least for which size m - 1 holds, of the sizes from n to R, and 0 if there is none
pub record FirstFrom (n R : ℕ) (F : ℕ → Type 0) (m : ℕ) : Type 0 where
  pub capped : m ≤ suc R
  pub holds : (k : ℕ) → m ≡ suc k → F k
  pub below : (j : ℕ) → n ≤ j → j ≤ R → F j → (0 < m) × (m ≤ suc j)

pub first_start_lem : (R : ℕ) (F : ℕ → Type 0) → FirstFrom (R + 1) R F 0
first_start_lem R F = record { capped = omega arith; holds = λ k e. absurd (omega arith); below = λ j a b. absurd (omega arith) }

module _ {n R : ℕ} {F : ℕ → Type 0} {m : ℕ} (found : FirstFrom (n + 1) R F m) where
  pub first_held : n ≤ R → F n → FirstFrom n R F (n + 1)
  first_held l h = record {
    capped = omega arith;
    holds = λ k e. subst F (let q : n ≡ k = omega arith in q) h;
    below = λ j a b _. (omega arith, omega arith);
  }

  pub first_passed : ¬ F n → FirstFrom n R F m
  first_passed f = record { capped = found.capped; holds = found.holds; below = λ j a b h. go j a b h (ℕ_discrete j n) }
    where
      go : (j : ℕ) → n ≤ j → j ≤ R → F j → Dec (j ≡ n) → (0 < m) × (m ≤ suc j)
      go j a b h (yes e) = absurd (f (subst F e h))
      go j a b h (no e) = found.below j (omega arith) b h

pub first_end : {R : ℕ} {F : ℕ → Type 0} {m : ℕ} → FirstFrom 0 R F m → IsFirst R F m
first_end found = record { capped = found.capped; holds = found.holds; below = λ j b h. found.below j (omega arith) b h }
