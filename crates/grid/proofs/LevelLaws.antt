-- A level fixes its value; and what a level says of each size: the thresholding facts.
-- All four levels come from two lemmas, over any property F of sizes that falls or grows.
use mathlib.Core.Path.{◌≡◌, refl, sym, ap, subst, ◌∙◌}
use mathlib.Core.Logic.{◌↔◌, inl, inr}
use Prim.Native.Nat.{ℕ, zero, suc, ◌≤◌, ◌<◌}
use native.Mathlib.Decide.{dec_lt}
use native.Mathlib.Nat.{le_antisymm}
use native.Mathlib.Omega.{arith}
use Rattle.grid.specs.Points.{Point, origin, ◌⊕◌}
use Rattle.grid.specs.Sets.{PointSet, eroded, dilated, opened, closed}
use Rattle.grid.specs.Levels.{IsLast, IsFirst, IsErosionLevel, IsOpeningLevel, IsDilationLevel, IsClosingLevel}
use Rattle.grid.specs.Levels.{more_than_cap, IsErosionLevelUpTo}
use Rattle.grid.proofs.PointLaws.{⊕-origin}
use Rattle.grid.proofs.SetLaws.{eroded_shrinks, dilated_grows, opened_shrinks, closed_grows}

pub last_unique : {F : ℕ → Type 0} {m n : ℕ} → IsLast F m → IsLast F n → m ≡ n
last_unique p q = le_antisymm (le p q) (le q p)
  where
    le : {F : ℕ → Type 0} {m n : ℕ} → IsLast F m → IsLast F n → m ≤ n
    le {m = zero} p q = omega arith
    le {m = suc k} p q = q.above k (p.holds k refl)

pub first_unique : {R : ℕ} {F : ℕ → Type 0} {m n : ℕ} → IsFirst R F m → IsFirst R F n → m ≡ n
first_unique {m = zero} {n = zero} p q = refl
first_unique {m = zero} {n = suc k} p q = let h : zero < zero =
    (p.below k (let c = q.capped in omega arith) (q.holds k refl)).0 in omega arith
first_unique {m = suc k} {n = zero} p q = let h : zero < zero =
    (q.below k (let c = p.capped in omega arith) (p.holds k refl)).0 in omega arith
first_unique {m = suc j} {n = suc k} p q = let h = (p.below k (let c = q.capped in omega arith) (q.holds k refl)).1 in
    let g = (q.below j (let c = p.capped in omega arith) (p.holds j refl)).1 in omega arith

-- where F falls as the size grows, size j holds exactly below the level
pub last_iff : {F : ℕ → Type 0} {m : ℕ} → ((i j : ℕ) → i ≤ j → F j → F i) → IsLast F m → (j : ℕ) → F j ↔ (j < m)
last_iff {m = zero} falls p j = (p.above j, λ l. absurd (omega arith))
last_iff {m = suc k} falls p j = (p.above j, λ l. falls j k (omega arith) (p.holds k refl))

-- where F grows, size j up to the cap holds exactly from the level on
pub first_iff : {R : ℕ} {F : ℕ → Type 0} {m : ℕ} → ((i j : ℕ) → i ≤ j → F i → F j) → IsFirst R F m → (j : ℕ) → j ≤ R
    → F j ↔ ((0 < m) × (m ≤ suc j))
first_iff {m = zero} grows p j l = (p.below j l, λ q. absurd (let z = q.0 in omega arith))
first_iff {m = suc k} grows p j l = (p.below j l, λ q. grows k j (let z = q.1 in omega arith) (p.holds k refl))

-- the thresholding facts
module _ (A K : PointSet) (x : Point) {m : ℕ} where
  pub erosion_iff : K origin → IsErosionLevel A K x m → (n : ℕ) → eroded A K n x ↔ (n < m)
  erosion_iff o p = last_iff (λ i j l. eroded_shrinks A K o i j l x) p

  -- 0 exactly off A
  pub erosion_zero : K origin → IsErosionLevel A K x m → (m ≡ 0) ↔ (¬ A x)
  erosion_zero o p = (
    (λ z h. let l = (erosion_iff o p 0).0 (λ b e. subst A (sym (ap (λ b. x ⊕ b) e ∙ ⊕-origin x)) h) in absurd (omega arith)),
    (λ n. go (dec_lt 0 m) n),
  )
    where
      go : Dec (0 < m) → ¬ A x → m ≡ 0
      go (no l) n = omega arith
      go (yes l) n = absurd (n (subst A (⊕-origin x) ((erosion_iff o p 0).1 l origin refl)))

  pub opening_iff : IsOpeningLevel A K x m → (n : ℕ) → opened A K n x ↔ (n < m)
  opening_iff p = last_iff (λ i j l. opened_shrinks A K i j l x) p

  -- 1 or more exactly on A, as opening by 0 holds A
  pub opening_positive : IsOpeningLevel A K x m → A x ↔ (0 < m)
  opening_positive p = let i = opening_iff p 0 in (
    (λ h. i.0 (x, origin, (λ b e. subst A (sym (ap (λ b. x ⊕ b) e ∙ ⊕-origin x)) h), refl, sym (⊕-origin x))),
    (λ l. held (i.1 l)),
  )
    where
      held : opened A K 0 x → A x
      held (a, b, h, e, q) = subst A (sym q) (h b e)

  pub dilation_iff : {R : ℕ} → K origin → IsDilationLevel R A K x m → (n : ℕ) → n ≤ R → dilated A K n x ↔ ((0 < m) × (m ≤ suc n))
  dilation_iff o p = first_iff (λ i j l. dilated_grows A K o i j l x) p

  pub closing_iff : {R : ℕ} → IsClosingLevel R A K x m → (n : ℕ) → n ≤ R → closed A K n x ↔ ((0 < m) × (m ≤ suc n))
  closing_iff p = first_iff (λ i j l. closed_grows A K i j l x) p

-- THE LEVEL UP TO A CAP: there is one at most, and it tells the sizes up to the cap
module _ (R : ℕ) (A K : PointSet) (x : Point) {m : ℕ} where
  pub up_to_unique : {n : ℕ} → IsErosionLevelUpTo R A K x m → IsErosionLevelUpTo R A K x n → m ≡ n
  up_to_unique (inl (l, p)) (inl (k, q)) = last_unique p q
  up_to_unique (inl (l, p)) (inr (e, h)) = let g = p.above R h in absurd (omega arith)
  up_to_unique (inr (e, h)) (inl (k, q)) = let g = q.above R h in absurd (omega arith)
  up_to_unique (inr (e, h)) (inr (f, g)) = e ∙ sym f

  pub up_to_iff : K origin → R < more_than_cap → IsErosionLevelUpTo R A K x m → (n : ℕ) → n ≤ R → eroded A K n x ↔ (n < m)
  up_to_iff o below (inl (l, p)) n k = erosion_iff A K x o p n
  up_to_iff o below (inr (e, h)) n k = ((λ g. omega arith), λ g. eroded_shrinks A K o n R k x h)
