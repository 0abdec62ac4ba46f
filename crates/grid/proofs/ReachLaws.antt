-- How far sets reach: how far a fold nK leads, and that steps other than the origin leave every frame.
-- Coordinates are taken one at a time; by the signs they are sums of naturals, which omega reads.
use mathlib.Core.Path.{◌≡◌, refl, sym, ◌∙◌, ap, ap₂}
use mathlib.Core.Logic.{◌≢◌}
use mathlib.Core.Bool.{Bool, true, false, cond}
use Prim.Native.Nat.{ℕ, zero, suc, ◌+◌, ◌*◌, ◌-◌, ◌%◌, ◌≤◌, ◌<◌, max}
use native.Mathlib.Omega.{arith}
use lib.Dec.{ltb}
use lib.IntN.{ℤ, pos, negsuc, neg_ℤ, ◌+ℤ◌, nat_abs, ℤ_discrete, +ℤ_comm, neg_ℤ-+ℤ, -ℤ-+ℤ_cancel}
use Rattle.grid.specs.Points.{Point, at, origin, ◌⊕◌}
use Rattle.grid.specs.Sets.{PointSet, fold, ◌⊆◌}
use Rattle.grid.specs.Figures.{frame, figure, reach, element}
use Rattle.grid.proofs.PointLaws.{pos_inj, sum_neg}

-- a figure lies in its frame
pub figure_in : (width height : ℕ) (cell : ℕ → ℕ → ℕ) → figure width height cell ⊆ frame width height
figure_in width height cell p (row, col, a, b, one, e) = (row, col, a, b, e)

-- an element lies within r, where r is no less than its reach to either side
pub element_within : (side : ℕ) (cell : ℕ → ℕ → ℕ) (b : Point) (r : ℕ) → reach side ≤ r → side ≤ reach side + suc r
    → element side cell b → (nat_abs b.row ≤ r) × (nat_abs b.col ≤ r)
element_within side cell b r low high (row, col, i, j, one, e) =
    (near b.row row i (ap (λ p. p.row) e), near b.col col j (ap (λ p. p.col) e))
  where
    near : (z : ℤ) (n : ℕ) → n < side → z +ℤ pos (reach side) ≡ pos n → nat_abs z ≤ r
    near (pos c) n l f = let h = pos_inj f in omega arith
    near (negsuc c) n l f = let h = sum_neg (reach side) c n (+ℤ_comm (pos (reach side)) (negsuc c) ∙ f) in omega arith

-- one of an odd side reaches half of it, less the centre
pub element_reach : (side : ℕ) (cell : ℕ → ℕ → ℕ) (b : Point) → side % 2 ≡ 1 → element side cell b
    → (nat_abs b.row ≤ reach side) × (nat_abs b.col ≤ reach side)
element_reach side cell b odd = element_within side cell b (reach side) (omega arith) (omega arith)

-- turned about, a point is as far from the origin
pub abs_turned : (z : ℤ) → nat_abs (neg_ℤ z) ≡ nat_abs z
abs_turned (pos zero) = refl
abs_turned (pos (suc n)) = refl
abs_turned (negsuc n) = refl

-- a sum is no larger than its parts together
pub abs_sum : (a b : ℤ) → nat_abs (a +ℤ b) ≤ nat_abs a + nat_abs b
abs_sum (pos m) (pos n) = omega arith
abs_sum (pos m) (negsuc n) = signs (ltb m (suc n))
  where
    signs : (t : Bool) → nat_abs (cond t (negsuc (suc n - suc m)) (pos (m - suc n))) ≤ m + suc n
    signs true = omega arith
    signs false = omega arith
abs_sum (negsuc m) (pos n) = signs (ltb n (suc m))
  where
    signs : (t : Bool) → nat_abs (cond t (negsuc (suc m - suc n)) (pos (n - suc m))) ≤ suc m + n
    signs true = omega arith
    signs false = omega arith
abs_sum (negsuc m) (negsuc n) = omega arith

-- a fold nK reaches n times as far as K, in a coordinate
pub fold_reach : (K : PointSet) (coord : Point → ℤ) (r : ℕ) → coord origin ≡ pos 0
    → ((p q : Point) → coord (p ⊕ q) ≡ coord p +ℤ coord q) → ((b : Point) → K b → nat_abs (coord b) ≤ r)
    → (n : ℕ) (b : Point) → fold K n b → nat_abs (coord b) ≤ n * r
fold_reach K coord r null add near zero b e = let h : nat_abs (coord b) ≡ 0 = ap (λ p. nat_abs (coord p)) e ∙ ap nat_abs null in
    omega arith
fold_reach K coord r null add near (suc n) b (c, d, hc, hd, e) =
    let h : nat_abs (coord b) ≡ nat_abs (coord c +ℤ coord d) = ap (λ p. nat_abs (coord p)) e ∙ ap nat_abs (add c d) in
    let f = near c hc in
    let g = fold_reach K coord r null add near n d hd in
    let s = abs_sum (coord c) (coord d) in
    omega arith

-- n steps by b
abbrev pub times : ℕ → Point → Point
times zero b = origin
times (suc n) b = b ⊕ times n b

pub times_fold : (K : PointSet) (b : Point) → K b → (n : ℕ) → fold K n (times n b)
times_fold K b h zero = refl
times_fold K b h (suc n) = (b, times n b, h, times_fold K b h n, refl)

-- n steps that change a coordinate change it by n at least
module _ (coord : Point → ℤ) (null : coord origin ≡ pos 0) (add : (p q : Point) → coord (p ⊕ q) ≡ coord p +ℤ coord q)
    (b : Point) where
  forward : (c : ℕ) → coord b ≡ pos (suc c) → (n : ℕ) → (m : ℕ) × (n ≤ m) × (coord (times n b) ≡ pos m)
  forward c e zero = (0, omega arith, null)
  forward c e (suc n) = let (m, l, f) = forward c e n in (suc c + m, omega arith, add b (times n b) ∙ ap₂ ◌+ℤ◌ e f)

  backward : (c : ℕ) → coord b ≡ negsuc c → (n : ℕ) → (m : ℕ) × (n ≤ m) × (coord (times n b) ≡ neg_ℤ (pos m))
  backward c e zero = (0, omega arith, null)
  backward c e (suc n) = let (m, l, f) = backward c e n in
      (suc c + m, omega arith, add b (times n b) ∙ ap₂ ◌+ℤ◌ e f ∙ sym (neg_ℤ-+ℤ (pos (suc c)) (pos m)))

  times_far : coord b ≢ pos 0 → (n u v : ℕ) → pos u +ℤ coord (times n b) ≡ pos v → n ≤ max u v
  times_far ne n u v e = signs (coord b) refl
    where
      signs : (z : ℤ) → coord b ≡ z → n ≤ max u v
      signs (pos zero) f = absurd (ne f)
      signs (pos (suc c)) f =
          let (m, l, g) = forward c f n in
          let h : u + m ≡ v = pos_inj (ap (λ z. pos u +ℤ z) (sym g) ∙ e) in
          omega arith
      signs (negsuc c) f =
          let (m, l, g) = backward c f n in
          let h : u ≡ v + m = pos_inj
          (sym (-ℤ-+ℤ_cancel (pos u) (pos m)) ∙ ap (λ z. z +ℤ pos m) (ap (λ z. pos u +ℤ z) (sym g) ∙ e)) in
          omega arith

-- as many steps as the larger side, by a point other than the origin, lead out of a frame
pub leaves : (width height : ℕ) (b x : Point) → b ≢ origin → frame width height x
    → ¬ frame width height (x ⊕ times (max width height) b)
leaves width height b x ne (r, c, a, d, e) (r', c', a', d', e') = cases (ℤ_discrete b.row (pos 0))
  where
    n : ℕ
    n = max width height

    end : at (pos r) (pos c) ⊕ times n b ≡ at (pos r') (pos c')
    end = ap (λ p. p ⊕ times n b) (sym e) ∙ e'

    cases : Dec (b.row ≡ pos 0) → ⊥
    cases (no f) = let l = times_far (λ p. p.row) refl (λ p q. refl) b f n r r' (ap (λ p. p.row) end) in omega arith
    cases (yes f) = let l = times_far (λ p. p.col) refl (λ p q. refl) b (λ h. ne (ap₂ at f h)) n c c' (ap (λ p. p.col) end) in
        omega arith
