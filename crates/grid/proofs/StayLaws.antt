-- A closing of a set in a frame lies in the frame, for every element that has a point.
-- Where x lies further out than all of the set, every b of nK has x + b = a + c, with c of nK further out than b. So nK would
-- reach without an end; but it reaches n times as far as the element at most.
use mathlib.Core.Path.{◌≡◌, refl, sym, ◌∙◌, ap, ap₂}
use Prim.Native.Nat.{ℕ, zero, suc, ◌+◌, ◌-◌, ◌*◌, ◌≤◌, ◌<◌}
use native.Mathlib.Decide.{dec_lt}
use native.Mathlib.Omega.{arith}
use lib.IntN.{ℤ, pos, negsuc, neg_ℤ, ◌+ℤ◌, ◌-ℤ◌, nat_abs, +ℤ_idr, +ℤ_assoc, +ℤ_comm, +ℤ-neg_ℤ_cancel, neg_ℤ-+ℤ}
use Rattle.grid.specs.Points.{Point, at, origin, ◌⊕◌}
use Rattle.grid.specs.Sets.{PointSet, fold, closed}
use Rattle.grid.specs.Figures.{element}
use Rattle.grid.specs.Chains.{ClosingsStay}
use Rattle.grid.proofs.ReachLaws.{element_within, abs_turned, abs_sum, fold_reach, times, times_fold}

-- of integers: what is added on the left on both sides may go; a difference is no larger than both its ends together
cancel_left : (z p q : ℤ) → z +ℤ p ≡ z +ℤ q → p ≡ q
cancel_left z p q e =
    sym (+ℤ-neg_ℤ_cancel p z) ∙ ap (λ y. y -ℤ z) (+ℤ_comm p z ∙ e ∙ +ℤ_comm z q) ∙ +ℤ-neg_ℤ_cancel q z

apart : (m : ℕ) (z y : ℤ) → y ≡ z +ℤ pos m → m ≤ nat_abs y + nat_abs z
apart m z y e =
    let d : pos m ≡ y +ℤ neg_ℤ z = sym (+ℤ-neg_ℤ_cancel (pos m) z) ∙ ap (λ w. w -ℤ z) (+ℤ_comm (pos m) z ∙ sym e) in
    let s = abs_sum y (neg_ℤ z) in
    let t = abs_turned z in
    let u : m ≡ nat_abs (y +ℤ neg_ℤ z) = ap nat_abs d in
    omega arith

-- an element with a point, bounded in a coordinate by r
module _ (A K : PointSet) (b₀ : Point) (has : K b₀) (r n : ℕ) where
  -- further out than every point of A, a closing holds nothing
  module _ (coord : Point → ℤ) (null : coord origin ≡ pos 0) (add : (p q : Point) → coord (p ⊕ q) ≡ coord p +ℤ coord q)
      (near : (b : Point) → K b → nat_abs (coord b) ≤ r) (x : Point)
      (further : (a : Point) → A a → (d : ℕ) × (coord x ≡ coord a +ℤ pos (suc d))) where
    climb : closed A K n x → (k : ℕ) → (b : Point) × fold K n b × (m : ℕ) × (k ≤ m) × (coord b ≡ coord (times n b₀) +ℤ pos m)
    climb h zero = (times n b₀, times_fold K b₀ has n, 0, omega arith, sym (+ℤ_idr (coord (times n b₀))))
    climb h (suc k) =
        let (b, hb, m, l, e) = climb h k in
        let (a, c, ha, hc, f) = h b hb in
        let (d, g) = further a ha in
        let sums : coord a +ℤ coord c ≡ coord a +ℤ (pos (suc d) +ℤ coord b) =
        sym (add a c) ∙ ap coord (sym f) ∙ add x b ∙ ap (λ z. z +ℤ coord b) g ∙ +ℤ_assoc (coord a) (pos (suc d)) (coord b) in (
          c,
          hc,
          m + suc d,
          omega arith,
          cancel_left (coord a) (coord c) (pos (suc d) +ℤ coord b) sums ∙ +ℤ_comm (pos (suc d)) (coord b)
              ∙ ap (λ z. z +ℤ pos (suc d)) e ∙ +ℤ_assoc (coord (times n b₀)) (pos m) (pos (suc d)),
        )

    none_further : ¬ closed A K n x
    none_further h =
        let (b, hb, m, l, e) = climb h (suc (n * r + n * r)) in
        let i = fold_reach K coord r null add near n b hb in
        let j = fold_reach K coord r null add near n (times n b₀) (times_fold K b₀ has n) in
        let k = apart m (coord (times n b₀)) (coord b) e in
        omega arith

  -- so where A keeps to the places 0 to side - 1, a closing does: beyond them is further out, and below them is so turned about
  module _ (coord : Point → ℤ) (null : coord origin ≡ pos 0) (add : (p q : Point) → coord (p ⊕ q) ≡ coord p +ℤ coord q)
      (near : (b : Point) → K b → nat_abs (coord b) ≤ r) (side : ℕ)
      (kept : (a : Point) → A a → (c : ℕ) × (c < side) × (coord a ≡ pos c)) (x : Point) (h : closed A K n x) where
    not_beyond : (u : ℕ) → coord x ≡ pos u → u < side
    not_beyond u e = test (dec_lt u side)
      where
        further : side ≤ u → (a : Point) → A a → (d : ℕ) × (coord x ≡ coord a +ℤ pos (suc d))
        further l a ha =
            let (c, k, f) = kept a ha in
            let s : u ≡ c + suc (u - suc c) = omega arith in
            (u - suc c, e ∙ ap (λ (i : ℕ). pos i) s ∙ ap (λ z. z +ℤ pos (suc (u - suc c))) (sym f))

        test : Dec (u < side) → u < side
        test (yes l) = l
        test (no f) = absurd (none_further coord null add near x (further (omega arith)) h)

    not_below : (v : ℕ) → coord x ≡ negsuc v → ⊥
    not_below v e =
        none_further (λ p. neg_ℤ (coord p)) (ap neg_ℤ null) (λ p q. ap neg_ℤ (add p q) ∙ neg_ℤ-+ℤ (coord p) (coord q))
        (λ b k. rw abs_turned (near b k)) x further h
      where
        further : (a : Point) → A a → (d : ℕ) × (neg_ℤ (coord x) ≡ neg_ℤ (coord a) +ℤ pos (suc d))
        further a ha =
            let (c, k, f) = kept a ha in
            let s : suc v + c ≡ suc (v + c) = omega arith in (
              v + c,
              ap neg_ℤ e ∙ sym (+ℤ-neg_ℤ_cancel (pos (suc v)) (pos c)) ∙ ap (λ (i : ℕ). pos i -ℤ pos c) s
                  ∙ +ℤ_comm (pos (suc (v + c))) (neg_ℤ (pos c)) ∙ ap (λ z. neg_ℤ z +ℤ pos (suc (v + c))) (sym f),
            )

    side_kept : (c : ℕ) × (c < side) × (coord x ≡ pos c)
    side_kept = signs (coord x) refl
      where
        signs : (z : ℤ) → coord x ≡ z → (c : ℕ) × (c < side) × (coord x ≡ pos c)
        signs (pos u) e = (u, not_beyond u e, e)
        signs (negsuc v) e = absurd (not_below v e)

pub closings_stay : ClosingsStay
closings_stay width height A inside side cell b has n x h =
    let (row, i, e) = side_kept A K b has side n (λ p. p.row) refl (λ p q. refl) (λ c k. (near c k).0) height
    (λ a ha. let (r, c, k, l, f) = inside a ha in (r, k, ap (λ p. p.row) f)) x h in
    let (col, j, f) = side_kept A K b has side n (λ p. p.col) refl (λ p q. refl) (λ c k. (near c k).1) width
    (λ a ha. let (r, c, k, l, f) = inside a ha in (c, l, ap (λ p. p.col) f)) x h in
    (row, col, i, j, ap₂ at e f)
  where
    K : PointSet
    K = element side cell

    near : (c : Point) → K c → (nat_abs c.row ≤ side) × (nat_abs c.col ≤ side)
    near c = element_within side cell c side (omega arith) (omega arith)
