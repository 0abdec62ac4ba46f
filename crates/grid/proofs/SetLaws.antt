-- Laws of sets: how translation, reflection, dilation and erosion fit together, and how the folds nK add up.
-- Each is a regrouping of sums of points; the folds go by induction on n.
use mathlib.Core.Path.{refl, sym, ◌∙◌, ap, subst}
use Prim.Native.Nat.{ℕ, zero, suc, ◌+◌, ◌≤◌}
use native.Mathlib.Nat.{zero-add, suc-add}
use native.Mathlib.Decide.{le_ind}
use Rattle.grid.specs.Points.{Point, origin, ◌⊕◌, neg}
use Rattle.grid.specs.Sets.{PointSet, translate, reflect, dilate, erode, fold, eroded, dilated, opened, closed, ◌⊆◌, ◌≈◌}
use Rattle.grid.proofs.PointLaws.{⊕-assoc, ⊕-comm, ⊕-swap, origin-⊕, ⊕-cancel, ⊖_cancel, ⊕-move, neg-⊕, neg_neg}

-- a translate, read backwards
pub translate_at : (A : PointSet) (t : Point) → translate A t ≈ (λ x. A (x ⊕ neg t))
translate_at A t = ((λ x h. subst A (⊕-move x h.0 t h.2) h.1), (λ x h. (x ⊕ neg t, h, sym (⊖_cancel x t))))

pub reflect_twice : (A : PointSet) → reflect (reflect A) ≈ A
reflect_twice A = ((λ x h. subst A (neg_neg x) h), (λ x h. subst A (sym (neg_neg x)) h))

-- a dilation is the union of the translates by b, an erosion the meet of those by -b
pub dilate_union : (A B : PointSet) → dilate A B ≈ (λ x. (b : Point) × B b × translate A b x)
dilate_union A B = ((λ x h. (h.1, h.3, (h.0, h.2, h.4))), (λ x h. (h.2.0, h.0, h.2.1, h.1, h.2.2)))

pub erode_meet : (A B : PointSet) → erode A B ≈ (λ x. (b : Point) → B b → translate A (neg b) x)
erode_meet A B = (
  (λ x h b hb. (x ⊕ b, h b hb, sym (⊕-cancel x b))),
  (λ x h b hb. let t = h b hb in subst A (⊕-move x t.0 (neg b) t.2 ∙ ap (λ z. x ⊕ z) (neg_neg b)) t.1),
)

pub dilate_parts : {A A' B B' : PointSet} → A ⊆ A' → B ⊆ B' → dilate A B ⊆ dilate A' B'
dilate_parts f g x h = (h.0, h.1, f h.0 h.2, g h.1 h.3, h.4)

pub erode_parts : (A A' B B' : PointSet) → A ⊆ A' → B' ⊆ B → erode A B ⊆ erode A' B'
erode_parts A A' B B' f g x h b hb = f (x ⊕ b) (h b (g b hb))

-- the same set, by a smaller element
pub erode_by : (A B B' : PointSet) → B' ⊆ B → erode A B ⊆ erode A B'
erode_by A B B' g = erode_parts A A B B' (λ p q. q) g

pub dilate_regroup : (A B C : PointSet) → dilate (dilate A B) C ≈ dilate A (dilate B C)
dilate_regroup A B C = (
  (λ x h. let g = h.2 in
      (g.0, g.1 ⊕ h.1, g.2, (g.1, h.1, g.3, h.3, refl), h.4 ∙ ap (λ z. z ⊕ h.1) g.4 ∙ ⊕-assoc g.0 g.1 h.1)),
  (λ x h. let g = h.3 in (
    h.0 ⊕ g.0,
    g.1,
    (h.0, g.0, h.2, g.2, refl),
    g.3,
    h.4 ∙ ap (λ z. h.0 ⊕ z) g.4 ∙ sym (⊕-assoc h.0 g.0 g.1),
  )),
)

-- eroding twice is eroding once by the sum
pub erode_regroup : (A B C : PointSet) → erode (erode A B) C ≈ erode A (dilate B C)
erode_regroup A B C = (
  (λ x h d hd. subst A (⊕-swap x hd.1 hd.0 ∙ ⊕-assoc x hd.0 hd.1 ∙ ap (λ z. x ⊕ z) (sym hd.4))
      (h hd.1 hd.3 hd.0 hd.2)),
  (λ x h c hc b hb. subst A (sym (⊕-assoc x b c) ∙ ⊕-swap x b c) (h (b ⊕ c) (b, c, hb, hc, refl))),
)

-- nK grows with n
pub fold_grows : (K : PointSet) → K origin → (m n : ℕ) → m ≤ n → fold K m ⊆ fold K n
fold_grows K o m n h x p = le_ind (λ j. fold K j x) p (λ j g q. (origin, x, o, q, sym (origin-⊕ x))) n h

pub fold_origin : (K : PointSet) → K origin → (n : ℕ) → fold K n origin
fold_origin K o zero = refl
fold_origin K o (suc n) = (origin, origin, o, fold_origin K o n, sym (origin-⊕ origin))

-- (n + m)K is nK + mK
pub fold_add : (K : PointSet) (n m : ℕ) → fold K (n + m) ≈ dilate (fold K n) (fold K m)
fold_add K n m = (apart n m, join n m)
  where
    apart : (n m : ℕ) → fold K (n + m) ⊆ dilate (fold K n) (fold K m)
    apart zero m x h = (origin, x, refl, (rw zero-add at h), sym (origin-⊕ x))
    apart (suc n) m x h =
        let g : dilate K (fold K (n + m)) x = rw suc-add at h in
        (dilate_regroup K (fold K n) (fold K m)).1 x (g.0, g.1, g.2, apart n m g.1 g.3, g.4)

    join : (n m : ℕ) → dilate (fold K n) (fold K m) ⊆ fold K (n + m)
    join zero m x h = rw zero-add (subst (fold K m) (sym (h.4 ∙ ap (λ z. z ⊕ h.1) h.2 ∙ origin-⊕ h.1)) h.3)
    join (suc n) m x h =
        let g = (dilate_regroup K (fold K n) (fold K m)).0 x h in
        rw suc-add (g.0, g.1, g.2, join n m g.1 g.3, g.4)

-- the folds of the element turned about are the folds turned about
pub fold_reflect : (K : PointSet) (n : ℕ) → fold (reflect K) n ≈ reflect (fold K n)
fold_reflect K n = (to n, fro n)
  where
    to : (n : ℕ) → fold (reflect K) n ⊆ reflect (fold K n)
    to zero x h = ap neg h
    to (suc n) x h = (neg h.0, neg h.1, h.2, to n h.1 h.3, ap neg h.4 ∙ neg-⊕ h.0 h.1)

    fro : (n : ℕ) → reflect (fold K n) ⊆ fold (reflect K) n
    fro zero x h = sym (neg_neg x) ∙ ap neg h
    fro (suc n) x h = (
      neg h.0,
      neg h.1,
      subst K (sym (neg_neg h.0)) h.2,
      fro n (neg h.1) (subst (fold K n) (sym (neg_neg h.1)) h.3),
      sym (neg_neg x) ∙ ap neg h.4 ∙ neg-⊕ h.0 h.1,
    )

-- erosion and dilation compose on the infinite grid: by n and then by m is by n + m
pub erosion_composes : (A K : PointSet) (n m : ℕ) → eroded (eroded A K n) K m ≈ eroded A K (n + m)
erosion_composes A K n m = (
  (λ x h. erode_by A (dilate (fold K n) (fold K m)) (fold K (n + m)) (fold_add K n m).0 x
      ((erode_regroup A (fold K n) (fold K m)).0 x h)),
  (λ x h. (erode_regroup A (fold K n) (fold K m)).1 x
      (erode_by A (fold K (n + m)) (dilate (fold K n) (fold K m)) (fold_add K n m).1 x h)),
)

pub dilation_composes : (A K : PointSet) (n m : ℕ) → dilated (dilated A K n) K m ≈ dilated A K (n + m)
dilation_composes A K n m = (
  (λ x h. dilate_parts (λ p q. q) (fold_add K n m).1 x ((dilate_regroup A (fold K n) (fold K m)).0 x h)),
  (λ x h. (dilate_regroup A (fold K n) (fold K m)).1 x (dilate_parts (λ p q. q) (fold_add K n m).0 x h)),
)

-- how the four sets move as n grows
pub eroded_shrinks : (A K : PointSet) → K origin → (m n : ℕ) → m ≤ n → eroded A K n ⊆ eroded A K m
eroded_shrinks A K o m n h = erode_by A (fold K n) (fold K m) (fold_grows K o m n h)

pub dilated_grows : (A K : PointSet) → K origin → (m n : ℕ) → m ≤ n → dilated A K m ⊆ dilated A K n
dilated_grows A K o m n h = dilate_parts (λ p q. q) (fold_grows K o m n h)

-- a larger fit is a union of smaller ones
pub opened_shrinks : (A K : PointSet) (m n : ℕ) → m ≤ n → opened A K n ⊆ opened A K m
opened_shrinks A K m n h = le_ind (λ j. opened A K j ⊆ opened A K m) (λ x p. p) (λ j g ih x p. ih x (one j x p)) n h
  where
    one : (j : ℕ) → opened A K (suc j) ⊆ opened A K j
    one j x p =
        let q = p.3 in (
          p.0 ⊕ q.0,
          q.1,
          (λ b hb. subst A (sym (⊕-assoc p.0 q.0 b)) (p.2 (q.0 ⊕ b) (q.0, b, q.2, hb, refl))),
          q.3,
          p.4 ∙ ap (λ z. p.0 ⊕ z) q.4 ∙ sym (⊕-assoc p.0 q.0 q.1),
        )

pub closed_grows : (A K : PointSet) (m n : ℕ) → m ≤ n → closed A K m ⊆ closed A K n
closed_grows A K m n h = le_ind (λ j. closed A K m ⊆ closed A K j) (λ x p. p) (λ j g ih x p. one j x (ih x p)) n h
  where
    one : (j : ℕ) → closed A K j ⊆ closed A K (suc j)
    one j x p b q =
        let r = p q.1 q.3 in (
          r.0,
          q.0 ⊕ r.1,
          r.2,
          (q.0, r.1, q.2, r.3, refl),
          ap (λ z. x ⊕ z) (q.4 ∙ ⊕-comm q.0 q.1) ∙ sym (⊕-assoc x q.1 q.0) ∙ ap (λ z. z ⊕ q.0) r.4
              ∙ ⊕-assoc r.0 r.1 q.0 ∙ ap (λ z. r.0 ⊕ z) (⊕-comm r.1 q.0),
        )
