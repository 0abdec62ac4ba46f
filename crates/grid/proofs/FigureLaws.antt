-- Sets drawn cell by cell: the same cells read in two ways; an element in a larger square, and turned about.
-- A coordinate z of a point stands in the square at the place p with z + reach = p; moving and turning change that equation.
use mathlib.Core.Path.{◌≡◌, sym, ◌∙◌, ap, ap₂, subst}
use Prim.Native.Nat.{ℕ, ◌+◌, ◌-◌, ◌≤◌, ◌<◌}
use native.Mathlib.Omega.{arith}
use lib.IntN.{ℤ, pos, neg_ℤ, ◌+ℤ◌, ◌-ℤ◌, +ℤ_assoc, +ℤ_comm, +ℤ_idl, +ℤ-neg_ℤ_cancel, neg_ℤ-+ℤ, neg_ℤ-neg_ℤ}
use Rattle.grid.specs.Points.{at, origin, ◌⊕◌, neg}
use Rattle.grid.specs.Sets.{reflect, ◌⊆◌, ◌≈◌}
use Rattle.grid.specs.Figures.{figure, element, reach}
use Rattle.grid.proofs.PointLaws.{neg_neg}

pub place_further : (z : ℤ) (r m n p : ℕ) → r + m ≡ n → z +ℤ pos r ≡ pos p → z +ℤ pos n ≡ pos (p + m)
place_further z r m n p e h = ap (λ (k : ℕ). z +ℤ pos k) (sym e) ∙ sym (+ℤ_assoc z (pos r) (pos m)) ∙ ap (λ y. y +ℤ pos m) h

pub place_nearer : (z : ℤ) (r m n p : ℕ) → r + m ≡ n → z +ℤ pos n ≡ pos (p + m) → z +ℤ pos r ≡ pos p
place_nearer z r m n p e h =
    sym (+ℤ-neg_ℤ_cancel (z +ℤ pos r) (pos m))
    ∙ ap (λ y. y -ℤ pos m) (+ℤ_assoc z (pos r) (pos m) ∙ ap (λ (k : ℕ). z +ℤ pos k) e ∙ h) ∙ +ℤ-neg_ℤ_cancel (pos p) (pos m)

pub place_turned : (z : ℤ) (r p q : ℕ) → p + q ≡ r + r → z +ℤ pos r ≡ pos p → neg_ℤ z +ℤ pos r ≡ pos q
place_turned z r p q e h =
    ap (λ y. y +ℤ pos r) (ap neg_ℤ (sym (+ℤ-neg_ℤ_cancel z (pos r)) ∙ ap (λ y. y -ℤ pos r) h) ∙ neg_ℤ-+ℤ (pos p) (neg_ℤ (pos r))
    ∙ ap (λ y. neg_ℤ (pos p) +ℤ y) (neg_ℤ-neg_ℤ (pos r)))
    ∙ +ℤ_assoc (neg_ℤ (pos p)) (pos r) (pos r)
    ∙ +ℤ_comm (neg_ℤ (pos p)) (pos (r + r))
    ∙ ap (λ (k : ℕ). pos k -ℤ pos p) (let g : r + r ≡ q + p = omega arith in g)
    ∙ +ℤ-neg_ℤ_cancel (pos q) (pos p)

-- the same cells, read in two ways
pub figure_same : (width height : ℕ) (f g : ℕ → ℕ → ℕ)
    → ((row col : ℕ) → row < height → col < width → f row col ≡ 1 → g row col ≡ 1) → figure width height f ⊆ figure width height g
figure_same width height f g h x (row, col, a, c, e, p) = (row, col, a, c, h row col a c e, p)

pub element_same : (side : ℕ) (f g : ℕ → ℕ → ℕ) → ((row col : ℕ) → row < side → col < side → f row col ≡ 1 → g row col ≡ 1)
    → element side f ⊆ element side g
element_same side f g h b = figure_same side side f g h (b ⊕ at (pos (reach side)) (pos (reach side)))

-- one square centred in another: places move by m
module _ (side big : ℕ) (f g : ℕ → ℕ → ℕ) (m : ℕ) (e : reach side + m ≡ reach big) (fits : m + side ≤ big) where
  pub element_larger : ((row col : ℕ) → row < side → col < side → f row col ≡ 1 → g (row + m) (col + m) ≡ 1)
      → element side f ⊆ element big g
  element_larger h b (row, col, a, c, v, p) = (
    row + m,
    col + m,
    omega arith,
    omega arith,
    h row col a c v,
    ap₂ at (place_further b.row (reach side) m (reach big) row e (ap (λ z. z.row) p))
        (place_further b.col (reach side) m (reach big) col e (ap (λ z. z.col) p)),
  )

  pub element_smaller : ((row col : ℕ) → row < big → col < big → g row col ≡ 1
      → (m ≤ row) × (row < m + side) × (m ≤ col) × (col < m + side) × (f (row - m) (col - m) ≡ 1))
      → element big g ⊆ element side f
  element_smaller h b (row, col, a, c, v, p) =
      let (lr, hr, lc, hc, w) = h row col a c v in
      let back : (n : ℕ) → m ≤ n
      → pos n ≡ pos (n - m + m) = λ n l. ap (λ (k : ℕ). pos k) (let q : n ≡ n - m + m = omega arith in q) in (
        row - m,
        col - m,
        omega arith,
        omega arith,
        w,
        ap₂ at (place_nearer b.row (reach side) m (reach big) (row - m) e (ap (λ z. z.row) p ∙ back row lr))
            (place_nearer b.col (reach side) m (reach big) (col - m) e (ap (λ z. z.col) p ∙ back col lc)),
      )

-- cells read across the centre are the element turned about
module _ (side : ℕ) (odd : side ≡ reach side + reach side + 1) where
  across : (f g : ℕ → ℕ → ℕ) → ((row col : ℕ) → row < side → col < side → g row col ≡ 1 → f (side - 1 - row) (side - 1 - col) ≡ 1)
      → element side g ⊆ reflect (element side f)
  across f g h b (row, col, a, c, v, p) =
      let e : row + (side - 1 - row) ≡ reach side + reach side = omega arith in
      let i : col + (side - 1 - col) ≡ reach side + reach side = omega arith in (
        side - 1 - row,
        side - 1 - col,
        omega arith,
        omega arith,
        h row col a c v,
        ap₂ at (place_turned b.row (reach side) row (side - 1 - row) e (ap (λ z. z.row) p))
            (place_turned b.col (reach side) col (side - 1 - col) i (ap (λ z. z.col) p)),
      )

  pub element_reflect : (f g : ℕ → ℕ → ℕ)
      → ((row col : ℕ) → row < side → col < side → g row col ≡ f (side - 1 - row) (side - 1 - col))
      → element side g ≈ reflect (element side f)
  element_reflect f g h = (
    across f g (λ row col a c v. sym (h row col a c) ∙ v),
    (λ b k. subst (element side g) (neg_neg b) (across g f back (neg b) k)),
  )
    where
      back : (row col : ℕ) → row < side → col < side → f row col ≡ 1 → g (side - 1 - row) (side - 1 - col) ≡ 1
      back row col a c v =
          let twice : (n : ℕ) → n < side → side - 1 - (side - 1 - n) ≡ n = λ n l. omega arith in
          h (side - 1 - row) (side - 1 - col) (omega arith) (omega arith) ∙ ap₂ f (twice row a) (twice col c) ∙ v

  -- the centre is the origin, and only it
  pub centre_origin : (f : ℕ → ℕ → ℕ) → f (reach side) (reach side) ≡ 1 → element side f origin
  centre_origin f v = (
    reach side,
    reach side,
    omega arith,
    omega arith,
    v,
    ap₂ at (+ℤ_idl (pos (reach side))) (+ℤ_idl (pos (reach side))),
  )
