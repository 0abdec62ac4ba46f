-- Laws of points: sums by components, from the integers' own laws; and equations of integers turned into equations of naturals,
-- which omega reads.
use mathlib.Core.Path.{◌≡◌, sym, ◌∙◌, ap, ap₂}
use Prim.Native.Nat.{ℕ, suc, ◌+◌}
use lib.IntN.{ℤ, pos, negsuc, neg_ℤ, ◌+ℤ◌, ◌-ℤ◌, +ℤ_idr, +ℤ_assoc, +ℤ_comm, -ℤ-+ℤ_cancel, +ℤ-neg_ℤ_cancel, neg_ℤ-+ℤ, neg_ℤ-neg_ℤ}
use Rattle.grid.specs.Points.{Point, at, origin, ◌⊕◌, neg}

pub ⊕-assoc : (p q s : Point) → (p ⊕ q) ⊕ s ≡ p ⊕ (q ⊕ s)
⊕-assoc p q s = ap₂ at (+ℤ_assoc p.row q.row s.row) (+ℤ_assoc p.col q.col s.col)

pub ⊕-comm : (p q : Point) → p ⊕ q ≡ q ⊕ p
⊕-comm p q = ap₂ at (+ℤ_comm p.row q.row) (+ℤ_comm p.col q.col)

pub ⊕-origin : (p : Point) → p ⊕ origin ≡ p
⊕-origin p = ap₂ at (+ℤ_idr p.row) (+ℤ_idr p.col)

pub origin-⊕ : (p : Point) → origin ⊕ p ≡ p
origin-⊕ p = ⊕-comm origin p ∙ ⊕-origin p

-- two steps in either order
pub ⊕-swap : (p q s : Point) → (p ⊕ q) ⊕ s ≡ (p ⊕ s) ⊕ q
⊕-swap p q s = ⊕-assoc p q s ∙ ap (λ z. p ⊕ z) (⊕-comm q s) ∙ sym (⊕-assoc p s q)

pub ⊕-cancel : (p q : Point) → (p ⊕ q) ⊕ neg q ≡ p
⊕-cancel p q = ap₂ at (+ℤ-neg_ℤ_cancel p.row q.row) (+ℤ-neg_ℤ_cancel p.col q.col)

pub ⊖_cancel : (p q : Point) → (p ⊕ neg q) ⊕ q ≡ p
⊖_cancel p q = ap₂ at (-ℤ-+ℤ_cancel p.row q.row) (-ℤ-+ℤ_cancel p.col q.col)

pub neg-⊕ : (p q : Point) → neg (p ⊕ q) ≡ neg p ⊕ neg q
neg-⊕ p q = ap₂ at (neg_ℤ-+ℤ p.row q.row) (neg_ℤ-+ℤ p.col q.col)

pub neg_neg : (p : Point) → neg (neg p) ≡ p
neg_neg p = ap₂ at (neg_ℤ-neg_ℤ p.row) (neg_ℤ-neg_ℤ p.col)

-- x = a + b is a = x - b, and the other way
pub ⊕-move : (x a b : Point) → x ≡ a ⊕ b → a ≡ x ⊕ neg b
⊕-move x a b e = sym (⊕-cancel a b) ∙ ap (λ z. z ⊕ neg b) (sym e)

toℕ : ℤ → ℕ
toℕ (pos n) = n
toℕ (negsuc n) = n

pub pos_inj : {m n : ℕ} → pos m ≡ pos n → m ≡ n
unfolding toℕ
pos_inj p = ap toℕ p

pub negsuc_inj : {m n : ℕ} → negsuc m ≡ negsuc n → m ≡ n
unfolding toℕ
negsuc_inj p = ap toℕ p

-- an equation of integers, with the negative part moved across
pub sum_neg : (a c d : ℕ) → pos a +ℤ negsuc c ≡ pos d → a ≡ d + suc c
sum_neg a c d e = pos_inj (sym (-ℤ-+ℤ_cancel (pos a) (pos (suc c))) ∙ ap (λ z. z +ℤ pos (suc c)) e)

pub sum_diff : (x i k y : ℕ) → pos x +ℤ (pos i -ℤ pos k) ≡ pos y → x + i ≡ y + k
sum_diff x i k y e = pos_inj
    (sym (-ℤ-+ℤ_cancel (pos x +ℤ pos i) (pos k)) ∙ ap (λ z. z +ℤ pos k) (+ℤ_assoc (pos x) (pos i) (neg_ℤ (pos k)) ∙ e))

pub diff_sum : (x i k y : ℕ) → x + i ≡ y + k → pos x +ℤ (pos i -ℤ pos k) ≡ pos y
diff_sum x i k y e = sym (+ℤ_assoc (pos x) (pos i) (neg_ℤ (pos k))) ∙ ap (λ (n : ℕ). pos n -ℤ pos k) e
    ∙ +ℤ-neg_ℤ_cancel (pos y) (pos k)
