-- Laws of sums and of counting points, by induction on how many there are.
use Prim.Native.Nat.{ℕ, zero, suc, ◌+◌, ◌*◌, ◌≤◌, ◌<◌}
use native.Mathlib.Nat.{mul-le-mul_right, mul-add, zero-mul, suc-mul, le_refl}
use native.Mathlib.Numerals.{add-one}
use native.Mathlib.Decide.{dec_lt}
use native.Mathlib.Omega.{arith}
use mathlib.Core.Path.{◌≡◌, refl, sym, ap, ap₂, ◌∙◌}
use mathlib.Core.Bool.{Bool, true, false, cond}
use Rattle.basics.specs.Sums.{sum, points_where}

-- a loop that adds: no turn yet, one turn more
pub sum_none : (f : ℕ → ℕ) → sum 0 f ≡ 0
unfolding sum
sum_none f = refl

pub sum_next : (n : ℕ) (f : ℕ → ℕ) → sum (n + 1) f ≡ sum n f + f n
unfolding sum
sum_next n f = ap (λ m. sum m f) (add-one n)

pub sum_same : (n : ℕ) (f g : ℕ → ℕ) → ((k : ℕ) → k < n → f k ≡ g k) → sum n f ≡ sum n g
unfolding sum
sum_same zero f g same = refl
sum_same (suc n) f g same = ap₂ (λ a b. a + b) (sum_same n f g (λ k l. same k (omega arith))) (same n (omega arith))

pub sum_plus : (n : ℕ) (f g : ℕ → ℕ) → sum n (λ k. f k + g k) ≡ sum n f + sum n g
unfolding sum
sum_plus zero f g = refl
sum_plus (suc n) f g = let e = sum_plus n f g in omega arith

pub sum_const : (n c : ℕ) → sum n (λ _. c) ≡ n * c
unfolding sum
sum_const zero c = sym (zero-mul c)
sum_const (suc n) c = ap (λ m. m + c) (sum_const n c) ∙ omega (arith, suc-mul n c)

-- the first of the terms apart
pub sum_front : (n : ℕ) (f : ℕ → ℕ) → sum (suc n) f ≡ f 0 + sum n (λ k. f (suc k))
unfolding sum
sum_front zero f = omega arith
sum_front (suc n) f = let e = sum_front n f in omega arith

-- fewer terms, smaller terms, one term
pub sum_part : (m n : ℕ) (f : ℕ → ℕ) → m ≤ n → sum m f ≤ sum n f
unfolding sum
sum_part m zero f l = let e : m ≡ 0 = omega arith in rw e (le_refl (sum 0 f))
sum_part m (suc n) f l = go (dec_lt n m) (sum_part m n f)
  where
    go : Dec (n < m) → (m ≤ n → sum m f ≤ sum n f) → sum m f ≤ sum n f + f n
    go (yes h) rest = let e : m ≡ suc n = omega arith in rw e (le_refl (sum n f + f n))
    go (no h) rest = let s = rest (omega arith) in omega arith

pub sum_less : (n : ℕ) (f g : ℕ → ℕ) → ((k : ℕ) → k < n → f k ≤ g k) → sum n f ≤ sum n g
unfolding sum
sum_less zero f g less = omega arith
sum_less (suc n) f g less =
    let s = sum_less n f g (λ k l. less k (omega arith)) in let t = less n (omega arith) in omega arith

pub sum_term : (n k : ℕ) (f : ℕ → ℕ) → k < n → f k ≤ sum n f
unfolding sum
sum_term n k f l = let s : sum k f + f k ≤ sum n f = sum_part (suc k) n f (omega arith) in omega arith

-- terms weighed by their places, all below a bound
pub sum_weighed : (bound n : ℕ) (f : ℕ → ℕ) → n ≤ bound → sum n (λ k. k * f k) ≤ bound * sum n f
unfolding sum
sum_weighed bound zero f l = omega arith
sum_weighed bound (suc n) f l =
    let s = sum_weighed bound n f (omega arith) in
    let t : n * f n ≤ bound * f n = mul-le-mul_right (f n) (let q : n ≤ bound = omega arith in q) in
    let e = mul-add bound (sum n f) (f n) in
    omega arith

module _ (width height : ℕ) where
  pub points_same : (f g : ℕ → ℕ → Bool) → ((row col : ℕ) → row < height → col < width → f row col ≡ g row col)
      → points_where width height f ≡ points_where width height g
  unfolding points_where
  points_same f g same = sum_same height (λ row. sum width (λ col. cond (f row col) 1 0))
      (λ row. sum width (λ col. cond (g row col) 1 0))
      (λ row a. sum_same width (λ col. cond (f row col) 1 0) (λ col. cond (g row col) 1 0)
      (λ col b. ap (λ t. cond t 1 0) (same row col a b)))

  pub points_all : points_where width height (λ row col. true) ≡ height * width
  unfolding points_where
  points_all = sum_same height (λ row. sum width (λ col. 1)) (λ row. width)
      (λ row _. sum_const width 1 ∙ omega arith) ∙ sum_const height width

  pub points_none : (f : ℕ → ℕ → Bool) → ((row col : ℕ) → row < height → col < width → f row col ≡ false)
      → points_where width height f ≡ 0
  unfolding points_where
  points_none f none = points_same f (λ row col. false) none
      ∙ sum_same height (λ row. sum width (λ col. 0)) (λ row. 0) (λ row _. sum_const width 0 ∙ omega arith)
      ∙ sum_const height 0 ∙ omega arith

  -- the points that have one of two properties which no point has both
  pub points_split : (f g h : ℕ → ℕ → Bool)
      → ((row col : ℕ) → row < height → col < width → cond (f row col) 1 0 ≡ cond (g row col) 1 0 + cond (h row col) 1 0)
      → points_where width height f ≡ points_where width height g + points_where width height h
  unfolding points_where
  points_split f g h split =
      sum_same height (λ row. sum width (λ col. cond (f row col) 1 0)) (λ row. in_row g row + in_row h row)
      (λ row a. sum_same width (λ col. cond (f row col) 1 0) (λ col. cond (g row col) 1 0 + cond (h row col) 1 0)
      (λ col b. split row col a b) ∙ sum_plus width (λ col. cond (g row col) 1 0) (λ col. cond (h row col) 1 0))
      ∙ sum_plus height (in_row g) (in_row h)
    where
      in_row : (ℕ → ℕ → Bool) → ℕ → ℕ
      in_row p row = sum width (λ col. cond (p row col) 1 0)
