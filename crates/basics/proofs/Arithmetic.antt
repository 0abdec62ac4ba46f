-- Entry k of rows that are w long is at row k / w, column k % w, and the other way.
use Prim.Native.Nat.{ℕ, zero, suc, ◌+◌, ◌*◌, ◌/◌, ◌%◌, ◌≤◌, ◌<◌}
use native.Mathlib.Nat.{mod-lt, mod-eq_of_lt, div-eq_of_lt, div-add-mod', div-lt_iff_lt-mul, mul-add-div_right}
use native.Mathlib.Nat.{mul-add-mod_self_right, add-zero, mul-zero, suc-mul, mul-le-mul_right}
use native.Mathlib.Omega.{arith}
use mathlib.Core.Path.{◌≡◌, ap, ◌∙◌}

-- some entry there is, so the rows are not empty
pub width_positive : (w h k : ℕ) → k < h * w → 0 < w
width_positive zero h k l = absurd (let e : h * 0 ≡ 0 = mul-zero h in omega arith)
width_positive (suc w) h k l = omega arith

pub row_of : (w i j : ℕ) → j < w → (i * w + j) / w ≡ i
row_of w i j l = mul-add-div_right (let p : 0 < w = omega arith in p) i j ∙ ap (λ n. i + n) (div-eq_of_lt l) ∙ add-zero i

pub column_of : (w i j : ℕ) → j < w → (i * w + j) % w ≡ j
column_of w i j l = mul-add-mod_self_right i w j ∙ mod-eq_of_lt l

pub row_below : (w h k : ℕ) → k < h * w → k / w < h
row_below w h k l = (div-lt_iff_lt-mul {k = w} {x = k} {y = h} (width_positive w h k l)).1 l

pub column_below : (w h k : ℕ) → k < h * w → k % w < w
column_below w h k l = mod-lt k (width_positive w h k l)

pub entry_of : (w k : ℕ) → k / w * w + k % w ≡ k
entry_of w k = div-add-mod' k w

pub entry_below : (w h i j : ℕ) → i < h → j < w → i * w + j < h * w
entry_below w h i j a b = let l : suc i * w ≤ h * w = mul-le-mul_right w a in let e : suc i * w ≡ i * w + w = suc-mul i w in
    omega arith
