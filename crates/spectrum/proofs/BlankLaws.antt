-- Looking for a foreground pixel: one is found in a row where the row's count is not 0, and in the sheet where a row has one.
use Prim.Native.Nat.{ℕ, zero, suc, ◌+◌, ◌<◌}
use native.Mathlib.Omega.{arith}
use mathlib.Core.Path.{◌≡◌, refl, sym, ap, ◌∙◌}
use mathlib.Core.Bool.{Bool, true, false, cond, ◌||◌}
use mathlib.Core.List.{List}
use lib.Dec.{eqb, ltb}
use borrow.Author.Tests.{lt-ltb, ltb-true, ltb-false, eq-eqb, ne_eqb}
use Rattle.basics.specs.Sums.{sum, points_where}
use Rattle.basics.proofs.SumLaws.{sum_next, sum_term}
use Rattle.sheet.specs.Sheets.{pixel}
use Rattle.spectrum.specs.Spectrum.{is_blank}

-- one column more
pub some_turn : (f : ℕ → Bool) (col : ℕ) {found : Bool} → found ≡ ltb 0 (sum col (λ k. cond (f k) 1 0)) → {t : Bool} → t ≡ f col
    → found || t ≡ ltb 0 (sum (col + 1) (λ k. cond (f k) 1 0))
some_turn f col p q = rw (p, q, sum_next col (λ k. cond (f k) 1 0)) (go (sum col (λ k. cond (f k) 1 0)) (f col))
  where
    go : (n : ℕ) (t : Bool) → ltb 0 n || t ≡ ltb 0 (n + cond t 1 0)
    go zero true = refl
    go zero false = refl
    go (suc n) true = rw (lt-ltb 0 (suc n) (omega arith)) (sym (lt-ltb 0 (suc n + 1) (omega arith)))
    go (suc n) false = rw (lt-ltb 0 (suc n) (omega arith)) (sym (lt-ltb 0 (suc n + 0) (omega arith)))

module _ (width height : ℕ) (sheet : List ℕ) where
  abbrev pub in_row : ℕ → ℕ
  in_row row = sum width (λ col. cond (eqb (pixel width sheet row col) 1) 1 0)

  -- a row that has one
  pub not_blank : (row : ℕ) → row < height → {found : Bool} → found ≡ ltb 0 (in_row row) → found ≡ true
      → false ≡ is_blank width height sheet
  unfolding points_where
  not_blank row l e t =
      let s = sum_term height row in_row l in
      let p = ltb-true 0 (in_row row) (sym e ∙ t) in
      sym (ne_eqb (sum height in_row) 0 (λ z. absurd (omega arith)))

  -- a row that has none
  pub blank_turn : (row : ℕ) → sum row in_row ≡ 0 → {found : Bool} → found ≡ ltb 0 (in_row row) → found ≡ false
      → sum (row + 1) in_row ≡ 0
  blank_turn row z e t =
      let n = sum_next row in_row in let p = ltb-false 0 (in_row row) (sym e ∙ t) in omega arith

  pub blank_end : (row : ℕ) → sum row in_row ≡ 0 → row ≡ height → true ≡ is_blank width height sheet
  unfolding points_where
  blank_end row z e = sym (eq-eqb (sum height in_row) 0 (sym (ap (λ n. sum n in_row) e) ∙ z))
