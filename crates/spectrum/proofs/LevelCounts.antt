-- Counting the points of a frame by their levels. The points of level n or more are those of level n and those above it, so the
-- counts up to a level add up to all points but those of a higher one.
use Prim.Native.Nat.{ℕ, zero, suc, ◌+◌, ◌*◌, ◌≤◌, ◌<◌}
use native.Mathlib.Numerals.{add-one}
use native.Mathlib.Decide.{ℕ_discrete, dec_lt}
use native.Mathlib.Omega.{arith}
use mathlib.Core.Path.{◌≡◌, refl, sym, ap, ap₂, ◌∙◌}
use mathlib.Core.Bool.{Bool, true, false, cond}
use mathlib.Core.Logic.{◌↔◌}
use lib.Dec.{leb, ltb, eqb, leb-zero}
use borrow.Author.Tests.{le-leb, lt-leb, le-ltb, lt-ltb, eq-eqb, ne_eqb}
use Rattle.basics.specs.Sums.{sum, points_where}
use Rattle.basics.proofs.SumLaws.{sum_next, points_same, points_all, points_none, points_split}

-- a loop that adds terms
pub added_turn : (f : ℕ → ℕ) {i count term : ℕ} → count ≡ sum i f → term ≡ f i → count + term ≡ sum (i + 1) f
added_turn f {i} p q = ap₂ (λ a b. a + b) p q ∙ sym (sum_next i f)

pub added_end : (f : ℕ → ℕ) {i count : ℕ} (n : ℕ) → count ≡ sum i f → i ≡ n → count ≡ sum n f
added_end f n p q = p ∙ ap (λ m. sum m f) q

-- two tests that hold alike are one
pub same_test : (t u : Bool) → ((t ≡ true) ↔ (u ≡ true)) → t ≡ u
same_test true u i = sym (i.0 refl)
same_test false true i = i.1 refl
same_test false false i = refl

-- n or more is n, or above n
at_least : (n level : ℕ) → ◌≡◌ {A = ℕ} (cond (leb n level) 1 0) (cond (eqb level n) 1 0 + cond (ltb n level) 1 0)
at_least n level = go (ℕ_discrete level n) (dec_lt n level)
  where
    go : Dec (level ≡ n) → Dec (n < level)
        → ◌≡◌ {A = ℕ} (cond (leb n level) 1 0) (cond (eqb level n) 1 0 + cond (ltb n level) 1 0)
    go (yes e) d = rw (le-leb n level (omega arith), eq-eqb level n e, le-ltb n level (omega arith))
    go (no f) (yes l) = rw (le-leb n level (omega arith), ne_eqb level n f, lt-ltb n level l)
    go (no f) (no g) =
        let l : level < n = omega arith in
        rw (lt-leb n level l, ne_eqb level n f, le-ltb n level (omega arith))

module _ (width height : ℕ) (level : ℕ → ℕ → ℕ) where
  abbrev pub points_of : ℕ → ℕ
  points_of n = points_where width height (λ row col. eqb (level row col) n)

  abbrev pub points_from : ℕ → ℕ
  points_from n = points_where width height (λ row col. leb n (level row col))

  abbrev pub points_above : ℕ → ℕ
  points_above n = points_where width height (λ row col. ltb n (level row col))

  pub from_none : points_from 0 ≡ height * width
  from_none = points_same width height (λ row col. leb 0 (level row col)) (λ row col. true)
      (λ row col _ _. leb-zero (level row col)) ∙ points_all width height

  pub from_split : (n : ℕ) → points_from n ≡ points_of n + points_above n
  from_split n =
      points_split width height (λ row col. leb n (level row col)) (λ row col. eqb (level row col) n)
      (λ row col. ltb n (level row col)) (λ row col _ _. at_least n (level row col))

  pub from_next : (n : ℕ) → points_from (n + 1) ≡ points_above n
  from_next n = ap points_from (add-one n)

  -- the counts below n, and the points from n on
  pub counts_below : (n : ℕ) → sum n points_of + points_from n ≡ height * width
  unfolding sum
  counts_below zero = let e = from_none in omega arith
  counts_below (suc n) =
      let e = counts_below n in let s = from_split n in omega arith

  -- where no level is above the last
  pub counts_all : (last : ℕ) → ((row col : ℕ) → row < height → col < width → level row col ≤ last)
      → sum (last + 1) points_of ≡ height * width
  counts_all last small =
      let e = counts_below (last + 1) in
      let z = from_next last ∙ points_none width height (λ row col. ltb last (level row col))
      (λ row col a b. le-ltb last (level row col) (small row col a b)) in
      omega arith
