-- What an element's sides, bytes and cells are, and where they lie.
use Prim.Native.Nat.{ℕ, suc, ◌+◌, ◌-◌, ◌*◌, ◌/◌, ◌%◌, ◌≤◌, ◌<◌}
use native.Mathlib.Nat.{mul-le-mul, add-mul, suc-mul}
use native.Mathlib.Omega.{arith}
use mathlib.Core.Path.{◌≡◌, refl, sym, ap, ◌∙◌}
use mathlib.Core.Bool.{Bool, true, false, not, cond, ◌&&◌, ◌||◌, false≢true}
use mathlib.Core.Logic.{◌⊎◌, inl, inr}
use mathlib.Core.List.{List, [], ◌∷◌}
use Rattle.std.specs.Prelude.{count_by}
use Rattle.std.proofs.lemmas.List.Sums.{sum_by-cons}
use lib.Dec.{eqb, leb, ltb}
use lib.ListN.{get_or}
use borrow.Author.Tests.{lt-ltb, le-ltb, le-leb, lt-leb, leb-true, ltb-true, eqb-true}
use Rattle.basics.proofs.BoundLaws.{both}
use Rattle.basics.proofs.Arithmetic.{entry_below, entry_of, row_below, column_below}
use Rattle.grid.specs.Figures.{reach}
use Rattle.element.specs.Elements.{byte_at, is_side, count_set}
use Rattle.element.specs.Cells.{is_held, centred_cell}

-- the bytes that are not 0
pub set_counted : (bytes : List ℕ) → count_by (λ byte. not (eqb byte 0)) bytes ≡ count_set bytes
unfolding count_set
set_counted [] = refl
set_counted (byte ∷ rest) = sum_by-cons _ byte rest ∙ go (eqb byte 0) (set_counted rest)
  where
    go : (zero : Bool) → count_by (λ byte. not (eqb byte 0)) rest ≡ count_set rest
        → cond (not zero) 1 0 + count_by (λ byte. not (eqb byte 0)) rest ≡ cond zero 0 1 + count_set rest
    go true e = omega (arith, e)
    go false e = omega (arith, e)

-- a side is one of four, so what is linear at each of them is omega's
pub sides : (side : ℕ) → is_side side ≡ true → (side ≡ 1) ⊎ ((side ≡ 3) ⊎ ((side ≡ 5) ⊎ (side ≡ 7)))
unfolding is_side
sides side e = go (eqb side 1) (eqb side 3) (eqb side 5) (eqb side 7) refl refl refl refl e
  where
    go : (a b c d : Bool) → eqb side 1 ≡ a → eqb side 3 ≡ b → eqb side 5 ≡ c → eqb side 7 ≡ d → a || b || c || d ≡ true
        → (side ≡ 1) ⊎ ((side ≡ 3) ⊎ ((side ≡ 5) ⊎ (side ≡ 7)))
    go true b c d p q r s e = inl (eqb-true side 1 p)
    go false true c d p q r s e = inr (inl (eqb-true side 3 q))
    go false false true d p q r s e = inr (inr (inl (eqb-true side 5 r)))
    go false false false true p q r s e = inr (inr (inr (eqb-true side 7 s)))
    go false false false false p q r s e = absurd (false≢true e)

pub side_bounds : (side : ℕ) → is_side side ≡ true → (1 ≤ side) × ((side ≤ 7) × (side ≡ reach side + reach side + 1))
side_bounds side e = go (sides side e)
  where
    go : (side ≡ 1) ⊎ ((side ≡ 3) ⊎ ((side ≡ 5) ⊎ (side ≡ 7))) → (1 ≤ side) × ((side ≤ 7) × (side ≡ reach side + reach side + 1))
    go (inl q) = omega arith
    go (inr (inl q)) = omega arith
    go (inr (inr (inl q))) = omega arith
    go (inr (inr (inr q))) = omega arith

-- a cell of the square is one of its bytes, and there are few
pub square_small : (side : ℕ) → side ≤ 7 → side * side ≤ 49
square_small side l = mul-le-mul l l

pub square_entry : (side i j : ℕ) → is_side side ≡ true → i < side → j < side → (i * side + j < side * side) × (side * side ≤ 49)
square_entry side i j e a b = (entry_below side side i j a b, square_small side (side_bounds side e).1.0)

pub centre_entry : (side : ℕ) → is_side side ≡ true
    → (1 ≤ side) × (reach side * side + reach side < side * side) × (side * side ≤ 49)
centre_entry side e =
    let b = side_bounds side e in
    let s = square_entry side (reach side) (reach side) e (omega arith) (omega arith) in
    (b.0, s.0, s.1)

-- which places of the seven hold the square
module _ (side p : ℕ) where
  pub held_low : p < 3 - reach side → is_held side p ≡ false
  unfolding is_held
  held_low l = rw (lt-leb (3 - reach side) p l)

  pub held_high : 3 - reach side + side ≤ p → is_held side p ≡ false
  unfolding is_held
  held_high l = rw (le-leb (3 - reach side) p (omega arith), le-ltb p (3 - reach side + side) l)

  pub held_in : 3 - reach side ≤ p → p < 3 - reach side + side → is_held side p ≡ true
  unfolding is_held
  held_in l h = rw (le-leb (3 - reach side) p l, lt-ltb p (3 - reach side + side) h)

module _ (side : ℕ) (bytes : List ℕ) (row col : ℕ) where
  pub cell_row_out : is_held side row ≡ false → centred_cell side bytes row col ≡ 0
  unfolding centred_cell
  cell_row_out e = rw e

  pub cell_column_out : is_held side col ≡ false → centred_cell side bytes row col ≡ 0
  unfolding centred_cell
  cell_column_out e = rw e (go (is_held side row))
    where
      go : (b : Bool) → cond (b && false) (byte_at side bytes (row - (3 - reach side)) (col - (3 - reach side))) 0 ≡ 0
      go true = refl
      go false = refl

  pub cell_in : is_held side row ≡ true → is_held side col ≡ true
      → centred_cell side bytes row col ≡ byte_at side bytes (row - (3 - reach side)) (col - (3 - reach side))
  unfolding centred_cell
  cell_in e f = rw (e, f)

-- a place of the square
pub held_place : (side p : ℕ) → is_held side p ≡ true → (3 - reach side ≤ p) × (p < 3 - reach side + side)
unfolding is_held
held_place side p e =
    let h = both (leb (3 - reach side) p) (ltb p (3 - reach side + side)) e in
    (leb-true (3 - reach side) p h.0, ltb-true p (3 - reach side + side) h.1)

-- and the byte that stands there
pub held_entry : (side row col : ℕ) → is_side side ≡ true → is_held side row ≡ true → is_held side col ≡ true
    → (3 - reach side ≤ row) × ((3 - reach side ≤ col) × (((row - (3 - reach side)) * side + (col - (3 - reach side)) < side * side) × (side * side ≤ 49)))
held_entry side row col known r c =
    let a = held_place side row r in
    let b = held_place side col c in
    let bounds = side_bounds side known in
    (a.0, (b.0, square_entry side (row - (3 - reach side)) (col - (3 - reach side)) known (omega arith) (omega arith)))

-- counted from the last byte, entry k is at the row and the column across the centre
pub reflected_entry : (side : ℕ) (bytes : List ℕ) (k : ℕ) → k < side * side
    → get_or bytes (side * side - 1 - k) 0 ≡ byte_at side bytes (side - 1 - k / side) (side - 1 - k % side)
reflected_entry side bytes k l = ap (λ n. get_or bytes n 0) place
  where
    place : side * side - 1 - k ≡ (side - 1 - k / side) * side + (side - 1 - k % side)
    place =
        let i = k / side in
        let a = side - 1 - k / side in
        let e = entry_of side k in
        let r = row_below side side k l in
        let c = column_below side side k l in
        let s : a * side + suc i * side ≡ side * side = sym (add-mul a (suc i) side)
        ∙ ap (λ n. n * side) (let q : a + suc i ≡ side = omega arith in q) in
        let m = suc-mul i side in
        omega arith
