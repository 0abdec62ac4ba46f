-- What an accepted element is: bytes 0 and 1 in a square of its side, with its centre set and not alone.
-- Where an element is accepted, each of its refusals was found not to apply.
use Prim.Native.Nat.{ℕ, zero, suc, ◌+◌, ◌*◌, ◌/◌, ◌%◌, ◌≤◌, ◌<◌}
use native.Mathlib.Decide.{ℕ_discrete}
use native.Mathlib.Omega.{arith}
use mathlib.Core.Path.{◌≡◌, refl, sym, ap, ap₂, ◌∙◌}
use mathlib.Core.Bool.{Bool, true, false, not, cond, ◌&&◌, ◌||◌, false≢true}
use mathlib.Core.Logic.{◌≢◌}
use mathlib.Core.List.{List, [], ◌∷◌}
use lib.Dec.{eqb, ltb}
use lib.IntN.{pos, ◌+ℤ◌, ◌-ℤ◌, +ℤ_idl, -ℤ-+ℤ_cancel}
use lib.ListN.{length, get_or}
use borrow.Author.Tests.{eqb-true, eqb-false, ltb-false, ne_eqb}
use Rattle.basics.specs.Bounds.{any_above}
use Rattle.basics.specs.Refusals.{first}
use Rattle.basics.proofs.Arithmetic.{entry_of, row_below, column_below}
use Rattle.grid.specs.Points.{Point, at, origin}
use Rattle.grid.specs.Figures.{reach}
use Rattle.grid.proofs.PointLaws.{pos_inj}
use Rattle.grid.proofs.FigureLaws.{centre_origin}
use Rattle.element.specs.Elements.{byte_at, element_set, is_side, count_set, element_refusals}
use Rattle.element.proofs.ElementLaws.{side_bounds}

pub record Accepted (side : ℕ) (bytes : List ℕ) : Type 0 where
  pub side_is : is_side side ≡ true
  pub size : length bytes ≡ side * side
  pub binary : any_above 1 bytes ≡ false
  pub centre : byte_at side bytes (reach side) (reach side) ≢ 0
  pub others : count_set bytes ≢ 1

pub accepted : (side : ℕ) (bytes : List ℕ) → first (element_refusals side bytes) ≡ 0 → Accepted side bytes
accepted side bytes e =
    go (is_side side) (eqb (length bytes) (side * side)) (any_above 1 bytes) (eqb (byte_at side bytes (reach side) (reach side)) 0)
    (eqb (count_set bytes) 1) refl refl refl refl refl e
  where
    go : (a b c d f : Bool) → is_side side ≡ a → eqb (length bytes) (side * side) ≡ b → any_above 1 bytes ≡ c
        → eqb (byte_at side bytes (reach side) (reach side)) 0 ≡ d → eqb (count_set bytes) 1 ≡ f
        → first ((4, not (a && b)) ∷ (5, c) ∷ (6, d) ∷ (7, f) ∷ []) ≡ 0 → Accepted side bytes
    go true true false false false p q r s t e =
        record {
          side_is = p;
          size = eqb-true (length bytes) (side * side) q;
          binary = r;
          centre = eqb-false (byte_at side bytes (reach side) (reach side)) 0 s;
          others = eqb-false (count_set bytes) 1 t;
        }
    go true true false false true p q r s t e = absurd (omega arith)
    go true true false true f p q r s t e = absurd (omega arith)
    go true true true d f p q r s t e = absurd (omega arith)
    go true false c d f p q r s t e = absurd (omega arith)
    go false b c d f p q r s t e = absurd (omega arith)

-- no byte is above 1
pub byte_binary : (bytes : List ℕ) → any_above 1 bytes ≡ false → (k : ℕ) → get_or bytes k 0 ≤ 1
unfolding any_above
byte_binary [] e k = omega arith
byte_binary (b ∷ rest) e k = go (ltb 1 b) refl k (byte_binary rest) e
  where
    go : (t : Bool) → ltb 1 b ≡ t → (k : ℕ) → (any_above 1 rest ≡ false → (k : ℕ) → get_or rest k 0 ≤ 1)
        → t || any_above 1 rest ≡ false → get_or (b ∷ rest) k 0 ≤ 1
    go true q k ih e = absurd (false≢true (sym e))
    go false q zero ih e = ltb-false 1 b q
    go false q (suc k) ih e = ih e k

-- where the set bytes are not one alone, there is another
some_set : (bytes : List ℕ) → count_set bytes ≢ 0 → (k : ℕ) × (k < length bytes) × (get_or bytes k 0 ≢ 0)
unfolding count_set
some_set [] n = absurd (n refl)
some_set (b ∷ rest) n = go (ℕ_discrete b 0) (some_set rest)
  where
    go : Dec (b ≡ 0) → (count_set rest ≢ 0 → (k : ℕ) × (k < length rest) × (get_or rest k 0 ≢ 0))
        → (k : ℕ) × (k < length (b ∷ rest)) × (get_or (b ∷ rest) k 0 ≢ 0)
    go (no m) ih = (zero, omega arith, m)
    go (yes z) ih = let h = ih (λ e. n (rw z (omega arith))) in let l = h.1 in (suc h.0, omega arith, h.2)

pub another_set : (bytes : List ℕ) (c : ℕ) → get_or bytes c 0 ≢ 0 → count_set bytes ≢ 1
    → (k : ℕ) × (k < length bytes) × (k ≢ c) × (get_or bytes k 0 ≢ 0)
unfolding count_set
another_set [] c m n = absurd (m refl)
another_set (b ∷ rest) zero m n = go (ℕ_discrete (count_set rest) 0)
  where
    one : ◌≡◌ {A = ℕ} (cond (eqb b 0) 0 1) 1
    one = rw (ne_eqb b 0 m)

    go : Dec (count_set rest ≡ 0) → (k : ℕ) × (k < length (b ∷ rest)) × (k ≢ zero) × (get_or (b ∷ rest) k 0 ≢ 0)
    go (yes z) = absurd (n (let o = one in omega arith))
    go (no z) = let h = some_set rest z in let l = h.1 in (suc h.0, omega arith, (λ e. absurd (omega arith)), h.2)
another_set (b ∷ rest) (suc c) m n = go (ℕ_discrete b 0) (another_set rest c m)
  where
    go : Dec (b ≡ 0) → (count_set rest ≢ 1 → (k : ℕ) × (k < length rest) × (k ≢ c) × (get_or rest k 0 ≢ 0))
        → (k : ℕ) × (k < length (b ∷ rest)) × (k ≢ suc c) × (get_or (b ∷ rest) k 0 ≢ 0)
    go (no d) ih = (zero, omega arith, (λ e. absurd (omega arith)), d)
    go (yes z) ih =
        let h = ih (λ e. n (rw z (omega arith))) in
        let l = h.1 in
        (suc h.0, omega arith, (λ e. h.2 (let q : h.0 ≡ c = omega arith in q)), h.3)

module _ (side : ℕ) (bytes : List ℕ) (given : Accepted side bytes) where
  one_if_set : (k : ℕ) → get_or bytes k 0 ≢ 0 → get_or bytes k 0 ≡ 1
  one_if_set k n = let b = byte_binary bytes given.binary k in omega arith

  -- the origin is in it
  pub accepted_origin : element_set side bytes origin
  accepted_origin = centre_origin side (side_bounds side given.side_is).1.1 (byte_at side bytes)
      (one_if_set (reach side * side + reach side) given.centre)

  -- and another point
  pub accepted_other : (b : Point) × element_set side bytes b × (b ≢ origin)
  accepted_other =
      let h = another_set bytes (reach side * side + reach side) given.centre given.others in
      let k = h.0 in
      let l : k < side * side = let q = h.1 in let s = given.size in omega arith in
      let e = entry_of side k in
      let r = reach side in (
        at (pos (k / side) -ℤ pos r) (pos (k % side) -ℤ pos r),
        (
          k / side,
          k % side,
          row_below side side k l,
          column_below side side k l,
          ap (λ n. get_or bytes n 0) e ∙ one_if_set k h.3,
          ap₂ at (-ℤ-+ℤ_cancel (pos (k / side)) (pos r)) (-ℤ-+ℤ_cancel (pos (k % side)) (pos r)),
        ),
        (λ f.
            let a : k / side ≡ r = pos_inj
            (sym (-ℤ-+ℤ_cancel (pos (k / side)) (pos r)) ∙ ap (λ p. p.row +ℤ pos r) f ∙ +ℤ_idl (pos r)) in
            let c : k % side ≡ r = pos_inj
            (sym (-ℤ-+ℤ_cancel (pos (k % side)) (pos r)) ∙ ap (λ p. p.col +ℤ pos r) f ∙ +ℤ_idl (pos r)) in
            h.2 (sym e ∙ ap₂ (λ i j. i * side + j) a c)),
      )
