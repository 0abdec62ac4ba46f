-- Refusal 1 is exact: the records that some start gives, rows done aside, are those that are not foreign.
-- One way the cells of an accepted element pass every test; the other way the square cut out of the cells is an accepted element
-- that gives them back.
use Prim.Native.Nat.{ℕ, zero, suc, ◌+◌, ◌-◌, ◌*◌, ◌/◌, ◌%◌, ◌≤◌, ◌<◌}
use native.Mathlib.Decide.{ℕ_discrete, dec_lt}
use native.Mathlib.Omega.{arith}
use mathlib.Core.Path.{◌≡◌, refl, sym, ap, ap₂, ◌∙◌}
use mathlib.Core.Bool.{Bool, true, false, not, cond, ◌&&◌, false≢true}
use mathlib.Core.Logic.{◌≢◌}
use mathlib.Core.List.{List, [], ◌∷◌}
use lib.Dec.{eqb}
use lib.ListN.{length, get_or, get_or-eq_default}
use borrow.Author.Tests.{eq-eqb, ne_eqb, le-ltb}
use Rattle.basics.specs.Bounds.{any_above}
use Rattle.basics.specs.Refusals.{first}
use Rattle.basics.specs.Tables.{raster}
use Rattle.basics.proofs.Arithmetic.{row_of, column_of, entry_of, row_below, column_below}
use Rattle.basics.proofs.TableLaws.{length-raster, get_or-raster, raster_is}
use Rattle.grid.specs.Figures.{reach}
use Rattle.element.specs.Elements.{byte_at, count_set, element_refusals}
use Rattle.element.specs.Cells.{cell_at, is_held, centred_cell, centred, flat, seven_by_seven}
use Rattle.element.proofs.ElementLaws.{side_bounds, held_in, cell_in, cell_row_out, cell_column_out}
use Rattle.element.proofs.Meaning.{seven_at, held_bounds}
use Rattle.element.proofs.Accepted.{Accepted, byte_binary, another_set}
use Rattle.run.specs.declared.Record.{Record}
use Rattle.run.specs.Records.{outside, any_outside, element_foreign}
use Rattle.run.proofs.RecordLaws.{Sound}
use Rattle.run.proofs.ScanCells.{none_outside, held_square}

-- lists judged entry by entry
all_binary : (l : List ℕ) → ((k : ℕ) → get_or l k 0 ≤ 1) → any_above 1 l ≡ false
unfolding any_above
all_binary [] h = refl
all_binary (b ∷ rest) h = rw (le-ltb 1 b (h 0)) (all_binary rest (λ k. h (suc k)))

all_inside : (side : ℕ) (l : List ℕ) (from : ℕ) → ((k : ℕ) → k < length l → outside side (get_or l k 0) (from + k) ≡ false)
    → any_outside side l from ≡ false
unfolding any_outside
all_inside side [] from h = refl
all_inside side (cell ∷ rest) from h =
    let z : from + 0 ≡ from = omega arith in
    rw (rw z at (h 0 (omega arith)))
    (all_inside side rest (from + 1)
    (λ k l. rw (let e : from + 1 + k ≡ from + suc k = omega arith in e) (h (suc k) (omega arith))))

-- two set entries are not one
some_count : (l : List ℕ) (i : ℕ) → get_or l i 0 ≢ 0 → 1 ≤ count_set l
unfolding count_set
some_count [] i n = absurd (n refl)
some_count (b ∷ rest) zero n = rw (ne_eqb b 0 n) (omega arith)
some_count (b ∷ rest) (suc i) n = let h = some_count rest i n in omega arith

two_count : (l : List ℕ) (i j : ℕ) → i < j → get_or l i 0 ≢ 0 → get_or l j 0 ≢ 0 → 2 ≤ count_set l
unfolding count_set
two_count [] i j l m n = absurd (m refl)
two_count (b ∷ rest) zero zero l m n = absurd (omega arith)
two_count (b ∷ rest) zero (suc j) l m n = rw (ne_eqb b 0 m) (let h = some_count rest j n in omega arith)
two_count (b ∷ rest) (suc i) zero l m n = absurd (omega arith)
two_count (b ∷ rest) (suc i) (suc j) l m n = let h = two_count rest i j (omega arith) m n in omega arith

two_set : (l : List ℕ) (i j : ℕ) → i ≢ j → get_or l i 0 ≢ 0 → get_or l j 0 ≢ 0 → count_set l ≢ 1
two_set l i j d m n e = go (dec_lt i j)
  where
    go : Dec (i < j) → ⊥
    go (yes a) = let h = two_count l i j a m n in omega arith
    go (no f) = let h = two_count l j i (omega arith) n m in omega arith

-- A START'S CELLS ARE SOUND
module _ (side : ℕ) (bytes : List ℕ) (given : Accepted side bytes) where
  entry : (k : ℕ) → k < 49 → get_or (flat (centred side bytes)) k 0 ≡ centred_cell side bytes (k / 7) (k % 7)
  unfolding flat centred
  entry k l =
      ap (λ n. get_or (raster 7 7 (cell_at (seven_by_seven (centred_cell side bytes)))) n 0) (sym (entry_of 7 k))
      ∙ get_or-raster 7 7 (cell_at (seven_by_seven (centred_cell side bytes))) (k / 7) (k % 7) 0 (omega arith) (omega arith)
      ∙ seven_at (centred_cell side bytes) (k / 7) (k % 7) (omega arith) (omega arith)

  pub length_cells : length (flat (centred side bytes)) ≡ 49
  unfolding flat
  length_cells = length-raster 7 7 (cell_at (centred side bytes))

  cell_binary : (row col : ℕ) → centred_cell side bytes row col ≤ 1
  unfolding centred_cell
  cell_binary row col = go (is_held side row && is_held side col)
    where
      go : (t : Bool) → cond t (byte_at side bytes (row - (3 - reach side)) (col - (3 - reach side))) 0 ≤ 1
      go true = byte_binary bytes given.binary ((row - (3 - reach side)) * side + (col - (3 - reach side)))
      go false = omega arith

  cells_binary : (k : ℕ) → get_or (flat (centred side bytes)) k 0 ≤ 1
  cells_binary k = go (dec_lt k 49)
    where
      go : Dec (k < 49) → get_or (flat (centred side bytes)) k 0 ≤ 1
      go (yes l) = let e = entry k l in let b = cell_binary (k / 7) (k % 7) in omega arith
      go (no n) = let s = length_cells in let z = get_or-eq_default (flat (centred side bytes)) 0 {n = k} (omega arith) in
          omega arith

  cells_inside : (k : ℕ) → k < 49 → outside side (get_or (flat (centred side bytes)) k 0) k ≡ false
  unfolding outside
  cells_inside k l = ap (λ v. not (eqb v 0) && not (is_held side (k / 7) && is_held side (k % 7))) (entry k l)
      ∙ go (is_held side (k / 7)) (is_held side (k % 7)) refl refl
    where
      none : (v : ℕ) (b : Bool) → v ≡ 0 → not (eqb v 0) && b ≡ false
      none v b z = rw (eq-eqb v 0 z)

      drop_last : (a : Bool) → a && false ≡ false
      drop_last true = refl
      drop_last false = refl

      go : (a b : Bool) → is_held side (k / 7) ≡ a → is_held side (k % 7) ≡ b
          → not (eqb (centred_cell side bytes (k / 7) (k % 7)) 0) && not (a && b) ≡ false
      go true true p q = drop_last (not (eqb (centred_cell side bytes (k / 7) (k % 7)) 0))
      go true false p q = none (centred_cell side bytes (k / 7) (k % 7)) true (cell_column_out side bytes (k / 7) (k % 7) q)
      go false b p q = none (centred_cell side bytes (k / 7) (k % 7)) (not (false && b))
          (cell_row_out side bytes (k / 7) (k % 7) p)

  -- where a byte of the square stands among the 49
  cell_of : (row col : ℕ) → row < side → col < side
      → (k : ℕ) × (k < 49) × (k / 7 ≡ row + (3 - reach side)) × (k % 7 ≡ col + (3 - reach side)) ×
      (get_or (flat (centred side bytes)) k 0 ≡ byte_at side bytes row col)
  cell_of row col a b =
      let o = side_bounds side given.side_is in
      let m = 3 - reach side in
      let k = (row + m) * 7 + (col + m) in
      let p : k / 7 ≡ row + m = row_of 7 (row + m) (col + m) (omega arith) in
      let q : k % 7 ≡ col + m = column_of 7 (row + m) (col + m) (omega arith) in
      let l : k < 49 = omega arith in (
        k,
        l,
        p,
        q,
        entry k l
            ∙ ap₂ (centred_cell side bytes) p q
            ∙ cell_in side bytes (row + m) (col + m) (held_in side (row + m) (omega arith) (omega arith))
            (held_in side (col + m) (omega arith) (omega arith))
            ∙ ap₂ (byte_at side bytes) (let e : row + m - m ≡ row = omega arith in e)
            (let e : col + m - m ≡ col = omega arith in e),
      )

  centre_cell : get_or (flat (centred side bytes)) 24 0 ≢ 0
  centre_cell z =
      let o = side_bounds side given.side_is in
      let c = cell_of (reach side) (reach side) (omega arith) (omega arith) in
      let p = c.2 in
      let q = c.3 in
      let e : c.0 ≡ 24 = omega arith in
      given.centre (sym c.4 ∙ ap (λ n. get_or (flat (centred side bytes)) n 0) e ∙ z)

  other_cell : count_set (flat (centred side bytes)) ≢ 1
  other_cell =
      let o = side_bounds side given.side_is in
      let h = another_set bytes (reach side * side + reach side) given.centre given.others in
      let k = h.0 in
      let l : k < side * side = let b = h.1 in let s = given.size in omega arith in
      let c = cell_of (k / side) (k % side) (row_below side side k l) (column_below side side k l) in
      two_set (flat (centred side bytes)) 24 c.0
      (λ e. h.2 (sym (entry_of side k)
      ∙ ap₂ (λ i j. i * side + j) (let p = c.2 in let q : k / side ≡ reach side = omega arith in q)
      (let p = c.3 in let q : k % side ≡ reach side = omega arith in q)))
      centre_cell (λ z. h.3 (ap (λ n. get_or bytes n 0) (sym (entry_of side k)) ∙ sym c.4 ∙ z))

  pub start_cells_sound : element_foreign side (flat (centred side bytes)) ≡ false
  unfolding element_foreign
  start_cells_sound =
      rw (
        given.side_is,
        all_binary (flat (centred side bytes)) cells_binary,
        all_inside side (flat (centred side bytes)) 0
            (λ k l. rw (let z : 0 + k ≡ k = omega arith in z) (cells_inside k (let s = length_cells in omega arith))),
        ne_eqb (get_or (flat (centred side bytes)) 24 0) 0 centre_cell,
        ne_eqb (count_set (flat (centred side bytes))) 1 other_cell,
      )

-- SOUND CELLS ARE A START'S: the square cut out of them
pub square : ℕ → List ℕ → List ℕ
square side cells = raster side side (λ row col. get_or cells ((row + (3 - reach side)) * 7 + (col + (3 - reach side))) 0)

module _ (r : Record) (s : Sound r) (size : length r.cells ≡ 49) where
  abbrev side : ℕ
  side = r.side

  abbrev bytes : List ℕ
  bytes = square r.side r.cells

  byte_is : (row col : ℕ) → row < side → col < side
      → byte_at side bytes row col ≡ get_or r.cells ((row + (3 - reach side)) * 7 + (col + (3 - reach side))) 0
  unfolding square
  byte_is row col a b = get_or-raster side side
      (λ row col. get_or r.cells ((row + (3 - reach side)) * 7 + (col + (3 - reach side))) 0) row col 0 a b

  length_bytes : length bytes ≡ side * side
  unfolding square
  length_bytes = length-raster side side (λ row col. get_or r.cells ((row + (3 - reach side)) * 7 + (col + (3 - reach side))) 0)

  byte_small : (k : ℕ) → get_or bytes k 0 ≤ 1
  byte_small k = go (dec_lt k (side * side))
    where
      go : Dec (k < side * side) → get_or bytes k 0 ≤ 1
      go (yes l) =
          let e = byte_is (k / side) (k % side) (row_below side side k l) (column_below side side k l) in
          let f = ap (λ n. get_or bytes n 0) (entry_of side k) in
          let b = byte_binary r.cells s.binary ((k / side + (3 - reach side)) * 7 + (k % side + (3 - reach side))) in
          omega arith
      go (no n) = let z = get_or-eq_default bytes 0 {n = k} (let q = length_bytes in omega arith) in omega arith

  -- a set cell is a byte of the square
  byte_of : (k : ℕ) → k < 49 → get_or r.cells k 0 ≢ 0
      → (3 - reach side ≤ k / 7) × (k / 7 - (3 - reach side) < side) × (3 - reach side ≤ k % 7) ×
      (k % 7 - (3 - reach side) < side) ×
      (byte_at side bytes (k / 7 - (3 - reach side)) (k % 7 - (3 - reach side)) ≡ get_or r.cells k 0)
  byte_of k l n =
      let h = held_square side (get_or r.cells k 0) k n
      (rw (let z : 0 + k ≡ k = omega arith in z) at (none_outside side r.cells 0 s.square k n)) in
      let a = held_bounds side (k / 7) h.0 in
      let b = held_bounds side (k % 7) h.1 in
      let c = a.0 in
      let d = b.0 in (
        c,
        omega arith,
        d,
        omega arith,
        byte_is (k / 7 - (3 - reach side)) (k % 7 - (3 - reach side)) (omega arith) (omega arith)
            ∙ ap (λ n. get_or r.cells n 0)
            (let e : (k / 7 - (3 - reach side) + (3 - reach side)) * 7 + (k % 7 - (3 - reach side) + (3 - reach side))
            ≡ k = omega arith in e),
      )

  centre_byte : byte_at side bytes (reach side) (reach side) ≢ 0
  centre_byte z =
      let o = side_bounds side s.side_is in
      s.centre (ap (λ n. get_or r.cells n 0)
      (let e : 24 ≡ (reach side + (3 - reach side)) * 7 + (reach side + (3 - reach side)) = omega arith in e)
      ∙ sym (byte_is (reach side) (reach side) (omega arith) (omega arith)) ∙ z)

  other_byte : count_set bytes ≢ 1
  other_byte =
      let o = side_bounds side s.side_is in
      let h = another_set r.cells 24 s.centre s.others in
      let k = h.0 in
      let l : k < 49 = let b = h.1 in omega arith in
      let (a, b, c, d, e) = byte_of k l h.3 in
      let i = k / 7 - (3 - reach side) in
      let j = k % 7 - (3 - reach side) in
      two_set bytes (i * side + j) (reach side * side + reach side)
      (λ q. h.2
      (let p : i ≡ reach side = sym (row_of side i j d) ∙ ap (λ n. n / side) q
      ∙ row_of side (reach side) (reach side) (omega arith) in
      let t : j ≡ reach side = sym (column_of side i j d) ∙ ap (λ n. n % side) q
      ∙ column_of side (reach side) (reach side) (omega arith) in
      omega arith))
      (λ z. h.3 (sym e ∙ z)) centre_byte

  pub bytes_accepted : first (element_refusals side bytes) ≡ 0
  bytes_accepted = rw (
    s.side_is,
    eq-eqb (length bytes) (side * side) length_bytes,
    all_binary bytes byte_small,
    ne_eqb (byte_at side bytes (reach side) (reach side)) 0 centre_byte,
    ne_eqb (count_set bytes) 1 other_byte,
  )

  pub bytes_give : flat (centred side bytes) ≡ r.cells
  unfolding flat centred
  bytes_give =
      sym (raster_is 7 7 (cell_at (seven_by_seven (centred_cell side bytes))) 0 r.cells size
      (λ row col a b. cells_same row col a b ∙ sym (seven_at (centred_cell side bytes) row col a b)))
    where
      cells_same : (row col : ℕ) → row < 7 → col < 7 → get_or r.cells (row * 7 + col) 0 ≡ centred_cell side bytes row col
      cells_same row col a b = go (is_held side row) (is_held side col) refl refl
        where
          -- a cell that is not held is not set
          unset : (is_held side row ≡ true → is_held side col ≡ true → ⊥) → get_or r.cells (row * 7 + col) 0 ≡ 0
          unset f = cases (ℕ_discrete (get_or r.cells (row * 7 + col) 0) 0)
            where
              cases : Dec (get_or r.cells (row * 7 + col) 0 ≡ 0) → get_or r.cells (row * 7 + col) 0 ≡ 0
              cases (yes z) = z
              cases (no n) =
                  let h = held_square side (get_or r.cells (row * 7 + col) 0) (row * 7 + col) n
                  (rw (let z : 0 + (row * 7 + col) ≡ row * 7 + col = omega arith in z) at
                  (none_outside side r.cells 0 s.square (row * 7 + col) n)) in
                  absurd (f (rw (row_of 7 row col b) at h.0) (rw (column_of 7 row col b) at h.1))

          go : (p q : Bool) → is_held side row ≡ p → is_held side col ≡ q
              → get_or r.cells (row * 7 + col) 0 ≡ centred_cell side bytes row col
          go true true p q =
              let x = held_bounds side row p in
              let y = held_bounds side col q in
              let c = x.0 in
              let d = y.0 in
              sym (cell_in side bytes row col p q
              ∙ byte_is (row - (3 - reach side)) (col - (3 - reach side)) (omega arith) (omega arith)
              ∙ ap₂ (λ i j. get_or r.cells (i * 7 + j) 0)
              (let e : row - (3 - reach side) + (3 - reach side) ≡ row = omega arith in e)
              (let e : col - (3 - reach side) + (3 - reach side) ≡ col = omega arith in e))
          go true false p q = unset (λ a b. false≢true (sym q ∙ b)) ∙ sym (cell_column_out side bytes row col q)
          go false q' p q = unset (λ a b. false≢true (sym p ∙ a)) ∙ sym (cell_row_out side bytes row col p)
