-- What an element's bytes mean stays the same in each form that the library gives them: seven rows of seven cells, the flat
-- row, and reflected.
-- Each is one of the grid's laws of squares, at the place of one entry.
use Prim.Native.Nat.{ℕ, ◌+◌, ◌-◌, ◌*◌, ◌≤◌, ◌<◌}
use native.Mathlib.Omega.{arith}
use mathlib.Core.Path.{◌≡◌, refl, sym, ap, ap₂, ◌∙◌}
use mathlib.Core.Bool.{Bool, true, false}
use mathlib.Core.List.{List, []}
use lib.Dec.{leb, ltb}
use lib.ListN.{length, get_or}
use borrow.Author.Tests.{ltb-true, leb-true}
use Rattle.basics.specs.Tables.{table, raster}
use Rattle.basics.proofs.BoundLaws.{both}
use Rattle.basics.proofs.TableLaws.{get_or-table, get_or-raster, raster_is}
use Rattle.grid.specs.Sets.{reflect, ◌≈◌}
use Rattle.grid.specs.Figures.{element, reach}
use Rattle.grid.proofs.FigureLaws.{element_same, element_larger, element_smaller, element_reflect}
use Rattle.element.specs.Elements.{byte_at, element_set, is_side}
use Rattle.element.specs.Cells.{cell_at, set_of_cells, seven_by_seven, is_held, centred_cell, centred, turned, flat, unflat}
use Rattle.element.specs.Reflect.{reflected_bytes}
use Rattle.element.proofs.ElementLaws.{side_bounds, held_in, cell_in, cell_row_out, cell_column_out}

-- a cell of a seven by seven
pub seven_at : (cell : ℕ → ℕ → ℕ) (row col : ℕ) → row < 7 → col < 7 → cell_at (seven_by_seven cell) row col ≡ cell row col
unfolding seven_by_seven
seven_at cell row col a b = ap (λ l. get_or l col 0) (get_or-table (λ r. table 7 (λ c. cell r c)) 7 row [] a)
    ∙ get_or-table (cell row) 7 col 0 b

-- where a place is held
pub held_bounds : (side p : ℕ) → is_held side p ≡ true → (3 - reach side ≤ p) × (p < 3 - reach side + side)
unfolding is_held
held_bounds side p e =
    let h = both (leb (3 - reach side) p) (ltb p (3 - reach side + side)) e in
    (leb-true (3 - reach side) p h.0, ltb-true p (3 - reach side + side) h.1)

-- THE CELLS MEAN WHAT THE BYTES MEAN
pub centred_means : (side : ℕ) (bytes : List ℕ) → is_side side ≡ true → set_of_cells (centred side bytes) ≈ element_set side bytes
unfolding centred
centred_means side bytes e =
    let b = side_bounds side e in (
      element_smaller side 7 (byte_at side bytes) (cell_at (seven_by_seven (centred_cell side bytes))) (3 - reach side) (omega arith)
          (omega arith) inner,
      element_larger side 7 (byte_at side bytes) (cell_at (seven_by_seven (centred_cell side bytes))) (3 - reach side) (omega arith)
          (omega arith) outer,
    )
  where
    inner : (row col : ℕ) → row < 7 → col < 7 → cell_at (seven_by_seven (centred_cell side bytes)) row col ≡ 1
        → (3 - reach side ≤ row) × (row < 3 - reach side + side) × (3 - reach side ≤ col) × (col < 3 - reach side + side) ×
        (byte_at side bytes (row - (3 - reach side)) (col - (3 - reach side)) ≡ 1)
    inner row col a c v = go (is_held side row) (is_held side col) refl refl
      where
        w : centred_cell side bytes row col ≡ 1
        w = sym (seven_at (centred_cell side bytes) row col a c) ∙ v

        go : (p q : Bool) → is_held side row ≡ p → is_held side col ≡ q
            → (3 - reach side ≤ row) × (row < 3 - reach side + side) × (3 - reach side ≤ col) × (col < 3 - reach side + side) ×
            (byte_at side bytes (row - (3 - reach side)) (col - (3 - reach side)) ≡ 1)
        go true true f g = let r = held_bounds side row f in let s = held_bounds side col g in
            (r.0, r.1, s.0, s.1, sym (cell_in side bytes row col f g) ∙ w)
        go true false f g = absurd (let z = sym (cell_column_out side bytes row col g) ∙ w in omega arith)
        go false q f g = absurd (let z = sym (cell_row_out side bytes row col f) ∙ w in omega arith)

    outer : (row col : ℕ) → row < side → col < side → byte_at side bytes row col ≡ 1
        → cell_at (seven_by_seven (centred_cell side bytes)) (row + (3 - reach side)) (col + (3 - reach side)) ≡ 1
    outer row col a c v =
        let b = side_bounds side e in
        let back : (n : ℕ) → n + (3 - reach side) - (3 - reach side) ≡ n = λ n. omega arith in
        seven_at (centred_cell side bytes) (row + (3 - reach side)) (col + (3 - reach side)) (omega arith) (omega arith)
        ∙ cell_in side bytes (row + (3 - reach side)) (col + (3 - reach side))
        (held_in side (row + (3 - reach side)) (omega arith) (omega arith))
        (held_in side (col + (3 - reach side)) (omega arith) (omega arith))
        ∙ ap₂ (byte_at side bytes) (back row) (back col)
        ∙ v

-- turned cells mean the reflected set
pub turned_means : (cells : List (List ℕ)) → set_of_cells (turned cells) ≈ reflect (set_of_cells cells)
unfolding turned
turned_means cells = element_reflect 7 refl (cell_at cells) (cell_at (seven_by_seven (λ row col. cell_at cells (6 - row) (6 - col))))
    (λ row col a c. seven_at (λ row col. cell_at cells (6 - row) (6 - col)) row col a c)

-- the flat row means what the cells mean, and gives them back
pub flat_means : (cells : List (List ℕ)) → element_set 7 (flat cells) ≈ set_of_cells cells
unfolding flat
flat_means cells = (
  element_same 7 (byte_at 7 (raster 7 7 (cell_at cells))) (cell_at cells)
      (λ row col a c v. sym (get_or-raster 7 7 (cell_at cells) row col 0 a c) ∙ v),
  element_same 7 (cell_at cells) (byte_at 7 (raster 7 7 (cell_at cells)))
      (λ row col a c v. get_or-raster 7 7 (cell_at cells) row col 0 a c ∙ v),
)

pub unflat_means : (cells : List ℕ) → set_of_cells (unflat cells) ≈ element_set 7 cells
unfolding unflat
unflat_means cells = (
  element_same 7 (cell_at (seven_by_seven (byte_at 7 cells))) (byte_at 7 cells)
      (λ row col a c v. sym (seven_at (byte_at 7 cells) row col a c) ∙ v),
  element_same 7 (byte_at 7 cells) (cell_at (seven_by_seven (byte_at 7 cells)))
      (λ row col a c v. seven_at (byte_at 7 cells) row col a c ∙ v),
)

-- REFLECTING THE BYTES REFLECTS THE SET, and twice gives the bytes back
reflected_at : (side : ℕ) (bytes : List ℕ) (row col : ℕ) → row < side → col < side
    → byte_at side (reflected_bytes side bytes) row col ≡ byte_at side bytes (side - 1 - row) (side - 1 - col)
unfolding reflected_bytes
reflected_at side bytes row col a c =
    get_or-raster side side (λ row col. byte_at side bytes (side - 1 - row) (side - 1 - col)) row col 0 a c

pub reflected_means : (side : ℕ) (bytes : List ℕ) → is_side side ≡ true
    → element_set side (reflected_bytes side bytes) ≈ reflect (element_set side bytes)
reflected_means side bytes e =
    element_reflect side (side_bounds side e).1.1 (byte_at side bytes) (byte_at side (reflected_bytes side bytes))
    (reflected_at side bytes)

pub reflected_twice : (side : ℕ) (bytes : List ℕ) → length bytes ≡ side * side
    → reflected_bytes side (reflected_bytes side bytes) ≡ bytes
unfolding reflected_bytes
reflected_twice side bytes l =
    sym (raster_is side side (λ row col. byte_at side (reflected_bytes side bytes) (side - 1 - row) (side - 1 - col)) 0 bytes l
    (λ row col a c. sym (reflected_at side bytes (side - 1 - row) (side - 1 - col) (omega arith) (omega arith)
    ∙ ap₂ (byte_at side bytes) (let q : side - 1 - (side - 1 - row) ≡ row = omega arith in q)
    (let q : side - 1 - (side - 1 - col) ≡ col = omega arith in q))))

-- BYTES GIVEN CELL BY CELL MEAN THE ELEMENT THAT THE CELLS DRAW
pub drawn_means : (side : ℕ) (cell : ℕ → ℕ → ℕ) → element_set side (raster side side cell) ≈ element side cell
drawn_means side cell = (
  element_same side (byte_at side (raster side side cell)) cell
      (λ row col a b v. sym (get_or-raster side side cell row col 0 a b) ∙ v),
  element_same side cell (byte_at side (raster side side cell)) (λ row col a b v. get_or-raster side side cell row col 0 a b ∙ v),
)
