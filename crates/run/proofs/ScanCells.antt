-- The cells that a sound record scans with: they stay within the side's reach, and their partners are the element, or the
-- element turned about.
-- Cell k of the seven by seven is entry k of the flat row, or entry 48 - k where the cells are turned.
use Prim.Native.Nat.{ℕ, zero, suc, ◌+◌, ◌-◌, ◌*◌, ◌/◌, ◌%◌, ◌≤◌, ◌<◌}
use native.Mathlib.Omega.{arith}
use mathlib.Core.Path.{◌≡◌, refl, ap, ap₂, ◌∙◌}
use mathlib.Core.Bool.{Bool, true, false, not, ◌&&◌, true≢false}
use mathlib.Core.Logic.{◌≢◌}
use mathlib.Core.List.{List, [], ◌∷◌}
use lib.ListN.{get_or}
use borrow.Author.Tests.{ne_eqb}
use Rattle.basics.proofs.BoundLaws.{neither}
use Rattle.grid.specs.Points.{neg}
use Rattle.grid.specs.Sets.{reflect, ◌≈◌}
use Rattle.grid.specs.Figures.{reach}
use Rattle.element.specs.Elements.{byte_at, element_set}
use Rattle.element.specs.Cells.{is_held, cell_at, turned, unflat}
use Rattle.element.proofs.ElementLaws.{side_bounds}
use Rattle.element.proofs.Meaning.{seven_at, held_bounds, unflat_means, turned_means}
use Rattle.element.proofs.Accepted.{byte_binary}
use Rattle.row.specs.RowRule.{cell_number}
use Rattle.scan.specs.Scan.{Reaches}
use Rattle.scan.specs.Look.{partners}
use Rattle.scan.proofs.PartnerLaws.{partners_element}
use Rattle.run.specs.declared.Record.{Record}
use Rattle.run.specs.declared.kinds.Kind.{Kind}
use Rattle.run.specs.declared.kinds.Kind.TheVariants.{Eroding, Dilating, Cropping}
use Rattle.run.specs.Kinds.{kind_of, by_kind, cells_of}
use Rattle.run.specs.Records.{outside, any_outside}
use Rattle.run.proofs.RecordLaws.{Sound}

cell_flat : (cells : List ℕ) (k : ℕ) → k < 49 → cell_number (unflat cells) k ≡ get_or cells k 0
unfolding cell_number unflat
cell_flat cells k l = seven_at (byte_at 7 cells) (k / 7) (k % 7) (omega arith) (omega arith)
    ∙ ap (λ n. get_or cells n 0) (let e : k / 7 * 7 + k % 7 ≡ k = omega arith in e)

cell_turned : (cells : List ℕ) (k : ℕ) → k < 49 → cell_number (turned (unflat cells)) k ≡ get_or cells (48 - k) 0
unfolding cell_number turned
cell_turned cells k l =
    seven_at (λ row col. cell_at (unflat cells) (6 - row) (6 - col)) (k / 7) (k % 7) (omega arith) (omega arith)
    ∙ ap₂ (cell_at (unflat cells)) (let e : 6 - k / 7 ≡ (48 - k) / 7 = omega arith in e)
    (let e : 6 - k % 7 ≡ (48 - k) % 7 = omega arith in e)
    ∙ cell_flat cells (48 - k) (omega arith)

-- no cell is set outside the square
pub none_outside : (side : ℕ) (cells : List ℕ) (from : ℕ) → any_outside side cells from ≡ false → (k : ℕ) → get_or cells k 0 ≢ 0
    → outside side (get_or cells k 0) (from + k) ≡ false
unfolding any_outside
none_outside side [] from e k n = absurd (n refl)
none_outside side (cell ∷ rest) from e zero n = let f = neither (outside side cell from) (any_outside side rest (from + 1)) e in
    rw (let z : from + 0 ≡ from = omega arith in z) f.0
none_outside side (cell ∷ rest) from e (suc k) n =
    let f = neither (outside side cell from) (any_outside side rest (from + 1)) e in
    rw (let z : from + suc k ≡ from + 1 + k = omega arith in z) (none_outside side rest (from + 1) f.1 k n)

pub held_square : (side cell k : ℕ) → cell ≢ 0 → outside side cell k ≡ false
    → (is_held side (k / 7) ≡ true) × (is_held side (k % 7) ≡ true)
unfolding outside
held_square side cell k n e = go (is_held side (k / 7)) (is_held side (k % 7)) refl refl (rw (ne_eqb cell 0 n) at e)
  where
    go : (a b : Bool) → is_held side (k / 7) ≡ a → is_held side (k % 7) ≡ b → not (a && b) ≡ false
        → (is_held side (k / 7) ≡ true) × (is_held side (k % 7) ≡ true)
    go true true p q e = (p, q)
    go true false p q e = absurd (true≢false e)
    go false b p q e = absurd (true≢false e)

module _ (r : Record) (s : Sound r) where
  set_row : (k : ℕ) → get_or r.cells k 0 ≢ 0 → (3 - reach r.side ≤ k / 7) × (k / 7 < 3 - reach r.side + r.side)
  set_row k n = held_bounds r.side (k / 7)
      (held_square r.side (get_or r.cells k 0) k n
      (rw (let z : 0 + k ≡ k = omega arith in z) at (none_outside r.side r.cells 0 s.square k n))).0

  pub scan_reaches : Reaches (reach r.side) (cells_of r)
  scan_reaches = record { above = λ k l n. go (kind_of r) k l n }
    where
      given : (k : ℕ) → k < 49 → cell_number (unflat r.cells) k ≢ 0 → 3 ≤ k / 7 + reach r.side
      given k l n = let b = set_row k (λ z. n (cell_flat r.cells k l ∙ z)) in omega arith

      go : (kind : Kind) (k : ℕ) → k < 49
          → cell_number (by_kind kind (unflat r.cells) (turned (unflat r.cells)) (unflat r.cells)) k ≢ 0
          → 3 ≤ k / 7 + reach r.side
      go Eroding k l n = given k l n
      go Cropping k l n = given k l n
      go Dilating k l n =
          let b = set_row (48 - k) (λ z. n (cell_turned r.cells k l ∙ z)) in
          let o = side_bounds r.side s.side_is in
          omega arith

  -- every cell is 0 or 1, turned or not
  flat_binary : (i j : ℕ) → i < 7 → j < 7 → cell_at (unflat r.cells) i j ≤ 1
  unfolding unflat
  flat_binary i j a b = let e = seven_at (byte_at 7 r.cells) i j a b in
      let h = byte_binary r.cells s.binary (i * 7 + j) in omega arith

  turned_binary : (i j : ℕ) → i < 7 → j < 7 → cell_at (turned (unflat r.cells)) i j ≤ 1
  unfolding turned
  turned_binary i j a b =
      let e = seven_at (λ row col. cell_at (unflat r.cells) (6 - row) (6 - col)) i j a b in
      let h = flat_binary (6 - i) (6 - j) (omega arith) (omega arith) in
      omega arith

  -- THE PARTNERS: x + b where the cells are as given, x - b where they are turned
  pub partners_given : cells_of r ≡ unflat r.cells → partners (cells_of r) ≈ element_set 7 r.cells
  partners_given e =
      let p = partners_element (unflat r.cells) flat_binary in
      let u = unflat_means r.cells in
      rw e ((λ x h. u.0 x (p.0 x h)), (λ x h. p.1 x (u.1 x h)))

  pub partners_turned : cells_of r ≡ turned (unflat r.cells) → partners (cells_of r) ≈ reflect (element_set 7 r.cells)
  partners_turned e =
      let p = partners_element (turned (unflat r.cells)) turned_binary in
      let t = turned_means (unflat r.cells) in
      let u = unflat_means r.cells in
      rw e ((λ x h. u.0 (neg x) (t.0 x (p.0 x h))), (λ x h. p.1 x (t.1 x (u.1 (neg x) h))))
