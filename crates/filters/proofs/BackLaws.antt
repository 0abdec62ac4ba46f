-- The way back, of either kind: its record is sound, its area is the first run's, and its start stands on the set that the
-- first run holds.
use Prim.Native.Nat.{ℕ, ◌+◌, ◌*◌, ◌<◌}
use native.Mathlib.Nat.{zero-mul}
use native.Mathlib.Omega.{arith}
use mathlib.Core.Path.{◌≡◌, refl, sym, ap, ap₂, ◌∙◌}
use mathlib.Core.Bool.{Bool, true, false, cond, false≢true}
use mathlib.Core.Logic.{◌↔◌}
use mathlib.Core.List.{List}
use lib.Dec.{eqb}
use lib.ListN.{length, get_or}
use borrow.Author.Tests.{le-ltb}
use Rattle.basics.proofs.Arithmetic.{entry_below}
use Rattle.sheet.proofs.FrameLaws.{side_fits}
use Rattle.basics.specs.Limits.{longest_side}
use Rattle.basics.proofs.TableLaws.{length-table, get_or-table}
use Rattle.grid.specs.Points.{Point}
use Rattle.grid.specs.Sets.{PointSet}
use Rattle.grid.specs.Figures.{reach}
use Rattle.scan.specs.Look.{look}
use Rattle.scan.proofs.LookLaws.{spot, look_inside}
use Rattle.run.specs.declared.Record.{Record}
use Rattle.run.specs.Kinds.{erosion_kind, on_of, off_of, is_held_at}
use Rattle.run.specs.Records.{area_width, area_height, area_of, kind_foreign, cap_foreign, foreign}
use Rattle.run.proofs.RecordLaws.{taken_parts, sound}
use Rattle.filters.specs.Back.{back, back_start}

module _ (r : Record) where
  pub back_width : area_width (back r) ≡ area_width r
  back_width = let z = zero-mul (reach r.side) in omega arith

  pub back_height : area_height (back r) ≡ area_height r
  back_height = let z = zero-mul (reach r.side) in omega arith

-- the way back is a run that a start could give
back_kind : (r : Record) → kind_foreign (back r) ≡ false
unfolding kind_foreign
back_kind r = go (eqb r.kind erosion_kind) refl
  where
    go : (t : Bool) → eqb r.kind erosion_kind ≡ t → kind_foreign (back r) ≡ false
    go true e = rw e
    go false e = rw e

pub back_taken : (r : Record) → foreign r ≡ false → foreign (back r) ≡ false
unfolding foreign cap_foreign
back_taken r e =
    let s = sound r e in
    let w = s.wide in
    let h = s.high in
    let z = zero-mul (reach r.side) in
    let a = s.area_wide in
    let b = s.area_high in
    rw (
      side_fits (area_width r) (omega arith) s.area_wide,
      side_fits (area_height r) (omega arith) s.area_high,
      (taken_parts r e).2,
      back_kind r,
      le-ltb longest_side (area_width (back r)) (omega arith),
      le-ltb longest_side (area_height (back r)) (omega arith),
    )

-- the start of the way back, where the first run holds the points of S at a size
module _ (r : Record) (first : List ℕ) (n : ℕ) (S : PointSet) (size : length first ≡ area_height r * area_width r)
    (is : (x : Point) → S x ↔ (is_held_at r n (look (area_of r) first x) ≡ true)) where
  pub marks_decide : (x : Point) → Dec (S x)
  marks_decide x = go (is_held_at r n (look (area_of r) first x)) refl
    where
      go : (t : Bool) → is_held_at r n (look (area_of r) first x) ≡ t → Dec (S x)
      go true e = yes ((is x).1 e)
      go false e = no (λ h. false≢true (sym e ∙ (is x).0 h))

  pub marks_size : length (back_start r first n) ≡ area_height (back r) * area_width (back r)
  unfolding back_start
  marks_size = length-table (λ k. cond (is_held_at r n (get_or first k 0)) (on_of (back r)) (off_of (back r))) (length first) ∙ size
      ∙ sym (ap₂ (λ h w. h * w) (back_height r) (back_width r))

  module _ (row col : ℕ) (a : row < area_height (back r)) (b : col < area_width (back r)) where
    mark : (t : Bool) → is_held_at r n (look (area_of r) first (spot row col)) ≡ t
        → get_or (back_start r first n) (row * area_width (back r) + col) 0 ≡ cond t (on_of (back r)) (off_of (back r))
    unfolding back_start
    mark t e =
        let bw = back_width r in
        let bh = back_height r in
        let f : ℕ → ℕ = λ k. cond (is_held_at r n (get_or first k 0)) (on_of (back r)) (off_of (back r)) in
        let l = entry_below (area_width r) (area_height r) row col (omega arith) (omega arith) in
        ap (λ w. get_or (back_start r first n) (row * w + col) 0) bw
        ∙ get_or-table f (length first) (row * area_width r + col) 0 (omega arith)
        ∙ ap (λ v. cond (is_held_at r n v) (on_of (back r)) (off_of (back r)))
        (sym (look_inside (area_of r) first row col (omega arith) (omega arith)))
        ∙ ap (λ u. cond u (on_of (back r)) (off_of (back r))) e

    pub marks_on : S (spot row col) → get_or (back_start r first n) (row * area_width (back r) + col) 0 ≡ on_of (back r)
    marks_on h = mark true ((is (spot row col)).0 h)

    pub marks_off : ¬ S (spot row col) → get_or (back_start r first n) (row * area_width (back r) + col) 0 ≡ off_of (back r)
    marks_off m = go (is_held_at r n (look (area_of r) first (spot row col))) refl
      where
        go : (t : Bool) → is_held_at r n (look (area_of r) first (spot row col)) ≡ t
            → get_or (back_start r first n) (row * area_width (back r) + col) 0 ≡ off_of (back r)
        go true e = absurd (m ((is (spot row col)).1 e))
        go false e = mark false e
