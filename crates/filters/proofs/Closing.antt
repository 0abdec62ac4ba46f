-- A closing erodes the dilated set on the canvas: after the scan the levels above n stand exactly where closing by n holds.
-- It is the erosion theorem for the dilated set as it lies on the canvas; set and point are moved by the margin together.
use mathlib.Core.Path.{◌≡◌, sym, ◌∙◌, ap, subst}
use mathlib.Core.Logic.{◌↔◌}
use mathlib.Core.List.{List}
use Prim.Native.Nat.{ℕ, ◌+◌, ◌*◌, ◌<◌}
use lib.ListN.{get_or}
use Rattle.grid.specs.Points.{Point, ◌⊕◌, neg}
use Rattle.grid.specs.Sets.{PointSet, eroded, dilated, closed}
use Rattle.grid.proofs.PointLaws.{⊕-swap, ⊕-cancel}
use Rattle.grid.proofs.LevelLaws.{erosion_iff}
use Rattle.row.specs.declared.Area.{Area}
use Rattle.scan.specs.Look.{full_scan}
use Rattle.scan.specs.Starts.{ErosionStart}
use Rattle.scan.proofs.LookLaws.{spot}
use Rattle.scan.proofs.Erosion.{erosion_at}

-- a set as it lies on a canvas with a margin
abbrev pub on_margin : ℕ → PointSet → PointSet
on_margin margin A p = A (p ⊕ neg (spot margin margin))

-- set and point moved together
eroded_move : (A K : PointSet) (n : ℕ) (c x y : Point) → x ⊕ c ≡ y → eroded (λ p. A (p ⊕ c)) K n x ↔ eroded A K n y
eroded_move A K n c x y e = ((λ h b hb. subst A (moved b) (h b hb)), (λ h b hb. subst A (sym (moved b)) (h b hb)))
  where
    moved : (b : Point) → (x ⊕ b) ⊕ c ≡ y ⊕ b
    moved b = ⊕-swap x b c ∙ ap (λ p. p ⊕ b) e

module _ {area : Area} {A K : PointSet} (margin n : ℕ) {start : List ℕ}
    (given : ErosionStart area (on_margin margin (dilated A K n)) K start) where
  -- THE CLOSING THEOREM, read off the list at a point of the frame
  pub closing_at : (row col : ℕ) → row + margin < area.height → col + margin < area.width
      → closed A K n (spot row col) ↔ (n < get_or (full_scan area start) ((row + margin) * area.width + (col + margin)) 0)
  closing_at row col a b =
      let i = erosion_iff (on_margin margin (dilated A K n)) K (spot (row + margin) (col + margin)) given.has_origin
      (erosion_at given (row + margin) (col + margin) a b) n in
      let m = eroded_move (dilated A K n) K n (neg (spot margin margin)) (spot (row + margin) (col + margin)) (spot row col)
      (⊕-cancel (spot row col) (spot margin margin)) in
      ((λ h. i.0 (m.1 h)), (λ l. m.0 (i.1 l)))
