-- Sheets with the same pixels start with the same level at each point of the area; refusals go by the sheet's length alone.
use Prim.Native.Nat.{ℕ, ◌-◌, ◌*◌}
use native.Mathlib.Omega.{arith}
use mathlib.Core.Path.{◌≡◌, refl, ap}
use mathlib.Core.Bool.{Bool, true, false, not, cond}
use mathlib.Core.List.{List, [], ◌∷◌, ◌++◌}
use lib.Dec.{eqb, ltb}
use lib.ListN.{length}
use Rattle.basics.specs.Limits.{highest_cap}
use Rattle.basics.specs.Refusals.{Refusal, Answers}
use Rattle.basics.proofs.RefusalLaws.{rule_alike}
use Rattle.basics.proofs.TableLaws.{raster_same}
use Rattle.element.specs.Elements.{element_refusals}
use Rattle.sheet.specs.Sheets.{pixel, sheet_refusals}
use Rattle.sheet.specs.SamePixels.{SamePixels}
use Rattle.sheet.proofs.SamePixelsLaws.{same_refusals}
use Rattle.run.specs.declared.Record.{Record}
use Rattle.run.specs.declared.kinds.Kind.{Kind}
use Rattle.run.specs.declared.kinds.Kind.TheVariants.{Eroding, Dilating, Cropping}
use Rattle.run.specs.Kinds.{on_of, off_of, beyond_of}
use Rattle.run.specs.Records.{margin, area_width, area_height, empty_record}
use Rattle.run.specs.Starting.{framed, start_level, start_area, start_levels, begun, start_record, canvas_refusals, dilation_refusals}
use Rattle.run.specs.SameStarts.{SameStarts}
use Rattle.run.proofs.StartLevels.{framed_bounds}

module _ (width height : ℕ) (one other : List ℕ) (same : SamePixels width height one other) where
  same_level : (margin on off outside row col : ℕ)
      → start_level width height margin one on off outside row col ≡ start_level width height margin other on off outside row col
  same_level margin on off outside row col = go (framed width height margin row col) refl
    where
      go : (t : Bool) → framed width height margin row col ≡ t
          → cond t (cond (eqb (pixel width one (row - margin) (col - margin)) 1) on off) outside
          ≡ cond t (cond (eqb (pixel width other (row - margin) (col - margin)) 1) on off) outside
      go true e =
          let (l, h, m, i) = framed_bounds width height margin row col e in
          ap (λ v. cond (eqb v 1) on off) (same (row - margin) (col - margin) (omega arith) (omega arith))
      go false e = refl

  same_levels : (r : Record) → r.width ≡ width → r.height ≡ height → start_levels r one ≡ start_levels r other
  unfolding start_area
  same_levels r w h =
      raster_same (area_width r) (area_height r) _ _
      (λ row col a b. rw (w, h) (same_level (margin r) (on_of r) (off_of r) (beyond_of r) row col))

  -- any start: its last refusals and its record
  alike : length one ≡ length other → (last : List Refusal) (kept : Record × List ℕ) (r : Record) → r.width ≡ width
      → r.height ≡ height → (m n : ℕ) (x y : Record × List ℕ)
      → Answers (sheet_refusals width height one ++ last) kept (λ after. after ≡ begun r one) m x
      → Answers (sheet_refusals width height other ++ last) kept (λ after. after ≡ begun r other) n y
      → (m ≡ n) × (x ≡ y)
  alike size last kept r w h =
      rule_alike (ap (λ refusals. refusals ++ last) (same_refusals width height one other size))
      (ap (λ levels. (r, levels)) (same_levels r w h))

pub same_starts : SameStarts
same_starts width height one other size same side bytes lent m n x y = (
  alike width height one other same size (element_refusals side bytes ++ (10, not (eqb (length lent) (height * width))) ∷ [])
      (empty_record, lent) (start_record Eroding width height 0 side bytes) refl refl m n x y,
  λ cap. on_canvas_lem Dilating cap,
  λ cap. on_canvas_lem Cropping cap,
)
  where
    on_canvas_lem : (kind : Kind) (cap : ℕ)
        → Answers (dilation_refusals width height one side bytes cap lent) (empty_record, lent)
        (λ after. after ≡ begun (start_record kind width height cap side bytes) one) m x
        → Answers (dilation_refusals width height other side bytes cap lent) (empty_record, lent)
        (λ after. after ≡ begun (start_record kind width height cap side bytes) other) n y
        → (m ≡ n) × (x ≡ y)
    on_canvas_lem kind cap =
        alike width height one other same size
        (element_refusals side bytes ++ (8, ltb highest_cap cap) ∷ canvas_refusals width height cap side (length lent)) (empty_record, lent)
        (start_record kind width height cap side bytes) refl refl m n x y
