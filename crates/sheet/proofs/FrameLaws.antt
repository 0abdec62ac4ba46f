-- The checks of frames and sheets: what each test decides, and what an accepted frame and sheet are.
use Prim.Native.Nat.{ℕ, ◌*◌, ◌≤◌}
use native.Mathlib.Nat.{mul-le-mul}
use native.Mathlib.Omega.{arith}
use mathlib.Core.Path.{◌≡◌}
use mathlib.Core.Bool.{false, not, ◌||◌}
use mathlib.Core.List.{List, [], ◌∷◌}
use lib.Dec.{eqb, ltb}
use lib.ListN.{length}
use borrow.Author.Tests.{eq-eqb, ne_eqb, eqb-true, eqb-false, ltb-false, not-false, le-ltb}
use Rattle.basics.specs.Limits.{longest_side}
use Rattle.basics.specs.Refusals.{Refusal, first}
use Rattle.basics.proofs.BoundLaws.{neither}
use Rattle.basics.proofs.RefusalLaws.{judged_next, first_both, passed}
use Rattle.sheet.specs.Sheets.{row_bytes, is_side_out, frame_refusals, sheet_refusals}

module _ (side : ℕ) where
  pub side_fits : 1 ≤ side → side ≤ longest_side → is_side_out side ≡ false
  unfolding is_side_out
  side_fits a b = rw (ne_eqb side 0 (λ z. absurd (omega arith)), le-ltb longest_side side b)

  pub side_in : is_side_out side ≡ false → (1 ≤ side) × (side ≤ longest_side)
  unfolding is_side_out
  side_in e =
      let h = neither (eqb side 0) (ltb longest_side side) e in
      let n = eqb-false side 0 h.0 in
      (omega arith, ltb-false longest_side side h.1)

module _ (width height : ℕ) where
  pub accept_frame : is_side_out width ≡ false → is_side_out height ≡ false → 0 ≡ first (frame_refusals width height)
  accept_frame e f = rw (e, f)

  -- an accepted frame has sides from 1 to 4,096
  pub frame_sides : first (frame_refusals width height) ≡ 0
      → ((1 ≤ width) × (width ≤ longest_side)) × ((1 ≤ height) × (height ≤ longest_side))
  frame_sides e =
      let in_range = (passed 2 (is_side_out width || is_side_out height) [] (λ z. omega arith) e).0 in
      let h = neither (is_side_out width) (is_side_out height) in_range in
      (side_in width h.0, side_in height h.1)

  -- its bytes are few
  pub raster_small : width ≤ longest_side → height ≤ longest_side → height * row_bytes width ≤ longest_side * 512
  raster_small a b = mul-le-mul b (let l : row_bytes width ≤ 512 = omega arith in l)

  module _ (bytes : List ℕ) where
    -- the refusal of bytes that are not the frame's
    abbrev bytes_wrong : List Refusal
    bytes_wrong = (3, not (eqb (length bytes) (height * row_bytes width))) ∷ []

    module _ (f : first (frame_refusals width height) ≡ 0) where
      pub accept_sheet : length bytes ≡ height * row_bytes width → 0 ≡ first (sheet_refusals width height bytes)
      accept_sheet e = judged_next (frame_refusals width height) bytes_wrong tt f
          (rw (eq-eqb (length bytes) (height * row_bytes width) e))

    -- an accepted sheet has an accepted frame and its bytes
    pub sheet_accepted : first (sheet_refusals width height bytes) ≡ 0
        → (first (frame_refusals width height) ≡ 0) × (length bytes ≡ height * row_bytes width)
    sheet_accepted e =
        let h = first_both (frame_refusals width height) bytes_wrong tt e in
        let n = (passed 3 (not (eqb (length bytes) (height * row_bytes width))) [] (λ z. omega arith) h.1).0 in
        (h.0, eqb-true (length bytes) (height * row_bytes width) (not-false _ n))
