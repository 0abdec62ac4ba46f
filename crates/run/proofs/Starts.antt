-- The answers of the three starts, and that no second outcome meets their contracts.
-- All judge the sheet and the element first, and after that a list of their own; where a start is accepted, each of its
-- refusals was found not to apply.
use Prim.Native.Nat.{ℕ, ◌*◌, ◌≤◌}
use native.Mathlib.Nat.{zero-mul}
use native.Mathlib.Omega.{arith}
use mathlib.Core.Path.{◌≡◌, refl, ap₂, ◌∙◌}
use mathlib.Core.Bool.{Bool, true, false, not, ◌||◌}
use mathlib.Core.List.{List, [], ◌∷◌, ◌++◌}
use lib.Dec.{eqb, ltb}
use lib.ListN.{length}
use borrow.Author.Tests.{le-ltb, ltb-false, eq-eqb, eqb-true}
use Rattle.basics.specs.Refusals.{Refusal, first}
use Rattle.basics.proofs.RefusalLaws.{judged_next, first_both, passed, rule_unique}
use Rattle.grid.specs.Figures.{reach}
use Rattle.element.specs.Elements.{element_refusals}
use Rattle.element.specs.Cells.{centred, flat}
use Rattle.element.proofs.Accepted.{Accepted, accepted}
use Rattle.sheet.specs.Sheets.{row_bytes, sheet_refusals}
use Rattle.sheet.proofs.FrameLaws.{frame_sides, sheet_accepted}
use Rattle.run.specs.declared.Record.{Record}
use Rattle.run.specs.Records.{margin_of, canvas_side}
use Rattle.run.specs.Starting.{fresh_record, erosion_refusals, StartsErosion, canvas_size, canvas_refusals}
use Rattle.run.specs.Starting.{dilation_refusals, StartsDilation, StartsCropped}
use Rattle.run.specs.Patches.{Canvas}

-- the record of an accepted start
pub fresh_record_lem : (kind edge width height cap side : ℕ) (bytes cells : List ℕ) → cells ≡ flat (centred side bytes)
    → record { kind = kind; width = width; height = height; cap = cap; side = side; rows = 0; cells = cells; edge = edge }
    ≡ fresh_record kind edge width height cap side bytes
fresh_record_lem kind edge width height cap side bytes cells e = rw e

-- what an accepted start has: a sound frame, the sheet's bytes, and a sound element
pub record Judged (width height : ℕ) (sheet : List ℕ) (side : ℕ) (bytes : List ℕ) : Type 0 where
  pub wide : (1 ≤ width) × (width ≤ 4096)
  pub high : (1 ≤ height) × (height ≤ 4096)
  pub sheet_size_lem : length sheet ≡ height * row_bytes width
  pub element : Accepted side bytes

module _ (width height : ℕ) (sheet : List ℕ) (side : ℕ) (bytes : List ℕ) where
  -- refusals 2 to 7, of all starts
  abbrev common : List Refusal
  common = sheet_refusals width height sheet ++ element_refusals side bytes

  pub judged : first common ≡ 0 → Judged width height sheet side bytes
  judged e =
      let both = first_both (sheet_refusals width height sheet) (element_refusals side bytes) tt e in
      let s = sheet_accepted width height sheet both.0 in
      let f = frame_sides width height s.0 in
      record { wide = f.0; high = f.1; sheet_size_lem = s.1; element = accepted side bytes both.1 }

  -- the common refusals, and then an erosion's 10
  module _ (levels : List ℕ) where
    abbrev erosion_later : List Refusal
    erosion_later = (10, not (eqb (length levels) (height * width))) ∷ []

    pub erosion_fits : first common ≡ 0 → length levels ≡ height * width
        → 0 ≡ first (erosion_refusals width height sheet side bytes levels)
    erosion_fits z e = judged_next common erosion_later tt z (rw (eq-eqb (length levels) (height * width) e))

    pub erosion_taken : first (erosion_refusals width height sheet side bytes levels) ≡ 0
        → (first common ≡ 0) × (length levels ≡ height * width)
    erosion_taken z = let p = first_both common erosion_later tt z in (p.0, go (eqb (length levels) (height * width)) refl p.1)
      where
        go : (t : Bool) → eqb (length levels) (height * width) ≡ t → first ((10, not t) ∷ []) ≡ 0 → length levels ≡ height * width
        go true p q = eqb-true (length levels) (height * width) p
        go false p q = absurd (omega arith)

-- refusals 9 and 10 of a canvas
module _ (width height cap side count : ℕ) where
  pub canvas_taken : first (canvas_refusals width height cap side count) ≡ 0
      → (canvas_side width (margin_of cap side) ≤ 4096) × (canvas_side height (margin_of cap side) ≤ 4096) ×
      (count ≡ canvas_size width height cap side)
  canvas_taken z = go (ltb 4096 w) (ltb 4096 h) (eqb count (h * w)) refl refl refl z
    where
      w : ℕ
      w = canvas_side width (margin_of cap side)

      h : ℕ
      h = canvas_side height (margin_of cap side)

      go : (a b t : Bool) → ltb 4096 w ≡ a → ltb 4096 h ≡ b → eqb count (h * w) ≡ t → first ((9, a || b) ∷ (10, not t) ∷ []) ≡ 0
          → (w ≤ 4096) × (h ≤ 4096) × (count ≡ h * w)
      go false false true p q e z = (ltb-false 4096 w p, ltb-false 4096 h q, eqb-true count (h * w) e)
      go false false false p q e z = absurd (omega arith)
      go false true t p q e z = absurd (omega arith)
      go true b t p q e z = absurd (omega arith)

-- the common refusals, and then a dilation's 8, 9 and 10
module _ (width height : ℕ) (sheet : List ℕ) (side : ℕ) (bytes : List ℕ) (cap : ℕ) (levels : List ℕ) where
  abbrev dilation_later : List Refusal
  dilation_later = (8, ltb 2047 cap) ∷ canvas_refusals width height cap side (length levels)

  module _ (z : first (common width height sheet side bytes) ≡ 0) where
    pub dilation_canvas : cap ≤ 2047 → {number : ℕ} → number ≡ first (canvas_refusals width height cap side (length levels))
        → number ≡ first (dilation_refusals width height sheet side bytes cap levels)
    dilation_canvas l e = judged_next (common width height sheet side bytes) dilation_later tt z (rw (le-ltb 2047 cap l) e)

  pub dilation_taken : first (dilation_refusals width height sheet side bytes cap levels) ≡ 0
      → (first (common width height sheet side bytes) ≡ 0) × (cap ≤ 2047) ×
      (first (canvas_refusals width height cap side (length levels)) ≡ 0)
  dilation_taken z =
      let p = first_both (common width height sheet side bytes) dilation_later tt z in
      let q = passed 8 (ltb 2047 cap) (canvas_refusals width height cap side (length levels)) (λ e. absurd (omega arith)) p.1 in
      (p.0, ltb-false 2047 cap q.0, q.1)

-- what filling the levels of a fresh record asks: a plain erosion has no margin ..
pub frame_canvas : (width height side : ℕ) (levels : List ℕ) → width ≤ 4096 → height ≤ 4096 → length levels ≡ height * width
    → Canvas width height (margin_of 0 side) levels
frame_canvas width height side levels a b e =
    let z = zero-mul (reach side) in record {
      wide = omega arith;
      high = omega arith;
      room = e ∙ ap₂ (λ h w. h * w) (let p : height ≡ canvas_side height (margin_of 0 side) = omega arith in p)
          (let p : width ≡ canvas_side width (margin_of 0 side) = omega arith in p);
    }

-- NO SECOND OUTCOME
pub start_erosion_unique : (width height : ℕ) (sheet : List ℕ) (side : ℕ) (bytes levels : List ℕ) (m n : ℕ)
    (x y : Record × List ℕ)
    → StartsErosion width height sheet side bytes levels m x → StartsErosion width height sheet side bytes levels n y
    → (m ≡ n) × (x ≡ y)
start_erosion_unique width height sheet side bytes levels = rule_unique

pub start_dilation_unique : (width height : ℕ) (sheet : List ℕ) (side : ℕ) (bytes : List ℕ) (cap : ℕ) (levels : List ℕ) (m n : ℕ)
    (x y : Record × List ℕ)
    → StartsDilation width height sheet side bytes cap levels m x → StartsDilation width height sheet side bytes cap levels n y
    → (m ≡ n) × (x ≡ y)
start_dilation_unique width height sheet side bytes cap levels = rule_unique

pub start_cropped_unique : (width height : ℕ) (sheet : List ℕ) (side : ℕ) (bytes : List ℕ) (cap : ℕ) (levels : List ℕ) (m n : ℕ)
    (x y : Record × List ℕ)
    → StartsCropped width height sheet side bytes cap levels m x → StartsCropped width height sheet side bytes cap levels n y
    → (m ≡ n) × (x ≡ y)
start_cropped_unique width height sheet side bytes cap levels = rule_unique
