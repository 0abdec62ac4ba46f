-- What an accepted start gives: a record that is not foreign, no row done, and levels of the area's size. And every record that
-- is not foreign is given by some start.
use Prim.Native.Nat.{ℕ, ◌*◌, ◌≤◌}
use native.Mathlib.Nat.{zero-mul}
use native.Mathlib.Omega.{arith}
use mathlib.Core.Path.{◌≡◌, refl, sym, ap, subst, ◌∙◌}
use mathlib.Core.Bool.{false, not, ◌||◌}
use mathlib.Core.Logic.{◌↔◌}
use mathlib.Core.List.{List, [], ◌∷◌, ◌++◌}
use lib.Dec.{eqb, ltb}
use lib.ListN.{length, replicate, length-replicate}
use borrow.Author.Tests.{eq-eqb, le-ltb}
use Rattle.basics.specs.Refusals.{Refusal, first, Answers}
use Rattle.basics.proofs.RefusalLaws.{first_accepted, accepts}
use Rattle.basics.proofs.TableLaws.{length-raster}
use Rattle.grid.specs.Figures.{reach}
use Rattle.element.specs.Elements.{element_refusals}
use Rattle.sheet.specs.Sheets.{row_bytes, sheet_refusals}
use Rattle.sheet.proofs.FrameLaws.{accept_frame, accept_sheet, side_fits}
use Rattle.run.specs.declared.Record.{Record}
use Rattle.run.specs.declared.kinds.Kind.{Kind}
use Rattle.run.specs.declared.kinds.Kind.TheVariants.{Eroding, Dilating, Cropping}
use Rattle.run.specs.Kinds.{by_kind, kind_number, edge_rule}
use Rattle.run.specs.Records.{margin_of, canvas_side, area_width, area_height, kind_foreign, cap_foreign, foreign, due, record_bad}
use Rattle.run.specs.Records.{empty_record}
use Rattle.run.specs.Starting.{start_record, start_level, start_area, start_levels, begun, erosion_refusals, dilation_refusals}
use Rattle.run.specs.Continuing.{with_rows}
use Rattle.run.specs.Series.{Started, erosion, dilation, cropped}
use Rattle.run.proofs.RecordLaws.{IsOfKind, plain, dilates, crops, Sound, sound}
use Rattle.run.proofs.Starts.{Judged, judged, erosion_taken, dilation_taken, canvas_taken}
use Rattle.run.proofs.StartRecords.{start_cells_sound, square, bytes_accepted, bytes_give}

pub length_start : (width height margin : ℕ) (sheet : List ℕ) (on off outside : ℕ)
    → length (start_area width height margin sheet on off outside) ≡ canvas_side height margin * canvas_side width margin
unfolding start_area
length_start width height margin sheet on off outside =
    length-raster (canvas_side width margin) (canvas_side height margin) (start_level width height margin sheet on off outside)

-- A STARTED RUN
pub record IsStart (r : Record) (levels : List ℕ) : Type 0 where
  pub taken : foreign r ≡ false
  pub fresh : r.rows ≡ 0
  pub size : length levels ≡ area_height r * area_width r

-- a plain erosion has no cap; the other two have any
abbrev CapOfKind : Kind → ℕ → Type 0
CapOfKind kind cap = by_kind kind cap 0 0 ≡ 0

kind_taken : (kind : Kind) (width height cap side : ℕ) (bytes : List ℕ) → CapOfKind kind cap
    → kind_foreign (start_record kind width height cap side bytes) ≡ false
unfolding kind_foreign
kind_taken Eroding width height cap side bytes e = rw (eq-eqb cap 0 e)
kind_taken Dilating width height cap side bytes e = refl
kind_taken Cropping width height cap side bytes e = refl

-- what every accepted start gives, its canvas in its limits and its cap that of its kind
begun_is : {width height : ℕ} {sheet : List ℕ} {side : ℕ} {bytes : List ℕ} → Judged width height sheet side bytes → (kind : Kind)
    (cap : ℕ) → CapOfKind kind cap → cap ≤ 2047 → canvas_side width (margin_of cap side) ≤ 4096
    → canvas_side height (margin_of cap side) ≤ 4096 → {r : Record} {levels : List ℕ}
    → (r, levels) ≡ begun (start_record kind width height cap side bytes) sheet → IsStart r levels
unfolding foreign cap_foreign
begun_is {width} {height} {sheet} {side} {bytes} j kind cap k c w h q =
    let taken : foreign (start_record kind width height cap side bytes) ≡ false = rw (
      side_fits width j.wide.0 j.wide.1,
      side_fits height j.high.0 j.high.1,
      start_cells_sound side bytes j.element,
      kind_taken kind width height cap side bytes k,
      le-ltb 2047 cap c,
      le-ltb 4096 (canvas_side width (margin_of cap side)) w,
      le-ltb 4096 (canvas_side height (margin_of cap side)) h,
    ) in
    subst (λ (t : Record × List ℕ). IsStart t.0 t.1) (sym q)
    (record { taken = taken; fresh = refl; size = length_start width height (margin_of cap side) sheet _ _ _ })

-- a start on the canvas of a cap
canvas_start : (width height : ℕ) (sheet : List ℕ) (side : ℕ) (bytes : List ℕ) (cap : ℕ) (lent : List ℕ) (kind : Kind)
    → CapOfKind kind cap → first (dilation_refusals width height sheet side bytes cap lent) ≡ 0 → {r : Record} {levels : List ℕ}
    → (r, levels) ≡ begun (start_record kind width height cap side bytes) sheet → IsStart r levels
canvas_start width height sheet side bytes cap lent kind k z =
    let (common, small, canvas) = dilation_taken width height sheet side bytes cap lent z in
    let (wide, high, _) = canvas_taken width height cap side (length lent) canvas in
    begun_is (judged width height sheet side bytes common) kind cap k small wide high

pub is_start : {r : Record} {levels : List ℕ} → Started r levels → IsStart r levels
is_start (erosion width height sheet side bytes lent a) =
    let j = judged width height sheet side bytes (erosion_taken width height sheet side bytes lent (sym a.refusal)).0 in
    let z = zero-mul (reach side) in
    let w = j.wide.1 in
    let h = j.high.1 in
    begun_is j Eroding 0 refl (omega arith) (omega arith) (omega arith) (a.accepted refl)
is_start (dilation width height sheet side bytes cap lent a) =
    canvas_start width height sheet side bytes cap lent Dilating refl (sym a.refusal) (a.accepted refl)
is_start (cropped width height sheet side bytes cap lent a) =
    canvas_start width height sheet side bytes cap lent Cropping refl (sym a.refusal) (a.accepted refl)

-- a record that is not foreign is a start's, rows done aside: with an empty sheet and levels of the right length
blank : ℕ → ℕ → List ℕ
blank width height = replicate (height * row_bytes width) 0

module _ (r : Record) (s : Sound r) (size : length r.cells ≡ 49) where
  sheet_ok : first (sheet_refusals r.width r.height (blank r.width r.height)) ≡ 0
  unfolding blank
  sheet_ok =
      let f = accept_frame r.width r.height (side_fits r.width s.wide.0 s.wide.1)
      (side_fits r.height s.high.0 s.high.1) in
      sym (accept_sheet r.width r.height (replicate (r.height * row_bytes r.width) 0) (sym f)
      (length-replicate (r.height * row_bytes r.width) 0))

  abbrev w : ℕ
  w = r.width

  abbrev h : ℕ
  h = r.height

  abbrev sheet : List ℕ
  sheet = blank r.width r.height

  abbrev bytes : List ℕ
  bytes = square r.side r.cells

  -- the record that a start gives of its frame, element, kind and edge rule
  same_record : (kind : Kind) (cap : ℕ) → r.kind ≡ kind_number kind → r.edge ≡ edge_rule kind → r.cap ≡ cap
      → with_rows r 0 ≡ start_record kind w h cap r.side bytes
  same_record kind cap k e c i = record {
    kind = k i;
    width = w;
    height = h;
    cap = c i;
    side = r.side;
    rows = 0;
    cells = sym (bytes_give r s size) i;
    edge = e i;
  }

  given_erosion : r.kind ≡ 1 → r.edge ≡ 0 → r.cap ≡ 0 → (levels : List ℕ) × Started (with_rows r 0) levels
  given_erosion k e c =
      let lent : List ℕ = replicate (h * w) 0 in
      let last : List Refusal = (10, not (eqb (length lent) (h * w))) ∷ [] in
      let z : first (erosion_refusals w h sheet r.side bytes lent) ≡ 0 =
      first_accepted (sheet_refusals w h sheet) (element_refusals r.side bytes ++ last) tt sheet_ok
      ∙ first_accepted (element_refusals r.side bytes) last tt (bytes_accepted r s size)
      ∙ rw (eq-eqb (length lent) (h * w) (length-replicate (h * w) 0)) in (
        start_levels (with_rows r 0) sheet,
        erosion w h sheet r.side bytes lent
            (accepts _ z (ap (λ (t : Record). begun t sheet) (same_record Eroding 0 k e c))),
      )

  given_canvas : (kind : Kind) → r.kind ≡ kind_number kind → r.edge ≡ edge_rule kind
      → ((lent levels : List ℕ)
      → Answers (dilation_refusals w h sheet r.side bytes r.cap lent) (empty_record, lent)
      (λ after. after ≡ begun (start_record kind w h r.cap r.side bytes) sheet) 0 (with_rows r 0, levels)
      → Started (with_rows r 0) levels)
      → (levels : List ℕ) × Started (with_rows r 0) levels
  given_canvas kind k e start =
      let cap = r.cap in
      let cw = area_width r in
      let ch = area_height r in
      let lent : List ℕ = replicate (ch * cw) 0 in
      let last : List Refusal = (8, ltb 2047 cap) ∷ (9, ltb 4096 cw || ltb 4096 ch) ∷ (10, not (eqb (length lent) (ch * cw))) ∷
      [] in
      let z : first (dilation_refusals w h sheet r.side bytes cap lent) ≡ 0 =
      first_accepted (sheet_refusals w h sheet) (element_refusals r.side bytes ++ last) tt sheet_ok
      ∙ first_accepted (element_refusals r.side bytes) last tt (bytes_accepted r s size)
      ∙ rw (
        le-ltb 2047 cap s.cap_small,
        le-ltb 4096 cw s.area_wide,
        le-ltb 4096 ch s.area_high,
        eq-eqb (length lent) (ch * cw) (length-replicate (ch * cw) 0),
      ) in (
        start_levels (with_rows r 0) sheet,
        start lent (start_levels (with_rows r 0) sheet)
            (accepts _ z (ap (λ (t : Record). begun t sheet) (same_record kind cap k e refl))),
      )

-- rows done do not matter
pub foreign_rows : (r : Record) (n : ℕ) → foreign (with_rows r n) ≡ foreign r
unfolding foreign kind_foreign cap_foreign
foreign_rows r n = refl

-- a started run's record is sound after any number of its rows
pub started_sound : (r : Record) (levels : List ℕ) → Started r levels → (n : ℕ) → n ≤ due r → record_bad (with_rows r n) ≡ false
unfolding record_bad
started_sound r levels started n l = rw (foreign_rows r n, (is_start started).taken, le-ltb (due r) n l)

-- REFUSAL 1 IS EXACT
pub foreign_exact : (r : Record) → length r.cells ≡ 49
    → (foreign r ≡ false) ↔ ((levels : List ℕ) × Started (with_rows r 0) levels)
foreign_exact r size = ((λ e. go (sound r e) (sound r e).kind_is), (λ h. sym (foreign_rows r 0) ∙ (is_start h.1).taken))
  where
    go : Sound r → IsOfKind r → (levels : List ℕ) × Started (with_rows r 0) levels
    go s (plain k e c) = given_erosion r s size k e c
    go s (dilates k e) = given_canvas r s size Dilating k e (λ lent levels. dilation _ _ _ _ _ _ lent)
    go s (crops k e) = given_canvas r s size Cropping k e (λ lent levels. cropped _ _ _ _ _ _ lent)
