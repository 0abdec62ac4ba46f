-- After the way back from a finished erosion, or dilation, the frame's points that it holds at n are those of the set opened,
-- or closed, by n.
-- The first run's levels say, at every point of its area, whether the eroded or dilated set has the point; so the way back
-- starts as the opening and the closing theorem ask.
use Prim.Native.Nat.{ℕ, suc, ◌+◌, ◌*◌, ◌/◌, ◌%◌, ◌≤◌, ◌<◌}
use native.Mathlib.Nat.{zero-mul}
use native.Mathlib.Omega.{arith}
use mathlib.Core.Path.{◌≡◌, refl, ap, ap₂, subst, ◌∙◌}
use mathlib.Core.Bool.{true, false, ◌&&◌}
use mathlib.Core.Logic.{◌↔◌}
use mathlib.Core.List.{List}
use lib.Dec.{leb, ltb}
use lib.IntN.{pos}
use lib.ListN.{length, get_or}
use borrow.Author.Tests.{lt-ltb, ltb-true}
use Rattle.basics.specs.Limits.{largest_size}
use Rattle.basics.proofs.Arithmetic.{row_below, column_below, entry_of, entry_below}
use Rattle.grid.specs.Points.{Point, at, neg}
use Rattle.grid.specs.Sets.{PointSet, eroded, dilated, opened, closed}
use Rattle.grid.specs.Figures.{frame, reach}
use Rattle.grid.proofs.ReachLaws.{figure_in}
use Rattle.grid.proofs.LevelLaws.{erosion_iff}
use Rattle.grid.proofs.Searches.{frame_decided}
use Rattle.element.specs.Elements.{element_set}
use Rattle.element.proofs.Accepted.{Accepted, accepted_origin, accepted_other}
use Rattle.sheet.specs.Sheets.{pixel, foreground}
use Rattle.row.specs.RowRule.{none}
use Rattle.scan.specs.Look.{look}
use Rattle.scan.specs.Starts.{ErosionStart}
use Rattle.scan.proofs.ScanLaws.{rows_length}
use Rattle.scan.proofs.LookLaws.{spot, look_inside, look_beyond}
use Rattle.scan.proofs.Erosion.{erosion_scan, erosion_small}
use Rattle.scan.proofs.Dilation.{dilation_scan}
use Rattle.run.specs.declared.Record.{Record}
use Rattle.run.specs.declared.kinds.Kind.TheVariants.{Eroding, Dilating}
use Rattle.run.specs.Kinds.{is_held_at}
use Rattle.run.specs.Records.{margin, area_width, area_height, area_of, due, foreign}
use Rattle.run.specs.Starting.{start_record, start_levels}
use Rattle.run.specs.Pictures.{frame_level}
use Rattle.run.specs.Demand2.{finished}
use Rattle.run.proofs.LevelLaws.{range_iff}
use Rattle.run.proofs.RecordLaws.{sound}
use Rattle.run.proofs.ScanCells.{partners_given, partners_turned}
use Rattle.run.proofs.Started.{length_start}
use Rattle.run.proofs.Demand2.{cells_mean, erosion_start, dilation_start}
use Rattle.filters.specs.Back.{back, back_start, way_back}
use Rattle.filters.proofs.Opening.{OpeningStart, opening_at, dilated_held}
use Rattle.filters.proofs.Closing.{on_margin, closing_at}
use Rattle.filters.proofs.BackLaws.{back_width, back_height, back_taken, marks_decide, marks_size, marks_on}
use Rattle.filters.proofs.BackLaws.{marks_off}

-- the frame's points that are held after the way back are those of F n, for every size up to a limit
abbrev pub HoldsBack : Record → List ℕ → ℕ → (ℕ → PointSet) → Type 0
HoldsBack r first limit F =
    (n : ℕ) → n ≤ limit → (row col : ℕ) → row < r.height → col < r.width
    → F n (at (pos row) (pos col)) ↔ (is_held_at (back r) n (frame_level r (way_back r first n) row col) ≡ true)

-- the level that is read at a point of the frame
frame_level_lem : (r : Record) (levels : List ℕ) (row col : ℕ)
    → get_or levels ((row + margin r) * area_width (back r) + (col + margin r)) 0 ≡ frame_level r levels row col
frame_level_lem r levels row col = ap (λ w. get_or levels ((row + margin r) * w + (col + margin r)) 0) (back_width r)

module _ (width height : ℕ) (sheet : List ℕ) (side : ℕ) (bytes : List ℕ) (given : Accepted side bytes) where
  abbrev A : PointSet
  A = foreground width height sheet

  abbrev K : PointSet
  K = element_set side bytes

  module _ (e : foreign (start_record Eroding width height 0 side bytes) ≡ false) where
    abbrev r : Record
    r = start_record Eroding width height 0 side bytes

    abbrev first : List ℕ
    first = finished r (start_levels r sheet)

    first_size : length first ≡ area_height r * area_width r
    first_size = rows_length (area_of r) 0 (due r) (start_levels r sheet)
        ∙ length_start width height (margin r) sheet none 0 0

    eroded_held : (n : ℕ) (x : Point) → eroded A K n x ↔ (ltb n (look (area_of r) first x) ≡ true)
    eroded_held n x =
        let l = look (area_of r) first x in
        let i = erosion_iff A K x (accepted_origin side bytes given)
        (erosion_scan (erosion_start width height sheet side bytes given (sound r e)) x) n in
        ((λ h. lt-ltb n l (i.0 h)), (λ t. i.1 (ltb-true n l t)))

    opening_start : (n : ℕ) → n ≤ largest_size → OpeningStart (area_of (back r)) A K n (back_start r first n)
    opening_start n l =
        let p = partners_turned (back r) (sound (back r) (back_taken r e)) refl in
        let k = cells_mean side bytes given in
        record {
          none_beyond = refl;
          partners_are = ((λ x i. k.0 (neg x) (p.0 x i)), (λ x i. p.1 x (k.1 (neg x) i)));
          has_origin = accepted_origin side bytes given;
          size_fits = omega arith;
          decide = marks_decide r first n (eroded A K n) first_size (eroded_held n);
          inside = λ x i. let f = figure_in width height (pixel width sheet) x i in let a = f.2 in let b = f.3 in
              (f.0, f.1, omega arith, omega arith, f.4);
          size = marks_size r first n (eroded A K n) first_size (eroded_held n);
          on = marks_on r first n (eroded A K n) first_size (eroded_held n);
          off = marks_off r first n (eroded A K n) first_size (eroded_held n);
        }

    pub opening_back : HoldsBack r first largest_size (opened A K)
    opening_back n l row col a b =
        let m : margin r ≡ 0 = zero-mul (reach side) in
        let i = opening_at (opening_start n l) (row + margin r) (col + margin r) (omega arith) (omega arith) in
        let q = range_iff n (frame_level r (way_back r first n) row col) in
        let j : opened A K n (spot row col) ↔
        ((0 < frame_level r (way_back r first n) row col) × (frame_level r (way_back r first n) row col ≤ suc n)) =
        rw (frame_level_lem r (way_back r first n) row col) at
        (subst (λ p. opened A K n p ↔
        ((0 < get_or (way_back r first n) ((row + margin r) * area_width (back r) + (col + margin r)) 0) ×
        (get_or (way_back r first n) ((row + margin r) * area_width (back r) + (col + margin r)) 0 ≤ suc n)))
        (ap₂ spot (let z : row + margin r ≡ row = omega arith in z) (let z : col + margin r ≡ col = omega arith in z)) i) in
        ((λ h. q.0 (j.0 h)), (λ t. j.1 (q.1 t)))

    -- no level is above 4,096, and no size from the highest level on is held anywhere
    look_at : (k : ℕ) → k < length first → (x : Point) × (look (area_of r) first x ≡ get_or first k 0)
    look_at k l =
        let w = area_width r in
        let s : k < area_height r * w = let z = first_size in omega arith in (
          spot (k / w) (k % w),
          look_inside (area_of r) first (k / w) (k % w) (row_below w (area_height r) k s)
              (column_below w (area_height r) k s) ∙ ap (λ j. get_or first j 0) (entry_of w k),
        )

    pub first_small : (k : ℕ) → k < length first → get_or first k 0 ≤ largest_size
    first_small k l =
        let (x, q) = look_at k l in
        let s = sound r e in
        let w = s.area_wide in
        let h = s.area_high in
        let m = erosion_small (erosion_start width height sheet side bytes given s) x in
        omega arith

    pub opened_below : (most : ℕ) → ((k : ℕ) → k < length first → get_or first k 0 ≤ most) → (j : ℕ) (x : Point) → opened A K j x
        → j < most
    opened_below most all j x (a, b, h, _, _) = go (frame_decided (area_width r) (area_height r) a)
      where
        l : j < look (area_of r) first a
        l = ltb-true j (look (area_of r) first a) ((eroded_held j a).0 h)

        go : Dec (frame (area_width r) (area_height r) a) → j < most
        go (yes (row, col, i, k, q)) =
            let m = all (row * area_width r + col)
            (let p = entry_below (area_width r) (area_height r) row col i k in let z = first_size in omega arith) in
            let v = ap (look (area_of r) first) q ∙ look_inside (area_of r) first row col i k in
            let u = l in
            omega arith
        go (no out) = let v = look_beyond (area_of r) first a out in let u = l in absurd (omega arith)

  module _ (R : ℕ) (e : foreign (start_record Dilating width height R side bytes) ≡ false) where
    abbrev r₂ : Record
    r₂ = start_record Dilating width height R side bytes

    abbrev first₂ : List ℕ
    first₂ = finished r₂ (start_levels r₂ sheet)

    first_size₂ : length first₂ ≡ area_height r₂ * area_width r₂
    first_size₂ = rows_length (area_of r₂) 0 (due r₂) (start_levels r₂ sheet)
        ∙ length_start width height (margin r₂) sheet 1 none none

    -- the dilated set as it lies on the canvas
    abbrev D : ℕ → PointSet
    D n = on_margin (margin r₂) (dilated A K n)

    in_range : (n : ℕ) → n ≤ R → (x : Point) → D n x ↔ ((0 < look (area_of r₂) first₂ x) × (look (area_of r₂) first₂ x ≤ suc n))
    in_range n l x =
        dilated_held A K _ R n (look (area_of r₂) first₂ x) (accepted_origin side bytes given)
        (dilation_scan (dilation_start width height sheet side bytes given R (sound r₂ e)) x) l

    is_held : (n : ℕ) → n ≤ R → (x : Point)
        → D n x ↔ (leb 1 (look (area_of r₂) first₂ x) && leb (look (area_of r₂) first₂ x) (suc n) ≡ true)
    is_held n l x =
        let i = in_range n l x in
        let q = range_iff n (look (area_of r₂) first₂ x) in
        ((λ h. q.0 (i.0 h)), (λ t. i.1 (q.1 t)))

    -- it lies on the canvas: beyond, every level is 65,535
    on_canvas_lem : (n : ℕ) → n ≤ R → (x : Point) → D n x → frame (area_width (back r₂)) (area_height (back r₂)) x
    on_canvas_lem n l x h = go (frame_decided (area_width r₂) (area_height r₂) x)
      where
        go : Dec (frame (area_width r₂) (area_height r₂) x) → frame (area_width (back r₂)) (area_height (back r₂)) x
        go (yes (row, col, a, b, q)) = let w = back_width r₂ in let v = back_height r₂ in
            (row, col, omega arith, omega arith, q)
        go (no out) =
            let v = ((in_range n l x).0 h).1 in
            let o = look_beyond (area_of r₂) first₂ x out in
            let c = (sound r₂ e).cap_small in
            absurd (omega arith)

    closing_start : (n : ℕ) → n ≤ R → ErosionStart (area_of (back r₂)) (D n) K (back_start r₂ first₂ n)
    closing_start n l =
        let s = sound (back r₂) (back_taken r₂ e) in
        let w = s.area_wide in
        let h = s.area_high in
        let p = partners_given (back r₂) s refl in
        let k = cells_mean side bytes given in
        let another = accepted_other side bytes given in
        record {
          narrow = omega arith;
          low = omega arith;
          zero_beyond = refl;
          partners_are = ((λ x i. k.0 x (p.0 x i)), (λ x i. p.1 x (k.1 x i)));
          has_origin = accepted_origin side bytes given;
          other = another.0;
          has_other = another.1;
          not_origin = another.2;
          decide = marks_decide r₂ first₂ n (D n) first_size₂ (is_held n l);
          inside = on_canvas_lem n l;
          size = marks_size r₂ first₂ n (D n) first_size₂ (is_held n l);
          on = marks_on r₂ first₂ n (D n) first_size₂ (is_held n l);
          off = marks_off r₂ first₂ n (D n) first_size₂ (is_held n l);
        }

    pub closing_back : HoldsBack r₂ first₂ R (closed A K)
    closing_back n l row col a b =
        let w = back_width r₂ in
        let v = back_height r₂ in
        let level = frame_level r₂ (way_back r₂ first₂ n) row col in
        let i : closed A K n (spot row col) ↔ (n < level) =
        rw (frame_level_lem r₂ (way_back r₂ first₂ n) row col) at
        (closing_at (margin r₂) n (closing_start n l) row col (omega arith) (omega arith)) in
        ((λ h. lt-ltb n level (i.0 h)), (λ t. i.1 (ltb-true n level t)))
