-- Demand 2 for the three starts: the start levels are what the scan theorem asks, so the finished levels are the grid's; collecting
-- and thresholding read them off.
-- A plain erosion is worked with a margin that is 0 by its cap, so all kinds go by the same laws of the canvas. A cropped run
-- dilates the frame's background by the reflected element; the duality carries its levels over to the erosion.
use Prim.Native.Nat.{ℕ, suc, ◌+◌, ◌-◌, ◌*◌, ◌%◌, ◌≤◌, ◌<◌}
use native.Mathlib.Nat.{zero-mul}
use native.Mathlib.Omega.{arith}
use mathlib.Core.Path.{◌≡◌, refl, sym, ap, ap₂, subst, ◌∙◌}
use mathlib.Core.Bool.{Bool, true, false, cond, ◌&&◌, false≢true}
use mathlib.Core.Logic.{◌↔◌, inl, inr}
use mathlib.Core.List.{List}
use lib.Dec.{leb, ltb}
use lib.IntN.{pos}
use lib.ListN.{get_or}
use borrow.Author.Tests.{lt-ltb, ltb-true, leb-false}
use Rattle.basics.proofs.TableLaws.{get_or-raster}
use Rattle.grid.specs.Points.{Point, at, neg}
use Rattle.grid.specs.Sets.{PointSet, reflect, eroded, dilated, ◌≈◌}
use Rattle.grid.specs.Levels.{IsErosionLevel, IsDilationLevel, IsErosionLevelUpTo}
use Rattle.grid.specs.Figures.{reach}
use Rattle.grid.specs.Crops.{background}
use Rattle.grid.proofs.LevelLaws.{erosion_iff, dilation_iff, up_to_iff}
use Rattle.grid.proofs.SetLaws.{reflect_twice}
use Rattle.grid.proofs.ReachLaws.{figure_in, element_reach, abs_turned}
use Rattle.grid.proofs.Searches.{figure_decided, background_decided}
use Rattle.grid.proofs.CropLaws.{crop_level, crop_held}
use Rattle.element.specs.Elements.{byte_at, element_set}
use Rattle.element.specs.Cells.{centred, flat}
use Rattle.element.proofs.ElementLaws.{side_bounds}
use Rattle.element.proofs.Meaning.{centred_means, flat_means}
use Rattle.element.proofs.Accepted.{Accepted, accepted_origin, accepted_other}
use Rattle.sheet.specs.Sheets.{pixel, foreground}
use Rattle.sheet.specs.Means.{LevelsMean, SheetMeans}
use Rattle.sheet.proofs.PixelLaws.{pixel-packed}
use Rattle.row.specs.RowRule.{none}
use Rattle.scan.specs.Starts.{ErosionStart, DilationStart, on_canvas}
use Rattle.scan.specs.Look.{cap}
use Rattle.scan.proofs.ScanLaws.{rows_positive}
use Rattle.scan.proofs.Erosion.{erosion_at}
use Rattle.scan.proofs.Dilation.{dilation_frame}
use Rattle.run.specs.declared.Record.{Record}
use Rattle.run.specs.declared.kinds.Kind.TheVariants.{Eroding, Dilating, Cropping}
use Rattle.run.specs.Kinds.{size_limit, cropped_level, collected_level, is_held_at}
use Rattle.run.specs.Records.{margin, area_width, area_of, due, foreign}
use Rattle.run.specs.Starting.{start_record, start_levels, begun}
use Rattle.run.specs.Pictures.{frame_level, collected, thresholded}
use Rattle.run.specs.Series.{Started, erosion, dilation, cropped}
use Rattle.run.specs.Demand2.{finished, larger, RightLevel, RightSet, PictureRight, EveryPicture}
use Rattle.run.proofs.LevelLaws.{range_iff}
use Rattle.run.proofs.RecordLaws.{Sound, sound}
use Rattle.run.proofs.ScanCells.{partners_given, partners_turned}
use Rattle.run.proofs.Starts.{judged, erosion_taken, dilation_taken}
use Rattle.run.proofs.Started.{is_start, length_start}
use Rattle.run.proofs.StartLevels.{level_on_lem, level_off, level_unset, level_set, place_down}

-- the record's cells mean the element
pub cells_mean : (side : ℕ) (bytes : List ℕ) → Accepted side bytes
    → element_set 7 (flat (centred side bytes)) ≈ element_set side bytes
cells_mean side bytes given =
    let f = flat_means (centred side bytes) in
    let c = centred_means side bytes given.side_is in
    ((λ x h. c.0 x (f.0 x h)), (λ x h. f.1 x (c.1 x h)))

-- read off the collected levels, and off the thresholded sheet
collected_at : (r : Record) (levels : List ℕ) (row col : ℕ) → row < r.height → col < r.width
    → get_or (collected r levels) (row * r.width + col) 0 ≡ collected_level r (frame_level r levels row col)
unfolding collected
collected_at r levels row col a b =
    get_or-raster r.width r.height (λ row col. collected_level r (frame_level r levels row col)) row col 0 a b

small : (t : Bool) → cond t 1 0 ≤ 1
small true = omega arith
small false = omega arith

pub thresholded_at : (r : Record) (levels : List ℕ) (n row col : ℕ) → row < r.height → col < r.width
    → pixel r.width (thresholded r levels n) row col ≡ cond (is_held_at r n (frame_level r levels row col)) 1 0
unfolding thresholded
thresholded_at r levels n row col a b =
    pixel-packed r.width r.height (λ row col. cond (is_held_at r n (frame_level r levels row col)) 1 0)
    (λ i j c d. small (is_held_at r n (frame_level r levels i j))) row col a b

-- a pixel is 1 exactly where its test holds
pub pixel_iff : {P : Type 0} (v : ℕ) (t : Bool) → v ≡ cond t 1 0 → (t ≡ true → P) → (P → t ≡ true) → (v ≡ 1) ↔ P
pixel_iff v true e f g = ((λ _. f refl), (λ _. e))
pixel_iff v false e f g = ((λ q. absurd (omega arith)), (λ p. absurd (false≢true (g p))))

-- THE PICTURES, of a record and the levels that it starts with: by the level at each point, and the test of a size
abbrev Means : (Point → ℕ → Type 0) → (ℕ → PointSet) → Record × List ℕ → Type 0
Means IsLevel Held (r, levels) =
    LevelsMean r.width r.height IsLevel (collected r (finished r levels)) ×
    ((n : ℕ) → n ≤ size_limit r → SheetMeans r.width r.height (Held n) (thresholded r (finished r levels) n))

means : (r : Record) (levels : List ℕ) (IsLevel : Point → ℕ → Type 0) (Held : ℕ → PointSet)
    → ((row col : ℕ) → row < r.height → col < r.width
    → IsLevel (at (pos row) (pos col)) (collected_level r (frame_level r (finished r levels) row col)))
    → ((n : ℕ) → n ≤ size_limit r → (row col : ℕ) → row < r.height → col < r.width
    → Held n (at (pos row) (pos col)) ↔ (is_held_at r n (frame_level r (finished r levels) row col) ≡ true))
    → Means IsLevel Held (r, levels)
means r levels IsLevel Held level held = (
  λ row col a b. subst (IsLevel (at (pos row) (pos col))) (sym (collected_at r (finished r levels) row col a b))
      (level row col a b),
  λ n l row col a b. let i = held n l row col a b in
      pixel_iff _ _ (thresholded_at r (finished r levels) n row col a b) i.1 i.0,
)

-- a level above n, as a test
above_iff : {P : Type 0} (n level : ℕ) → P ↔ (n < level) → P ↔ (ltb n level ≡ true)
above_iff n level i = ((λ h. lt-ltb n level (i.0 h)), (λ t. i.1 (ltb-true n level t)))

-- a dilation's collected level is its level cut at the cap, which changes nothing up to R + 1
cap_is : (R level : ℕ) → cap R level ≡ cond (leb level (suc R)) level 0
unfolding cap
cap_is R level = refl

cap_iff : (R n level : ℕ) → n ≤ R → ((0 < cap R level) × (cap R level ≤ suc n)) ↔ (leb 1 level && leb level (suc n) ≡ true)
unfolding cap
cap_iff R n level l = go (leb level (suc R)) refl
  where
    go : (t : Bool) → leb level (suc R) ≡ t
        → ((0 < cond t level 0) × (cond t level 0 ≤ suc n)) ↔ (leb 1 level && leb level (suc n) ≡ true)
    go true e = range_iff n level
    go false e = (
      (λ h. absurd (let z = h.0 in omega arith)),
      (λ h. absurd (let f = leb-false level (suc R) e in let q = ((range_iff n level).1 h).1 in omega arith)),
    )

module _ (width height : ℕ) (sheet : List ℕ) (side : ℕ) (bytes : List ℕ) (given : Accepted side bytes) where
  abbrev A : PointSet
  A = foreground width height sheet

  abbrev K : PointSet
  K = element_set side bytes

  odd : side % 2 ≡ 1
  odd = let b = side_bounds side given.side_is in omega arith

  -- a plain erosion
  module _ (s : Sound (start_record Eroding width height 0 side bytes)) where
    abbrev r : Record
    r = start_record Eroding width height 0 side bytes

    abbrev start : List ℕ
    start = start_levels r sheet

    no_margin : margin r ≡ 0
    no_margin = zero-mul (reach side)

    at_margin : (row col : ℕ) → on_canvas (margin r) row col ≡ at (pos row) (pos col)
    at_margin row col =
        let m = no_margin in
        ap₂ at (place_down row (margin r) (omega arith) ∙ ap (λ (n : ℕ). pos n) (let e : row - margin r ≡ row = omega arith in e))
        (place_down col (margin r) (omega arith) ∙ ap (λ (n : ℕ). pos n) (let e : col - margin r ≡ col = omega arith in e))

    pub erosion_start : ErosionStart (area_of r) A K start
    erosion_start =
        let w = s.area_wide in
        let h = s.area_high in
        let other = accepted_other side bytes given in
        let p = partners_given r s refl in
        let k = cells_mean side bytes given in
        record {
          narrow = omega arith;
          low = omega arith;
          zero_beyond = refl;
          partners_are = ((λ x i. k.0 x (p.0 x i)), (λ x i. p.1 x (k.1 x i)));
          has_origin = accepted_origin side bytes given;
          other = other.0;
          has_other = other.1;
          not_origin = other.2;
          decide = figure_decided width height (pixel width sheet);
          inside = λ x i. let f = figure_in width height (pixel width sheet) x i in let a = f.2 in let b = f.3 in
              (f.0, f.1, omega arith, omega arith, f.4);
          size = length_start width height (margin r) sheet none 0 0;
          on = λ row col a b i. level_on_lem width height (margin r) sheet row col none 0 0 a b
              (subst A (sym (at_margin row col)) i);
          off = λ row col a b i. level_unset width height (margin r) sheet row col none 0 0 a b refl
              (λ j. i (subst A (at_margin row col) j));
        }

    erosion_level : (row col : ℕ) → row < height → col < width
        → IsErosionLevel A K (at (pos row) (pos col)) (frame_level r (finished r start) row col)
    erosion_level row col a b =
        let m = no_margin in
        subst (IsErosionLevel A K (at (pos row) (pos col)))
        (ap₂ (λ i j. get_or (finished r start) (i * area_width r + j) 0) (let e : row ≡ row + margin r = omega arith in e)
        (let e : col ≡ col + margin r = omega arith in e))
        (erosion_at erosion_start row col (omega arith) (omega arith))

    erosion_means : Means (IsErosionLevel A K) (eroded A K) (begun r sheet)
    erosion_means =
        means r start (IsErosionLevel A K) (eroded A K) erosion_level
        (λ n l row col a b. above_iff n _
        (erosion_iff A K (at (pos row) (pos col)) (accepted_origin side bytes given) (erosion_level row col a b) n))

  -- a dilation
  module _ (R : ℕ) (s : Sound (start_record Dilating width height R side bytes)) where
    abbrev r₂ : Record
    r₂ = start_record Dilating width height R side bytes

    abbrev start₂ : List ℕ
    start₂ = start_levels r₂ sheet

    pub dilation_start : DilationStart (area_of r₂) width height R (reach side) A K start₂
    dilation_start =
        let p = partners_turned r₂ s refl in
        let k = cells_mean side bytes given in
        let c = s.cap_small in
        record {
          canvas_width = omega arith;
          canvas_height = omega arith;
          none_beyond = refl;
          partners_are = ((λ x i. k.0 (neg x) (p.0 x i)), (λ x i. p.1 x (k.1 (neg x) i)));
          row_reach = λ b h. (element_reach side (byte_at side bytes) b odd h).0;
          col_reach = λ b h. (element_reach side (byte_at side bytes) b odd h).1;
          cap_fits = omega arith;
          decide = figure_decided width height (pixel width sheet);
          inside = figure_in width height (pixel width sheet);
          size = length_start width height (margin r₂) sheet 1 none none;
          on = λ row col a b i. level_on_lem width height (margin r₂) sheet row col 1 none none a b i;
          off = λ row col a b i. level_unset width height (margin r₂) sheet row col 1 none none a b refl i;
        }

    dilation_means : Means (IsDilationLevel R A K) (dilated A K) (begun r₂ sheet)
    dilation_means =
        means r₂ start₂ (IsDilationLevel R A K) (dilated A K)
        (λ row col a b. subst (IsDilationLevel R A K (at (pos row) (pos col))) (cap_is R _)
        (dilation_frame dilation_start row col a b))
        (λ n l row col a b.
        let i = dilation_iff A K (at (pos row) (pos col)) (accepted_origin side bytes given)
        (dilation_frame dilation_start row col a b) n l in
        let c = cap_iff R n (frame_level r₂ (finished r₂ start₂) row col) l in
        ((λ h. c.0 (i.0 h)), (λ t. i.1 (c.1 t))))

  -- the erosion of a crop: the dilation of its background
  module _ (R : ℕ) (s : Sound (start_record Cropping width height R side bytes)) where
    abbrev r₃ : Record
    r₃ = start_record Cropping width height R side bytes

    abbrev start₃ : List ℕ
    start₃ = start_levels r₃ sheet

    abbrev B : PointSet
    B = background width height A

    abbrev L : PointSet
    L = larger width height sheet

    decided : (x : Point) → Dec (A x)
    decided = figure_decided width height (pixel width sheet)

    crop_start : DilationStart (area_of r₃) width height R (reach side) B (reflect K) start₃
    crop_start =
        let p = partners_given r₃ s refl in
        let k = cells_mean side bytes given in
        let t = reflect_twice K in
        let c = s.cap_small in
        record {
          canvas_width = omega arith;
          canvas_height = omega arith;
          none_beyond = refl;
          partners_are = ((λ x i. t.1 x (k.0 x (p.0 x i))), (λ x i. p.1 x (k.1 x (t.0 x i))));
          row_reach = λ b h. let e = abs_turned b.row in let n = (element_reach side (byte_at side bytes) (neg b) odd h).0 in
              omega arith;
          col_reach = λ b h. let e = abs_turned b.col in let n = (element_reach side (byte_at side bytes) (neg b) odd h).1 in
              omega arith;
          cap_fits = omega arith;
          decide = background_decided width height decided;
          inside = λ x h. h.0;
          size = length_start width height (margin r₃) sheet none 1 none;
          on = λ row col a b i. level_off width height (margin r₃) sheet row col none 1 none a b i.0 i.1;
          off = λ row col a b i. level_set width height (margin r₃) sheet row col none 1 none a b refl i;
        }

    -- no level of a run is 0: none starts so, and none is lowered to it
    positive : (row col : ℕ) → row < height → col < width → 0 < frame_level r₃ (finished r₃ start₃) row col
    positive row col a b =
        rows_positive (area_of r₃) 0 (due r₃) start₃ _
        (go (background_decided width height decided (on_canvas (margin r₃) (row + margin r₃) (col + margin r₃))))
      where
        go : Dec (B (on_canvas (margin r₃) (row + margin r₃) (col + margin r₃))) → 0 < frame_level r₃ start₃ row col
        go (yes h) =
            let e = crop_start.on (row + margin r₃) (col + margin r₃) (omega arith) (omega arith) h in omega arith
        go (no n) =
            let e = crop_start.off (row + margin r₃) (col + margin r₃) (omega arith) (omega arith) n in omega arith

    -- the level that reaches a point, read as the erosion's
    read_off : (x : Point) (level : ℕ) → 0 < level → IsDilationLevel R B (reflect K) x (cap R level)
        → IsErosionLevelUpTo R L K x (cropped_level R level)
    unfolding cap
    read_off x level some = go (leb level (suc R))
      where
        go : (t : Bool) → IsDilationLevel R B (reflect K) x (cond t level 0)
            → IsErosionLevelUpTo R L K x (cond t (level - 1) none)
        go true p = inl (crop_level width height A K decided x (accepted_origin side bytes given)
            (subst (IsDilationLevel R B (reflect K) x) (let e : level ≡ suc (level - 1) = omega arith in e) p))
        go false p = inr (refl, crop_held width height A K decided x p)

    cropped_level_lem : (row col : ℕ) → row < height → col < width
        → IsErosionLevelUpTo R L K (at (pos row) (pos col)) (cropped_level R (frame_level r₃ (finished r₃ start₃) row col))
    cropped_level_lem row col a b =
        read_off (at (pos row) (pos col)) _ (positive row col a b) (dilation_frame crop_start row col a b)

    cropped_means : Means (IsErosionLevelUpTo R L K) (eroded L K) (begun r₃ sheet)
    cropped_means =
        means r₃ start₃ (IsErosionLevelUpTo R L K) (eroded L K) cropped_level_lem
        (λ n l row col a b. above_iff n _
        (up_to_iff R L K (at (pos row) (pos col)) (accepted_origin side bytes given)
        (let c = s.cap_small in omega arith) (cropped_level_lem row col a b) n l))

-- what a start gives has the picture of its record, which is sound
carried : {r r₀ : Record} {levels : List ℕ} (started : Started r levels) (sheet : List ℕ) → (r, levels) ≡ begun r₀ sheet
    → (Sound r₀ → Means (RightLevel started) (RightSet started) (begun r₀ sheet)) → PictureRight started
carried {r} {r₀} started sheet q means_of =
    let s = sound r₀ (subst (λ (t : Record × List ℕ). foreign t.0 ≡ false) q (is_start started).taken) in
    let m = subst (Means (RightLevel started) (RightSet started)) (sym q) (means_of s) in
    record { collecting = m.0; thresholding = m.1 }

-- THE THEOREM
pub every_picture : EveryPicture
every_picture r levels (erosion width height sheet side bytes lent a) =
    let j = judged width height sheet side bytes (erosion_taken width height sheet side bytes lent (sym a.refusal)).0 in
    carried (erosion width height sheet side bytes lent a) sheet (a.accepted refl)
    (erosion_means width height sheet side bytes j.element)
every_picture r levels (dilation width height sheet side bytes R lent a) =
    let j = judged width height sheet side bytes (dilation_taken width height sheet side bytes R lent (sym a.refusal)).0 in
    carried (dilation width height sheet side bytes R lent a) sheet (a.accepted refl)
    (dilation_means width height sheet side bytes j.element R)
every_picture r levels (cropped width height sheet side bytes R lent a) =
    let j = judged width height sheet side bytes (dilation_taken width height sheet side bytes R lent (sym a.refusal)).0 in
    carried (cropped width height sheet side bytes R lent a) sheet (a.accepted refl)
    (cropped_means width height sheet side bytes j.element R)
