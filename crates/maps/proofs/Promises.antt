-- No second outcome meets the contract; one size for all is the plain dilation; only pixels and the sizes at foreground points count;
-- and the worked example.
-- Each goes by the set that the output means: the same set has one sheet.
use Prim.Native.Nat.{ℕ, ◌+◌, ◌*◌, ◌≤◌, ◌<◌}
use native.Mathlib.Decide.{ℕ_discrete, dec_le, dec_lt}
use native.Mathlib.Omega.{arith}
use mathlib.Core.Path.{◌≡◌, refl, sym, ap, ◌∙◌}
use mathlib.Core.Bool.{cond}
use mathlib.Core.List.{List}
use lib.Dec.{eqb}
use lib.ListN.{length, replicate, length-replicate, get_or-replicate}
use borrow.Author.Tests.{ne_eqb}
use Rattle.basics.specs.Bounds.{any_above}
use Rattle.basics.specs.Refusals.{first}
use Rattle.basics.specs.Tables.{table, raster}
use Rattle.basics.proofs.Arithmetic.{entry_below}
use Rattle.basics.proofs.RefusalLaws.{accepts, answers_unique}
use Rattle.basics.proofs.TableLaws.{get_or-raster, raster_same}
use Rattle.grid.specs.Points.{Point}
use Rattle.grid.specs.Sets.{PointSet, dilated, ◌≈◌}
use Rattle.grid.specs.Figures.{figure, element}
use Rattle.grid.specs.Sizes.{dilated_by_sizes, sizes_of, two_points, their_sizes, their_points}
use Rattle.grid.specs.Starred.{drawn, pair}
use Rattle.grid.proofs.SameSets.{itself}
use Rattle.grid.proofs.Searches.{Yes, by_test, all_below}
use Rattle.grid.proofs.SizeLaws.{one_size_dilates, by_sizes_same, two_sizes}
use Rattle.element.specs.Elements.{is_side, count_set}
use Rattle.element.proofs.Meaning.{drawn_means}
use Rattle.sheet.specs.Sheets.{pixel, packed, byte_packed, is_side_out}
use Rattle.sheet.specs.Means.{SheetMeans}
use Rattle.sheet.proofs.PixelLaws.{packed_same, packed_means}
use Rattle.sheet.proofs.SamePixelsLaws.{same_set}
use Rattle.sheet.specs.SamePixels.{SamePixels}
use Rattle.run.specs.declared.Record.{Record}
use Rattle.run.specs.Kinds.{is_held_at}
use Rattle.run.specs.Starting.{start_levels, dilation_refusals}
use Rattle.run.specs.Pictures.{frame_level, thresholded}
use Rattle.run.specs.Series.{dilation}
use Rattle.run.specs.Demand2.{finished}
use Rattle.run.proofs.Demand2.{thresholded_at, every_picture}
use Rattle.run.specs.declared.Input.{Input}
use Rattle.filters.specs.Filters.{IsSheet, foreground_of, element_of, frame_size}
use Rattle.filters.proofs.PaddingLaws.{sheet_carried}
use Rattle.filters.proofs.Refusing.{answers_carried}
use Rattle.filters.proofs.Uniqueness.{pixels_sheet, sheet_one}
use Rattle.maps.specs.Maps.{Buffers, size_in, size_of, sizes_seen, map_refusals, DilatesByMap}
use Rattle.maps.specs.Raising.{map_record}
use Rattle.maps.specs.Promises.{OneSizeIsPlain, SameSizes, OnlyForegroundCounts, row_of_seven, TwoSizesGiven}
use Rattle.maps.proofs.SeenLaws.{none_large}
use Rattle.maps.proofs.Refusing.{none_refused}

-- NO SECOND OUTCOME
module _ (input : Input) (sheet bytes : List ℕ) (cap : ℕ) (map : List ℕ) (lent : Buffers) where
  abbrev Right : Buffers → Type 0
  Right after = (after.work ≡ replicate (length lent.work) 0) × IsSheet input.width input.height
      (dilated_by_sizes (foreground_of input sheet) (size_of input map) (element_of input bytes)) after.out

  right_one : (x y : Buffers) → Right x → Right y → x ≡ y
  right_one x y p q =
      let a : x.work ≡ y.work = p.0 ∙ sym q.0 in
      let b = sheet_one input.width input.height _ x.out y.out p.1 q.1 in
      λ i. record { work = a i; out = b i }

  pub dilate_by_map_unique : (m n : ℕ) (x y : Buffers) → DilatesByMap input sheet bytes cap map lent m x
      → DilatesByMap input sheet bytes cap map lent n y → (m ≡ n) × (x ≡ y)
  dilate_by_map_unique = answers_unique right_one

-- ONE SIZE FOR ALL
-- what a run holds at a size, as the sheet of the set that it means
thresholded_sheet : (r : Record) (levels : List ℕ) (n : ℕ) (A : PointSet)
    → SheetMeans r.width r.height A (thresholded r levels n) → IsSheet r.width r.height A (thresholded r levels n)
unfolding thresholded
thresholded_sheet r levels n A means = record {
  pixels = means;
  padding = packed_same r.width r.height (λ row col. cond (is_held_at r n (frame_level r levels row col)) 1 0) _
      (λ row col a b. sym (thresholded_at r levels n row col a b));
}

pub one_size_is_plain : OneSizeIsPlain
one_size_is_plain input sheet bytes cap levels r start a n small lent e room number after p = (
  zero,
  sheet_one input.width input.height (dilated (foreground_of input sheet) (element_of input bytes) n) _ _
      (sheet_carried (one_size_dilates _ _ (size_of input map) n same) after.out (p.accepted zero).1) plain
      ∙ sym (ap (λ t. thresholded t.0 (finished t.0 t.1) n) (a.accepted refl)),
)
  where
    map : List ℕ
    map = replicate (frame_size input) n

    begins : first (dilation_refusals input.width input.height sheet input.side bytes cap levels) ≡ 0
    begins = sym a.refusal

    zero : number ≡ 0
    zero = p.refusal ∙ sym (none_refused input sheet bytes cap map lent (rw e begins) (length-replicate (frame_size input) n) refl room
        (sym (none_large input sheet map cap (λ k l. let s = get_or-replicate (frame_size input) k n 0 l in omega arith))))

    same : (a : Point) → foreground_of input sheet a → size_of input map a ≡ n
    same a (row, col, i, j, v, e) = ap (size_of input map) e
        ∙ get_or-replicate (frame_size input) (row * input.width + col) n 0 (entry_below input.width input.height row col i j)

    plain : IsSheet input.width input.height (dilated (foreground_of input sheet) (element_of input bytes) n)
        (thresholded (map_record input bytes cap) (finished (map_record input bytes cap) (start_levels (map_record input bytes cap) sheet)) n)
    plain = thresholded_sheet (map_record input bytes cap) _ n _ ((every_picture _ _
        (dilation input.width input.height sheet input.side bytes cap levels (accepts _ begins refl))).thresholding n small)

-- ONLY PIXELS, AND SIZES AT FOREGROUND POINTS, COUNT
module _ (input : Input) (sheet other : List ℕ) (same : SamePixels input.width input.height sheet other) (map also : List ℕ)
    (sizes : SameSizes input sheet map also) where
  seen_same : sizes_seen input sheet map ≡ sizes_seen input other also
  unfolding sizes_seen
  seen_same = raster_same input.width input.height _ _
      (λ row col a b. rw (← same row col a b) (go row col a b (ℕ_discrete (pixel input.width sheet row col) 1)))
    where
      go : (row col : ℕ) → row < input.height → col < input.width → Dec (pixel input.width sheet row col ≡ 1)
          → cond (eqb (pixel input.width sheet row col) 1) (size_in input.width map row col) 0
          ≡ cond (eqb (pixel input.width sheet row col) 1) (size_in input.width also row col) 0
      go row col a b (yes v) = ap (λ n. cond (eqb (pixel input.width sheet row col) 1) n 0) (sizes row col a b v)
      go row col a b (no m) = rw (ne_eqb (pixel input.width sheet row col) 1 m)

  sizes_same : (a : Point) → foreground_of input sheet a → size_of input map a ≡ size_of input also a
  sizes_same a (row, col, i, j, v, e) =
      ap (size_of input map) e ∙ sizes row col i j v ∙ sym (ap (size_of input also) e)

pub only_foreground_counts : OnlyForegroundCounts
only_foreground_counts input sheet other e same map also f sizes bytes cap lent m n x y p q =
    dilate_by_map_unique input other bytes cap also lent m n x y
    (answers_carried (rw (e, f, seen_same input sheet other same map also sizes))
    (λ after h. (
      h.0,
      sheet_carried (by_sizes_same (size_of input map) (size_of input also)
          (same_set input.width input.height sheet other same) (sizes_same input sheet other same map also sizes)
          (itself (element_of input bytes))) after.out h.1,
    )) p) q

-- THE WORKED EXAMPLE: its sheet, element and map mean what is drawn, and that it is not refused is computed
abbrev seven_sheet : List ℕ
seven_sheet = packed 7 1 (drawn two_points)

abbrev seven_bytes : List ℕ
seven_bytes = raster 3 3 (drawn pair)

abbrev seven_map : List ℕ
seven_map = raster 7 1 (drawn their_sizes)

binary_dec : Dec ((row : ℕ) → row < 1 → (col : ℕ) → col < 7 → drawn two_points row col ≤ 1)
binary_dec = all_below 1 (λ row. (col : ℕ) → col < 7 → drawn two_points row col ≤ 1)
    (λ row. all_below 7 (λ col. drawn two_points row col ≤ 1) (λ col. dec_le (drawn two_points row col) 1))

binary : (row : ℕ) → row < 1 → (col : ℕ) → col < 7 → drawn two_points row col ≤ 1
unfolding Yes binary_dec all_below dec_le dec_lt
binary = by_test binary_dec tt

not_refused : (lent : Buffers) → length lent.work ≡ 27 → length lent.out ≡ 1
    → first (map_refusals row_of_seven seven_sheet seven_bytes 1 seven_map lent) ≡ 0
unfolding table raster packed byte_packed pixel is_side_out is_side any_above count_set sizes_seen
not_refused lent e f = rw (e, f)

same_points : dilated_by_sizes (figure 7 1 (drawn two_points)) (sizes_of (drawn their_sizes)) (element 3 (drawn pair))
    ≈ dilated_by_sizes (foreground_of row_of_seven seven_sheet) (size_of row_of_seven seven_map) (element_of row_of_seven seven_bytes)
same_points =
    let s = packed_means 7 1 (drawn two_points) (λ row col a b. binary row a col b) in
    let k = drawn_means 3 (drawn pair) in
    by_sizes_same (sizes_of (drawn their_sizes)) (size_of row_of_seven seven_map) (s.1, s.0)
    (λ a (row, col, i, j, v, e). ap (sizes_of (drawn their_sizes)) e
    ∙ sym (ap (size_of row_of_seven seven_map) e ∙ get_or-raster 7 1 (drawn their_sizes) row col 0 i j)) (k.1, k.0)

pub two_sizes_given : TwoSizesGiven
two_sizes_given lent e f number after p =
    let zero : number ≡ 0 = p.refusal ∙ not_refused lent e f in (
      zero,
      sheet_one 7 1 _ after.out (packed 7 1 (drawn their_points)) (p.accepted zero).1
          (sheet_carried same_points (packed 7 1 (drawn their_points))
          (pixels_sheet 7 1 _ (drawn their_points) (λ row col a b. two_sizes row a col b))),
    )
