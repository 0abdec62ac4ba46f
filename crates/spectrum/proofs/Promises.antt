-- What holds of every outcome: the levels of a table are one function, as each point's level is; so the table and the summary are
-- one, its entries add up, and no number of the summary is above 2 ^ 53.
use Prim.Native.Nat.{ℕ, suc, ◌+◌, ◌-◌, ◌*◌, ◌≤◌, ◌<◌, max}
use native.Mathlib.Omega.{arith}
use native.Mathlib.Decide.{dec_lt}
use mathlib.Core.Path.{◌≡◌, refl, sym, ap, ap₂, ◌∙◌, fun_ext}
use mathlib.Core.List.{List, [], ◌∷◌}
use lib.Dec.{eqb, ltb, le→leb}
use lib.Ieee.{binary64, in_float}
use lib.Ieee.Back.{unsigned_back}
use lib.IntN.{pos}
use lib.ListN.{length, get_or, replicate}
use borrow.Author.Tests.{lt-ltb, ltb-true, eq-eqb, eqb-true, eqb-false}
use Rattle.basics.specs.Bounds.{any_above}
use Rattle.basics.specs.Refusals.{first}
use Rattle.basics.specs.Sums.{sum, points_where}
use Rattle.basics.specs.Tables.{table, raster}
use Rattle.basics.proofs.RefusalLaws.{answers_unique}
use Rattle.basics.proofs.SumLaws.{sum_same, points_same}
use Rattle.basics.proofs.TableLaws.{length-table, get_or-table}
use Rattle.grid.specs.Points.{at}
use Rattle.grid.specs.Sets.{PointSet}
use Rattle.grid.specs.Levels.{IsOpeningLevel}
use Rattle.grid.specs.Starred.{drawn, one_row, pair, opening_levels}
use Rattle.grid.proofs.LevelLaws.{last_unique, opening_iff, opening_positive}
use Rattle.grid.proofs.PointLaws.{pos_inj}
use Rattle.grid.proofs.SameSets.{itself, answer_same}
use Rattle.grid.proofs.Existence.{opened_bound}
use Rattle.grid.proofs.ReachLaws.{figure_in}
use Rattle.element.specs.Elements.{is_side, count_set}
use Rattle.element.proofs.Accepted.{accepted_origin, accepted_other}
use Rattle.sheet.specs.Sheets.{pixel, packed, byte_packed, is_side_out}
use Rattle.sheet.specs.SamePixels.{SamePixels}
use Rattle.sheet.proofs.SamePixelsLaws.{same_set}
use Rattle.run.specs.declared.Input.{Input}
use Rattle.filters.specs.Filters.{Buffers, Cleared, OpeningLevels, frame_size, foreground_of, element_of}
use Rattle.filters.specs.StarredFilters.{Fits, left}
use Rattle.filters.proofs.Refusing.{answers_carried}
use Rattle.filters.proofs.StarredFilters.{every_starred_case}
use Rattle.spectrum.specs.declared.Summary.{Summary}
use Rattle.spectrum.specs.Spectrum.{IsSpectrum, foreground_points, fraction, summary_of, is_blank, spectrum_refusals}
use Rattle.spectrum.specs.Spectrum.{exact_limit, GivesSpectrum}
use Rattle.spectrum.specs.Counting.{IsTable}
use Rattle.spectrum.specs.Promises.{OfEveryTable, AddsUp, Exact, NothingLost, CountsTransform, PaddingIgnored, CaseSixGiven}
use Rattle.spectrum.specs.Promises.{row_of_five}
use Rattle.spectrum.proofs.LevelCounts.{same_test, points_of, points_above, from_none, from_split, counts_all}
use Rattle.spectrum.proofs.TableSums.{front_sum, front_within, term_within, weighed_within}
use Rattle.spectrum.proofs.Answers.{fit, counts_table}

-- the table by any function of the levels
module _ {width height : ℕ} {A K : PointSet} {counts : List ℕ} (given : IsSpectrum width height A K counts) where
  pub counted_by : (level : ℕ → ℕ → ℕ)
      → ((row col : ℕ) → row < height → col < width → IsOpeningLevel A K (at (pos row) (pos col)) (level row col)) → (n : ℕ)
      → points_of width height given.level n ≡ points_of width height level n
  counted_by level is n =
      points_same width height (λ row col. eqb (given.level row col) n) (λ row col. eqb (level row col) n)
      (λ row col a b. ap (λ m. eqb m n) (last_unique (given.is_level row col a b) (is row col a b)))

  table-length : length counts ≡ max width height + 1
  table-length = ap length given.counted ∙ length-table (points_of width height given.level) (max width height + 1)

  table_entry : (n : ℕ) → n ≤ max width height → get_or counts n 0 ≡ points_of width height given.level n
  table_entry n l = ap (λ c. get_or c n 0) given.counted
      ∙ get_or-table (points_of width height given.level) (max width height + 1) n 0 (omega arith)

  table-sum : sum (length counts) (λ n. get_or counts n 0)
      ≡ sum (max width height + 1) (points_of width height given.level)
  table-sum = ap (λ m. sum m (λ n. get_or counts n 0)) table-length
      ∙ sum_same (max width height + 1) (λ n. get_or counts n 0) (points_of width height given.level)
      (λ n l. table_entry n (omega arith))

pub spectrum_one : {width height : ℕ} {A K : PointSet} (x y : List ℕ) → IsSpectrum width height A K x
    → IsSpectrum width height A K y → x ≡ y
spectrum_one {width} {height} x y p q =
    p.counted ∙ ap (λ f. table (max width height + 1) f) (fun_ext (counted_by p q.level q.is_level)) ∙ sym q.counted

-- what is right is one thing, whatever goes by the table beside it
module _ {S : Type 0} (beside : List ℕ → S) (input : Input) (sheet bytes : List ℕ) (lent : Buffers) where
  abbrev Right : Buffers × S → Type 0
  Right after = Cleared lent after.0 ×
      (IsSpectrum input.width input.height (foreground_of input sheet) (element_of input bytes) after.0.out ×
      (after.1 ≡ beside after.0.out))

  pub right_one : (x y : Buffers × S) → Right x → Right y → x ≡ y
  right_one x y (a, (p, e)) (b, (q, f)) =
      let o = spectrum_one x.0.out y.0.out p q in
      let s = e ∙ ap beside o ∙ sym f in
      rw (o, s, a.first ∙ sym b.first, a.second ∙ sym b.second) refl

-- NO SECOND OUTCOME
pub spectrum_unique : (input : Input) (sheet bytes : List ℕ) (lent : Buffers) (m n : ℕ) (x y : Buffers × Summary)
    → GivesSpectrum input sheet bytes lent m x → GivesSpectrum input sheet bytes lent n y → (m ≡ n) × (x ≡ y)
spectrum_unique input sheet bytes lent = answers_unique (right_one summary_of input sheet bytes lent)

-- the levels of an accepted call's table
module _ (input : Input) (sheet bytes : List ℕ) (lent after : Buffers) (summary : Summary)
    (given : GivesSpectrum input sheet bytes lent 0 (after, summary)) where
  abbrev accepted : first (spectrum_refusals input sheet bytes lent) ≡ 0
  accepted = sym given.refusal

  abbrev right : IsSpectrum input.width input.height (foreground_of input sheet) (element_of input bytes) after.out
  right = (given.accepted refl).1.0

  within : (row col : ℕ) → row < input.height → col < input.width → right.level row col ≤ max input.width input.height
  within row col a b = go (dec_lt (max input.width input.height) (right.level row col))
    where
      go : Dec (max input.width input.height < right.level row col)
          → right.level row col ≤ max input.width input.height
      go (no f) = omega arith
      go (yes l) =
          let e = (fit input sheet bytes lent accepted).input_good.element in
          let another = accepted_other input.side bytes e in
          let i = opening_iff (foreground_of input sheet) (element_of input bytes) (at (pos row) (pos col)) (right.is_level row col a b)
          (max input.width input.height) in
          let s = opened_bound input.width input.height (foreground_of input sheet) (element_of input bytes)
          (figure_in input.width input.height (pixel input.width sheet)) another.0 another.1 another.2
          (accepted_origin input.side bytes e) (max input.width input.height) (at (pos row) (pos col)) (i.1 l) in
          absurd (omega arith)

  all_points : sum (length after.out) (λ n. get_or after.out n 0) ≡ frame_size input
  all_points = table-sum right
      ∙ counts_all input.width input.height right.level (max input.width input.height) within

  -- a pixel is 1 exactly where the level is 1 or more
  pixel_level : (row col : ℕ) → row < input.height → col < input.width
      → ltb 0 (right.level row col) ≡ eqb (pixel input.width sheet row col) 1
  pixel_level row col a b =
      let i = opening_positive (foreground_of input sheet) (element_of input bytes) (at (pos row) (pos col))
      (right.is_level row col a b) in
      same_test (ltb 0 (right.level row col)) (eqb (pixel input.width sheet row col) 1) (
        (λ t. eq-eqb (pixel input.width sheet row col) 1 (here (i.1 (ltb-true 0 (right.level row col) t)))),
        (λ t. lt-ltb 0 (right.level row col)
            (i.0 (row, col, a, b, eqb-true (pixel input.width sheet row col) 1 t, refl))),
      )
    where
      here : foreground_of input sheet (at (pos row) (pos col)) → pixel input.width sheet row col ≡ 1
      here (r, c, _, _, v, e) =
          ap₂ (pixel input.width sheet) (pos_inj (ap (λ p. p.row) e)) (pos_inj (ap (λ p. p.col) e)) ∙ v

  is_table : IsTable after.out
  is_table =
      let j = (fit input sheet bytes lent accepted).input_good in
      let w = j.wide in
      let h = j.high in
      counts_table input.width input.height (max input.width input.height + 1) right.level after.out
      right.counted (omega arith) (omega arith) w.1 h.1

  but_background : get_or after.out 0 0 + foreground_points after.out ≡ frame_size input
  but_background =
      let l = table-length right in
      let e : suc (length after.out - 1) ≡ length after.out = omega arith in
      front_sum after.out (length after.out - 1) ∙ ap (λ m. sum m (λ n. get_or after.out n 0)) e ∙ all_points

  foreground_counted : foreground_points after.out
      ≡ points_where input.width input.height (λ row col. eqb (pixel input.width sheet row col) 1)
  foreground_counted =
      let b = but_background in
      let z = table_entry right 0 (omega arith) in
      let f = from_none input.width input.height right.level in
      let s = from_split input.width input.height right.level 0 in
      let e : foreground_points after.out ≡ points_above input.width input.height right.level 0 = omega arith in
      e ∙ points_same input.width input.height (λ row col. ltb 0 (right.level row col))
      (λ row col. eqb (pixel input.width sheet row col) 1) pixel_level

  -- each number as a double, and back
  exact : (n : ℕ) → n < exact_limit → Exact n
  unfolding in_float
  exact n l = record {
    small = l;
    back = (unsigned_back binary64 64 n (le→leb n exact_limit (omega arith)) (omega arith)).1;
  }

-- THE ENTRIES ADD UP
pub adds_up : OfEveryTable AddsUp
adds_up input sheet bytes lent after summary given = record {
  all = all_points input sheet bytes lent after summary given;
  but_background = let b = but_background input sheet bytes lent after summary given in omega arith;
  foreground = foreground_counted input sheet bytes lent after summary given;
  some =
      let f = foreground_counted input sheet bytes lent after summary given in
      let n = eqb-false _ 0 (fit input sheet bytes lent (accepted input sheet bytes lent after summary given)).not_blank in
      positive _ (λ z. n (sym f ∙ z));
}
  where
    positive : (n : ℕ) → (n ≡ 0 → ⊥) → 0 < n
    positive n f = go (dec_lt 0 n)
      where
        go : Dec (0 < n) → 0 < n
        go (yes l) = l
        go (no g) = absurd (f (omega arith))

-- NOTHING IS LOST
pub nothing_lost : OfEveryTable NothingLost
nothing_lost input sheet bytes lent after summary given =
    let t = is_table input sheet bytes lent after summary given in
    let long = t.long in
    record {
      levels = let w = weighed_within after.out t (length after.out) (omega arith) in
          exact input sheet bytes lent after summary given _ (omega arith);
      at_one = let w = term_within after.out t 1 (omega arith) in
          exact input sheet bytes lent after summary given _ (omega arith);
      points = let w = front_within after.out t (length after.out - 1) (omega arith) in
          exact input sheet bytes lent after summary given _ (omega arith);
    }

-- THE TRANSFORM'S ANSWER IS COUNTED
pub counts_transform : CountsTransform
counts_transform input sheet bytes lent after summary given other levels opens n l =
    let right = (given.accepted refl).1.0 in
    table_entry right n l
    ∙ counted_by right (λ row col. get_or levels.out (row * input.width + col) 0) (opens.accepted refl).1.levels n

-- PADDING BITS CHANGE NOTHING
blank_same : (width height : ℕ) (one other : List ℕ) → SamePixels width height one other
    → is_blank width height one ≡ is_blank width height other
blank_same width height one other same =
    ap (λ n. eqb n 0) (points_same width height (λ row col. eqb (pixel width one row col) 1)
    (λ row col. eqb (pixel width other row col) 1) (λ row col a b. ap (λ v. eqb v 1) (same row col a b)))

pub padding_ignored : PaddingIgnored
padding_ignored input one other e same bytes lent m n x y p q =
    spectrum_unique input other bytes lent m n x y
    (answers_carried (rw (e, blank_same input.width input.height one other same))
    (λ after h. (h.0, (carried h.1.0, h.1.1))) p) q
  where
    carried : {counts : List ℕ}
        → IsSpectrum input.width input.height (foreground_of input one) (element_of input bytes) counts
        → IsSpectrum input.width input.height (foreground_of input other) (element_of input bytes) counts
    carried s = record {
      level = s.level;
      is_level = λ row col a b. answer_same (same_set input.width input.height one other same) (itself (element_of input bytes))
          opening_levels (at (pos row) (pos col)) (s.level row col) (s.is_level row col a b);
      counted = s.counted;
    }

-- CASE 6: its opening levels are those of the starred case, and what is counted of them is computed
abbrev six_sheet : List ℕ
six_sheet = packed 5 1 (drawn (one_row (1 ∷ 0 ∷ 1 ∷ 1 ∷ 1 ∷ [])))

abbrev six_bytes : List ℕ
six_bytes = raster 3 3 (drawn pair)

abbrev six_levels : List ℕ
six_levels = raster 5 1 (drawn (one_row (1 ∷ 0 ∷ 3 ∷ 3 ∷ 3 ∷ [])))

six_refused : (lent : Buffers) → Fits 5 6 lent → first (spectrum_refusals row_of_five six_sheet six_bytes lent) ≡ 0
unfolding table raster packed byte_packed pixel is_side_out is_side any_above count_set points_where sum
six_refused lent fits = rw (fits.first, fits.second, fits.out)

zeros : Buffers
zeros = record { first = replicate 5 0; second = replicate 5 0; out = replicate 5 0 }

six_levels_lem : OpeningLevels row_of_five six_sheet six_bytes zeros 0 (left 5 six_levels)
unfolding raster table zeros
six_levels_lem = (every_starred_case.filters.1.1.1.1.1.1.1.1.1.1.0 zeros
    (record { first = refl; second = refl; out = refl })).0

six_counts : table 6 (points_of 5 1 (λ row col. get_or six_levels (row * 5 + col) 0)) ≡ 1 ∷ 1 ∷ 0 ∷ 3 ∷ 0 ∷ 0 ∷ []
unfolding table raster points_where sum
six_counts = refl

six_summary : summary_of (1 ∷ 1 ∷ 0 ∷ 3 ∷ 0 ∷ 0 ∷ []) ≡ record { mean = fraction 10 4; share = fraction 1 4 }
unfolding sum
six_summary = refl

pub case_six_given : CaseSixGiven
case_six_given lent fits number after summary p =
    let zero : number ≡ 0 = p.refusal ∙ six_refused lent fits in
    let right = (p.accepted zero).1 in
    let counts : after.out ≡ 1 ∷ 1 ∷ 0 ∷ 3 ∷ 0 ∷ 0 ∷ [] = right.0.counted
    ∙ ap (λ f. table 6 f) (fun_ext (counted_by right.0 (λ row col. get_or six_levels (row * 5 + col) 0)
    (six_levels_lem.accepted refl).1.levels)) ∙ six_counts in
    (zero, (counts, right.1 ∙ ap summary_of counts ∙ six_summary))
