-- The starred cases through the contracts: a case's sheet and element mean the sets that it draws, so the table's answers,
-- which hold of those sets, are right by the contract; and what is right is one thing.
-- That no case is refused, and that its sheet is drawn in 0 and 1, is computed over the whole table.
use Prim.Native.Nat.{ℕ, ◌≤◌, ◌<◌}
use native.Mathlib.Decide.{ℕ_discrete, dec_le, dec_lt}
use mathlib.Core.Path.{◌≡◌, refl, sym, subst, ◌∙◌}
use mathlib.Core.Bool.{not, ◌||◌}
use mathlib.Core.List.{List, [], ◌∷◌, ◌++◌}
use lib.Dec.{eqb, ltb}
use lib.IntN.{pos}
use lib.ListN.{length}
use Rattle.basics.specs.Bounds.{any_above}
use Rattle.basics.specs.Limits.{largest_size, highest_cap}
use Rattle.basics.specs.Refusals.{Refusal, first, Answers}
use Rattle.basics.specs.Tables.{table, raster}
use Rattle.basics.proofs.TableLaws.{length-raster, get_or-raster}
use Rattle.grid.specs.Points.{Point, at}
use Rattle.grid.specs.Starred.{drawn, Question, erosion_levels, opening_levels, dilation_levels, closing_levels, eroded_by, opened_by}
use Rattle.grid.specs.Starred.{cropped_levels, IsAnswer, Case, shape_of, AllHold, starred_cases as cases, figure_of}
use Rattle.grid.proofs.LevelLaws.{last_unique, first_unique}
use Rattle.grid.proofs.SameSets.{answer_same}
use Rattle.grid.proofs.Searches.{Yes, by_test, all_below, both_dec}
use Rattle.grid.proofs.Starred.{starred, pair_reflects, clipping_misses}
use Rattle.element.specs.Elements.{element_set, is_side, count_set}
use Rattle.element.proofs.Meaning.{drawn_means}
use Rattle.sheet.specs.Sheets.{byte_packed, packed, foreground, is_side_out}
use Rattle.sheet.proofs.PixelLaws.{packed_means}
use Rattle.run.specs.StarredRuns.{sheet_of, bytes_of, levels_of, picture_of}
use Rattle.run.proofs.StarredRuns.{starred_runs, after_one_row}
use Rattle.filters.specs.Filters.{Buffers, Cleared, AreLevels, open_refusals, opening_refusals, closing_refusals}
use Rattle.filters.specs.Filters.{input_refusals, is_canvas_wrong, frame_size, closing_size, sheet_size}
use Rattle.filters.specs.StarredFilters.{Gives, input_of, FilterGives, FiltersGive, EveryStarredCase}
use Rattle.filters.proofs.Uniqueness.{pixels_sheet, sheet_one, levels_one, gives}

-- where the number goes by the lengths of the buffers, one computation of it serves all that fit
gives_by_lengths : (refusals : Buffers → List Refusal) (number : ℕ → ℕ → ℕ → ℕ)
    → ((lent : Buffers) → first (refusals lent) ≡ number (length lent.first) (length lent.second) (length lent.out))
    → (Right : List ℕ → Type 0) → ((x y : List ℕ) → Right x → Right y → x ≡ y)
    → (work : ℕ) (answer : List ℕ) → number work work (length answer) ≡ 0 → Right answer
    → Gives (λ lent. Answers (refusals lent) lent (λ after. Cleared lent after × Right after.out)) work answer
gives_by_lengths refusals number by_lengths Right one work answer none =
    gives refusals Right one work answer
    (λ lent fits. by_lengths lent ∙ (rw (fits.first, fits.second, fits.out) none))

-- what is computed of a case: the number that its call answers, by the lengths of the buffers lent, and that its sheet is drawn
-- in 0 and 1
module _ (c : Case) where
  abbrev number_of : List Refusal → ℕ → ℕ → ℕ → ℕ → ℕ → ℕ
  number_of own work room first_size second_size out_size =
      first (input_refusals (input_of c) (sheet_of c) (bytes_of c) ++ (own ++
      (10, not (eqb first_size work) || not (eqb second_size work)) ∷ (11, not (eqb out_size room)) ∷ []))

  open_number : ℕ → ℕ → ℕ → ℕ → ℕ
  open_number n = number_of ((8, ltb largest_size n) ∷ []) (frame_size (input_of c)) (sheet_size (input_of c))

  closing_number : ℕ → ℕ → ℕ → ℕ → ℕ
  closing_number R = number_of ((8, ltb highest_cap R) ∷ (9, is_canvas_wrong (input_of c) R) ∷ [])
      (closing_size (input_of c) R) (frame_size (input_of c))

  opening_number : ℕ → ℕ → ℕ → ℕ
  opening_number = number_of [] (frame_size (input_of c)) (frame_size (input_of c))

  Binary : Type 0
  Binary = (row : ℕ) → row < c.height → (col : ℕ) → col < c.width → drawn c.sheet row col ≤ 1

  NotRefused : Question → Type 0
  NotRefused opening_levels = opening_number (frame_size (input_of c)) (frame_size (input_of c)) (length (levels_of c)) ≡ 0
  NotRefused (closing_levels R) =
      closing_number R (closing_size (input_of c) R) (closing_size (input_of c) R) (length (levels_of c)) ≡ 0
  NotRefused (opened_by n) = open_number n (frame_size (input_of c)) (frame_size (input_of c)) (length (picture_of c)) ≡ 0
  NotRefused erosion_levels = Unit {0}
  NotRefused (dilation_levels R) = Unit {0}
  NotRefused (eroded_by n) = Unit {0}
  NotRefused (cropped_levels width height R) = Unit {0}

  binary_dec : Dec Binary
  unfolding Binary
  binary_dec = all_below c.height (λ row. (col : ℕ) → col < c.width → drawn c.sheet row col ≤ 1)
      (λ row. all_below c.width (λ col. drawn c.sheet row col ≤ 1) (λ col. dec_le (drawn c.sheet row col) 1))

  taken_dec : (q : Question) → Dec (NotRefused q)
  unfolding NotRefused
  taken_dec opening_levels = ℕ_discrete _ 0
  taken_dec (closing_levels R) = ℕ_discrete _ 0
  taken_dec (opened_by n) = ℕ_discrete _ 0
  taken_dec erosion_levels = yes tt
  taken_dec (dilation_levels R) = yes tt
  taken_dec (eroded_by n) = yes tt
  taken_dec (cropped_levels width height R) = yes tt

AllTaken : List Case → Type 0
AllTaken [] = Unit {0}
AllTaken (c ∷ rest) = (Binary c × NotRefused c c.question) × AllTaken rest

all_taken_dec : (rest : List Case) → Dec (AllTaken rest)
unfolding AllTaken
all_taken_dec [] = yes tt
all_taken_dec (c ∷ rest) = both_dec (both_dec (binary_dec c) (taken_dec c c.question)) (all_taken_dec rest)

all_taken : AllTaken cases
unfolding Yes all_taken_dec AllTaken Binary NotRefused binary_dec taken_dec open_number closing_number opening_number
    all_below both_dec ℕ_discrete dec_le dec_lt table raster packed byte_packed is_side_out is_side any_above count_set
all_taken = by_test (all_taken_dec cases) tt

-- the table's answers are right by the contract
module _ (c : Case) (binary : Binary c) where
  same_answer : (q : Question)
      → ((row : ℕ) → row < c.height → (col : ℕ) → col < c.width
      → IsAnswer q (figure_of c) (shape_of c) (at (pos row) (pos col)) (drawn c.expected row col))
      → (row col : ℕ) → row < c.height → col < c.width
      → IsAnswer q (foreground c.width c.height (sheet_of c)) (element_set 3 (bytes_of c)) (at (pos row) (pos col))
      (drawn c.expected row col)
  unfolding Binary
  same_answer q holds row col a b =
      let s = packed_means c.width c.height (drawn c.sheet) (λ i j l m. binary i l j m) in
      let e = drawn_means 3 (drawn c.shape) in
      answer_same (s.1, s.0) (e.1, e.0) q (at (pos row) (pos col)) (drawn c.expected row col) (holds row a col b)

  are_levels : (IsLevel : Point → ℕ → Type 0)
      → ((row col : ℕ) → row < c.height → col < c.width → IsLevel (at (pos row) (pos col)) (drawn c.expected row col))
      → AreLevels c.width c.height IsLevel (levels_of c)
  are_levels IsLevel h = record {
    levels = λ row col a b. subst (IsLevel (at (pos row) (pos col)))
        (sym (get_or-raster c.width c.height (drawn c.expected) row col 0 a b)) (h row col a b);
    size = length-raster c.width c.height (drawn c.expected);
  }

  given : (q : Question) → NotRefused c q
      → ((row : ℕ) → row < c.height → (col : ℕ) → col < c.width
      → IsAnswer q (figure_of c) (shape_of c) (at (pos row) (pos col)) (drawn c.expected row col)) → FilterGives q c
  unfolding NotRefused open_number closing_number opening_number
  given opening_levels t h =
      gives_by_lengths (opening_refusals (input_of c) (sheet_of c) (bytes_of c)) (opening_number c) (λ lent. refl)
      _ (levels_one c.width c.height _ (λ p m n. last_unique)) _ _ t (are_levels _ (same_answer opening_levels h))
  given (closing_levels R) t h =
      gives_by_lengths (closing_refusals (input_of c) (sheet_of c) (bytes_of c) R) (closing_number c R) (λ lent. refl)
      _ (levels_one c.width c.height _ (λ p m n. first_unique)) _ _ t (are_levels _ (same_answer (closing_levels R) h))
  given (opened_by n) t h =
      gives_by_lengths (open_refusals (input_of c) (sheet_of c) (bytes_of c) n) (open_number c n) (λ lent. refl)
      _ (sheet_one c.width c.height _) _ _ t
      (pixels_sheet c.width c.height _ (drawn c.expected) (same_answer (opened_by n) h))
  given erosion_levels t h = tt
  given (dilation_levels R) t h = tt
  given (eroded_by n) t h = tt
  given (cropped_levels width height R) t h = tt

-- the whole table
filters_give : (rest : List Case) → AllTaken rest → AllHold rest → FiltersGive rest
unfolding AllTaken
filters_give [] t h = tt
filters_give (c ∷ rest) t h = (given c t.0.0 c.question t.0.1 h.0, filters_give rest t.1 h.1)

pub starred_filters : FiltersGive cases
starred_filters = filters_give cases all_taken starred

pub every_starred_case : EveryStarredCase
every_starred_case = record {
  definitions = starred;
  runs = starred_runs;
  one_row_lem = after_one_row;
  filters = starred_filters;
  reflected = pair_reflects;
  clipping = clipping_misses;
}
