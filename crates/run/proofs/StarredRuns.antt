-- The runs of the starred cases give the table's answers, by one computed test over the whole table.
use Prim.Native.Nat.{ℕ, suc}
use native.Mathlib.Decide.{ℕ_discrete}
use native.Mathlib.Omega.{arith}
use mathlib.Core.Path.{◌≡◌, refl, ap, ap₂}
use mathlib.Core.List.{List, [], ◌∷◌}
use lib.ListN.{length, get_or, drop}
use Rattle.basics.specs.Bounds.{any_above}
use Rattle.basics.specs.Refusals.{Refusal, first}
use Rattle.basics.specs.Tables.{table, raster}
use Rattle.grid.specs.Starred.{Question, erosion_levels, opening_levels, dilation_levels, closing_levels, eroded_by, opened_by, Case}
use Rattle.grid.specs.Starred.{cropped_levels, starred_cases as cases}
use Rattle.grid.proofs.Searches.{Yes, by_test, both_dec, same_dec}
use Rattle.element.specs.Elements.{is_side, count_set}
use Rattle.element.specs.Cells.{seven_by_seven, is_held, centred_cell, centred, turned, flat, unflat}
use Rattle.sheet.specs.Sheets.{pixel, is_side_out, byte_packed, packed}
use Rattle.row.specs.RowRule.{cell_number, within, level_at, partner, least, first_met, lowered, point_rule, place, columns, row_rule}
use Rattle.scan.specs.Scan.{scan_row, scan_rows}
use Rattle.run.specs.Records.{outside, any_outside, element_foreign, kind_foreign, cap_foreign, foreign, record_bad}
use Rattle.run.specs.Starting.{framed, start_area}
use Rattle.run.specs.Pictures.{collected, thresholded}
use Rattle.run.specs.StarredRuns.{Shows, Given, RunsGive, AfterOneRow}

list_dec : (xs ys : List ℕ) → Dec (xs ≡ ys)
list_dec [] [] = yes refl
list_dec [] (y ∷ ys) = no (λ e. let l : 0 ≡ suc (length ys) = ap length e in omega arith)
list_dec (x ∷ xs) [] = no (λ e. let l : suc (length xs) ≡ 0 = ap length e in omega arith)
list_dec (x ∷ xs) (y ∷ ys) = go (ℕ_discrete x y) (list_dec xs ys)
  where
    go : Dec (x ≡ y) → Dec (xs ≡ ys) → Dec (x ∷ xs ≡ y ∷ ys)
    go (yes e) (yes d) = yes (ap₂ ◌∷◌ e d)
    go (yes e) (no d) = no (λ f. d (ap (drop 1) f))
    go (no e) d = no (λ f. e (ap (λ l. get_or l 0 0) f))

shows_dec : (start picture : List Refusal) (given answer : List ℕ) → Dec (Shows start picture given answer)
shows_dec start picture given answer =
    same_dec (λ p. record { started = p.0; released = p.1.0; same = p.1.1 }) (λ s. (s.started, (s.released, s.same)))
    (both_dec (ℕ_discrete (first start) 0) (both_dec (ℕ_discrete (first picture) 0) (list_dec given answer)))

given_dec : (q : Question) (c : Case) → Dec (Given q c)
given_dec erosion_levels c = shows_dec _ _ _ _
given_dec (dilation_levels R) c = shows_dec _ _ _ _
given_dec (eroded_by n) c = shows_dec _ _ _ _
given_dec (cropped_levels width height R) c = shows_dec _ _ _ _
given_dec opening_levels c = yes tt
given_dec (closing_levels R) c = yes tt
given_dec (opened_by n) c = yes tt

all_dec : (rest : List Case) → Dec (RunsGive rest)
all_dec [] = yes tt
all_dec (c ∷ rest) = both_dec (given_dec c.question c) (all_dec rest)

-- THE CLAIM
pub starred_runs : RunsGive cases
unfolding Yes list_dec shows_dec given_dec all_dec both_dec same_dec ℕ_discrete is_side any_above count_set is_side_out outside
    any_outside element_foreign kind_foreign cap_foreign foreign record_bad table raster seven_by_seven is_held centred_cell centred turned flat
    unflat pixel byte_packed packed cell_number within level_at partner least first_met lowered point_rule place columns row_rule
    scan_row scan_rows framed start_area collected thresholded
starred_runs = by_test (all_dec cases) tt

pub after_one_row : AfterOneRow
unfolding table raster seven_by_seven is_held centred_cell centred turned flat unflat pixel byte_packed packed cell_number within
    level_at partner least first_met lowered point_rule place columns row_rule scan_row scan_rows framed start_area
after_one_row = refl
