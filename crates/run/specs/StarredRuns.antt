-- The starred cases of docs/RULES.md once more, through the definitions of runs: what a run of each such case gives.
use Rattle.std.specs.Prelude.{ℕ, ◌≡◌, List, [], ◌∷◌, replicate}
use Rattle.basics.specs.Refusals.{Refusal, first}
use Rattle.basics.specs.Tables.{raster}
use Rattle.grid.specs.Starred.{drawn, Question, erosion_levels, opening_levels, dilation_levels, closing_levels, eroded_by, opened_by}
use Rattle.grid.specs.Starred.{cropped_levels, Case, full_row}
use Rattle.sheet.specs.Sheets.{packed}
use Rattle.row.specs.RowRule.{none}
use Rattle.scan.specs.Scan.{scan_rows}
use Rattle.run.specs.declared.Record.{Record}
use Rattle.run.specs.declared.kinds.Kind.{Kind}
use Rattle.run.specs.declared.kinds.Kind.TheVariants.{Eroding, Dilating, Cropping}
use Rattle.run.specs.Records.{area_of, due}
use Rattle.run.specs.Starting.{start_record, start_levels, erosion_refusals, dilation_refusals}
use Rattle.run.specs.Continuing.{with_rows}
use Rattle.run.specs.Pictures.{collected, collect_refusals, thresholded, threshold_refusals}
use Rattle.run.specs.Demand2.{finished}

-- a case's sheet, element and answer, as calls take and give them
abbrev pub sheet_of : Case → List ℕ
sheet_of c = packed c.width c.height (drawn c.sheet)

abbrev pub bytes_of : Case → List ℕ
bytes_of c = raster 3 3 (drawn c.shape)

abbrev pub levels_of : Case → List ℕ
levels_of c = raster c.width c.height (drawn c.expected)

abbrev pub picture_of : Case → List ℕ
picture_of c = packed c.width c.height (drawn c.expected)

-- a case's record, of a kind and with its cap
abbrev pub record_of : Case → Kind → ℕ → Record
record_of c kind R = start_record kind c.width c.height R 3 (bytes_of c)

-- the run once all its rows are done, and its levels then
abbrev pub whole : Record → Record
whole r = with_rows r (due r)

abbrev pub last_levels : Case → Kind → ℕ → List ℕ
last_levels c kind R = finished (record_of c kind R) (start_levels (record_of c kind R) (sheet_of c))

-- neither the start nor the picture is refused, and the picture is the answer
pub record Shows (start picture : List Refusal) (given answer : List ℕ) : Type 0 where
  pub started : first start ≡ 0
  pub released : first picture ≡ 0
  pub same : given ≡ answer

-- the levels collected of a run, whose start is refused as a list says
abbrev pub Collected : Kind → ℕ → (List ℕ → List Refusal) → Case → Type 0
Collected kind R refusals c =
    Shows (refusals (last_levels c kind R)) (collect_refusals (whole (record_of c kind R)) (last_levels c kind R) (levels_of c))
    (collected (whole (record_of c kind R)) (last_levels c kind R)) (levels_of c)

-- so for the erosion and dilation questions of the table; the others are no runs' (StarredFilters of filters)
abbrev pub Given : Question → Case → Type 0
Given erosion_levels c = Collected Eroding 0 (erosion_refusals c.width c.height (sheet_of c) 3 (bytes_of c)) c
Given (dilation_levels R) c = Collected Dilating R (dilation_refusals c.width c.height (sheet_of c) 3 (bytes_of c) R) c
Given (cropped_levels width height R) c =
    Collected Cropping R (dilation_refusals c.width c.height (sheet_of c) 3 (bytes_of c) R) c
Given (eroded_by n) c =
    Shows (erosion_refusals c.width c.height (sheet_of c) 3 (bytes_of c) (last_levels c Eroding 0))
    (threshold_refusals (whole (record_of c Eroding 0)) (last_levels c Eroding 0) n (picture_of c))
    (thresholded (whole (record_of c Eroding 0)) (last_levels c Eroding 0) n) (picture_of c)
Given opening_levels c = Unit {0}
Given (closing_levels R) c = Unit {0}
Given (opened_by n) c = Unit {0}

abbrev pub RunsGive : List Case → Type 0
RunsGive [] = Unit {0}
RunsGive (c ∷ cases) = Given c.question c × RunsGive cases

-- case 2 after one row: all levels are 65,535
abbrev pub AfterOneRow : Type 0
AfterOneRow =
    scan_rows (area_of (record_of full_row Eroding 0)) 0 1 (start_levels (record_of full_row Eroding 0) (sheet_of full_row)) ≡ replicate 5 none
