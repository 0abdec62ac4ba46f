-- Demand 3: a run that a batch system cuts into slices, by calls of continue with their outcomes.
use Rattle.std.specs.Prelude.{ℕ, ◌+◌, ◌*◌, ◌≤◌, ◌<◌, min, ◌≡◌, ◌≢◌, false, cond, List, [], ◌∷◌, map, eqb, ltb, length}
use Rattle.basics.specs.Limits.{most_rows}
use Rattle.basics.specs.Refusals.{first}
use Rattle.sheet.specs.Sheets.{row_bytes}
use Rattle.scan.specs.Scan.{scan_rows}
use Rattle.run.specs.declared.Record.{Record}
use Rattle.run.specs.Kinds.{size_limit}
use Rattle.run.specs.Records.{area_of, due}
use Rattle.run.specs.Starting.{StartsErosion, StartsDilation, StartsCropped}
use Rattle.run.specs.Pictures.{collect_refusals, threshold_refusals}
use Rattle.run.specs.Continuing.{State, Continues, with_rows, is_done}

-- a record and levels that an accepted start gives
pub data Started : Record → List ℕ → Type 0 where
  erosion : (width height : ℕ) (sheet : List ℕ) (side : ℕ) (bytes lent : List ℕ) {r : Record} {levels : List ℕ}
      → StartsErosion width height sheet side bytes lent 0 (r, levels) → Started r levels
  dilation : (width height : ℕ) (sheet : List ℕ) (side : ℕ) (bytes : List ℕ) (cap : ℕ) (lent : List ℕ) {r : Record}
      {levels : List ℕ} → StartsDilation width height sheet side bytes cap lent 0 (r, levels) → Started r levels
  cropped : (width height : ℕ) (sheet : List ℕ) (side : ℕ) (bytes : List ℕ) (cap : ℕ) (lent : List ℕ) {r : Record}
      {levels : List ℕ} → StartsCropped width height sheet side bytes cap lent 0 (r, levels) → Started r levels

abbrev pub at_start : Record → List ℕ → State
at_start r levels = (r, is_done r, levels)

-- a call of continue: the record and the levels that it got, its allowance, and its outcome: the number, what it answered, and
-- how many points it says it lowered
pub record Slice : Type 0 where
  pub run : Record
  pub levels : List ℕ
  pub allowance : ℕ
  pub number : ℕ
  pub answer : State
  pub lowered : ℕ

-- the run after a call: what an accepted one answered; after a refusal the same again
abbrev pub next : State → Slice → State
next s call = cond (eqb call.number 0) call.answer s

-- The premises: the outcome is one that the contract allows; an accepted call got the record last returned and the run's own
-- levels. A refused one may have got anything.
pub record Allowed (s : State) (call : Slice) : Type 0 where
  pub outcome : Continues call.run call.levels call.allowance call.number (call.answer, call.lowered)
  pub own : call.number ≡ 0 → (call.run ≡ s.0) × (call.levels ≡ s.2)

unfoldable pub IsSeries : State → List Slice → Type 0
IsSeries s [] = Unit {0}
IsSeries s (call ∷ rest) = Allowed s call × IsSeries (next s call) rest

-- the run after all calls
unfoldable pub after : State → List Slice → State
after s [] = s
after s (call ∷ rest) = after (next s call) rest

-- what the accepted allowances sum to
unfoldable pub allowed : List Slice → ℕ
allowed [] = 0
allowed (call ∷ rest) = cond (eqb call.number 0) call.allowance 0 + allowed rest

-- what the counts of all calls sum to, refused ones too
unfoldable pub counted : List Slice → ℕ
counted [] = 0
counted (call ∷ rest) = call.lowered + counted rest

-- one unbroken scan of n rows
abbrev pub unbroken : Record → List ℕ → ℕ → State
unbroken r levels n = (with_rows r n, eqb n (due r), scan_rows (area_of r) 0 n levels)

-- the rows that a series works: as many as its accepted allowances sum to, at most those due
abbrev pub rows_worked : Record → List Slice → ℕ
rows_worked r series = min (allowed series) (due r)

-- there are such series: whatever allowances are asked for, one after the other
abbrev pub SeriesExist : Type 0
SeriesExist =
    (s : State) (allowances : List ℕ)
    → (series : List Slice) × IsSeries s series × (map (λ call. call.allowance) series ≡ allowances)

-- whatever the series, the run is where one unbroken scan of so many rows would be
abbrev pub CutsDoNotShow : Type 0
CutsDoNotShow =
    (r : Record) (levels : List ℕ) → Started r levels → (series : List Slice) → IsSeries (at_start r levels) series →
    after (at_start r levels) series ≡ unbroken r levels (rows_worked r series)

-- whatever the series, one unbroken call by as many rows is accepted, leaves the run where the series left it, and counts what the
-- series counted
abbrev pub CountsAddUp : Type 0
CountsAddUp =
    (r : Record) (levels : List ℕ) → Started r levels → (series : List Slice) → IsSeries (at_start r levels) series →
    (number : ℕ) (answer : State) (lowered : ℕ) → Continues r levels (rows_worked r series) number (answer, lowered) →
    (number ≡ 0) × (after (at_start r levels) series ≡ answer) × (counted series ≡ lowered)

-- a call with the run's own record and levels is accepted exactly up to an allowance of 8,192, and above it refused with 12
abbrev pub AcceptedExactly : Type 0
AcceptedExactly =
    (r : Record) (levels : List ℕ) → Started r levels → (series : List Slice) → IsSeries (at_start r levels) series →
    (allowance number : ℕ) (answer : State × ℕ) →
    Continues (after (at_start r levels) series).0 (after (at_start r levels) series).2 allowance number answer →
    number ≡ cond (ltb most_rows allowance) 12 0

-- before all rows are done no picture is released: collecting and thresholding refuse, and with everything else in order they
-- give 13
abbrev pub NoneReleased : Type 0
NoneReleased =
    (r : Record) (levels : List ℕ) → Started r levels → (n : ℕ) → n < due r → (size : ℕ) → size ≤ size_limit r →
    ((out : List ℕ) → length out ≡ r.height * r.width
    → first (collect_refusals (with_rows r n) (scan_rows (area_of r) 0 n levels) out) ≡ 13) ×
    ((out : List ℕ) → length out ≡ r.height * row_bytes r.width
    → first (threshold_refusals (with_rows r n) (scan_rows (area_of r) 0 n levels) size out) ≡ 13)

abbrev pub UnfinishedRefused : Type 0
UnfinishedRefused =
    (r : Record) → is_done r ≡ false → (levels : List ℕ) (size : ℕ) (out : List ℕ) →
    (first (collect_refusals r levels out) ≢ 0) × (first (threshold_refusals r levels size out) ≢ 0)

-- once they are, it is: with buffers of the right lengths and a size in its range neither refuses
abbrev pub Released : Type 0
Released =
    (r : Record) (levels : List ℕ) → Started r levels → (size : ℕ) → size ≤ size_limit r →
    ((out : List ℕ) → length out ≡ r.height * r.width
    → first (collect_refusals (with_rows r (due r)) (scan_rows (area_of r) 0 (due r) levels) out) ≡ 0) ×
    ((out : List ℕ) → length out ≡ r.height * row_bytes r.width
    → first (threshold_refusals (with_rows r (due r)) (scan_rows (area_of r) 0 (due r) levels) size out) ≡ 0)
