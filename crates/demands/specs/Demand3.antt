-- DEMAND 3 in one statement. Take any accepted start and any series of calls, each accepted one with the record last returned
-- and the run's own levels. Cuts do not show, in the run and in the points lowered; completion is answered exactly when all rows
-- are done; then the picture is that of demand 2; before, none is released.
use Rattle.std.specs.Prelude.{ℕ, ◌*◌, ◌≤◌, ◌<◌, ◌≡◌, ◌≢◌, ◌↔◌, true, false, List, length}
use Rattle.basics.specs.Bounds.{any_above}
use Rattle.sheet.specs.Sheets.{row_bytes}
use Rattle.sheet.specs.Means.{LevelsMean, SheetMeans}
use Rattle.run.specs.declared.Record.{Record}
use Rattle.run.specs.Kinds.{size_limit}
use Rattle.run.specs.Records.{due}
use Rattle.run.specs.Pictures.{collected, Collects, Thresholds}
use Rattle.run.specs.Continuing.{State, Continues}
use Rattle.run.specs.Series.{Started, Slice, IsSeries, at_start, after, counted, unbroken, rows_worked}
use Rattle.run.specs.Demand2.{RightLevel, RightSet}
use Rattle.pgm.specs.WritePgm.{maximum, picture, WritesPgm}

-- The picture is given, and it is the right one: collected, thresholded at every size in its range, and written, with outputs of
-- the right lengths and room for the text.
pub record PictureGiven {r : Record} {levels : List ℕ} (started : Started r levels) (run : Record) (own : List ℕ) : Type 0 where
  pub collecting : (out : List ℕ) → length out ≡ r.height * r.width → (number : ℕ) (filled : List ℕ)
      → Collects run own out number filled → (number ≡ 0) × LevelsMean r.width r.height (RightLevel started) filled
  pub thresholding : (size : ℕ) → size ≤ size_limit r → (out : List ℕ) → length out ≡ r.height * row_bytes r.width
      → (number : ℕ) (filled : List ℕ) → Thresholds run own size out number filled
      → (number ≡ 0) × SheetMeans r.width r.height (RightSet started size) filled
  pub writing : (out : List ℕ) → length (picture run (collected run own)) ≤ length out → (number : ℕ) (written : ℕ × List ℕ)
      → WritesPgm run (collected run own) out number written → number ≡ 0

-- No picture is given, whatever is lent: each call refuses and leaves its output as it was ..
pub record NoneGiven (run : Record) : Type 0 where
  pub collecting : (lent out : List ℕ) (number : ℕ) (filled : List ℕ) → Collects run lent out number filled
      → (number ≢ 0) × (filled ≡ out)
  pub thresholding : (lent : List ℕ) (size : ℕ) (out : List ℕ) (number : ℕ) (filled : List ℕ)
      → Thresholds run lent size out number filled → (number ≢ 0) × (filled ≡ out)
  pub writing : (lent out : List ℕ) (number : ℕ) (written : ℕ × List ℕ) → WritesPgm run lent out number written
      → (number ≢ 0) × (written ≡ (0, out))

-- .. and where everything else is in order the number is 13
pub record RowsWanting (r run : Record) (own : List ℕ) : Type 0 where
  pub collecting : (out : List ℕ) → length out ≡ r.height * r.width → (number : ℕ) (filled : List ℕ)
      → Collects run own out number filled → number ≡ 13
  pub thresholding : (size : ℕ) → size ≤ size_limit r → (out : List ℕ) → length out ≡ r.height * row_bytes r.width
      → (number : ℕ) (filled : List ℕ) → Thresholds run own size out number filled → number ≡ 13
  pub writing : (lent out : List ℕ) → length lent ≡ r.height * r.width → any_above (maximum r) lent ≡ false
      → length (picture run lent) ≤ length out → (number : ℕ) (written : ℕ × List ℕ)
      → WritesPgm run lent out number written → number ≡ 13

pub record Demand3 {r : Record} {levels : List ℕ} (started : Started r levels) (series : List Slice) : Type 0 where
  -- record, completion and levels are those of one unbroken scan of as many rows as the accepted allowances sum to, at most the
  -- rows due
  pub cuts : after (at_start r levels) series ≡ unbroken r levels (rows_worked r series)
  -- and one unbroken call by so many rows is accepted, leaves the run there, and lowers as many points as all calls together
  pub counts : (number : ℕ) (answer : State) (lowered : ℕ) → Continues r levels (rows_worked r series) number (answer, lowered)
      → (number ≡ 0) × (after (at_start r levels) series ≡ answer) × (counted series ≡ lowered)
  pub completion : ((after (at_start r levels) series).1 ≡ true) ↔ (rows_worked r series ≡ due r)
  pub released : rows_worked r series ≡ due r
      → PictureGiven started (after (at_start r levels) series).0 (after (at_start r levels) series).2
  pub withheld : rows_worked r series < due r
      → NoneGiven (after (at_start r levels) series).0 ×
      RowsWanting r (after (at_start r levels) series).0 (after (at_start r levels) series).2

abbrev pub EveryRun : Type 0
EveryRun = (r : Record) (levels : List ℕ) (started : Started r levels) (series : List Slice) → IsSeries (at_start r levels) series
    → Demand3 started series
