-- A LOOK AT A CUT RUN, in one statement. Take demand 3's premises: any accepted start and any series of calls, each accepted one
-- with the record last returned and the run's own levels. No level is below its final one, none is ever raised, and the provisional
-- sheet errs to one side only: an erosion's by holding too much, a dilation's by holding too little.
use Rattle.std.specs.Prelude.{ℕ, ◌*◌, ◌≤◌, ◌≡◌, ◌↔◌, Bool, true, List, length, get_or}
use Rattle.sheet.specs.Sheets.{row_bytes}
use Rattle.sheet.specs.Means.{SheetMeans, SheetContains, SheetWithin}
use Rattle.run.specs.declared.Record.{Record}
use Rattle.run.specs.Kinds.{erosion_kind, dilation_kind, size_limit}
use Rattle.run.specs.Records.{due}
use Rattle.run.specs.Continuing.{is_done}
use Rattle.run.specs.Pictures.{Thresholds}
use Rattle.run.specs.Provisional.{ShowsProvisional}
use Rattle.run.specs.Series.{Started, Slice, IsSeries, at_start, after, rows_worked}
use Rattle.run.specs.Demand2.{finished, RightSet}

-- What a look at a size gives, n of the rows due being done: it is not refused, and final is answered exactly when all are done.
-- At every point of the frame, an erosion's sheet contains the set eroded by the size, a dilation's lies within the set dilated by
-- it, and a final one is that set.
pub record Shown {r : Record} {levels : List ℕ} (started : Started r levels) (n size number : ℕ) (is_final : Bool)
    (sheet : List ℕ) : Type 0 where
  pub given : number ≡ 0
  pub final : (is_final ≡ true) ↔ (n ≡ due r)
  pub contains : r.kind ≡ erosion_kind → SheetContains r.width r.height (RightSet started size) sheet
  pub within : r.kind ≡ dilation_kind → SheetWithin r.width r.height (RightSet started size) sheet
  pub whole : n ≡ due r → SheetMeans r.width r.height (RightSet started size) sheet

pub record CutRun {r : Record} {levels : List ℕ} (started : Started r levels) (series : List Slice) : Type 0 where
  -- every level is at least its final one
  pub none_below : (place : ℕ) → get_or (finished r levels) place 0 ≤ get_or (after (at_start r levels) series).2 place 0
  -- another row never raises a level, nor do any calls that follow
  pub none_raised : (more : List Slice) → IsSeries (after (at_start r levels) series) more → (place : ℕ)
      → get_or (after (after (at_start r levels) series) more).2 place 0 ≤ get_or (after (at_start r levels) series).2 place 0
  -- a look at every size in its range, with a sheet of the right length
  pub shown : (size : ℕ) → size ≤ size_limit r → (out : List ℕ) → length out ≡ r.height * row_bytes r.width
      → (number : ℕ) (is_final : Bool) (sheet : List ℕ)
      → ShowsProvisional (after (at_start r levels) series).0 (after (at_start r levels) series).2 size out number (is_final, sheet)
      → Shown started (rows_worked r series) size number is_final sheet

abbrev pub EveryCut : Type 0
EveryCut = (r : Record) (levels : List ℕ) (started : Started r levels) (series : List Slice) → IsSeries (at_start r levels) series
    → CutRun started series

-- With all rows done a look is the ordinary threshold: whatever is lent, it answers the threshold's number and sheet.
abbrev pub FinalIsOrdinary : Type 0
FinalIsOrdinary =
    (r : Record) → is_done r ≡ true → (levels : List ℕ) (size : ℕ) (out : List ℕ) (number : ℕ) (is_final : Bool) (sheet : List ℕ) →
    ShowsProvisional r levels size out number (is_final, sheet) → Thresholds r levels size out number sheet
