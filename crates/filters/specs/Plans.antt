-- The four calls as one: what a call is refused for, its first run, the sizes that it goes through, and what it answers.
use Rattle.std.specs.Prelude.{ℕ, ◌+◌, ◌*◌, ◌≤◌, ◌<◌, ◌≡◌, Bool, true, false, not, cond, ◌↔◌, List, [], ◌∷◌, ◌++◌, eqb, ltb, pos, length, get_or, Result, Ok, Err}
use Rattle.basics.specs.declared.refusal.Refusal as declared
use Rattle.basics.specs.Limits.{largest_size, highest_cap}
use Rattle.basics.specs.Refusals.{Refusal, first, Answers}
use Rattle.grid.specs.Points.{Point, at}
use Rattle.grid.specs.Sets.{PointSet, opened, closed}
use Rattle.grid.specs.Levels.{IsOpeningLevel, IsClosingLevel}
use Rattle.sheet.specs.Sheets.{row_bytes}
use Rattle.run.specs.declared.Record.{Record}
use Rattle.run.specs.declared.sound.Sound.{Sound}
use Rattle.run.specs.declared.kinds.Kind.TheVariants.{Eroding, Dilating}
use Rattle.run.specs.Records.{empty_record}
use Rattle.run.specs.Starting.{start_record, start_levels, canvas_refusals}
use Rattle.run.specs.Demand2.{finished}
use Rattle.run.specs.declared.Input.{Input}
use Rattle.filters.specs.declared.judging.Plan.{Plan}
use Rattle.filters.specs.declared.judging.Lengths.{Lengths}
use Rattle.filters.specs.Filters.{Buffers, Cleared, IsSheet, AreLevels, foreground_of, element_of, input_refusals}
use Rattle.filters.specs.Filters.{closing_size}
use Rattle.filters.specs.Back.{is_found, Highest}

-- the largest size or cap, and the cap of the first run
abbrev pub limit_of : Plan → ℕ
limit_of plan = cond plan.closing highest_cap largest_size

abbrev pub cap_of : Plan → ℕ
cap_of plan = cond plan.closing plan.size 0

-- the entries of a row of a packed sheet, or of levels
abbrev pub entries_of : Bool → ℕ → ℕ
entries_of sheet width = cond sheet (row_bytes width) width

-- 2 to 10, as the first run is refused
abbrev pub start_refusals : Input → List ℕ → List ℕ → Plan → ℕ → List Refusal
start_refusals input sheet bytes plan count = input_refusals input sheet bytes ++
    (8, ltb (limit_of plan) plan.size) ∷ canvas_refusals input.width input.height (cap_of plan) input.side count

-- with the second work buffer, and 11 with the output
abbrev pub work_refusals : Input → List ℕ → List ℕ → Plan → ℕ → ℕ → List Refusal
work_refusals input sheet bytes plan count second = start_refusals input sheet bytes plan count ++
    (10, not (eqb second (closing_size input (cap_of plan)))) ∷ []

abbrev pub plan_refusals : Input → List ℕ → List ℕ → Plan → Lengths → List Refusal
plan_refusals input sheet bytes plan lent = work_refusals input sheet bytes plan lent.first lent.second ++
    (11, not (eqb lent.out (input.height * entries_of plan.packed input.width))) ∷ []

abbrev pub lengths_of : Buffers → Lengths
lengths_of lent = record { first = length lent.first; second = length lent.second; out = length lent.out }

-- the first run: an erosion for an opening, a dilation for a closing; its record, how it starts, and its levels in the end
abbrev pub first_record : Input → List ℕ → Plan → Record
first_record input bytes plan =
    start_record (cond plan.closing Dilating Eroding) input.width input.height (cap_of plan) input.side bytes

abbrev pub first_start : Input → List ℕ → List ℕ → Plan → List ℕ
first_start input sheet bytes plan = start_levels (first_record input bytes plan) sheet

abbrev pub first_levels : Input → List ℕ → List ℕ → Plan → List ℕ
first_levels input sheet bytes plan = finished (first_record input bytes plan) (first_start input sheet bytes plan)

-- the record of a call's first run; beside a refusal none
abbrev pub record_in : Result Sound declared.Refusal → Record
record_in (Ok s) = s.run
record_in (Err _) = empty_record

-- no level of an opening's first run is above the largest size, nor is a closing's cap above the highest
pub record Bounded (plan : Plan) (levels : List ℕ) : Type 0 where
  pub opening : plan.closing ≡ false → (k : ℕ) → k < length levels → get_or levels k 0 ≤ largest_size
  pub closing : plan.closing ≡ true → plan.size ≤ highest_cap

-- the sizes gone through: those below the highest of its levels, or those up to the cap
pub record Counted (plan : Plan) (levels : List ℕ) (count : ℕ) : Type 0 where
  pub opening : plan.closing ≡ false → Highest levels (length levels) count
  pub closing : plan.closing ≡ true → count ≡ plan.size + 1

-- what is right: the set opened or closed by the size, the levels of opening or closing up to the cap
abbrev pub filtered : Bool → PointSet → PointSet → ℕ → PointSet
filtered true A K n = closed A K n
filtered false A K n = opened A K n

abbrev pub IsFilterLevel : Bool → ℕ → PointSet → PointSet → Point → ℕ → Type 0
IsFilterLevel true cap A K = IsClosingLevel cap A K
IsFilterLevel false cap A K = IsOpeningLevel A K

-- the sizes that points are found at: those of an opening, or those up to the cap
abbrev pub last_size : Plan → ℕ
last_size plan = cond plan.closing plan.size largest_size

-- the record and the levels of the first run, all its rows worked
pub record FirstRun (input : Input) (sheet bytes : List ℕ) (plan : Plan) (r : Record) (levels : List ℕ) : Type 0 where
  pub started : first (start_refusals input sheet bytes plan (length levels)) ≡ 0
  pub run_is : r ≡ first_record input bytes plan
  pub levels_are : levels ≡ first_levels input sheet bytes plan

-- WHICH POINTS ARE FOUND: at each size those of the set opened or closed by it; so the sheet of that size, and in the end the levels
abbrev pub FindsSize : Record → List ℕ → ℕ → List ℕ → Type 0
FindsSize r levels n second =
    (input : Input) (sheet bytes : List ℕ) (plan : Plan) → FirstRun input sheet bytes plan r levels → n ≤ last_size plan
    → (row col : ℕ) → row < r.height → col < r.width
    → filtered plan.closing (foreground_of input sheet) (element_of input bytes) n (at (pos row) (pos col))
    ↔ (is_found r second n row col ≡ true)

abbrev pub FindsSheet : Record → List ℕ → ℕ → List ℕ → Type 0
FindsSheet r levels n out =
    (input : Input) (sheet bytes : List ℕ) (plan : Plan) → FirstRun input sheet bytes plan r levels → n ≤ last_size plan
    → IsSheet r.width r.height (filtered plan.closing (foreground_of input sheet) (element_of input bytes) n) out

abbrev pub FindsLevels : Record → List ℕ → Plan → List ℕ → Type 0
FindsLevels r levels plan out =
    (input : Input) (sheet bytes : List ℕ) → FirstRun input sheet bytes plan r levels
    → AreLevels r.width r.height
    (IsFilterLevel plan.closing plan.size (foreground_of input sheet) (element_of input bytes)) out

-- THE ANSWERS: the first run of an accepted plan, with no record beside a refusal; the sheet, and the levels
abbrev pub FirstAnswered : Input → List ℕ → List ℕ → Plan → Lengths → List ℕ → ℕ → Record × List ℕ → Type 0
FirstAnswered input sheet bytes plan lent levels =
    Answers (plan_refusals input sheet bytes plan lent) (empty_record, levels)
    (λ after. (after.0 ≡ first_record input bytes plan) × (after.1 ≡ first_levels input sheet bytes plan))

abbrev pub SheetAnswered : Input → List ℕ → List ℕ → Plan → Buffers → ℕ → Buffers → Type 0
SheetAnswered input sheet bytes plan lent =
    Answers (plan_refusals input sheet bytes plan (lengths_of lent)) lent
    (λ after. Cleared lent after × IsSheet input.width input.height
    (filtered plan.closing (foreground_of input sheet) (element_of input bytes) plan.size) after.out)

abbrev pub LevelsAnswered : Input → List ℕ → List ℕ → Plan → Buffers → ℕ → Buffers → Type 0
LevelsAnswered input sheet bytes plan lent =
    Answers (plan_refusals input sheet bytes plan (lengths_of lent)) lent
    (λ after. Cleared lent after × AreLevels input.width input.height
    (IsFilterLevel plan.closing plan.size (foreground_of input sheet) (element_of input bytes)) after.out)
