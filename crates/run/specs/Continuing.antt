-- What continuing a run answers.
use Rattle.std.specs.Prelude.{ℕ, ◌+◌, ◌-◌, ◌*◌, min, ◌≡◌, Bool, false, not, List, [], ◌∷◌, eqb, ltb, length, Result, Ok, Err}
use Rattle.basics.specs.declared.refusal.Refusal as declared
use Rattle.basics.specs.Limits.{most_rows}
use Rattle.basics.specs.Refusals.{Refusal, Answers}
use Rattle.scan.specs.Scan.{scan_rows, rows_lowered}
use Rattle.run.specs.declared.Record.{Record}
use Rattle.run.specs.declared.continuing.Continued.{Continued}
use Rattle.run.specs.Records.{area_width, area_height, area_of, due, record_bad, empty_record}

abbrev pub levels_wrong : Record → List ℕ → Bool
levels_wrong r levels = not (eqb (length levels) (area_height r * area_width r))

abbrev pub continue_refusals : Record → List ℕ → ℕ → List Refusal
continue_refusals r levels allowance = (1, record_bad r) ∷ (10, levels_wrong r levels) ∷ (12, ltb most_rows allowance) ∷ []

-- the allowance or what is due, the lesser
abbrev pub worked : Record → ℕ → ℕ
worked r allowance = min allowance (due r - r.rows)

abbrev pub with_rows : Record → ℕ → Record
with_rows r rows = record {
  kind = r.kind;
  width = r.width;
  height = r.height;
  cap = r.cap;
  side = r.side;
  rows = rows;
  cells = r.cells;
  edge = r.edge;
}

abbrev pub is_done : Record → Bool
is_done r = eqb r.rows (due r)

-- what a run has: its record, whether all rows are done, its levels
abbrev pub State : Type 0
State = Record × Bool × List ℕ

-- the run after an accepted continue: the row rule, for any levels lent
abbrev pub continued : Record → List ℕ → ℕ → State
continued r levels allowance = (
  with_rows r (r.rows + worked r allowance),
  is_done (with_rows r (r.rows + worked r allowance)),
  scan_rows (area_of r) r.rows (worked r allowance) levels,
)

-- how many points its rows lower
abbrev pub lowered_by : Record → List ℕ → ℕ → ℕ
lowered_by r levels allowance = rows_lowered (area_of r) r.rows (worked r allowance) levels

-- the run and that count; beside a refusal no record and 0
abbrev pub Continues : Record → List ℕ → ℕ → ℕ → State × ℕ → Type 0
Continues r levels allowance =
    Answers (continue_refusals r levels allowance) ((empty_record, false, levels), 0)
    (λ after. after ≡ (continued r levels allowance, lowered_by r levels allowance))

-- what a call answers: its result, which has none beside a refusal, and the levels
abbrev pub answer_of : Result Continued declared.Refusal → List ℕ → State × ℕ
answer_of (Ok c) levels = ((c.run, c.done, levels), c.lowered)
answer_of (Err _) levels = ((empty_record, false, levels), 0)
