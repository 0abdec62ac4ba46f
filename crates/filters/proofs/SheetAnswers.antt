-- The answers of opening and closing by a size: the sheet of what is found at it is the set's.
use Prim.Native.Nat.{ℕ, ◌*◌, ◌≤◌, ◌<◌}
use native.Mathlib.Nat.{le_refl}
use native.Mathlib.Omega.{arith}
use mathlib.Core.Path.{◌≡◌, refl, sym, ap, ◌∙◌}
use mathlib.Core.Bool.{Bool, true, false, cond}
use mathlib.Core.Logic.{◌↔◌}
use mathlib.Core.List.{List}
use lib.IntN.{pos}
use lib.ListN.{length, replicate}
use Rattle.basics.specs.Limits.{largest_size, highest_cap}
use Rattle.basics.specs.Refusals.{first}
use Rattle.basics.proofs.RefusalLaws.{accepts}
use Rattle.grid.specs.Points.{at}
use Rattle.grid.specs.Sets.{PointSet}
use Rattle.sheet.specs.Sheets.{row_bytes, packed}
use Rattle.run.specs.declared.Record.{Record}
use Rattle.run.specs.declared.Input.{Input}
use Rattle.filters.specs.declared.judging.Plan.{Plan}
use Rattle.filters.specs.Filters.{Buffers, Cleared, IsSheet, foreground_of, element_of}
use Rattle.filters.specs.Plans.{limit_of, entries_of, start_refusals, plan_refusals, lengths_of, first_record, first_levels}
use Rattle.filters.specs.Plans.{filtered, FirstRun, FindsSize, FindsSheet, SheetAnswered}
use Rattle.filters.specs.Back.{is_found, kept_sheet, Ready}
use Rattle.filters.proofs.FirstRuns.{first_size, first_ready}
use Rattle.filters.proofs.Refusing.{Taken, taken, start_taken}
use Rattle.filters.proofs.Uniqueness.{packed_sheet}

-- what is packed by a test that holds exactly on a set is the set's sheet
pub tested_sheet : (width height : ℕ) (A : PointSet) (held : ℕ → ℕ → Bool) (out : List ℕ)
    → out ≡ packed width height (λ row col. cond (held row col) 1 0)
    → ((row col : ℕ) → row < height → col < width → A (at (pos row) (pos col)) ↔ (held row col ≡ true))
    → IsSheet width height A out
tested_sheet width height A held out e is =
    packed_sheet width height A (λ row col. cond (held row col) 1 0) out e (λ row col _ _. small (held row col))
    (λ row col a b. let i = is row col a b in ((λ h. one (held row col) (i.0 h)), (λ h. i.1 (yes (held row col) h))))
  where
    small : (t : Bool) → cond t 1 0 ≤ 1
    small true = omega arith
    small false = omega arith

    one : (t : Bool) → t ≡ true → ◌≡◌ {A = ℕ} (cond t 1 0) 1
    one t e = rw e

    yes : (t : Bool) → ◌≡◌ {A = ℕ} (cond t 1 0) 1 → t ≡ true
    yes true e = refl
    yes false e = absurd (omega arith)

-- the sheet of what is found is the set's
pub kept_sheet_lem : {r : Record} {levels : List ℕ} {n : ℕ} (second : List ℕ) → FindsSize r levels n second → {out : List ℕ}
    → out ≡ kept_sheet r second n → FindsSheet r levels n out
unfolding kept_sheet
kept_sheet_lem {r} {n = n} second finds {out} e input sheet bytes plan run l =
    tested_sheet r.width r.height (filtered plan.closing (foreground_of input sheet) (element_of input bytes) n)
    (is_found r second n) out e (finds input sheet bytes plan run l)

-- an accepted plan: its first run may be started and is ready, and the buffers are cleared in the end
module _ (input : Input) (sheet bytes : List ℕ) (plan : Plan) (lent : Buffers) where
  abbrev Fits : Type 0
  Fits = first (plan_refusals input sheet bytes plan (lengths_of lent)) ≡ 0

  abbrev pub IsFirstRun : Record → List ℕ → Type 0
  IsFirstRun run levels = (run ≡ first_record input bytes plan) × (levels ≡ first_levels input sheet bytes plan)

  module _ (z : Fits) where
    plan_taken : Taken input sheet bytes plan (lengths_of lent)
    plan_taken = taken input sheet bytes plan (lengths_of lent) z

    pub plan_starts : first (start_refusals input sheet bytes plan (length lent.first)) ≡ 0
    plan_starts = plan_taken.work.start

    pub plan_ready : {run : Record} {levels : List ℕ} → IsFirstRun run levels → Ready run levels lent.second
    plan_ready p = first_ready input sheet bytes lent.first plan plan_starts p plan_taken.work.second_size

    -- the output's length, as the run's record has it
    pub plan_room : (packed : Bool) → plan.packed ≡ packed → {run : Record} {levels : List ℕ} → IsFirstRun run levels
        → length lent.out ≡ run.height * entries_of packed run.width
    plan_room packed e p = rw (p.0, ← e) plan_taken.out_size

    pub plan_cleared : {run : Record} {levels : List ℕ} → IsFirstRun run levels → {after : Buffers}
        → after.first ≡ replicate (length levels) 0 → after.second ≡ replicate (length lent.second) 0 → Cleared lent after
    plan_cleared p a b = record {
      first = a ∙ ap (λ n. replicate n 0) (ap length p.1
          ∙ first_size input sheet bytes lent.first plan plan_starts ∙ sym plan_taken.work.first_size);
      second = b;
    }

    -- it is the first run of this plan, finished
    pub plan_run : {run : Record} {levels : List ℕ} → IsFirstRun run levels → FirstRun input sheet bytes plan run levels
    plan_run p = record {
      started = rw (ap length p.1 ∙ first_size input sheet bytes lent.first plan plan_starts
          ∙ sym plan_taken.work.first_size) plan_starts;
      run_is = p.0;
      levels_are = p.1;
    }

    size_good : plan.size ≤ limit_of plan
    size_good = (start_taken input sheet bytes plan (length lent.first) plan_starts).size_good

    -- a sheet asked for
    module _ (sheets : plan.packed ≡ true) {run : Record} {levels : List ℕ} (p : IsFirstRun run levels) where
      pub sheet_ready : Ready run levels lent.second ×
          ((plan.size ≤ largest_size) × (length lent.out ≡ run.height * row_bytes run.width))
      sheet_ready = (plan_ready p, (small plan.closing size_good, plan_room true sheets p))
        where
          small : (t : Bool) → plan.size ≤ cond t highest_cap largest_size → plan.size ≤ largest_size
          small true l = omega arith
          small false l = l

      pub sheet_answered : (after : Buffers) → after.first ≡ replicate (length levels) 0
          → after.second ≡ replicate (length lent.second) 0
          → FindsSheet run levels plan.size after.out → SheetAnswered input sheet bytes plan lent 0 after
      sheet_answered after a b finds =
          accepts after z (
            plan_cleared p a b,
            (rw p.0 at (finds input sheet bytes plan (plan_run p) (last plan.closing size_good))),
          )
        where
          last : (t : Bool) → plan.size ≤ cond t highest_cap largest_size → plan.size ≤ cond t plan.size largest_size
          last true l = le_refl plan.size
          last false l = l
