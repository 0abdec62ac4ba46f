-- The answers of the two transforms: an accepted plan's first run is finished, and the levels found from it are the set's.
use Prim.Native.Nat.{ℕ, ◌*◌}
use mathlib.Core.Path.{◌≡◌, sym}
use mathlib.Core.Bool.{Bool, true, false, false≢true}
use mathlib.Core.List.{List}
use lib.ListN.{length, replicate}
use Rattle.basics.specs.Refusals.{first}
use Rattle.basics.proofs.RefusalLaws.{accepts}
use Rattle.run.specs.declared.Record.{Record}
use Rattle.run.specs.declared.Input.{Input}
use Rattle.filters.specs.declared.judging.Plan.{Plan}
use Rattle.filters.specs.Filters.{Buffers}
use Rattle.filters.specs.Plans.{plan_refusals, lengths_of, first_levels, Bounded}
use Rattle.filters.specs.Plans.{FindsLevels, LevelsAnswered}
use Rattle.filters.specs.Back.{Ready}
use Rattle.filters.proofs.FirstRuns.{Accepts, opening_small}
use Rattle.filters.proofs.Refusing.{plan_of, start_taken}
use Rattle.filters.proofs.SheetAnswers.{IsFirstRun, plan_starts, plan_ready, plan_room, plan_run, plan_cleared}

module _ (input : Input) (sheet bytes : List ℕ) where
  first_bounded : (plan : Plan) (lent : List ℕ) → Accepts input sheet bytes lent plan
      → Bounded plan (first_levels input sheet bytes plan)
  first_bounded plan lent z = go plan.closing z
    where
      go : (t : Bool) → Accepts input sheet bytes lent (plan_of t plan.size plan.packed)
          → Bounded (plan_of t plan.size plan.packed)
          (first_levels input sheet bytes (plan_of t plan.size plan.packed))
      go true z = record {
        opening = λ e. absurd (false≢true (sym e));
        closing = λ _. (start_taken input sheet bytes (plan_of true plan.size plan.packed) (length lent) z).size_good;
      }
      go false z = record {
        opening = λ _. opening_small input sheet bytes lent plan.size plan.packed z;
        closing = λ e. absurd (false≢true e);
      }

-- levels asked for
module _ (input : Input) (sheet bytes : List ℕ) (plan : Plan) (lent : Buffers)
    (z : first (plan_refusals input sheet bytes plan (lengths_of lent)) ≡ 0) (levels_asked : plan.packed ≡ false)
    {run : Record} {levels : List ℕ} (p : IsFirstRun input sheet bytes plan lent run levels) where
  pub levels_ready : Ready run levels lent.second × (Bounded plan levels × (length lent.out ≡ run.height * run.width))
  levels_ready = (
    plan_ready input sheet bytes plan lent z p,
    (
      rw p.1 (first_bounded input sheet bytes plan lent.first (plan_starts input sheet bytes plan lent z)),
      plan_room input sheet bytes plan lent z false levels_asked p,
    ),
  )
