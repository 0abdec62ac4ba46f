use Rattle.filters.proofs.BackSteps.{chosen_on, chosen_off}
use Rattle.filters.proofs.StoreLaws.{storing_start, storing_turn, storing_end}
use native.Mathlib.Omega.{arith}
use lib.ListN.{get_or}
use mathlib.Core.Path.{◌∙◌}
use Rattle.filters.proofs.levels.store_row.Goals as goal
use Rattle.filters.proofs.levels.store_row.Goals.{then-hold, else-hold}

pub loop-i-init : goal.loop-i-init
loop-i-init c = storing_start c.requires

pub loop-i-preserved : goal.loop-i-preserved
loop-i-preserved c =
    let args = c.args in
    let i = c.loop-i.i in
    let level = get_or args.levels.now i 0 in
    let was = get_or args.out.now i 0 in
    storing_turn c.loop-i.invariant (omega arith) (
    elim c.if-hold.branch [
      | then-hold w ↦ w.out-is ∙ chosen_on args.bounds level args.value was c.hold.ensures w.if-hold.true
      | else-hold w ↦ w.out-is ∙ c.loop-i.invariant.rest i (omega arith)
          ∙ chosen_off args.bounds level args.value was c.hold.ensures w.if-hold.false
    ])

pub returns : goal.returns
returns c = storing_end c.loop-i.invariant (omega arith)
