use Rattle.basics.proofs.TableLaws.{filling_start, filling_turn, filling_end}
use Rattle.filters.proofs.BackSteps.{chosen_on, chosen_off}
use native.Mathlib.Omega.{arith}
use lib.ListN.{get_or}
use mathlib.Core.Path.{◌∙◌}
use Rattle.filters.proofs.back.mark.Goals as goal
use Rattle.filters.proofs.back.mark.Goals.{then-hold, else-hold}

pub loop-k-init : goal.loop-k-init
loop-k-init c = filling_start _ _ _ c.requires

pub loop-k-preserved : goal.loop-k-preserved
loop-k-preserved c =
    let args = c.args in
    let level = get_or args.first.now c.loop-k.k 0 in
    filling_turn _ _ _ _ _ c.loop-k.invariant (omega arith) (
    elim c.if-hold.branch [
      | then-hold w ↦ w.second-is ∙ chosen_on args.bounds level args.on args.off c.hold.ensures w.if-hold.true
      | else-hold w ↦ w.second-is ∙ chosen_off args.bounds level args.on args.off c.hold.ensures w.if-hold.false
    ])

pub returns : goal.returns
returns c = filling_end _ _ _ _ c.loop-k.invariant (omega arith)
