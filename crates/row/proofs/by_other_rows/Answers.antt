use native.Mathlib.Omega.{arith}
use mathlib.Core.Path.{◌≡◌}
use Rattle.row.specs.RowRule.{least}
use Rattle.row.specs.Passes.{first_other}
use Rattle.row.proofs.Pass.{pass_none}
use Rattle.row.proofs.Least.{pass_cell}
use Rattle.row.proofs.by_other_rows.Goals as goal
use Rattle.row.proofs.by_other_rows.Goals.{then-upward, else-upward}

pub loop-n-init : goal.loop-n-init
unfolding least
loop-n-init c = pass_none _ _ _ (λ i. omega (arith, c.type_inv.worked i))

pub loop-n-preserved : goal.loop-n-preserved
loop-n-preserved c =
    let loop = c.loop-n in
    pass_cell c.args.area.now c.args.row _ loop.n c.args.part.now c.args.worked.now loop.worked c.by_cell.new.worked loop.invariant
    c.by_cell.ensures

pub returns : goal.returns
unfolding first_other
returns c =
    let loop = c.loop-n in
    let all : 21 ≡ loop.n = omega arith in
    elim c.if-upward.branch [
      | then-upward w ↦ rw (w.if-upward.true, all) (rw w.first-is at loop.invariant)
      | else-upward w ↦ rw (w.if-upward.false, all) (rw w.first-is at loop.invariant)
    ]
