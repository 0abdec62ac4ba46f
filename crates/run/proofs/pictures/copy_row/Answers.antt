use Rattle.run.proofs.PatchLaws.{patch_none, patch_turn, patch_all}
use native.Mathlib.Omega.{arith}
use Rattle.run.proofs.pictures.copy_row.Goals as goal

pub loop-i-init : goal.loop-i-init
loop-i-init c = (omega arith, patch_none _ _ _)

pub loop-i-preserved : goal.loop-i-preserved
loop-i-preserved c = (
  omega arith,
  patch_turn c.loop-i.invariant.1 c.read-level.result (omega arith) c.read-level.ensures,
)

pub returns : goal.returns
returns c = patch_all c.loop-i.invariant.1 c.args.n (omega arith)
