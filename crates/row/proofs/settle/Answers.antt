use native.Mathlib.Nat.{zero-add}
use native.Mathlib.Omega.{arith}
use mathlib.Core.Path.{◌≡◌, sym, ◌∙◌}
use lib.ListN.{get_or}
use Rattle.std.proofs.lemmas.Bool.Decides.{nat_tests}
use Rattle.row.proofs.Pass.{put_start, put_turn, put_all}
use Rattle.row.proofs.Lowered.{lowered_same, lowered_store}
use Rattle.row.proofs.settle.Goals as goal

pub loop-i-init : goal.loop-i-init
loop-i-init c = record { few = omega arith; put = put_start _ _ _; counted = sym (lowered_same _) }

pub loop-i-preserved : goal.loop-i-preserved
loop-i-preserved c =
    let entry = c.args.stored.now in
    let loop = c.loop-i in
    let put = loop.invariant.put in
    let stood : get_or loop.stored loop.i 0 ≡ get_or entry loop.i 0 = put.later loop.i (omega arith) in
    let more = lowered_store entry loop.stored loop.i (get_or c.args.worked.now loop.i 0) put.size (omega arith) stood in
    record {
      few = grind arith;
      put = put_turn 0 _ entry loop.i loop.stored _ (omega arith) (rw zero-add) put;
      counted = grind (arith, nat_tests);
    }

pub returns : goal.returns
returns c = (put_all _ _ _ _ (omega arith) (omega arith) c.loop-i.invariant.put, c.from.ensures ∙ c.loop-i.invariant.counted)
