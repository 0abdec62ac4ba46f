use Rattle.filters.proofs.LevelRounds.{steps_start, steps_turn, steps_end, step_small}
use native.Mathlib.Omega.{arith}
use Rattle.filters.proofs.levels.go_through.Goals as goal

pub loop-k-init : goal.loop-k-init
loop-k-init c = let pre = c.requires in steps_start pre.1.1.0 pre.0 pre.1.1.1

pub one_size-requires : goal.one_size-requires
one_size-requires c =
    let steps = c.loop-k.invariant in
    let pre = c.requires in
    (steps.given, ((step_small pre.1.1.0 pre.1.0 c.loop-k-test.true c.size_at.ensures).0, steps.room))

pub loop-k-preserved : goal.loop-k-preserved
loop-k-preserved c =
    let pre = c.requires in
    steps_turn pre.1.1.0 pre.1.0 c.loop-k.invariant c.loop-k-test.true c.size_at.ensures c.one_size.ensures

pub returns : goal.returns
returns c = steps_end c.requires.1.1.0 c.loop-k.invariant (omega arith)
