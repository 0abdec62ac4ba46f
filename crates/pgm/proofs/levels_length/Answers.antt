use Rattle.std.proofs.Common.{◌+◌, ◌≤◌, arith}
use Rattle.pgm.proofs.SizeLaws.{Summing, summing_turn, summing_end}
use Rattle.pgm.proofs.levels_length.Goals.{After-digit_count}
use Rattle.pgm.proofs.levels_length.Goals as goal

turn : (c : After-digit_count) → (c.digit_count.result ≤ 5) ×
    Summing c.args.levels.now (c.loop-level.sum + (c.digit_count.result + 1)) (c.loop-level.level-index + 1)
turn c =
    let small = c.type_inv.levels c.loop-level.level-index in
    summing_turn c.loop-level.invariant c.from.result c.digit_count.result c.loop-level-test.true c.from.ensures (omega arith)
    c.digit_count.ensures

pub overflow_add-sum : goal.overflow_add-sum
overflow_add-sum c = let few = (turn c).0 in omega arith

pub overflow_add-sum-in-loop-level : goal.overflow_add-sum-in-loop-level
overflow_add-sum-in-loop-level c = let few = (turn c).0 in let sum = c.loop-level.invariant.bounded in omega arith

pub loop-level-preserved : goal.loop-level-preserved
loop-level-preserved c = (turn c).1

pub returns : goal.returns
returns c =
    let sum = c.loop-level.invariant.bounded in
    (summing_end c.loop-level.invariant c.loop-level-test.false, omega arith)
