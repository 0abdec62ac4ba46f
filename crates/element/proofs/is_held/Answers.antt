use Rattle.std.proofs.Common.{arith}
use Rattle.element.proofs.ElementLaws.{side_bounds}
use Rattle.element.proofs.is_held.Goals as goal

pub overflow_sub-before : goal.overflow_sub-before
overflow_sub-before c = omega (arith, side_bounds c.args.side c.requires)
