use Rattle.std.proofs.Common.{rules}
use Rattle.std.proofs.iter.runs.Made.{chains}
use Rattle.basics.proofs.BoundLaws.{above_from_any}
use Rattle.element.proofs.any_above_one.Goals as goal

pub returns : goal.returns
returns c = above_from_any 1 c.args.bytes.now c.any.result (search (rules, chains))
