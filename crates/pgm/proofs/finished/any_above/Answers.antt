use Rattle.std.proofs.Common.{rules}
use Rattle.std.proofs.iter.runs.Made.{chains}
use Rattle.basics.proofs.BoundLaws.{above_from_any}
use Rattle.pgm.proofs.finished.any_above.Goals as goal

pub returns : goal.returns
returns c = above_from_any c.args.limit c.args.levels.now c.any.result (search (rules, chains))
