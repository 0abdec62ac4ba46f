use Rattle.std.proofs.Common.{rules}
use Rattle.std.proofs.iter.runs.Made.{chains}
use Rattle.basics.proofs.BoundLaws.{above_from_any}
use Rattle.harness.specs.Boundary.{highest_byte}
use Rattle.harness.proofs.words.any_wide.Goals as goal

pub returns : goal.returns
returns c = above_from_any highest_byte c.args.words.now c.any.result (search (rules, chains))
