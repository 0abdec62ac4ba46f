-- The entries from 1 on add up to no more than all do.
use Rattle.spectrum.proofs.TableSums.{front_fits, front_is}
use Rattle.std.proofs.Common.{rules}
use Rattle.std.proofs.iter.runs.Made.{chains}
use Rattle.spectrum.proofs.fractions.foreground_points.Goals as goal

pub sum-requires-clause-fits : goal.sum-requires-clause-fits
sum-requires-clause-fits c = let fits = front_fits c.args.table.now c.requires in search (rules, chains)

pub returns : goal.returns
returns c = front_is c.args.table.now c.requires (search (rules, chains))
