-- What is marked is a start that the run of the other kind could have; after its rows the points of the set opened or closed
-- are held.
use Rattle.run.specs.Demand2.{finished}
use Rattle.filters.proofs.BackSteps.{back_ready, after_back}
use Rattle.filters.proofs.FirstRuns.{found_back}
use mathlib.Core.Path.{ap₂, ◌∙◌}
use Rattle.filters.proofs.back.find_size.Goals as goal

pub finish-requires : goal.finish-requires
finish-requires c = back_ready c.args.size c.requires.0 c.back_run.ensures c.mark_held.ensures

pub returns : goal.returns
returns c =
    let back = c.finish.ensures ∙ ap₂ finished c.back_run.ensures c.mark_held.ensures in
    (after_back c.args.size c.requires.0 back, found_back c.args.size back)
