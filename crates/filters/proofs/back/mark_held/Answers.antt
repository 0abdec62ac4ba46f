-- A level lies within the two bounds of a size exactly where the run holds it, so what is marked is the start of the way back.
use Rattle.filters.proofs.BackSteps.{start_is}
use Rattle.filters.proofs.back.mark_held.Goals as goal

pub returns : goal.returns
returns c =
    let args = c.args in
    start_is args.sound.run c.back_run-other.result.run c.args.sound.taken c.back_run-other.ensures args.size c.requires.1
    c.bounds_of-bounds.ensures c.on_of-on.ensures c.off_of-off.ensures args.first.now c.mark.ensures
