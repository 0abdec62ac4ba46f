-- The way back's record is sound, so a level lies within its two bounds exactly where the record holds it at the size.
use Rattle.filters.proofs.BackSteps.{held_after}
use Rattle.filters.proofs.back.back_bounds.Goals as goal

pub returns : goal.returns
returns c =
    let args = c.args in
    held_after args.sound.run c.back_run.result.run args.sound.taken c.back_run.ensures args.size c.requires c.bounds_of.ensures
