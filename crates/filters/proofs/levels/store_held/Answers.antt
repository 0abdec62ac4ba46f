-- The frame is read in its part of the levels, between the bounds of what is held.
use Rattle.filters.proofs.BackSteps.{back_canvas}
use Rattle.filters.proofs.StoreLaws.{stored_is}
use Rattle.filters.proofs.levels.store_held.Goals as goal

pub store_frame-requires : goal.store_frame-requires
store_frame-requires c = rw c.frame.ensures.0 (back_canvas c.args.sound.run c.args.sound.taken c.requires.0, c.requires.1.1)

pub returns : goal.returns
returns c =
    let args = c.args in
    stored_is args.sound.run args.size args.second.now args.out.now c.frame.ensures.0 c.back_bounds-bounds.result
    c.back_bounds-bounds.ensures c.store_frame.ensures
