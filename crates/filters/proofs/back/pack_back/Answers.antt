-- The frame is read in its part of the levels, between the bounds of what is held.
use Rattle.filters.proofs.BackSteps.{back_canvas, kept_is}
use Rattle.filters.proofs.back.pack_back.Goals as goal

pub pack_frame-requires : goal.pack_frame-requires
pack_frame-requires c = rw c.frame.ensures.0 (back_canvas c.args.sound.run c.args.sound.taken c.requires.0, c.requires.1.1)

pub returns : goal.returns
returns c =
    let args = c.args in
    kept_is args.sound.run args.size args.second.now c.frame.ensures.0 c.back_bounds.result c.back_bounds.ensures c.pack_frame.ensures
