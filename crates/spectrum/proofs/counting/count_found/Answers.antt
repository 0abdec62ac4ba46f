-- The frame is read in its part of the levels, between the bounds of what is held.
use Rattle.filters.proofs.BackSteps.{back_canvas}
use Rattle.spectrum.proofs.Finding.{found_counted}
use Rattle.spectrum.proofs.counting.count_found.Goals as goal

pub count_frame-requires : goal.count_frame-requires
count_frame-requires c = rw c.frame.ensures.0 (back_canvas c.args.sound.run c.args.sound.taken c.requires.0)

pub returns : goal.returns
returns c =
    let args = c.args in
    found_counted args.sound.run args.size args.second.now c.frame.ensures.0 c.back_bounds-bounds.result
    c.back_bounds-bounds.ensures c.count_frame.ensures
