-- What was not refused is in order: a sound record has a small area, which its levels cover, and an accepted size is small.
use Rattle.run.proofs.RecordLaws.{sound}
use Rattle.run.proofs.PictureAnswers.{area_canvas, size_small, is_thresholded, provisional_taken}
use mathlib.Core.Path.{◌∙◌}
use Rattle.run.proofs.pictures.pack_held.Goals as goal

pub bounds_of-bounds-requires : goal.bounds_of-bounds-requires
bounds_of-bounds-requires c =
    let run = c.args.sound.run in
    let taken = provisional_taken run c.args.levels.now c.args.out.now c.args.size c.requires in
    size_small (sound run c.args.sound.taken) c.args.size taken.1

pub pack_frame-requires : goal.pack_frame-requires
pack_frame-requires c =
    let run = c.args.sound.run in
    let taken = provisional_taken run c.args.levels.now c.args.out.now c.args.size c.requires in
    rw c.frame.ensures.0 (area_canvas (sound run c.args.sound.taken) c.args.levels.now taken.2, taken.3)

pub returns : goal.returns
returns c =
    let run = c.args.sound.run in
    let taken = provisional_taken run c.args.levels.now c.args.out.now c.args.size c.requires in
    let s = sound run c.args.sound.taken in
    c.pack_frame.ensures
    ∙ is_thresholded s c.args.levels.now c.args.size (size_small s c.args.size taken.1) c.frame.result c.frame.ensures.0
    c.bounds_of-bounds.result c.bounds_of-bounds.ensures
