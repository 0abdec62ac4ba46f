-- A sound record has a small area, which its levels cover.
use Rattle.basics.proofs.RefusalLaws.{accepts}
use Rattle.run.proofs.RecordLaws.{judged_good, judged_sound, area_small}
use Rattle.run.proofs.PictureAnswers.{area_canvas, is_collected, view_taken, collect_views}
use Rattle.run.proofs.PictureAnswers.{collect_judged, picture_released}
use mathlib.Core.Path.{sym, ◌∙◌}
use native.Mathlib.Omega.{arith}
use Rattle.run.proofs.pictures.collect.Goals as goal

pub overflow_mul-run : goal.overflow_mul-run
overflow_mul-run c =
    let run = c.args.run in
    let s = judged_sound c.in_ok-sound.sound c.in_ok-sound.ensures.1 in
    let small = area_small run.height run.width s.high.1 s.wide.1 in
    omega arith

pub reading_of-requires : goal.reading_of-requires
reading_of-requires c = (judged_sound c.in_ok-sound.sound c.in_ok-sound.ensures.1).cap_small

pub copy_frame-requires : goal.copy_frame-requires
copy_frame-requires c =
    let run = c.args.run in
    let same = c.in_ok-sound.ensures.1 in
    let s = judged_sound c.in_ok-sound.sound same in
    let taken = view_taken run c.args.levels.now _ _ _ (sym (rw same at c.in_ok-check_view.ensures)) in
    rw (c.frame.ensures.0, same) (area_canvas s c.args.levels.now taken.1, taken.2)

pub returns : goal.returns
returns c =
    let run = c.args.run in
    let same = c.in_ok-sound.ensures.1 in
    let s = judged_sound c.in_ok-sound.sound same in
    let bad = judged_good run c.in_ok-sound.ensures.0 in
    let judged = collect_judged run c.args.levels.now c.args.out.now bad (rw same at c.in_ok-check_view.ensures) in
    accepts _ (picture_released run (collect_views run c.args.levels.now c.args.out.now) tt (sym judged)
    (rw same at (sym c.all_done.ensures ∙ c.if-not-all_done.false)))
    (c.copy_frame.ensures
    ∙ is_collected s c.args.levels.now c.frame.result (rw same at c.frame.ensures.0) c.reading_of.result c.reading_of.ensures)
