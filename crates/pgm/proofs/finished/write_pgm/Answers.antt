-- What was judged is written: the text is the one that was measured.
use Rattle.std.proofs.Common.{sym}
use Rattle.pgm.proofs.FinishedLaws.{picture_accepted, sound_picture}
use Rattle.pgm.proofs.finished.write_pgm.Goals as goal

pub write_pgm_text-requires : goal.write_pgm_text-requires
write_pgm_text-requires c =
    let q = picture_accepted c.args.run c.args.levels.now c.args.out.now (sym c.in_ok-sound.ensures.0) in
    rw (c.header_of.ensures, c.in_ok-sound.ensures.1) (sound_picture c.args.run c.args.levels.now q.0 q.1, q.2)
