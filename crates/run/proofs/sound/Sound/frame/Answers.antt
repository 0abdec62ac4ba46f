-- A sound record has a side, and its cap is small.
use Rattle.run.proofs.RecordLaws.{sound}
use Rattle.run.proofs.sound.Sound.frame.Goals as goal

pub frame_of-requires : goal.frame_of-requires
frame_of-requires c = let s = sound c.args.self.run c.args.self.taken in (s.side_is, s.cap_small)
