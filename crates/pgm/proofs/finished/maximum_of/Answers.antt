-- A sound record's cap is small.
use Rattle.std.proofs.Common.{arith}
use Rattle.run.proofs.RecordLaws.{sound}
use Rattle.pgm.proofs.finished.maximum_of.Goals as goal

pub overflow_add-run : goal.overflow_add-run
overflow_add-run c = let small = (sound c.args.sound.run c.args.sound.taken).cap_small in omega arith
