use Rattle.std.proofs.Common.{arith}
use Rattle.basics.proofs.TableLaws.{table_is}
use Rattle.run.proofs.starting.fill_pixels.Goals as goal

pub returns : goal.returns
returns c = table_is _ _ 0 _ (omega arith) (λ k l. c.loop-col.invariant k (omega arith))
