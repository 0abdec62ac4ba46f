use Rattle.std.proofs.Common.{arith}
use Rattle.basics.specs.Tables.{raster}
use Rattle.basics.proofs.TableLaws.{table_is}
use Rattle.element.specs.Cells.{flat}
use Rattle.element.proofs.flat_cells.Goals as goal

pub returns : goal.returns
unfolding flat raster
returns c = table_is _ 49 0 c.loop-k.out c.loop-k.invariant.0 (λ k l. c.loop-k.invariant.1 k (omega arith))
