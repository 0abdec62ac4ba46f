use Rattle.std.proofs.Common.{arith, sym, ◌∙◌}
use Rattle.basics.proofs.TableLaws.{table_is}
use Rattle.harness.proofs.WordLaws.{record_length, record_byte, record_cells_lem}
use Rattle.harness.specs.Boundary.{record_cells}
use Rattle.harness.proofs.words.read_cells.Goals as goal

pub bounds-words-k : goal.bounds-words-k
bounds-words-k c = let s = record_length c.args.words.now c.requires in omega arith

pub overflow_cast-cells : goal.overflow_cast-cells
overflow_cast-cells c = omega (arith, record_byte c.args.words.now c.requires c.loop-k.k (omega arith))

pub returns : goal.returns
returns c =
    table_is _ record_cells 0 c.loop-k.cells c.loop-k.invariant.0 (λ k l. c.loop-k.invariant.1 k (omega arith))
    ∙ sym (record_cells_lem c.args.words.now c.requires)
