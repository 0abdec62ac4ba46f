-- The cells are filled in reading order.
use Rattle.element.specs.Cells.{centred_cell}
use Rattle.element.proofs.Seven.{Filled}
use Rattle.element.proofs.cells_of.Given as goal

abbrev pub invariant-loop-row : goal.invariant-loop-row
invariant-loop-row l = Filled (centred_cell l.side l.bytes) l.row 0 l.out

abbrev pub invariant-loop-col : goal.invariant-loop-col
invariant-loop-col l = Filled (centred_cell l.side l.bytes) l.row l.col l.out
