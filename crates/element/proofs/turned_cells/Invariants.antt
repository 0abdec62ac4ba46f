-- The cells are filled in reading order.
use Rattle.element.specs.Cells.{cell_at}
use Rattle.element.proofs.Seven.{Filled}
use Prim.Native.Nat.{◌-◌}
use Rattle.element.proofs.turned_cells.Given as goal

abbrev pub invariant-loop-row : goal.invariant-loop-row
invariant-loop-row l = Filled (λ row col. cell_at l.cells (6 - row) (6 - col)) l.row 0 l.out

abbrev pub invariant-loop-col : goal.invariant-loop-col
invariant-loop-col l = Filled (λ row col. cell_at l.cells (6 - row) (6 - col)) l.row l.col l.out
