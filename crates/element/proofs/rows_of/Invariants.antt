-- The cells are filled in reading order.
use Rattle.element.proofs.Seven.{Filled}
use Prim.Native.Nat.{◌+◌, ◌*◌}
use lib.ListN.{get_or}
use Rattle.element.proofs.rows_of.Given as goal

abbrev pub invariant-loop-row : goal.invariant-loop-row
invariant-loop-row l = Filled (λ row col. get_or l.cells (row * 7 + col) 0) l.row 0 l.out

abbrev pub invariant-loop-col : goal.invariant-loop-col
invariant-loop-col l = Filled (λ row col. get_or l.cells (row * 7 + col) 0) l.row l.col l.out
