use Rattle.element.specs.Cells.{turned}
use Rattle.element.proofs.Seven.{filled_end}
use Rattle.element.proofs.turned_cells.Goals as goal

pub returns : goal.returns
unfolding turned
returns c = filled_end _ _ _ c.loop-row.invariant c.loop-row-test.false
