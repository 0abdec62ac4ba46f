use Rattle.element.specs.Cells.{centred}
use Rattle.element.proofs.Seven.{filled_end}
use Rattle.element.proofs.cells_of.Goals as goal

pub returns : goal.returns
unfolding centred
returns c = filled_end _ _ _ c.loop-row.invariant c.loop-row-test.false
