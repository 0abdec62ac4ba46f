use Rattle.element.specs.Cells.{unflat}
use Rattle.element.proofs.Seven.{filled_end}
use Rattle.element.proofs.rows_of.Goals as goal

pub returns : goal.returns
unfolding unflat
returns c = filled_end _ _ _ c.loop-row.invariant c.loop-row-test.false
