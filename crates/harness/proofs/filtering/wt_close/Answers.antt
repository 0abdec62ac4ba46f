-- The library answers, at the same numbers.
use Rattle.harness.proofs.filtering.wt_close.Goals as goal

pub returns : goal.returns
returns c = rw c.number.ensures (rw c.input_of-input.ensures at c.close.ensures)
