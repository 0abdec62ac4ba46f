-- The cells before place k of the flat row stand.
use Rattle.std.proofs.Common.{◌≡◌, ℕ, ◌<◌, length, get_or, ◌/◌, ◌%◌}
use Rattle.element.specs.Cells.{cell_at}
use Rattle.element.proofs.flat_cells.Given as goal

abbrev pub invariant-loop-k : goal.invariant-loop-k
invariant-loop-k l = (length l.out ≡ 49) × ((k : ℕ) → k < l.k → get_or l.out k 0 ≡ cell_at l.cells (k / 7) (k % 7))
