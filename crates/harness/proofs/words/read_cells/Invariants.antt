-- The cells before place k are those of the words.
use Rattle.std.proofs.Common.{◌≡◌, ℕ, ◌<◌, ◌+◌, length, get_or}
use Rattle.harness.specs.Boundary.{record_numbers, record_cells}
use Rattle.harness.proofs.words.read_cells.Given as goal

abbrev pub invariant-loop-k : goal.invariant-loop-k
invariant-loop-k l =
    (length l.cells ≡ record_cells) × ((k : ℕ) → k < l.k → get_or l.cells k 0 ≡ get_or l.words (record_numbers + k) 0)
