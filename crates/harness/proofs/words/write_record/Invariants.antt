-- The six numbers stand, and the cells before place k.
use Rattle.std.proofs.Common.{◌≡◌, ℕ, ◌<◌, ◌+◌, length, get_or}
use Rattle.harness.specs.Boundary.{record_numbers, record_words}
use Rattle.harness.proofs.WordLaws.{Numbers}
use Rattle.harness.proofs.words.write_record.Given as goal

abbrev pub invariant-loop-k : goal.invariant-loop-k
invariant-loop-k l =
    (length l.words ≡ record_words) × (Numbers l.run l.words × ((k : ℕ) → k < l.k → get_or l.words (record_numbers + k) 0 ≡ get_or l.run.cells k 0))
