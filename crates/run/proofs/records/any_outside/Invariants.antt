-- The cells that are left have one outside exactly where all the cells have.
use Rattle.run.specs.Records.{any_outside}
use mathlib.Core.Path.{◌≡◌}
use lib.ListN.{drop}
use Rattle.run.proofs.records.any_outside.Given as goal

abbrev pub invariant-loop-k : goal.invariant-loop-k
invariant-loop-k l = any_outside l.side (drop l.k l.cells) l.k ≡ any_outside l.side l.cells 0
