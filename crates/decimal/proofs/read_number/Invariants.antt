-- What was read is the value of the run so far, or the limit.
use Rattle.decimal.specs.Numbers.{value}
use Prim.Native.Nat.{min}
use mathlib.Core.Path.{◌≡◌}
use lib.ListN.{take}
use Rattle.decimal.proofs.read_number.Given as goal

abbrev pub invariant-loop-byte : goal.invariant-loop-byte
invariant-loop-byte l = l.value ≡ min (value (take l.byte-index l.byte-items)) l.limit
