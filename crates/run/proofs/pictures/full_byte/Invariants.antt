-- The loop's invariant: the first tests are in the byte, as a binary number.
use Rattle.sheet.proofs.ByteLaws.{front}
use Rattle.run.proofs.PackLaws.{held_at}
use mathlib.Core.Path.{◌≡◌}
use Rattle.run.proofs.pictures.full_byte.Given as goal

abbrev pub invariant-loop-i : goal.invariant-loop-i
invariant-loop-i l = l.byte ≡ front (held_at l.bounds.low l.bounds.high l.levels) l.i
