-- The digits stand from the last on; with the digits of what is left they make the whole.
use Rattle.decimal.proofs.LoopLaws.{Left}
use Rattle.decimal.proofs.write_number.Given as goal

abbrev pub invariant-loop-i : goal.invariant-loop-i
invariant-loop-i l = Left l.n l.initial.out l.left l.i l.out
