-- What stands so far, with the levels left, makes the whole.
use Rattle.pgm.proofs.RowLaws.{RestWriting}
use Rattle.pgm.proofs.write_rest.Given as goal

abbrev pub invariant-loop-level : goal.invariant-loop-level
invariant-loop-level l = RestWriting l.rest l.start l.initial.out l.end l.column l.level-index l.out
