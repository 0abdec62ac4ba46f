-- Each number adds its digits and the byte after it; five digits are the most.
use Rattle.pgm.proofs.SizeLaws.{Summing}
use Rattle.pgm.proofs.levels_length.Given as goal

abbrev pub invariant-loop-level : goal.invariant-loop-level
invariant-loop-level l = Summing l.levels l.sum l.level-index
