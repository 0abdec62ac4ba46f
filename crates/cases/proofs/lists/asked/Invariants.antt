-- Each turn leaves less of the words.
use Rattle.std.proofs.Common.{length}
use Rattle.cases.proofs.lists.asked.Given as goal

abbrev pub decreases-loop-left : goal.decreases-loop-left
decreases-loop-left l = length l.left
