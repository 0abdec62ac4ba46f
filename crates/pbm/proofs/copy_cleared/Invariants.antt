-- The rows so far are cleared, and those from here on are as they were copied.
use Rattle.pbm.proofs.ClearingLaws.{Clearing}
use Rattle.pbm.proofs.copy_cleared.Given as goal

abbrev pub invariant-loop-row : goal.invariant-loop-row
invariant-loop-row l = Clearing l.fn.frame.width l.fn.frame.height l.raster l.fn.out l.row l.out
