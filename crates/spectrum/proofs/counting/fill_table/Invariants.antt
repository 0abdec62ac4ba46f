-- The loop's invariant: the first n entries are filled, and the points of level n or more are left.
use Rattle.spectrum.proofs.Finding.{TableSteps}
use lib.ListN.{length}
use Rattle.spectrum.proofs.counting.fill_table.Given as goal

abbrev pub invariant-loop-n : goal.invariant-loop-n
invariant-loop-n l = TableSteps l.sound.run l.first (length l.initial.table) l.n l.points l.second l.table
