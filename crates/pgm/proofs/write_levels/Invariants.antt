-- The rows so far, with those left, make the whole.
use Rattle.pgm.proofs.LevelLaws.{LevelsWriting}
use Rattle.pgm.proofs.write_levels.Given as goal

abbrev pub invariant-loop-row : goal.invariant-loop-row
invariant-loop-row l =
    let rows = l.row-iterator in
    LevelsWriting l.fn.header.width l.fn.header.height l.levels l.initial.out rows.size rows.rest.now l.end l.out
