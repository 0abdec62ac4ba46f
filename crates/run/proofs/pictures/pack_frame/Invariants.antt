-- The loop's invariant: the rows above are packed.
use Rattle.sheet.specs.Sheets.{row_bytes}
use Rattle.run.proofs.PartLaws.{RowsFilled}
use Rattle.run.proofs.PictureLaws.{packed_level}
use Rattle.run.proofs.pictures.pack_frame.Given as goal

abbrev pub invariant-loop-row : goal.invariant-loop-row
invariant-loop-row l = RowsFilled (row_bytes l.frame.width) l.frame.height (packed_level l.frame l.levels l.bounds) l.row l.out
