-- The loop's invariant: the row's first bytes are stored. Where the row ends within a byte, one more is.
use Rattle.basics.proofs.TableLaws.{Filling}
use Rattle.sheet.specs.Sheets.{row_bytes, byte_packed}
use Rattle.run.proofs.PackLaws.{held_at}
use lib.ListN.{length}
use Rattle.run.proofs.pictures.pack_row.Given as goal

abbrev pub invariant-loop-k : goal.invariant-loop-k
invariant-loop-k l =
    Filling (row_bytes (length l.levels)) (byte_packed (length l.levels) (held_at l.bounds.low l.bounds.high l.levels)) l.k l.out
