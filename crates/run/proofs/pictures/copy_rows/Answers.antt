use Rattle.basics.proofs.TableLaws.{length-table}
use Rattle.run.proofs.PartLaws.{rows_start, rows_room, rows_turn, rows_end}
use native.Mathlib.Omega.{arith}
use lib.ListN.{length}
use mathlib.Core.Path.{refl, sym, ap, ◌∙◌}
use Rattle.run.proofs.pictures.copy_rows.Goals as goal

pub loop-row-init : goal.loop-row-init
loop-row-init c = rows_start c.requires.1

pub copy-requires : goal.copy-requires
copy-requires c =
    rows_room c.loop-row.invariant refl c.loop-row-test.true ∙ sym (ap length c.row.ensures ∙ length-table _ _)

pub loop-row-preserved : goal.loop-row-preserved
loop-row-preserved c = rows_turn c.loop-row.invariant refl c.loop-row-test.true (c.copy.ensures ∙ c.row.ensures)

pub returns : goal.returns
returns c = rows_end c.loop-row.invariant (omega arith)
