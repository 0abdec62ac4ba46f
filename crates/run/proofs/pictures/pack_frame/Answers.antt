use Rattle.basics.proofs.TableLaws.{length-table}
use Rattle.sheet.specs.Sheets.{row_bytes}
use Rattle.run.specs.Patches.{level_in}
use Rattle.run.proofs.PartLaws.{rows_start, rows_room, rows_turn}
use Rattle.run.proofs.PictureLaws.{packed_rows}
use Rattle.run.proofs.PackLaws.{packed_of}
use native.Mathlib.Omega.{arith}
use lib.ListN.{length}
use mathlib.Core.Path.{sym, ap, ◌∙◌}
use Rattle.run.proofs.pictures.pack_frame.Goals as goal

pub loop-row-init : goal.loop-row-init
loop-row-init c = rows_start c.requires.1

pub pack_row-requires : goal.pack_row-requires
pack_row-requires c =
    let bytes = c.row_bytes-bytes.ensures in
    let long = ap length c.row.ensures ∙ length-table _ _ in
    let wide = c.requires.0.wide in
    (omega arith, rows_room c.loop-row.invariant bytes c.loop-row-test.true ∙ bytes ∙ sym (ap row_bytes long))

pub loop-row-preserved : goal.loop-row-preserved
loop-row-preserved c =
    let args = c.args in
    rows_turn c.loop-row.invariant c.row_bytes-bytes.ensures c.loop-row-test.true
    (packed_of args.bounds.low args.bounds.high (level_in args.frame.width args.frame.margin args.levels.now c.loop-row.row)
    args.frame.width c.pack_row.ensures c.row.ensures)

pub returns : goal.returns
returns c = packed_rows c.args.frame c.args.levels.now c.args.bounds c.loop-row.invariant (omega arith)
