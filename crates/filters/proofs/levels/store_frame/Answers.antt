use Rattle.filters.proofs.StoreLaws.{stored_row, length-mid}
use Rattle.basics.proofs.TableLaws.{length-table}
use Rattle.run.proofs.PatchLaws.{rows_none, rows_all, row_end}
use Prim.Native.Nat.{◌*◌}
use native.Mathlib.Omega.{arith}
use lib.ListN.{length}
use mathlib.Core.Path.{sym, ap, ◌∙◌}
use Rattle.filters.proofs.levels.store_frame.Goals as goal

pub loop-row-init : goal.loop-row-init
loop-row-init c = rows_none

pub store_row-requires : goal.store_row-requires
store_row-requires c =
    let frame = c.args.frame in
    let long = c.loop-row.invariant.filled.size in
    let end = row_end frame.width frame.height c.loop-row.row c.loop-row-test.true in
    length-mid (c.loop-row.row * frame.width) frame.width c.loop-row.out (omega arith) ∙ sym (ap length c.row.ensures ∙ length-table _ _)

pub loop-row-preserved : goal.loop-row-preserved
loop-row-preserved c =
    let args = c.args in
    let frame = args.frame in
    let long = c.loop-row.invariant.filled.size in
    let end = row_end frame.width frame.height c.loop-row.row c.loop-row-test.true in
    stored_row frame args.levels.now args.bounds args.value c.loop-row.invariant (omega arith) c.row.ensures c.store_row.ensures

pub returns : goal.returns
returns c = rows_all c.loop-row.invariant c.args.frame.height (omega arith) c.requires.1
