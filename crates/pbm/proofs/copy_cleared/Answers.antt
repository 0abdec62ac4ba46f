-- Each turn clears one row; after the last, all of them are.
use Rattle.std.proofs.Common.{arith, ap, ◌*◌}
use Rattle.pbm.proofs.ClearingLaws.{clearing_start, clearing_turn, clearing_end}
use Rattle.pbm.proofs.copy_cleared.Goals as goal

pub loop-row-init : goal.loop-row-init
loop-row-init c = rw c.row_bytes-row_bytes.ensures
    (clearing_start c.requires.raster c.requires.room (rw c.row_bytes-row_bytes.ensures at c.copy.ensures))

pub loop-row-preserved : goal.loop-row-preserved
loop-row-preserved c =
    let e = ap (λ n. c.loop-row.row * n) c.row_bytes-row_bytes.ensures in
    clearing_turn c.requires.raster c.requires.room c.loop-row.invariant c.requires.frame.0 c.loop-row-test.true
    (λ k. let f = c.type_inv.raster k in omega arith) _ _ (omega arith) (omega arith)

pub returns : goal.returns
returns c = clearing_end c.requires.raster c.requires.room c.loop-row.invariant c.loop-row-test.false (omega arith)
