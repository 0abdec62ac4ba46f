use Rattle.run.proofs.PartLaws.{rows_start, rows_inside, rows_turn}
use Rattle.run.proofs.StartLaws.{start_raster}
use native.Mathlib.Omega.{arith}
use Rattle.run.proofs.starting.fill_area.Goals as goal

pub loop-row-init : goal.loop-row-init
loop-row-init c = rows_start c.requires.0.room

pub slice_bounds-fill_row-end : goal.slice_bounds-fill_row-end
slice_bounds-fill_row-end c =
    rows_inside c.loop-row.invariant c.area_width-side.ensures (rw c.area_height-row-end.ensures at c.loop-row-test.true)

pub loop-row-preserved : goal.loop-row-preserved
loop-row-preserved c =
    rows_turn c.loop-row.invariant c.area_width-side.ensures (rw c.area_height-row-end.ensures at c.loop-row-test.true)
    c.fill_row.ensures

pub returns : goal.returns
returns c =
    let starts = c.args.starts in
    let high = c.area_height-row-end.ensures in
    start_raster starts.on starts.off starts.outside c.args.sheet.now c.args.frame c.loop-row.invariant (omega arith)
