use Rattle.run.proofs.PatchLaws.{rows_none, rows_all, row_end, frame_room}
use Rattle.run.proofs.PictureLaws.{copied_row}
use native.Mathlib.Omega.{arith}
use Rattle.run.proofs.pictures.read_rows.Goals as goal

pub loop-row-init : goal.loop-row-init
loop-row-init c = (omega arith, rows_none)

pub copy_row-requires : goal.copy_row-requires
copy_row-requires c =
    let frame = c.args.frame in
    let s = frame_room c.requires.0 c.loop-row.row c.loop-row-test.true in
    let t = row_end frame.width frame.height c.loop-row.row c.loop-row-test.true in
    let long = c.loop-row.invariant.1.filled.size in
    rw c.area_width-side.ensures (omega arith, omega arith)

pub loop-row-preserved : goal.loop-row-preserved
loop-row-preserved c =
    let args = c.args in (
      omega arith,
      copied_row args.frame args.levels.now args.reading c.loop-row.invariant.1
          (rw c.area_width-side.ensures at c.copy_row.ensures),
    )

pub returns : goal.returns
returns c = rows_all c.loop-row.invariant.1 c.args.frame.height (omega arith) c.requires.1
