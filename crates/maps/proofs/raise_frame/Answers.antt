use Rattle.run.proofs.PatchLaws.{row_end, frame_room}
use Rattle.maps.proofs.RaisingLaws.{raised_none, raised_part}
use native.Mathlib.Omega.{arith}
use Rattle.maps.proofs.raise_frame.Goals as goal

pub loop-row-init : goal.loop-row-init
loop-row-init c =
    let args = c.args in
    raised_none args.frame.width args.frame.margin args.most args.map.now args.levels.now

pub loop-row-preserved : goal.loop-row-preserved
loop-row-preserved c =
    let args = c.args in
    let frame = args.frame in
    let row = c.loop-row.row in
    let room = frame_room c.requires.0 row c.loop-row-test.true in
    let end = row_end frame.width frame.height row c.loop-row-test.true in
    let long = c.loop-row.invariant.size in
    raised_part frame.width frame.margin args.most args.map.now c.loop-row.invariant c.area_width-side.ensures
    (omega arith) (omega arith) c.raise_row.ensures
