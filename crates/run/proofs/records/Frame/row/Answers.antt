-- The row is in the levels, from its margin on.
use Rattle.run.proofs.PartLaws.{row_cut}
use Rattle.run.proofs.PatchLaws.{frame_room}
use native.Mathlib.Omega.{arith}
use Rattle.run.proofs.records.Frame.row.Goals as goal

pub returns : goal.returns
returns c =
    let args = c.args in
    let side = c.area_width.ensures in
    let room = frame_room c.requires.0 args.row c.requires.1 in
    row_cut args.self.width args.self.margin c.area_width.result args.levels.now args.row side (rw side (omega arith))
