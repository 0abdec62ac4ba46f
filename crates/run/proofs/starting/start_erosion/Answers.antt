-- What is accepted has a sound frame and element, and its area is the frame.
use Rattle.run.proofs.Starts.{judged, erosion_taken, frame_canvas}
use mathlib.Core.Path.{sym}
use native.Mathlib.Omega.{arith}
use Rattle.run.proofs.starting.start_erosion.Goals as goal

pub fill_levels-requires : goal.fill_levels-requires
fill_levels-requires c =
    let args = c.args in
    let input = args.input in
    let t = erosion_taken input.width input.height args.sheet.now input.side args.bytes.now args.levels.now
    (sym c.in_ok-check_erosion.ensures) in
    let j = judged input.width input.height args.sheet.now input.side args.bytes.now t.0 in
    rw c.fresh_record-run.ensures (
      j.element.side_is,
      (omega arith, (frame_canvas input.width input.height input.side args.levels.now j.wide.1 j.high.1 t.1, j.sheet_size_lem)),
    )
