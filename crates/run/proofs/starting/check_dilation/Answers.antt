-- The margin of the canvas is small since the cap is.
use Rattle.run.proofs.Starts.{judged}
use mathlib.Core.Path.{sym}
use Rattle.run.proofs.starting.check_dilation.Goals as goal

pub check_canvas-requires : goal.check_canvas-requires
check_canvas-requires c =
    let input = c.args.input in
    let j = judged input.width input.height c.args.sheet.now input.side c.args.bytes.now (sym c.in_ok-check_start.ensures) in
    (j.wide.1, (j.high.1, (j.element.side_is, c.if-cap-gt-HIGHEST_CAP.false)))
