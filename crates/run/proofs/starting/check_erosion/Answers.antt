-- What the common refusals accept has sides whose product is small.
use Rattle.run.proofs.Starts.{judged}
use Rattle.run.proofs.RecordLaws.{area_small}
use native.Mathlib.Omega.{arith}
use mathlib.Core.Path.{sym}
use Rattle.run.proofs.starting.check_erosion.Goals as goal

pub overflow_mul-input : goal.overflow_mul-input
overflow_mul-input c =
    let input = c.args.input in
    let j = judged input.width input.height c.args.sheet.now input.side c.args.bytes.now (sym c.in_ok-check_start.ensures) in
    let s = area_small input.height input.width j.high.1 j.wide.1 in
    omega arith
