-- The input is judged first; then the size, without which the canvas of its cap would not be small.
use Rattle.std.proofs.lemmas.Result.{err_from_is_err_and}
use Rattle.basics.proofs.RefusalLaws.{number_positive}
use Rattle.run.proofs.Starts.{judged}
use Rattle.filters.proofs.Refusing.{cap_within, start_input, start_canvas}
use native.Mathlib.Omega.{arith}
use mathlib.Core.Path.{sym}
use Rattle.filters.proofs.judging.check_first.Goals as goal

pub returns-in_err-check_start : goal.returns-in_err-check_start
returns-in_err-check_start c =
    let args = c.args in
    let p = err_from_is_err_and c.from_residual.result c.from_residual.ensures.1 in
    rw (p.1, p.2) (start_input args.input args.sheet.now args.bytes.now args.plan args.count (number_positive _)
    c.in_err-check_start.ensures)

pub check_canvas-requires : goal.check_canvas-requires
check_canvas-requires c =
    let args = c.args in
    let limit = c.limit_of.ensures in
    let j = judged args.input.width args.input.height args.sheet.now args.input.side args.bytes.now (sym c.in_ok-check_start.ensures) in
    let cap = cap_within args.input args.sheet.now args.bytes.now args.plan (omega arith) in
    (j.wide.1, (j.high.1, (j.element.side_is, rw c.cap_of.ensures cap)))

pub returns : goal.returns
returns c =
    let args = c.args in
    let limit = c.limit_of.ensures in
    start_canvas args.input args.sheet.now args.bytes.now args.plan args.count (sym c.in_ok-check_start.ensures) (omega arith)
    (rw c.cap_of.ensures at c.check_canvas.ensures)
