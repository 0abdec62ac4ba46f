-- The sheet's refusals stand before the element's.
use Rattle.basics.proofs.RefusalLaws.{judged_first, number_positive}
use Rattle.element.specs.Elements.{element_refusals}
use Rattle.sheet.specs.Sheets.{sheet_refusals}
use Rattle.std.proofs.lemmas.Result.{err_from_is_err_and}
use Rattle.run.proofs.starting.check_start.Goals as goal

pub returns-in_err-check_sheet : goal.returns-in_err-check_sheet
returns-in_err-check_sheet c =
    let input = c.args.input in
    let p = err_from_is_err_and c.from_residual.result c.from_residual.ensures.1 in
    rw (p.1, p.2) (judged_first (sheet_refusals input.width input.height c.args.sheet.now)
    (element_refusals input.side c.args.bytes.now) (number_positive _) c.in_err-check_sheet.ensures)
