-- Work buffers are judged as those of opening levels; then the table's length, and the sheet.
use Rattle.std.proofs.lemmas.Result.{err_from_is_err_and}
use Rattle.basics.proofs.RefusalLaws.{number_positive}
use Rattle.spectrum.proofs.Refusing.{refused_work}
use Rattle.spectrum.proofs.check_spectrum.Goals as goal

pub returns-in_err-check_work : goal.returns-in_err-check_work
returns-in_err-check_work c =
    let args = c.args in
    let p = err_from_is_err_and c.from_residual.result c.from_residual.ensures.1 in
    rw (p.1, p.2) (refused_work args.input args.sheet.now args.bytes.now args.one args.two args.entries (number_positive _)
    c.in_err-check_work.ensures)
