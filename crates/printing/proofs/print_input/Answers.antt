-- Three answers: an input that is too long, one that the reader refuses, and a sheet.
use Rattle.std.proofs.Common.{refl}
use mathlib.Core.Path.{subst}
use Rattle.std.proofs.lemmas.Result.{err_from_is_err_and}
use Rattle.basics.proofs.RefusalLaws.{number_positive}
use Rattle.printing.specs.Steps.{PrintsOr}
use Rattle.printing.proofs.InputLaws.{too_long, read_refused, read_found}
use Rattle.printing.proofs.print_input.Goals as goal

pub returns-then-input-ge-INPUT_END : goal.returns-then-input-ge-INPUT_END
returns-then-input-ge-INPUT_END c = (too_long c.args.input.now c.if-input-ge-INPUT_END.true, refl)

pub returns-in_err-frame : goal.returns-in_err-frame
returns-in_err-frame c =
    let p = err_from_is_err_and c.from_residual.result c.from_residual.ensures.1 in
    rw (p.1, p.2) (
      read_refused c.args.input.now c.args.sheet.now c.if-input-ge-INPUT_END.false c.requires.0 c.in_err-frame.ensures
          (number_positive _),
      refl,
    )

pub row_bytes-requires : goal.row_bytes-requires
row_bytes-requires c =
    (read_found c.args.input.now c.args.sheet.now c.if-input-ge-INPUT_END.false c.requires.0 c.in_ok-frame.ensures refl
    refl).width_most

pub returns : goal.returns
returns c =
    let found = read_found c.args.input.now c.args.sheet.now c.if-input-ge-INPUT_END.false c.requires.0 c.in_ok-frame.ensures refl
    c.row_bytes.ensures in
    subst (λ text. PrintsOr text c.print_sheet.result c.args.out.now c.print_sheet.new.out) found.text c.print_sheet.ensures
