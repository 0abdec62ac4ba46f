-- With a slice of another length the call is only judged, and 11 is left at the latest; else the library answers.
use mathlib.Core.Path.{refl}
use Rattle.run.specs.declared.Input.{Input}
use Rattle.filters.specs.Filters.{Buffers}
use Rattle.harness.proofs.FractionAnswers.{fractions_other, fractions_given}
use Rattle.harness.proofs.filtering.wt_spectrum.Goals as goal

pub returns-then-fractions-ne2 : goal.returns-then-fractions-ne2
returns-then-fractions-ne2 c =
    let args = c.args in
    let input : Input = record { width = args.width; height = args.height; side = args.side } in
    let lent : Buffers = record { first = args.first.now; second = args.second.now; out = args.table.now } in
    fractions_other input args.sheet.now args.cells.now lent args.fractions.now c.if-fractions-ne2.true
    c.at_latest.ensures (rw c.input_of-input.ensures at c.check_spectrum-judged.ensures)

pub returns-in-Ok : goal.returns-in-Ok
returns-in-Ok c =
    let args = c.args in
    let input : Input = record { width = args.width; height = args.height; side = args.side } in
    let lent : Buffers = record { first = args.first.now; second = args.second.now; out = args.table.now } in
    fractions_given input args.sheet.now args.cells.now lent args.fractions.now
    c.if-fractions-ne2.false (rw c.input_of-input.ensures at c.in-Ok.ensures) refl
