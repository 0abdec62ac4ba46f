-- An accepted call fills the table from its finished first run, and its summary is the table's.
use Rattle.filters.specs.Filters.{Buffers}
use Rattle.spectrum.proofs.Answers.{opening_starts, run_ready, run_levels, is_table, answered}
use mathlib.Core.Path.{sym, ap, ◌∙◌}
use lib.ListN.{replicate}
use Rattle.spectrum.proofs.spectrum.Goals as goal

pub first_run-sound-requires : goal.first_run-sound-requires
first_run-sound-requires c =
    let args = c.args in
    let lent : Buffers = record { first = args.first.now; second = args.second.now; out = args.table.now } in
    opening_starts args.input args.sheet.now args.bytes.now lent (sym c.in_ok-check_spectrum.ensures)

pub fill_table-requires : goal.fill_table-requires
fill_table-requires c =
    let args = c.args in
    let lent : Buffers = record { first = args.first.now; second = args.second.now; out = args.table.now } in
    let accepted = sym c.in_ok-check_spectrum.ensures in (
      run_ready args.input args.sheet.now args.bytes.now lent accepted c.first_run-sound.ensures,
      run_levels args.input args.sheet.now args.bytes.now lent accepted c.first_run-sound.ensures,
    )

pub summary_of-requires : goal.summary_of-requires
summary_of-requires c =
    let args = c.args in
    let lent : Buffers = record { first = args.first.now; second = args.second.now; out = args.table.now } in
    is_table args.input args.sheet.now args.bytes.now lent (sym c.in_ok-check_spectrum.ensures) c.first_run-sound.ensures
    c.fill_table.ensures.1

pub returns : goal.returns
returns c =
    let args = c.args in
    let lent : Buffers = record { first = args.first.now; second = args.second.now; out = args.table.now } in
    let fills = c.fill_table.ensures in
    answered args.input args.sheet.now args.bytes.now lent (sym c.in_ok-check_spectrum.ensures) c.first_run-sound.ensures fills.1
    (c.fill.ensures.after (λ y e. e)) (c.fill-2.ensures.after (λ y e. e) ∙ ap (λ n. replicate n 0) fills.0) c.summary_of.ensures
