-- An accepted plan has its first run finished; what the way back leaves is right.
use Rattle.filters.proofs.SheetAnswers.{sheet_ready, sheet_answered}
use Rattle.filters.specs.Filters.{Buffers}
use mathlib.Core.Path.{refl, sym}
use Rattle.filters.proofs.answering.answer_sheet.Goals as goal

pub filter_sheet-requires : goal.filter_sheet-requires
filter_sheet-requires c =
    let args = c.args in
    let run = c.in_ok-sound.ensures in
    let lent : Buffers = record { first = args.first.now; second = args.second.now; out = args.out.now } in
    sheet_ready args.input args.sheet.now args.bytes.now args.plan lent (sym run.refusal) c.requires (run.accepted refl)

pub returns : goal.returns
returns c =
    let args = c.args in
    let run = c.in_ok-sound.ensures in
    let right = c.filter_sheet.ensures in
    let lent : Buffers = record { first = args.first.now; second = args.second.now; out = args.out.now } in
    sheet_answered args.input args.sheet.now args.bytes.now args.plan lent (sym run.refusal) c.requires (run.accepted refl) _
    right.0 right.1.0 right.1.1
