-- An accepted plan has its first run finished; what the way back leaves is right.
use Rattle.filters.proofs.LevelAnswers.{levels_ready}
use Rattle.filters.specs.Filters.{Buffers}
use mathlib.Core.Path.{refl, sym}
use Rattle.filters.proofs.answering.answer_levels.Goals as goal

pub filter_levels-requires : goal.filter_levels-requires
filter_levels-requires c =
    let args = c.args in
    let run = c.in_ok-sound.ensures in
    let lent : Buffers = record { first = args.first.now; second = args.second.now; out = args.out.now } in
    levels_ready args.input args.sheet.now args.bytes.now args.plan lent (sym run.refusal) c.requires (run.accepted refl)
