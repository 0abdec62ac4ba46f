-- The plan's answer is the call's: their lists of refusals give one number, and the same is right.
use Rattle.filters.proofs.Refusing.{opening_answered}
use Rattle.filters.specs.Filters.{Buffers}
use Rattle.filters.proofs.opening_levels.Goals as goal

pub returns : goal.returns
returns c =
    let args = c.args in
    let lent : Buffers = record { first = args.first.now; second = args.second.now; out = args.out.now } in
    opening_answered args.input args.sheet.now args.bytes.now lent c.answer_levels.ensures
