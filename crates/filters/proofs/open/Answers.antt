-- The plan's answer is the call's: their lists of refusals give one number, and the same is right.
use Rattle.filters.proofs.Refusing.{open_answered}
use Rattle.filters.specs.Filters.{Buffers}
use Rattle.filters.proofs.open.Goals as goal

pub returns : goal.returns
returns c =
    let args = c.args in
    let lent : Buffers = record { first = args.first.now; second = args.second.now; out = args.out.now } in
    open_answered args.input args.sheet.now args.bytes.now args.size lent c.answer_sheet.ensures
