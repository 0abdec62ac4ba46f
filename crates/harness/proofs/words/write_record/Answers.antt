use Rattle.std.proofs.Common.{arith, rules}
use Rattle.harness.proofs.WordLaws.{record_stored}
use Rattle.harness.proofs.words.write_record.Goals as goal

pub returns : goal.returns
returns c =
    let loop = c.loop-k in
    record_stored c.args.run loop.words c.from-2.result loop.invariant.0 (search rules) loop.invariant.1.0
    (λ k l. loop.invariant.1.1 k (omega arith)) c.from-2.ensures
