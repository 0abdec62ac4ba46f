use mathlib.Core.Path.{sym}
use Rattle.decimal.proofs.NumberLaws.{length_one}
use Rattle.decimal.proofs.LoopLaws.{count_is}
use Rattle.decimal.proofs.digit_count.Goals as goal

pub returns-then-n-lt10 : goal.returns-then-n-lt10
returns-then-n-lt10 c = sym (length_one c.args.n c.if-n-lt10.true)

pub returns : goal.returns
returns c =
    let power = c.checked_ilog10 in
    let e = count_is c.args.n power.result power.ensures.none power.ensures.power_le power.ensures.next_power_gt in
    cc
