use Rattle.std.proofs.Common.{arith}
use Rattle.decimal.proofs.NumberLaws.{digits_some}
use Rattle.decimal.proofs.LoopLaws.{left_start, left_turn, left_digit, left_end}
use Rattle.decimal.proofs.write_number.Goals as goal

pub loop-i-init : goal.loop-i-init
loop-i-init c = left_start c.args.n c.args.out.now c.digit_count-count.result c.digit_count-count.ensures

pub loop-i-preserved : goal.loop-i-preserved
loop-i-preserved c = left_turn c.loop-i.invariant (omega arith) (omega arith) c.digit_byte.result c.digit_byte.ensures

pub digit_byte-requires-2 : goal.digit_byte-requires-2
digit_byte-requires-2 c = left_digit c.loop-i.invariant (omega arith)

pub bounds-out-0 : goal.bounds-out-0
bounds-out-0 c = let some = digits_some c.args.n in let same = c.loop-i.auto.out in omega arith

pub returns : goal.returns
returns c =
    let some = digits_some c.args.n in
    let same = c.loop-i.auto.out in (
      c.digit_count-count.ensures,
      left_end c.loop-i.invariant (omega arith) (omega arith) c.digit_byte-2.result c.digit_byte-2.ensures,
    )
