use Rattle.std.proofs.Common.{arith}
use Rattle.decimal.proofs.NumberLaws.{length_below}
use Rattle.pgm.proofs.RowLaws.{rest_start, rest_within, rest_room, rest_turn, rest_last, rest_end}
use Rattle.pgm.proofs.write_rest.Goals as goal

pub loop-level-init : goal.loop-level-init
loop-level-init c = rest_start c.args.rest.now c.args.start c.args.out.now c.requires.0

pub write_parted-size-requires : goal.write_parted-size-requires
write_parted-size-requires c = (
  c.loop-level.invariant.bounded,
  rest_room c.loop-level.invariant c.requires.1 c.from.result c.from.ensures c.loop-level-test.true,
)

pub column_after-column-requires : goal.column_after-column-requires
column_after-column-requires c =
    let bounded = c.loop-level.invariant.bounded in
    let five = length_below 5 c.from.result (omega arith) (omega arith) in
    omega arith

pub overflow_add-end : goal.overflow_add-end
overflow_add-end c =
    let turn = rest_turn c.loop-level.invariant c.requires.1 c.from.result c.write_parted-size.new.out c.write_parted-size.result _
    c.from.ensures (omega arith) c.loop-level-test.true c.write_parted-size.ensures c.column_after-column.ensures in
    let within = rest_within turn c.requires.1 in
    omega arith

pub loop-level-preserved : goal.loop-level-preserved
loop-level-preserved c =
    rest_turn c.loop-level.invariant c.requires.1 c.from.result c.write_parted-size.new.out c.write_parted-size.result _
    c.from.ensures (omega arith) c.loop-level-test.true c.write_parted-size.ensures c.column_after-column.ensures

pub bounds-out-end : goal.bounds-out-end
bounds-out-end c = rest_last c.loop-level.invariant c.requires.1 c.loop-level-test.false

pub returns : goal.returns
returns c = rest_end c.loop-level.invariant c.requires.1 c.loop-level-test.false
