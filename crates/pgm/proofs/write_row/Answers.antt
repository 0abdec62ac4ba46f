-- The first number begins a line, and the rest follows it.
use Rattle.std.proofs.Common.{arith}
use Rattle.text.proofs.WroteLaws.{wrote_number}
use Rattle.pgm.proofs.RowLaws.{row_first, row_rest, row_wrote}
use Rattle.pgm.proofs.write_row.Goals as goal

pub write_number-start-requires : goal.write_number-start-requires
write_number-start-requires c = row_first c.args.row.now c.from.result c.args.out.now c.requires.0 c.from.ensures c.requires.1

pub write_rest-requires : goal.write_rest-requires
write_rest-requires c =
    let number = c.write_number-start in
    row_rest c.args.row.now c.from.result c.args.out.now c.requires.0 c.from.ensures c.requires.1 number.new.out number.result
    (wrote_number c.from.result c.args.out.now number.new.out number.result number.ensures) (omega arith)

pub overflow_add-result : goal.overflow_add-result
overflow_add-result c =
    let number = c.write_number-start in
    let row = row_wrote c.args.row.now c.from.result c.args.out.now c.requires.0 c.from.ensures c.requires.1 number.new.out
    number.result (wrote_number c.from.result c.args.out.now number.new.out number.result number.ensures) _ _
    c.write_rest.ensures in
    let size = row.0 in
    omega arith

pub returns : goal.returns
returns c =
    let number = c.write_number-start in
    row_wrote c.args.row.now c.from.result c.args.out.now c.requires.0 c.from.ensures c.requires.1 number.new.out number.result
    (wrote_number c.from.result c.args.out.now number.new.out number.result number.ensures) _ _ c.write_rest.ensures
