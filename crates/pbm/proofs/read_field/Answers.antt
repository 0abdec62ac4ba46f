-- White bytes that are none, digits that are none, or a number: the places are where the definition cuts.
use Rattle.std.proofs.Common.{arith}
use Rattle.pbm.proofs.HeaderLaws.{field_without_white, field_without_digits, field_found, field_lost, start_within}
use Rattle.pbm.proofs.read_field.Goals as goal

pub returns-then-start-at : goal.returns-then-start-at
returns-then-start-at c =
    field_lost c.args.file.now c.args.at
    (field_without_white c.args.file.now c.args.at _ c.skip_white-start.ensures c.if-start-at.true)

pub read_number-number-requires : goal.read_number-number-requires
read_number-number-requires c = (start_within c.args.file.now c.args.at _ c.skip_white-start.ensures c.requires, omega arith)

pub returns-then-number-start : goal.returns-then-number-start
returns-then-number-start c =
    field_lost c.args.file.now c.args.at
    (field_without_digits c.args.file.now c.args.at _ c.skip_white-start.ensures _ c.read_number-number.ensures.0
    c.if-start-at.false c.if-number-start.true)

pub returns : goal.returns
returns c =
    field_found c.args.file.now c.args.at _ c.skip_white-start.ensures _ c.read_number-number.ensures.0 _
    (start_within c.args.file.now c.args.at _ c.skip_white-start.ensures c.requires) c.if-start-at.false
    c.if-number-start.false c.read_number-number.ensures.1
