use Rattle.spectrum.proofs.BlankLaws.{not_blank, blank_turn, blank_end}
use Rattle.basics.proofs.SumLaws.{sum_none}
use native.Mathlib.Omega.{arith}
use Rattle.spectrum.proofs.blank.is_blank.Goals as goal

pub loop-row-init : goal.loop-row-init
loop-row-init c = sum_none _

pub returns-then-any_in_row : goal.returns-then-any_in_row
returns-then-any_in_row c =
    let args = c.args in
    not_blank args.width args.height args.sheet.now c.loop-row.row c.loop-row-test.true c.any_in_row.ensures c.if-any_in_row.true

pub loop-row-preserved : goal.loop-row-preserved
loop-row-preserved c =
    let args = c.args in
    blank_turn args.width args.height args.sheet.now c.loop-row.row c.loop-row.invariant c.any_in_row.ensures c.if-any_in_row.false

pub returns : goal.returns
returns c =
    let args = c.args in
    blank_end args.width args.height args.sheet.now c.loop-row.row c.loop-row.invariant (omega arith)
