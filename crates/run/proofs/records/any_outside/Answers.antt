use Rattle.run.proofs.RecordLaws.{outside_found, outside_passed, outside_end}
use native.Mathlib.Omega.{arith}
use mathlib.Core.Path.{sym, ◌∙◌}
use Rattle.run.proofs.records.any_outside.Goals as goal

pub returns-then-is_outside : goal.returns-then-is_outside
returns-then-is_outside c =
    let args = c.args in
    sym (sym c.loop-k.invariant ∙ outside_found args.side args.cells c.loop-k.k (omega arith)
    (sym c.is_outside.ensures ∙ c.if-is_outside.true))

pub loop-k-preserved : goal.loop-k-preserved
loop-k-preserved c =
    let args = c.args in
    sym (outside_passed args.side args.cells c.loop-k.k (omega arith) (sym c.is_outside.ensures ∙ c.if-is_outside.false))
    ∙ c.loop-k.invariant

pub returns : goal.returns
returns c = sym (sym c.loop-k.invariant ∙ outside_end c.args.side c.args.cells c.loop-k.k (omega arith))
