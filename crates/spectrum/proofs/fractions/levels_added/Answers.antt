use Rattle.spectrum.proofs.LevelCounts.{added_turn}
use Rattle.spectrum.proofs.TableSums.{weighed_within, weighed_term}
use Rattle.basics.proofs.SumLaws.{sum_none}
use native.Mathlib.Omega.{arith}
use mathlib.Core.Path.{refl, sym}
use Rattle.spectrum.proofs.fractions.levels_added.Goals as goal

pub loop-n-init : goal.loop-n-init
loop-n-init c = sym (sum_none _)

pub overflow_mul-added : goal.overflow_mul-added
overflow_mul-added c = let term = weighed_term c.args.table.now c.requires c.loop-n.n c.loop-n-test.true in omega arith

pub overflow_add-added : goal.overflow_add-added
overflow_add-added c =
    let loop = c.loop-n in
    let term = weighed_term c.args.table.now c.requires loop.n c.loop-n-test.true in
    let rest = weighed_within c.args.table.now c.requires loop.n (omega arith) in
    let e = loop.invariant in
    omega arith

pub loop-n-preserved : goal.loop-n-preserved
loop-n-preserved c = added_turn _ c.loop-n.invariant refl
