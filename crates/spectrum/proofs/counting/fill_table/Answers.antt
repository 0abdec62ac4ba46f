use Rattle.spectrum.proofs.Finding.{tables_start, fewer, tables_turn, tables_end, most_small}
use native.Mathlib.Omega.{arith}
use mathlib.Core.Path.{refl, sym, ◌∙◌}
use Rattle.spectrum.proofs.counting.fill_table.Goals as goal

pub loop-n-init : goal.loop-n-init
loop-n-init c = tables_start c.requires.0 refl

pub points_above-above-requires : goal.points_above-above-requires
points_above-above-requires c =
    let pre = c.requires in
    let highest = c.highest.ensures in
    let most = c.from-most.ensures in
    rw most (c.loop-n.invariant.given, (highest, most_small pre.1 highest))

pub overflow_sub-table : goal.overflow_sub-table
overflow_sub-table c = fewer c.loop-n.invariant c.points_above-above.ensures.1 c.requires.1

pub loop-n-preserved : goal.loop-n-preserved
loop-n-preserved c =
    let loop = c.loop-n in
    let size = loop.invariant.size in
    let above = c.points_above-above.ensures in
    tables_turn loop.invariant above.1 c.requires.1 (omega arith) above.0

pub returns : goal.returns
returns c =
    let loop = c.loop-n in
    (loop.invariant.given.second_size ∙ sym c.requires.0.second_size, tables_end loop.invariant (omega arith))
