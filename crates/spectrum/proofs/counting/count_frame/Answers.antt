use Rattle.basics.proofs.TableLaws.{length-table}
use Rattle.basics.proofs.SumLaws.{sum_none}
use Rattle.run.specs.Patches.{level_in}
use Rattle.spectrum.proofs.LevelCounts.{added_turn}
use Rattle.spectrum.proofs.Finding.{row_most, row_counted}
use native.Mathlib.Omega.{arith}
use mathlib.Core.Path.{sym, ap, ◌∙◌}
use lib.ListN.{length}
use Rattle.spectrum.proofs.counting.count_frame.Goals as goal

pub loop-row-init : goal.loop-row-init
loop-row-init c = (omega arith, sym (sum_none _))

pub count_row-count-requires : goal.count_row-count-requires
count_row-count-requires c =
    let long = ap length c.row.ensures ∙ length-table _ _ in
    let wide = c.requires.wide in
    omega arith

pub overflow_add-count : goal.overflow_add-count
overflow_add-count c =
    let args = c.args in
    let frame = args.frame in
    let level = level_in frame.width frame.margin args.levels.now c.loop-row.row in
    let counted = row_counted args.bounds.low args.bounds.high level frame.width c.count_row-count.ensures c.row.ensures in
    let most = row_most args.bounds.low args.bounds.high frame.width level in
    let wide = c.requires.wide in
    let high = c.requires.high in
    omega arith

pub loop-row-preserved : goal.loop-row-preserved
loop-row-preserved c =
    let args = c.args in
    let frame = args.frame in
    let level = level_in frame.width frame.margin args.levels.now c.loop-row.row in
    let counted = row_counted args.bounds.low args.bounds.high level frame.width c.count_row-count.ensures c.row.ensures in
    let most = row_most args.bounds.low args.bounds.high frame.width level in
    let wide = c.requires.wide in
    (omega arith, added_turn _ c.loop-row.invariant.1 counted)
