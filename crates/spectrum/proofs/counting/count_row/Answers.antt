use Rattle.spectrum.proofs.LevelCounts.{added_turn, added_end}
use Rattle.basics.proofs.SumLaws.{sum_none}
use Rattle.run.proofs.LevelLaws.{held_byte, held_binary}
use native.Mathlib.Omega.{arith}
use mathlib.Core.Path.{sym, ◌∙◌}
use lib.ListN.{get_or}
use Rattle.spectrum.proofs.counting.count_row.Goals as goal

pub loop-i-init : goal.loop-i-init
loop-i-init c = (omega arith, sym (sum_none _))

pub loop-i-preserved : goal.loop-i-preserved
loop-i-preserved c =
    let loop = c.loop-i in
    let bounds = c.args.bounds in
    let held = c.from-count.ensures ∙ held_byte _ ∙ c.hold.ensures in
    let small = held_binary bounds.low bounds.high (get_or c.args.levels.now loop.i 0) in
    (omega arith, added_turn _ loop.invariant.1 held)

pub returns : goal.returns
returns c = let e = c.from.ensures in rw e (added_end _ _ c.loop-i.invariant.1 (omega arith))
