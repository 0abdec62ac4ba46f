use Rattle.std.proofs.Common.{arith, rules}
use Rattle.pgm.proofs.LevelLaws.{levels_start, levels_within, levels_room, levels_turn, levels_end}
use Rattle.pgm.proofs.write_levels.Goals as goal

pub loop-row-init : goal.loop-row-init
loop-row-init c = search (rules, levels_start)

pub write_row-end-requires : goal.write_row-end-requires
write_row-end-requires c =
    let steps = c.in-Some.ensures.steps in
    levels_room c.loop-row.invariant c.requires.0 c.requires.1.1 _ _ steps.1.0 steps.1.1

pub overflow_add-end : goal.overflow_add-end
overflow_add-end c =
    let steps = c.in-Some.ensures.steps in
    let turn = levels_turn c.loop-row.invariant c.requires.0 c.requires.1.1 _ _ steps.1.0 steps.1.1 _ _ _ steps.0
    c.write_row-end.ensures in
    let within = levels_within turn c.requires.0 c.requires.1.1 in
    omega arith

pub loop-row-preserved : goal.loop-row-preserved
loop-row-preserved c =
    let steps = c.in-Some.ensures.steps in
    levels_turn c.loop-row.invariant c.requires.0 c.requires.1.1 _ _ steps.1.0 steps.1.1 _ _ _ steps.0
    c.write_row-end.ensures

pub returns : goal.returns
returns c = levels_end c.loop-row.invariant c.requires.0 c.requires.1.1 c.in-None.ensures.steps.1.0
