use Rattle.sheet.proofs.ByteLaws.{front, front_none, front_turn, front_eight}
use Rattle.run.proofs.PackLaws.{held_at, held_fits}
use Rattle.run.proofs.LevelLaws.{held_byte}
use native.Mathlib.Omega.{arith}
use mathlib.Core.Path.{◌≡◌, ap, ◌∙◌}
use Rattle.run.proofs.pictures.full_byte.Goals as goal

pub loop-i-init : goal.loop-i-init
loop-i-init c = front_none _

pub overflow_mul-byte : goal.overflow_mul-byte
overflow_mul-byte c =
    let args = c.args in
    let s = held_fits args.bounds.low args.bounds.high args.levels.now c.loop-i.i c.loop-i-test.true in
    omega arith

pub overflow_add-byte : goal.overflow_add-byte
overflow_add-byte c =
    let args = c.args in
    let s = held_fits args.bounds.low args.bounds.high args.levels.now c.loop-i.i c.loop-i-test.true in
    let e = c.from.ensures ∙ held_byte _ ∙ c.hold.ensures in
    omega arith

pub loop-i-preserved : goal.loop-i-preserved
loop-i-preserved c =
    let args = c.args in
    let e = c.from.ensures ∙ held_byte _ ∙ c.hold.ensures in
    let t = front_turn (held_at args.bounds.low args.bounds.high args.levels.now) c.loop-i.i in
    omega arith

pub returns : goal.returns
returns c =
    let args = c.args in
    let bits = held_at args.bounds.low args.bounds.high args.levels.now in
    let q : c.loop-i.i ≡ 8 = omega arith in
    c.loop-i.invariant ∙ ap (front bits) q ∙ front_eight bits
