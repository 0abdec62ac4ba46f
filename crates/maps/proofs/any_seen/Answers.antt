use Rattle.maps.specs.Maps.{sizes_seen}
use Rattle.maps.specs.Raising.{above_from}
use Rattle.maps.proofs.SeenLaws.{left_first, left_next, left_end}
use native.Mathlib.Omega.{arith}
use Prim.Native.Nat.{◌+◌, ◌*◌}
use mathlib.Core.Path.{◌≡◌, sym, ap, ◌∙◌}
use mathlib.Core.Bool.{◌||◌}
use Rattle.maps.proofs.any_seen.Goals as goal

pub loop-row-init : goal.loop-row-init
loop-row-init c = let args = c.args in left_first args.input args.sheet.now args.map.now args.cap

pub returns-then-any_in_row : goal.returns-then-any_in_row
returns-then-any_in_row c =
    let args = c.args in
    let row = c.loop-row.row in
    let rest = above_from args.cap (sizes_seen args.input args.sheet.now args.map.now) (row * args.input.width + args.input.width) in
    sym (ap (λ t. t || rest) c.if-any_in_row.true) ∙ c.any_in_row.ensures ∙ c.loop-row.invariant

pub loop-row-preserved : goal.loop-row-preserved
loop-row-preserved c =
    let args = c.args in
    let row = c.loop-row.row in
    let rest = above_from args.cap (sizes_seen args.input args.sheet.now args.map.now) (row * args.input.width + args.input.width) in
    left_next args.input args.sheet.now args.map.now args.cap row ∙ sym (ap (λ t. t || rest) c.if-any_in_row.false)
    ∙ c.any_in_row.ensures ∙ c.loop-row.invariant

pub returns : goal.returns
returns c =
    let args = c.args in
    let e : args.input.height ≡ c.loop-row.row = omega arith in
    sym (left_end args.input args.sheet.now args.map.now args.cap)
    ∙ ap (λ row. above_from args.cap (sizes_seen args.input args.sheet.now args.map.now) (row * args.input.width)) e
    ∙ c.loop-row.invariant
