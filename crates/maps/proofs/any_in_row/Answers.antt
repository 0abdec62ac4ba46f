use Rattle.maps.specs.Maps.{sizes_seen}
use Rattle.maps.specs.Raising.{above_from}
use Rattle.maps.proofs.SeenLaws.{left_here}
use native.Mathlib.Omega.{arith}
use Prim.Native.Nat.{◌+◌, ◌*◌}
use mathlib.Core.Path.{◌≡◌, refl, sym, ap, ◌∙◌}
use mathlib.Core.Bool.{Bool, true, false, ◌||◌}
use Rattle.maps.proofs.any_in_row.Goals as goal

or_assoc : (a b c : Bool) → (a || b) || c ≡ a || (b || c)
or_assoc true b c = refl
or_assoc false b c = refl

pub loop-col-preserved : goal.loop-col-preserved
loop-col-preserved c =
    let args = c.args in
    let loop = c.loop-col in
    let rest = above_from args.cap (sizes_seen args.input args.sheet.now args.map.now)
    (args.row * args.input.width + (loop.col + 1)) in
    or_assoc loop.found c.is_above-found.result rest
    ∙ ap (λ t. loop.found || t) (ap (λ t. t || rest) c.is_above-found.ensures
    ∙ sym (left_here args.input args.sheet.now args.map.now args.cap args.row loop.col c.requires.1 c.loop-col-test.true))
    ∙ loop.invariant

pub returns : goal.returns
returns c =
    let args = c.args in
    let loop = c.loop-col in
    let e : args.row * args.input.width + args.input.width ≡ args.row * args.input.width + loop.col = omega arith in
    ap (λ k. loop.found || above_from args.cap (sizes_seen args.input args.sheet.now args.map.now) k) e ∙ loop.invariant
