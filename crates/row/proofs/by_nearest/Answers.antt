-- A pair of columns is two turns: the second column lies beside the first, on the side where the next turn is.
use native.Mathlib.Omega.{arith}
use Prim.Native.Nat.{ℕ, ◌+◌, ◌-◌, ◌*◌, ◌<◌}
use mathlib.Core.Bool.{true, false}
use mathlib.Core.Path.{◌≡◌, refl}
use lib.ListN.{length}
use Rattle.row.specs.RowRule.{place}
use Rattle.row.proofs.Own.{place_below, place_apart, near_start, near_turn, near_two}
use Rattle.row.proofs.by_nearest.Goals as goal
use Rattle.row.proofs.by_nearest.Goals.{then-upward, else-upward}

pub loop-pair-init : goal.loop-pair-init
loop-pair-init c = rw c.from-near.ensures (near_start _ _ _ _ (omega arith))

-- where the column of the next turn lies
up_next : (width t : ℕ) → place true width t - 1 ≡ place true width (t + 1)
unfolding place
up_next width t = omega arith

down_next : (width t : ℕ) → place false width t + 1 ≡ place false width (t + 1)
unfolding place
down_next width t = refl

pub lower_two-near-requires : goal.lower_two-near-requires
lower_two-near-requires c =
    let upward = c.args.upward in
    let width = length c.args.worked.now in
    let t = 2 * c.loop-pair.pair in
    let turn : t + 1 < width = omega arith in
    let next : c.if-upward.second ≡ place upward width (t + 1) =
    elim c.if-upward.branch [
      | then-upward w ↦ rw (w.second-is, c.column-first.ensures, w.if-upward.true) (up_next width t)
      | else-upward w ↦ rw (w.second-is, c.column-first.ensures, w.if-upward.false) (down_next width t)
    ] in
    let first = place_below upward width t (omega arith) in
    let second = place_below upward width (t + 1) turn in (
      omega (arith, c.column-first.ensures),
      (
        omega (arith, next),
        (
          rw (c.column-first.ensures, next) (place_apart upward width t (t + 1) (omega arith) turn (λ q. omega arith)),
          c.loop-pair.invariant.small,
        ),
      ),
    )

pub loop-pair-preserved : goal.loop-pair-preserved
loop-pair-preserved c =
    let loop = c.loop-pair in
    let width = length c.args.worked.now in
    let turns : 2 * (loop.pair + 1) ≡ 2 * loop.pair + 2 = omega arith in
    let next : c.if-upward.second ≡ place c.args.upward width (2 * loop.pair + 1) =
    elim c.if-upward.branch [
      | then-upward w ↦ rw (w.second-is, c.column-first.ensures, w.if-upward.true) (up_next width (2 * loop.pair))
      | else-upward w ↦ rw (w.second-is, c.column-first.ensures, w.if-upward.false) (down_next width (2 * loop.pair))
    ] in
    rw turns (near_two c.args.upward width c.args.beyond (2 * loop.pair) loop.near c.lower_two-near.result c.args.worked.now loop.worked
    c.lower_two-near.new.worked (omega arith) (omega arith) loop.invariant
    (rw (c.column-first.ensures, next) at c.lower_two-near.ensures))

pub lower_to_least-requires : goal.lower_to_least-requires
lower_to_least-requires c =
    let width = length c.args.worked.now in
    let last = place_below c.args.upward width (width - 1) (omega arith) in
    omega (arith, c.column.ensures)

pub returns-then-width-eq1 : goal.returns-then-width-eq1
returns-then-width-eq1 c =
    let loop = c.loop-pair in
    let width = length c.args.worked.now in
    let last : width - 1 ≡ 2 * loop.pair = omega arith in
    let all : 2 * loop.pair + 1 ≡ width = omega arith in
    let lowest = rw (c.column.ensures, c.from-none.ensures, last) at c.lower_to_least.ensures in
    rw all at (near_turn c.args.upward width c.args.beyond (2 * loop.pair) loop.near c.lower_to_least.result c.args.worked.now
    loop.worked c.lower_to_least.new.worked (omega arith) (omega arith) loop.invariant lowest).so_far

pub returns-else-width-eq1 : goal.returns-else-width-eq1
returns-else-width-eq1 c =
    let all : 2 * c.loop-pair.pair ≡ length c.args.worked.now = omega arith in
    rw all at c.loop-pair.invariant.so_far
