use native.Mathlib.Omega.{arith}
use Prim.Native.Nat.{◌≤◌}
use mathlib.Core.Path.{◌≡◌}
use lib.ListN.{length}
use Rattle.row.specs.RowRule.{none}
use Rattle.row.proofs.Own.{place_below, kept_start, kept_turn}
use Rattle.row.proofs.by_three.Goals as goal

pub loop-t-init : goal.loop-t-init
loop-t-init c =
    let small : c.args.beyond ≤ none = omega arith in
    rw c.from-near.ensures (record { middle_small = small; far_small = small; kept = kept_start _ _ _ _ _ _ _ small })

pub lower_to_least-level-requires : goal.lower_to_least-level-requires
lower_to_least-level-requires c =
    let in_row = place_below c.args.upward _ _ c.loop-t-test.true in
    omega (arith, c.column.ensures)

pub loop-t-preserved : goal.loop-t-preserved
loop-t-preserved c =
    let args = c.args in
    let loop = c.loop-t in
    let lowest = rw (
      c.column.ensures,
      c.step_of-from_near.ensures.0,
      c.step_of-from_middle.ensures.0,
      c.step_of-from_far.ensures.0,
    ) at c.lower_to_least-level.ensures in
    record {
      middle_small = loop.invariant.kept.small;
      far_small = loop.invariant.middle_small;
      kept = kept_turn args.upward _ args.beyond args.one args.two args.three loop.t loop.near loop.middle loop.far
          c.lower_to_least-level.result args.worked.now loop.worked c.lower_to_least-level.new.worked (omega arith) (omega arith)
          loop.invariant.kept lowest;
    }

pub returns : goal.returns
returns c =
    let all : c.loop-t.t ≡ length c.args.worked.now = omega arith in
    rw all at c.loop-t.invariant.kept.so_far
