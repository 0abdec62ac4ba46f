use Rattle.scan.specs.Scan.{scan_row}
use Rattle.row.specs.RowRule.{points_lowered}
use Rattle.row.proofs.Lowered.{lowered_most}
use Rattle.scan.proofs.ScanLaws.{rows_none, rows_more, lowered_none, lowered_more, lowered_bound}
use Rattle.scan.proofs.ScanLaws.{lent_small, lent_rows}
use native.Mathlib.Omega.{arith}
use Prim.Native.Nat.{ℕ, ◌+◌}
use mathlib.Core.Path.{refl, sym, ap, ap₂, ◌∙◌}
use Rattle.scan.proofs.scan_rows.Goals as goal

pub loop-n-init : goal.loop-n-init
loop-n-init c =
    let area = c.args.area.now in
    record {
      wide = refl;
      scanned = sym (rows_none area c.args.done c.args.levels.now);
      summed = sym (lowered_none area c.args.done c.args.levels.now);
    }

pub scan_row-lowered-requires : goal.scan_row-lowered-requires
scan_row-lowered-requires c =
    let area = c.args.area.now in
    let loop = c.loop-n in (
      rw loop.invariant.scanned (lent_rows area.width area.height area.beyond area.cells c.args.done loop.n c.args.levels.now
          c.requires.0),
      (loop.invariant.wide, (omega arith, c.requires.1.1)),
    )

pub overflow_add-lowered : goal.overflow_add-lowered
overflow_add-lowered c =
    let area = c.args.area.now in
    let entry = c.args.levels.now in
    let loop = c.loop-n in
    let scan_row = c.scan_row-lowered in
    let small = lent_small area.width area.height entry c.requires.0 in
    let before = lowered_bound area c.args.done loop.n 16777216 entry small in
    let now = lowered_most loop.levels scan_row.new.levels in
    let high = c.requires.0.high.1 in
    omega (arith, before, now, loop.auto.levels, small, scan_row.ensures.1, loop.invariant.summed)

pub loop-n-preserved : goal.loop-n-preserved
loop-n-preserved c =
    let area = c.args.area.now in
    let done = c.args.done in
    let entry = c.args.levels.now in
    let loop = c.loop-n in
    let scan-row = c.scan_row-lowered in
    let levels = scan-row.ensures.0 ∙ ap (scan_row area (done + loop.n)) loop.invariant.scanned in
    record {
      wide = scan-row.auto.worked ∙ loop.invariant.wide;
      scanned = levels ∙ rows_more area done loop.n entry;
      summed = ap₂ (λ (a b : ℕ). a + b) loop.invariant.summed
          (scan-row.ensures.1 ∙ ap₂ points_lowered loop.invariant.scanned levels)
          ∙ lowered_more area done loop.n entry;
    }
