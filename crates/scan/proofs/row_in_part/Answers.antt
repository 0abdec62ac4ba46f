-- The part that is lent is an area of its own; the window law carries its row to the whole, and the points lowered with it.
use Rattle.row.specs.RowRule.{row_rule}
use Rattle.scan.specs.Scan.{area}
use Rattle.scan.proofs.Windows.{part_size, row_of_part, lent_part, lent_lowered}
use native.Mathlib.Omega.{arith}
use Prim.Native.Nat.{◌*◌, ◌-◌}
use mathlib.Core.Path.{sym, ◌∙◌}
use Rattle.scan.proofs.row_in_part.Goals as goal

pub row_rule-requires : goal.row_rule-requires
row_rule-requires c =
    let h = c.requires.0.high in (
      part_size _ _ _ _ c.requires.0 (omega arith),
      (omega arith, (c.requires.0.wide.1, (omega arith, omega (arith, c.requires.0.wide.1)))),
    )

pub returns : goal.returns
returns c =
    let a = c.args.area.now in
    let args = c.args in
    let row-rule = c.row_rule in (
      lent_part (args.start * a.width) args.levels.now row-rule.new.part
          (row_rule (area a.width (a.height - args.start) a.beyond a.cells) args.upward (args.row - args.start)) row-rule.ensures.0
          ∙ sym (row_of_part a.width a.height a.beyond a.cells args.upward args.start args.row
          args.levels.now c.requires.0 c.requires.1.1.0 c.requires.1.1.1.0 c.requires.1.1.1.1),
      row-rule.ensures.1 ∙ lent_lowered (args.start * a.width) args.levels.now row-rule.new.part,
    )
