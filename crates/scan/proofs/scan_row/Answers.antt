-- Where the parts of docs/RULES.md begin, every partner met is in the part.
use Rattle.scan.proofs.Windows.{up_within}
use Rattle.scan.proofs.ScanLaws.{row_down, row_up}
use native.Mathlib.Omega.{arith}
use mathlib.Core.Path.{refl, sym, ◌∙◌}
use Rattle.scan.proofs.scan_row.Goals as goal

pub returns-then-done-area : goal.returns-then-done-area
returns-then-done-area c =
    let row_in_part = c.row_in_part in (
      row_in_part.ensures.0 ∙ sym (row_down c.args.area.now c.args.done c.args.levels.now c.if-done-area.true),
      row_in_part.ensures.1,
    )

pub row_in_part-requires-2 : goal.row_in_part-requires-2
row_in_part-requires-2 c = (c.requires.0, (c.requires.1.0, (omega arith, (omega arith, up_within _ _))))

pub returns : goal.returns
returns c =
    let row_in_part = c.row_in_part-2 in (
      row_in_part.ensures.0 ∙ sym (row_up c.args.area.now c.args.done _ c.args.levels.now c.if-done-area.false refl),
      row_in_part.ensures.1,
    )
