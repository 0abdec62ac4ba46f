use Rattle.spectrum.proofs.BlankLaws.{some_turn}
use Rattle.basics.proofs.SumLaws.{sum_none}
use Rattle.sheet.specs.Sheets.{pixel}
use mathlib.Core.Path.{sym, ap}
use lib.Dec.{eqb, ltb}
use Rattle.spectrum.proofs.blank.any_in_row.Goals as goal

pub loop-col-init : goal.loop-col-init
loop-col-init c = sym (ap (ltb 0) (sum_none _))

pub loop-col-preserved : goal.loop-col-preserved
loop-col-preserved c =
    let args = c.args in
    some_turn (λ col. eqb (pixel args.width args.sheet.now args.row col) 1) c.loop-col.col c.loop-col.invariant
    (ap (λ n. eqb n 1) c.pixel_at.ensures)
