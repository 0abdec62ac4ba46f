-- The loop's invariant: a pixel is found where the columns before have one.
use Rattle.basics.specs.Sums.{sum}
use Rattle.sheet.specs.Sheets.{pixel}
use mathlib.Core.Path.{◌≡◌}
use mathlib.Core.Bool.{cond}
use lib.Dec.{eqb, ltb}
use Rattle.spectrum.proofs.blank.any_in_row.Given as goal

abbrev pub invariant-loop-col : goal.invariant-loop-col
invariant-loop-col l = l.found ≡ ltb 0 (sum l.col (λ col. cond (eqb (pixel l.width l.sheet l.row col) 1) 1 0))
