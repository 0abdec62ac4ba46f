-- The loop's invariant: the rows above have no foreground pixel.
use Rattle.spectrum.proofs.BlankLaws.{in_row}
use Rattle.basics.specs.Sums.{sum}
use mathlib.Core.Path.{◌≡◌}
use Rattle.spectrum.proofs.blank.is_blank.Given as goal

abbrev pub invariant-loop-row : goal.invariant-loop-row
invariant-loop-row l = sum l.row (in_row l.width l.height l.sheet) ≡ 0
