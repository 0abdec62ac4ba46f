-- A size from the highest level on holds nothing; below it, what is found is counted.
use Rattle.spectrum.proofs.Finding.{above_none, above_found}
use native.Mathlib.Omega.{arith}
use mathlib.Core.Path.{refl}
use Rattle.spectrum.proofs.counting.points_above.Goals as goal

pub returns-then-most-size : goal.returns-then-most-size
returns-then-most-size c = (refl, above_none c.requires.1.0 c.if-most-size.true)

pub returns : goal.returns
returns c =
    let below = c.if-most-size.false in
    let small = c.requires.1.1 in
    let found = c.find_size in
    (found.ensures.0, above_found (omega arith) found.new.second found.ensures.1 c.count_found.ensures)
