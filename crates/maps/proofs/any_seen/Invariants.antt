-- From each row on, a size is above the cap exactly where one is at all.
use Rattle.basics.specs.Bounds.{any_above}
use Rattle.maps.specs.Maps.{sizes_seen}
use Rattle.maps.specs.Raising.{above_from}
use Prim.Native.Nat.{◌*◌}
use mathlib.Core.Path.{◌≡◌}
use Rattle.maps.proofs.any_seen.Given as goal

abbrev pub invariant-loop-row : goal.invariant-loop-row
invariant-loop-row l =
    above_from l.cap (sizes_seen l.input l.sheet l.map) (l.row * l.input.width) ≡ any_above l.cap (sizes_seen l.input l.sheet l.map)
