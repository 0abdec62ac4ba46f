-- What was found before a column, or a size above the cap from there on: that is one from the begin of the row on.
use Rattle.maps.specs.Maps.{sizes_seen}
use Rattle.maps.specs.Raising.{above_from}
use Prim.Native.Nat.{◌+◌, ◌*◌}
use mathlib.Core.Path.{◌≡◌}
use mathlib.Core.Bool.{◌||◌}
use Rattle.maps.proofs.any_in_row.Given as goal

abbrev pub invariant-loop-col : goal.invariant-loop-col
invariant-loop-col l =
    l.found || above_from l.cap (sizes_seen l.input l.sheet l.map) (l.row * l.input.width + l.col)
    ≡ above_from l.cap (sizes_seen l.input l.sheet l.map) (l.row * l.input.width)
