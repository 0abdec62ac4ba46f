-- The loop's invariant: the first columns are worked, two for each pair, and the local is the level worked last.
use Prim.Native.Nat.{◌*◌}
use Rattle.row.proofs.Own.{Near}
use Rattle.row.proofs.by_nearest.Given as goal

abbrev pub invariant-loop-pair : goal.invariant-loop-pair
invariant-loop-pair l = Near l.upward l.width l.beyond (2 * l.pair) l.near l.initial.worked l.worked
