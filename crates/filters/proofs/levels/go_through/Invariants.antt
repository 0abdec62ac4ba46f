-- The loop's invariant: the first k sizes are gone through.
use Rattle.filters.proofs.LevelRounds.{Steps}
use Rattle.filters.proofs.levels.go_through.Given as goal

abbrev pub invariant-loop-k : goal.invariant-loop-k
invariant-loop-k l = Steps l.plan l.sound.run l.first l.count l.k l.second l.out
