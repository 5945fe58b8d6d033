use Rattle.cube_build.proofs.CounterShareLaws.{ArePutSoFar}
use Rattle.cube_build.proofs.counter_shares.put_together.Given as goal

abbrev pub invariant-loop-counter : goal.invariant-loop-counter
invariant-loop-counter g l = ArePutSoFar l.fn.counters.items l.counter-iterator.rest.items l.whole
