use Rattle.cube_live.proofs.OpeningLaws.{ArePutSoFar}
use Rattle.cube_live.proofs.opening.put_together.Given as goal

abbrev pub invariant-loop-opening : goal.invariant-loop-opening
invariant-loop-opening l = ArePutSoFar l.schema l.fn.openings.items l.yielded l.opening-iterator.rest.items l.whole
