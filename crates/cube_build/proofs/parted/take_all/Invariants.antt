use Rattle.cube_build.proofs.PartedLaws.{IsTaking}
use Rattle.cube_build.proofs.parted.take_all.Given as goal

abbrev pub invariant-loop-fact : goal.invariant-loop-fact
invariant-loop-fact l = IsTaking l.facts l.fact-index l.initial.cube l.cube
