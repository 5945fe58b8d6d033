use Rattle.std.proofs.Common.{drop}
use Rattle.cube_build.proofs.FillLaws.{IsFilling}
use Rattle.cube_build.proofs.parted.add_all.Given as goal

abbrev pub invariant-loop-fact : goal.invariant-loop-fact
invariant-loop-fact l = IsFilling l.facts (drop l.fact-index l.facts) l.initial.cube l.cube
