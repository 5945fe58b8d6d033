use Rattle.std.proofs.Common.{take}
use Rattle.cube_core.specs.Merged.{MakesAnswer}
use Rattle.cube_core.specs.declared.aggregate.Agg.TheVariants.{Min}
use Rattle.cube_merge.proofs.gather.least_of.Given as goal

abbrev pub invariant-loop-place : goal.invariant-loop-place
invariant-loop-place l = MakesAnswer (Min 0) (take l.place l.answers) l.made
