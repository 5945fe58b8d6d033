use Rattle.std.proofs.Common.{take}
use Rattle.cube_core.specs.Merged.{MakesAnswer}
use Rattle.cube_core.specs.declared.aggregate.Agg.TheVariants.{Max}
use Rattle.cube_merge.proofs.gather.greatest_of.Given as goal

abbrev pub invariant-loop-place : goal.invariant-loop-place
invariant-loop-place l = MakesAnswer (Max 0) (take l.place l.answers) l.made
