use Rattle.std.proofs.Common.{◌<◌, ◌^◌, take}
use Rattle.cube_core.specs.Merged.{MakesAnswer}
use Rattle.cube_core.specs.declared.aggregate.Agg.TheVariants.{SumOfSquares}
use Rattle.cube_merge.specs.Lawful.{squares_answered}
use Rattle.cube_merge.proofs.gather.squares_of.Given as goal

abbrev pub invariant-loop-place : goal.invariant-loop-place
invariant-loop-place l = record {
  made : MakesAnswer (SumOfSquares 0) (take l.place l.answers) l.made;
  fits : squares_answered l.made < 2 ^ 192;
}
