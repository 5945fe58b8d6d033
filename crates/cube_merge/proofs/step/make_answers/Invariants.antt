use Rattle.cube_merge.specs.Joint.{rows_of}
use Rattle.cube_merge.specs.Made.{AreOrderly}
use Rattle.cube_merge.proofs.JointLaws.{AreMadeSoFar}
use Rattle.cube_merge.proofs.step.make_answers.Given as goal

abbrev pub invariant-loop-place : goal.invariant-loop-place
invariant-loop-place g l = record {
  made : AreMadeSoFar l.given (rows_of l.inputs l.places) l.made.items l.place;
  orderly : AreOrderly l.made.items;
}
