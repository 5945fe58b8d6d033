use Rattle.cube_core.specs.Answer.{values_held}
use Rattle.cube_values.proofs.HeldLaws.{IsDistinctCount-AreHeld}
use Rattle.cube_merge.proofs.values.distinct_count_of.Goals as goal

pub returns : goal.returns
returns c = IsDistinctCount-AreHeld (values_held c.args.listed.now) c.args.listed.now c.requires.in_order
