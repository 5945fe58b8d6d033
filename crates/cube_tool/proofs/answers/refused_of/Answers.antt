use Rattle.std.proofs.Common.{◌∙◌, ap}
use Rattle.cube_build.specs.Counting.{refusals_in}
use Rattle.cube_tool.proofs.answers.refused_of.Goals as goal

pub returns : goal.returns
returns c = c.refused.ensures.refusals ∙ ap refusals_in c.first_builder.ensures
