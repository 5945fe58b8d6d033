use Rattle.std.proofs.Common.{◌∙◌}
use Rattle.cube_core.proofs.PlainLaws.{arranged-none, plain_in_order-same}
use Rattle.cube_laws.proofs.decimals.without_decimals_nothing_changes.Goals as goal

pub returns : goal.returns
returns c = record {
  arranged = plain_in_order-same;
  same = λ s fields none no_point no_texts.
      plain_in_order-same s fields none no_point ∙ arranged-none s fields no_texts;
}
