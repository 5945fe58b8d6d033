use Rattle.std.proofs.Common.{◌∙◌}
use Rattle.cube_feed.proofs.PlainFieldLaws.{list_all-digits}
use Rattle.cube_feed.proofs.units.are_digits.Goals as goal

pub returns : goal.returns
returns c = c.is_each_digit.ensures ∙ list_all-digits c.args.text.now
