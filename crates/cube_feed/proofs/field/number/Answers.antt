use Rattle.cube_feed.proofs.NumberLaws.{ParsesSigned-number_of}
use Rattle.std.proofs.Common.{◌∙◌}
use Rattle.cube_feed.proofs.field.number.Goals as goal

pub returns : goal.returns
returns c = c.ok.ensures.value ∙ ParsesSigned-number_of c.args.text.now c.parse.result c.parse.ensures.value.0
