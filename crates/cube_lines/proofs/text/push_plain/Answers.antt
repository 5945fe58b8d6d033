use Rattle.std.proofs.Common.{rules}
use Rattle.cube_lines.proofs.TextLaws.{AddsParts-plain}
use Rattle.cube_lines.proofs.text.push_plain.Goals as goal

pub returns : goal.returns
returns c = AddsParts-plain c.args.field.now c.args.text.now.items c.push.new.self.items c.requires (search rules)
