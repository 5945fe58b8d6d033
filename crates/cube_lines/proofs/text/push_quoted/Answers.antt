use Rattle.std.proofs.Common.{rules}
use Rattle.cube_lines.proofs.TextLaws.{AddsParts-quoted}
use Rattle.cube_lines.proofs.text.push_quoted.Goals as goal

pub returns : goal.returns
returns c = AddsParts-quoted c.args.field.now c.args.text.now.items c.push-3.new.self.items c.requires (search rules)
