use Rattle.std.proofs.Common.{◌≡◌, ◌++◌, ◌∷◌, [], rules}
use Rattle.cube_core.specs.Text.{values_text}
use Rattle.cube_lines.proofs.TextLaws.{AddsParts-plain}
use Rattle.cube_lines.proofs.ValuesLaws.{plain-values}
use Rattle.cube_lines.proofs.text.push_held_values.Goals as goal

pub returns : goal.returns
returns c =
    let field = values_text c.args.digits c.args.held.now in
    let shown : c.push_values.new.text.items ≡ c.args.text.now.items ++ field = search rules in
    let end : c.push.new.self.items ≡ c.push_values.new.text.items ++ 44 ∷ [] = search rules in
    AddsParts-plain field c.args.text.now.items c.push.new.self.items (plain-values c.args.digits c.args.held.now)
    (rw shown at end)
