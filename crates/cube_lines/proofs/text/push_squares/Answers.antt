use Rattle.std.proofs.Common.{◌≡◌, ◌*◌, ◌++◌, ◌∷◌, [], rules}
use Rattle.cube_core.specs.Text.{long_units_text}
use Rattle.cube_lines.proofs.TextLaws.{AddsParts-plain, plain-long_units}
use Rattle.cube_lines.proofs.text.push_squares.Goals as goal

pub returns : goal.returns
returns c =
    let field = long_units_text (2 * c.args.digits) c.args.squares in
    let shown : c.push_long_units.new.text.items ≡ c.args.text.now.items ++ field = search rules in
    let end : c.push.new.self.items ≡ c.push_long_units.new.text.items ++ 44 ∷ [] = search rules in
    AddsParts-plain field c.args.text.now.items c.push.new.self.items
    (plain-long_units (2 * c.args.digits) c.args.squares) (rw shown at end)
