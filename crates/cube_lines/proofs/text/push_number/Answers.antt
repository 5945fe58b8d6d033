use Rattle.std.proofs.Common.{◌≡◌, ◌++◌, ◌∷◌, [], rules, FitsSigned}
use Rattle.std.specs.Int.{w128}
use Rattle.std.proofs.lemmas.Int.{to_z-of_z}
use Rattle.cube_core.specs.Text.{signed_units_text}
use Rattle.cube_lines.proofs.TextLaws.{AddsParts-plain, plain-signed_units}
use Rattle.cube_lines.proofs.text.push_number.Goals as goal

pub returns : goal.returns
returns c =
    let fits : FitsSigned w128 c.args.value = search rules in
    let shown : c.push_units.new.text.items ≡ c.args.text.now.items ++ signed_units_text c.args.digits c.args.value =
    search (rules, to_z-of_z) in
    let end : c.push.new.self.items ≡ c.push_units.new.text.items ++ 44 ∷ [] = search rules in
    AddsParts-plain (signed_units_text c.args.digits c.args.value) c.args.text.now.items c.push.new.self.items
    (plain-signed_units c.args.digits c.args.value) (rw shown at end)
