use Rattle.std.proofs.Common.{◌≡◌, ◌++◌, ◌∷◌, [], rules, FitsSigned}
use Rattle.std.specs.Int.{w128}
use Rattle.std.proofs.lemmas.Int.{to_z-of_z}
use Rattle.cube_core.specs.Text.{fraction_text}
use Rattle.cube_lines.proofs.TextLaws.{AddsParts-plain, plain-fraction_text}
use Rattle.cube_lines.proofs.text.push_mean.Goals as goal

pub returns : goal.returns
returns c =
    let fits : FitsSigned w128 c.args.p = search rules in
    let shown : c.push_fraction.new.text.items ≡ c.args.text.now.items ++ fraction_text c.args.digits c.args.p c.args.q =
    search (rules, to_z-of_z) in
    let end : c.push.new.self.items ≡ c.push_fraction.new.text.items ++ 44 ∷ [] = search rules in
    AddsParts-plain (fraction_text c.args.digits c.args.p c.args.q) c.args.text.now.items c.push.new.self.items
    (plain-fraction_text c.args.digits c.args.p c.args.q) (rw shown at end)
