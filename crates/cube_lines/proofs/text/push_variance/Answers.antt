use Rattle.std.proofs.Common.{◌≡◌, ◌*◌, ◌/◌, ◌^◌, ◌++◌, ◌∷◌, [], rules}
use Rattle.cube_core.specs.Text.{common_with_ten, long_fraction_text}
use Rattle.cube_lines.proofs.TextLaws.{AddsParts-plain, plain-long_fraction}
use Rattle.cube_lines.proofs.text.push_variance.Goals as goal

pub returns : goal.returns
returns c =
    let k = 2 * c.args.digits in
    let common = common_with_ten k c.args.p in
    let field = long_fraction_text k c.args.p c.args.q in
    let shown : c.push_long_fraction.new.text.items ≡ c.args.text.now.items ++ field = search rules in
    let end : c.push.new.self.items ≡ c.push_long_fraction.new.text.items ++ 44 ∷ [] = search rules in
    AddsParts-plain field c.args.text.now.items c.push.new.self.items
    (plain-long_fraction (c.args.p / common) (c.args.q * (10 ^ k / common))) (rw shown at end)
