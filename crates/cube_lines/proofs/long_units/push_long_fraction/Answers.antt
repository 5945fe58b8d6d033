use Rattle.std.proofs.Common.{◌≡◌, ◌++◌, ◌∷◌, [], rules}
use Rattle.std.proofs.lemmas.Result.{on_ok_weaker}
use Rattle.cube_core.specs.Text.{long_fraction_text}
use Rattle.cube_core.specs.Wide.{long_decimal}
use Rattle.cube_lines.proofs.UnitTextLaws.{three-parts}
use Rattle.cube_lines.proofs.long_units.push_long_fraction.Goals as goal

pub returns : goal.returns
returns c =
    let old = c.args.text.now.items in
    let p = c.long_scaled-numerator.result.0 in
    let q = c.long_scaled-numerator.result.1 in
    let first : c.push_long.new.text.items ≡ old ++ long_decimal p = search rules in
    let slash : c.push.new.self.items ≡ c.push_long.new.text.items ++ 47 ∷ [] = search rules in
    on_ok_weaker c.push_long-2.result
    (λ end. three-parts 47 old (long_decimal p) (long_decimal q)
    (long_fraction_text c.args.digits c.args.p c.args.q) _ _ _ first slash end c.long_scaled-numerator.ensures)
    c.push_long-2.ensures
