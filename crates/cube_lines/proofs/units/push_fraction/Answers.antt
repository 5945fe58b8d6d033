use Rattle.std.proofs.Common.{◌≡◌, ◌++◌, ◌∷◌, [], ◌∙◌, ap, decimal, rules, OnOk}
use Rattle.std.specs.Fmt.{signed_decimal}
use Rattle.std.proofs.lemmas.Result.{on_ok_weaker}
use Rattle.cube_core.specs.Text.{fraction_text}
use Rattle.cube_lines.proofs.UnitTextLaws.{three-parts}
use Rattle.cube_lines.proofs.units.push_fraction.Goals as goal

pub returns : goal.returns
returns c =
    let old = c.args.text.now.items in
    let p = c.scaled-numerator.result.0 in
    let q = c.scaled-numerator.result.1 in
    let first : c.push_whole.new.text.items ≡ old ++ signed_decimal p = search rules in
    let slash : c.push.new.self.items ≡ c.push_whole.new.text.items ++ 47 ∷ [] = search rules in
    let q_is : c.as_bytes.result.now ≡ decimal q = c.as_bytes.ensures.value ∙ c.format.ensures.text in
    let last : OnOk c.extend_from_slice.result
    (c.extend_from_slice.new.self.items ≡ c.push.new.self.items ++ c.as_bytes.result.now) = search rules in
    on_ok_weaker c.extend_from_slice.result
    (λ end. three-parts 47 old (signed_decimal p) (decimal q) (fraction_text c.args.digits c.args.p c.args.q) _ _ _
    first slash
    (end ∙ ap (λ t. c.push.new.self.items ++ t) q_is) (search rules))
    last
