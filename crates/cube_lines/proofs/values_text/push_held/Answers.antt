use Rattle.std.proofs.Common.{◌≡◌, ◌++◌, ◌∷◌, [], ◌∙◌, ap, refl, rules, decimal, FitsSigned, OnOk}
use Rattle.std.specs.Int.{w64, w128}
use Rattle.std.proofs.lemmas.Int.{to_z-of_z}
use Rattle.std.proofs.lemmas.Result.{on_ok_weaker}
use Rattle.cube_core.specs.Text.{held_text, signed_units_text}
use Rattle.cube_lines.proofs.UnitTextLaws.{three-parts}
use Rattle.cube_lines.proofs.values_text.push_held.Goals as goal

pub returns : goal.returns
returns c =
    let k = c.args.digits in
    let old = c.args.text.now.items in
    let value = c.args.held.now.0 in
    let count = c.args.held.now.1 in
    let fits : FitsSigned w64 value = search rules in
    let is : c.from.result ≡ value = c.from.ensures ∙ to_z-of_z w64 value fits in
    let wide : FitsSigned w128 c.from.result = search rules in
    let first : c.push_units.new.text.items ≡ old ++ signed_units_text k value =
    c.in_ok-push_units.ensures
    ∙ ap (λ z. old ++ signed_units_text k z) (to_z-of_z w128 c.from.result wide ∙ is) in
    let star : c.push.new.self.items ≡ c.push_units.new.text.items ++ 42 ∷ [] = search rules in
    let before = c.push.new.self.items in
    let last :
    OnOk c.extend_from_slice.result (c.extend_from_slice.new.self.items ≡ before ++ c.as_bytes.result.now) =
    search rules in
    let shown : c.as_bytes.result.now ≡ decimal count = c.as_bytes.ensures.value ∙ c.format.ensures.text in
    on_ok_weaker c.extend_from_slice.result
    (λ end. three-parts 42 old (signed_units_text k value) (decimal count) (held_text k c.args.held.now) _ _ _
    first star (end ∙ ap (λ t. before ++ t) shown) refl) last
