use Rattle.std.proofs.Common.{◌≡◌, ◌++◌, ◌∷◌, ◌∙◌, ap, rules, decimal, FitsSigned}
use Rattle.std.specs.Int.{w64}
use Rattle.std.proofs.lemmas.Int.{to_z-of_z}
use Rattle.cube_core.specs.Text.{held_text, signed_units_text}
use Rattle.cube_lines.proofs.ParseLaws.{parted-begins}
use Rattle.cube_lines.proofs.values_parse.parse_held.Goals as goal

pub returns : goal.returns
returns c =
    let k = c.args.digits in
    let text = c.args.text.now in
    let number = c.in_ok-number.number in
    let count = c.in_ok-count.count in
    let rest = c.in_ok-count.rest.now in
    let one : text ≡ signed_units_text k number ++ c.in_ok-number.star.now = search rules in
    let two : c.in_ok-number.star.now ≡ 42 ∷ c.in_ok-after.field-0.now = search rules in
    let three : c.in_ok-after.field-0.now ≡ decimal count ++ rest = search rules in
    let begins = parted-begins 42 text (signed_units_text k number) c.in_ok-number.star.now c.in_ok-after.field-0.now
    (decimal count) rest one two three in
    let value = c.in_ok-value.value in
    let fits : FitsSigned w64 value = search rules in
    let is : number ≡ value = search (rules, to_z-of_z) in
    rw (to_z-of_z w64 value fits) (begins ∙ ap (λ z. held_text k (z, count) ++ rest) is)
