use Rattle.std.proofs.Common.{◌≡◌, ◌++◌, rules, FitsSigned}
use Rattle.std.specs.Int.{w128}
use Rattle.std.proofs.lemmas.Int.{to_z-of_z}
use Rattle.cube_core.specs.Text.{signed_units_text}
use Rattle.cube_lines.proofs.ParseLaws.{plain-ends}
use Rattle.cube_lines.proofs.TextLaws.{plain-signed_units}
use Rattle.cube_lines.proofs.parse.whole_answer.Goals as goal

pub returns : goal.returns
returns c =
    let k = c.args.digits in
    let z = c.in_ok-number.number in
    let fits : FitsSigned w128 z = search rules in
    let is : c.args.text.now ≡ signed_units_text k z ++ c.in_ok-number.end.now = search rules in
    rw (to_z-of_z w128 z fits)
    (plain-ends c.args.text.now (signed_units_text k z) c.in_ok-number.end.now c.in_ok-after.field-0.now
    (plain-signed_units k z) is (search rules))
