use Rattle.std.proofs.Common.{◌≡◌, ◌++◌, ◌∷◌, refl, rules}
use Rattle.cube_core.specs.Text.{values_text}
use Rattle.cube_lines.proofs.ParseLaws.{plain-ends}
use Rattle.cube_lines.proofs.ValuesLaws.{plain-values}
use Rattle.cube_lines.proofs.values_parse.values_answer.Goals as goal

pub returns : goal.returns
returns c =
    let k = c.args.digits in
    let held = c.parse_values.new.held.items in
    let rest = c.in-Some-2.rest.now in
    let read : c.args.text.now ≡ values_text k held ++ 44 ∷ rest = search rules in
    rw c.from_vec-2.ensures
    (plain-ends c.args.text.now (values_text k held) (44 ∷ rest) rest (plain-values k held) read refl)
