use Rattle.std.proofs.Common.{◌≡◌, ◌*◌, ◌++◌, rules}
use Rattle.cube_core.specs.Text.{long_units_text}
use Rattle.cube_lines.proofs.ParseLaws.{plain-ends}
use Rattle.cube_lines.proofs.TextLaws.{plain-long_units}
use Rattle.cube_lines.proofs.long_parse.squares_answer.Goals as goal

pub returns : goal.returns
returns c =
    let k = 2 * c.args.digits in
    let n = c.in_ok-squares.squares in
    let is : c.args.text.now ≡ long_units_text k n ++ c.in-Some.end.now = search rules in
    plain-ends c.args.text.now (long_units_text k n) c.in-Some.end.now c.in_ok-after.field-0.now
    (plain-long_units k n) is (search rules)
