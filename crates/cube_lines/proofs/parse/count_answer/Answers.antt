use Rattle.std.proofs.Common.{◌≡◌, ◌++◌, rules, decimal}
use Rattle.cube_lines.proofs.ParseLaws.{plain-ends}
use Rattle.cube_lines.proofs.TextLaws.{plain-decimal}
use Rattle.cube_lines.proofs.parse.count_answer.Goals as goal

pub returns : goal.returns
returns c =
    let is : c.args.text.now ≡ decimal c.in_ok-count.count ++ c.in_ok-count.end.now = search rules in
    plain-ends c.args.text.now (decimal c.in_ok-count.count) c.in_ok-count.end.now c.in_ok-after.field-0.now
    (plain-decimal c.in_ok-count.count) is (search rules)
