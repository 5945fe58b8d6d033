use Rattle.std.proofs.Common.{◌≡◌, ◌++◌, ◌∙◌, ◌^◌, ◌<◌, ap, sym, rules, arith, decimal}
use Rattle.cube_core.proofs.LongDecimalLaws.{long_decimal_is_decimal}
use Rattle.cube_lines.proofs.long_parse.parse_wide.Goals as goal

pub returns-in-Some : goal.returns-in-Some
returns-in-Some c =
    let size = c.in-Some.size in
    let rest = c.in-Some.rest.now in
    let small : size < 10 ^ 64 = search (rules, arith) in
    let is : c.args.text.now ≡ decimal size ++ rest = search rules in
    rw c.of.ensures (is ∙ ap (λ t. t ++ rest) (sym (long_decimal_is_decimal size small)))
