use Rattle.std.proofs.Common.{◌≡◌, ◌++◌, ◌∙◌, ◌∷◌, rules, ap, sym}
use Rattle.cube_core.proofs.LongDecimalLaws.{long_decimal_digit}
use Rattle.cube_core.specs.Wide.{long_decimal}
use Rattle.cube_lines.proofs.ParseLaws.{if_some-weaker}
use Rattle.cube_lines.proofs.long_parse.parse_wider.Goals as goal

pub returns-in_default : goal.returns-in_default
returns-in_default c =
    let digit = c.in_ok-digit.digit in
    let is : c.args.text.now ≡ c.in_ok-first.first.now ∷ c.in_ok-first.rest.now = search rules in
    let begins : c.args.text.now ≡ long_decimal digit ++ c.in_ok-first.rest.now =
    is ∙ ap (λ b. b ∷ c.in_ok-first.rest.now) c.in_ok-digit.ensures.digit
    ∙ ap (λ t. t ++ c.in_ok-first.rest.now) (sym (long_decimal_digit digit c.in_ok-digit.ensures.small)) in
    if_some-weaker c.more_of_wide.result _ _ (λ read more. begins ∙ more)
    (rw (c.of.ensures, c.from.ensures) at c.more_of_wide.ensures)
