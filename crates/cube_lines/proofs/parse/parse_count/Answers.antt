use Rattle.std.proofs.Common.{◌≡◌, ◌∙◌, ◌∷◌, rules}
use Rattle.cube_lines.proofs.ParseLaws.{digit-begins, if_some-weaker}
use Rattle.cube_lines.proofs.parse.parse_count.Goals as goal

pub returns-in-0 : goal.returns-in-0
returns-in-0 c =
    let is : c.args.text.now ≡ c.in_ok-first.first.now ∷ c.in_ok-first.rest.now = search rules in
    digit-begins c.args.text.now c.in_ok-first.rest.now c.in_ok-first.first.now 0 is (search rules) (search rules)

pub returns-in_default : goal.returns-in_default
returns-in_default c =
    let is : c.args.text.now ≡ c.in_ok-first.first.now ∷ c.in_ok-first.rest.now = search rules in
    let begins = digit-begins c.args.text.now c.in_ok-first.rest.now c.in_ok-first.first.now c.in_ok-digit.digit is
    c.in_ok-digit.ensures.digit c.in_ok-digit.ensures.small in
    if_some-weaker c.more_of_count.result _ _ (λ read more. begins ∙ more)
    (rw c.from.ensures at c.more_of_count.ensures)
