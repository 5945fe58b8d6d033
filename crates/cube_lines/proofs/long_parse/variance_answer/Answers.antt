use Rattle.std.proofs.Common.{◌≡◌, ◌*◌, ◌++◌, ◌∷◌, ◌∙◌, ap, sym, rules, codes, false}
use Rattle.csv.specs.Writing.{default_writer, needs_quotes}
use Rattle.cube_core.specs.Text.{long_fraction_text}
use Rattle.cube_core.specs.Wide.{long_decimal}
use Rattle.cube_lines.proofs.ParseLaws.{parted-begins, plain-ends}
use Rattle.cube_lines.proofs.TextLaws.{plain-long_fraction}
use Rattle.cube_lines.proofs.long_parse.variance_answer.Goals as goal

pub returns : goal.returns
returns c =
    let text = c.args.text.now in
    let p = c.in-Some.p in
    let q = c.in-Some-parse_wide.q in
    let units = long_fraction_text (2 * c.args.digits) c.in_ok-p.p c.in_ok-p.q in
    let end = c.in-Some-parse_wide.end.now in
    let one : text ≡ long_decimal p ++ c.in-Some.slash.now = search rules in
    let two : c.in-Some.slash.now ≡ 47 ∷ c.in_ok-after.field-0.now = search rules in
    let three : c.in_ok-after.field-0.now ≡ long_decimal q ++ end = search rules in
    let begins = parted-begins 47 text (long_decimal p) c.in-Some.slash.now c.in_ok-after.field-0.now
    (long_decimal q) end one two three in
    let is : long_decimal p ++ codes "/" ++ long_decimal q ≡ units = search rules in
    let plain : needs_quotes default_writer units ≡ false =
    ap (needs_quotes default_writer) (sym is) ∙ plain-long_fraction p q in
    plain-ends text units end c.in_ok-after-2.field-0.now plain (begins ∙ ap (λ t. t ++ end) is) (search rules)
