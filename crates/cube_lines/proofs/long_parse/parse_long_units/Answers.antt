use Rattle.std.proofs.Common.{◌≡◌, ◌<◌, ◌≤◌, ◌+◌, ◌*◌, ◌^◌, ◌++◌, ◌∷◌, ◌∙◌, ap, rules, arith, length, take, drop, sym}
use Rattle.std.proofs.lemmas.List.{length-take-le}
use Rattle.cube_core.specs.Text.{padded}
use Rattle.cube_core.specs.Wide.{long_decimal}
use Rattle.cube_lines.proofs.ParseLaws.{from-place, if_some-weaker, pointed-begins}
use Rattle.cube_lines.proofs.LongUnitLaws.{long_behind, long_units-digits, long_units-whole}
use Rattle.cube_lines.proofs.long_parse.parse_long_units.Goals as goal

pub returns-then-digits-eq0 : goal.returns-then-digits-eq0
returns-then-digits-eq0 c =
    if_some-weaker c.parse_wide.result _ _
    (λ read is. is ∙ ap (λ t. t ++ read.1.now) (sym (long_units-whole c.args.digits read.0 c.if-digits-eq0.true)))
    c.parse_wide.ensures

pub returns : goal.returns
returns c =
    let k = c.args.digits in
    let text = c.args.text.now in
    let front = c.in-Some.front in
    let point = c.in-Some.point.now in
    let fraction = c.in_ok-fraction.fraction.now in
    let last = c.in_ok-last.last in
    let number = c.in_ok-number.number in
    let one : text ≡ long_decimal front ++ point = search rules in
    let two : point ≡ 46 ∷ fraction = search rules in
    let long : k ≤ length fraction = rw c.from-count.ensures at c.in_ok-last.ensures.long in
    let digits = rw c.from-count.ensures at c.in_ok-last.ensures.digits in
    let small : last < 10 ^ 64 = search (rules, arith) in
    let times : c.in_ok-checked_times.field-0 ≡ front * c.long_power_of_ten.result = search rules in
    let number_is : number ≡ front * 10 ^ k + last =
    c.in_ok-number.ensures
    ∙ ap (λ x. x + c.of.result) (times ∙ ap (λ m. front * m) c.long_power_of_ten.ensures.value)
    ∙ ap (λ x. front * 10 ^ k + x) c.of.ensures in
    let behind : padded (k + 1) (long_decimal number) ≡ long_decimal front ++ take k fraction =
    long_behind k front last number (take k fraction) (length-take-le k fraction long) small digits number_is in
    rw (long_units-digits k number c.if-digits-eq0.false)
    (pointed-begins k text (long_decimal front) point fraction (long_decimal number) _ one two long behind
    (from-place fraction c.from-count.result ∙ ap (λ i. drop i fraction) c.from-count.ensures))
