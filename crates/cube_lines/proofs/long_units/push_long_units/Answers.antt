use Rattle.std.proofs.Common.{◌≡◌, ◌+◌, ◌*◌, ◌%◌, ◌^◌, ◌<◌, ◌++◌, ◌∷◌, [], ◌∙◌, ap, sym, arith, rules}
use Rattle.std.proofs.lemmas.Nat.{div-add-mod', mod_below}
use Rattle.std.proofs.lemmas.Result.{on_ok_weaker}
use Rattle.cube_core.specs.Text.{long_units_text}
use Rattle.cube_core.specs.Wide.{last_digits, long_decimal}
use Rattle.cube_lines.proofs.LongUnitLaws.{long_units-pointed, long_units-whole}
use Rattle.cube_lines.proofs.UnitTextLaws.{three-parts}
use Rattle.cube_lines.proofs.long_units.push_long_units.Goals as goal

pub returns-then-digits-eq0 : goal.returns-then-digits-eq0
returns-then-digits-eq0 c =
    rw (long_units-whole c.args.digits c.args.value c.if-digits-eq0.true) c.push_long.ensures

pub push_last_digits-requires-clause-fits : goal.push_last_digits-requires-clause-fits
push_last_digits-requires-clause-fits c =
    let power = c.long_power_of_ten.result in
    let same : c.from.result ≡ c.args.digits = search rules in
    let below = mod_below c.args.value power c.long_power_of_ten.ensures.positive in
    rw same
    (omega (
      arith,
      c.divided-front.ensures.rest,
      c.long_power_of_ten.ensures.value,
      below,
    ))

pub returns : goal.returns
returns c =
    let old = c.args.text.now.items in
    let k = c.args.digits in
    let n = c.args.value in
    let power = c.long_power_of_ten.result in
    let power_is = c.long_power_of_ten.ensures.value in
    let front = c.divided-front.result.0 in
    let last = c.divided-front.result.1 in
    let first : c.push_long-2.new.text.items ≡ old ++ long_decimal front = search rules in
    let point : c.push.new.self.items ≡ c.push_long-2.new.text.items ++ 46 ∷ [] = search rules in
    let below = mod_below n power c.long_power_of_ten.ensures.positive in
    let fits : last < 10 ^ k = omega (arith, c.divided-front.ensures.rest, power_is, below) in
    let whole : n ≡ front * power + last =
    sym (div-add-mod' n power) ∙ ap (λ x. x * power + n % power) (sym c.divided-front.ensures.quotient)
    ∙ ap (λ x. front * power + x) (sym c.divided-front.ensures.rest) in
    on_ok_weaker c.push_last_digits.result
    (λ end. three-parts 46 old (long_decimal front) (last_digits k last) (long_units_text k n) _ _ _ first point end
    (long_units-pointed k front last n c.if-digits-eq0.false fits (whole ∙ ap (λ x. front * x + last) power_is)))
    (rw c.from.ensures at c.push_last_digits.ensures)
