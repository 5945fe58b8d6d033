use Rattle.std.proofs.Common.{◌≡◌, ◌+◌, ◌*◌, ◌^◌, ◌<◌, ◌++◌, sym, arith, rules}
use Rattle.std.proofs.lemmas.Result.{on_ok_weaker}
use Rattle.cube_core.specs.Wide.{last_digits, long_decimal}
use Rattle.cube_core.proofs.LongDecimalLaws.{long_decimal_split, joined_pieces}
use Rattle.cube_core.proofs.wide_text.+push_decimal.Goals as goal

pub returns-in_ok-push_decimal-in-None : goal.returns-in_ok-push_decimal-in-None
returns-in_ok-push_decimal-in-None t c =
    let old = c.args.text.now.items in
    let n = c.args.number in
    let front = c.divided-front.result.0 in
    let last = c.divided-front.result.1 in
    let first : c.push_decimal.new.text.items ≡ old ++ long_decimal front = search rules in
    let some : 0 < front = omega (arith, c.divided-front.ensures.quotient, c.in-None.ensures) in
    let fits : last < 10 ^ 38 = omega (arith, c.divided-front.ensures.rest) in
    let whole : n ≡ front * 10 ^ 38 + last = omega (arith, c.divided-front.ensures.quotient, c.divided-front.ensures.rest) in
    on_ok_weaker c.push_places.result
    (λ end. joined_pieces old (long_decimal front) (last_digits 38 last) (long_decimal n) _ _
    first end (sym (long_decimal_split 38 front last n some fits whole)))
    c.push_places.ensures
