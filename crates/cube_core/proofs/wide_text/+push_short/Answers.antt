use Rattle.std.proofs.Common.{◌≡◌, ◌+◌, ◌/◌, ◌%◌, [], ◌∷◌, ◌++◌, sym, ◌∙◌, ap, rules}
use Rattle.std.proofs.lemmas.Result.{on_ok_weaker}
use Rattle.cube_core.specs.Wide.{long_decimal}
use Rattle.cube_core.proofs.LongDecimalLaws.{long_decimal_digit, long_decimal_step, joined_pieces}
use Rattle.cube_core.proofs.wide_text.+push_short.Goals as goal

pub returns-then-number-lt10 : goal.returns-then-number-lt10
returns-then-number-lt10 t c =
    let old = c.args.text.now.items in
    on_ok_weaker c.push_digit.result
    (λ end. end ∙ ap (λ digits. old ++ digits) (sym (long_decimal_digit c.args.number c.if-number-lt10.true)))
    c.push_digit.ensures

pub returns : goal.returns
returns t c =
    let old = c.args.text.now.items in
    let n = c.args.number in
    let first : c.push_short.new.text.items ≡ old ++ long_decimal (n / 10) = search rules in
    on_ok_weaker c.push_digit-2.result
    (λ end. joined_pieces old (long_decimal (n / 10)) ((48 + n % 10) ∷ []) (long_decimal n) _ _
    first end (sym (long_decimal_step n c.if-number-lt10.false)))
    c.push_digit-2.ensures
