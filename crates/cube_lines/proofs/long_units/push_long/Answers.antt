use Rattle.std.proofs.Common.{◌≡◌, ◌<◌, ◌^◌, ◌++◌, ◌∙◌, ap, sym, arith, rules, OnOk}
use Rattle.std.proofs.lemmas.Result.{on_ok_weaker}
use Rattle.cube_core.specs.Wide.{long_decimal}
use Rattle.cube_core.proofs.LongDecimalLaws.{long_decimal_is_decimal}
use Rattle.cube_lines.proofs.long_units.push_long.Goals as goal

pub returns-in-Some : goal.returns-in-Some
returns-in-Some c =
    let old = c.args.text.now.items in
    let short = c.in-Some.short in
    let small : short < 10 ^ 64 = search (rules, arith) in
    let last : OnOk c.extend_from_slice.result (c.extend_from_slice.new.self.items ≡ old ++ c.as_bytes.result.now) =
    search rules in
    on_ok_weaker c.extend_from_slice.result
    (λ end. end ∙ ap (λ t. old ++ t) (c.as_bytes.ensures.value ∙ c.format.ensures.text
    ∙ sym (long_decimal_is_decimal short small) ∙ ap long_decimal c.in-Some.ensures)) last
