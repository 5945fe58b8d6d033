use Rattle.std.proofs.Common.{◌≡◌, ◌<◌, ◌-◌, ◌^◌, ◌++◌, ◌∙◌, ap, arith, rules, decimal, length, replicate}
use Rattle.std.proofs.Common.{append_assoc, OnOk}
use Rattle.std.proofs.lemmas.Result.{on_ok_weaker}
use Rattle.cube_core.specs.Text.{padded}
use Rattle.cube_lines.proofs.LongUnitLaws.{decimal-within, last-padded}
use Rattle.cube_lines.proofs.long_units.push_last_digits.Goals as goal

pub overflow_sub-count : goal.overflow_sub-count
overflow_sub-count c =
    let small : c.args.value < 10 ^ 64 = omega (arith, c.ranges.value) in
    let shown : c.as_bytes-shown.result.now ≡ decimal c.args.value =
    c.as_bytes-shown.ensures.value ∙ c.format.ensures.text in
    omega (
      arith,
      ap length shown,
      decimal-within c.args.count c.args.value c.requires.some c.requires.fits small,
    )

pub returns : goal.returns
returns c =
    let old = c.args.text.now.items in
    let count = c.args.count in
    let value = c.args.value in
    let small : value < 10 ^ 64 = omega (arith, c.ranges.value) in
    let shown : c.as_bytes-shown.result.now ≡ decimal value =
    c.as_bytes-shown.ensures.value ∙ c.format.ensures.text in
    let first : c.push_zeros.new.text.items ≡ old ++ replicate (count - length c.as_bytes-shown.result.now) 48 =
    search rules in
    let last :
    OnOk c.extend_from_slice.result
    (c.extend_from_slice.new.self.items ≡ c.push_zeros.new.text.items ++ c.as_bytes-shown.result.now) = search rules in
    on_ok_weaker c.extend_from_slice.result
    (λ end. end ∙ ap (λ t. t ++ c.as_bytes-shown.result.now) first
    ∙ append_assoc old (replicate (count - length c.as_bytes-shown.result.now) 48) c.as_bytes-shown.result.now
    ∙ ap (λ t. old ++ padded count t) shown
    ∙ ap (λ t. old ++ t) (last-padded count value c.requires.some c.requires.fits small)) last
