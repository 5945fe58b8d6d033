use Rattle.std.proofs.Common.{◌≡◌, ◌*◌, ◌/◌, ◌%◌, ◌^◌, ◌++◌, ◌∙◌, ap, codes}
use Rattle.cube_core.specs.Text.{common_with_ten}
use Rattle.cube_core.specs.Wide.{long_decimal}
use Rattle.cube_lines.proofs.ScaleLaws.{common_with_ten-rest}
use Rattle.cube_lines.proofs.long_scale.long_scaled.Goals as goal

pub returns : goal.returns
returns c =
    let k = c.args.digits in
    let p = c.args.p in
    let q = c.args.q in
    let power = c.long_power_of_ten-power.result in
    let power_is = c.long_power_of_ten-power.ensures.value in
    let common : c.common_with_ten-common.result ≡ common_with_ten k p =
    c.common_with_ten-common.ensures.value ∙ ap (common_with_ten k) (c.rest.ensures ∙ ap (λ m. p % m) power_is)
    ∙ common_with_ten-rest k p in
    ap (λ x. long_decimal x ++ codes "/" ++ long_decimal c.product.result)
    (c.quotient.ensures ∙ ap (λ m. p / m) common)
    ∙ ap (λ x. long_decimal (p / common_with_ten k p) ++ codes "/" ++ long_decimal x)
    (c.product.ensures ∙ ap (λ m. q * (m / c.common_with_ten-common.result)) power_is
    ∙ ap (λ m. q * (10 ^ k / m)) common)
