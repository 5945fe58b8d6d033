use Rattle.std.proofs.Common.{◌≡◌, ◌*◌, ◌^◌, ◌<◌, rules, sym, ◌∙◌, ap, subst, arith}
use Rattle.cube_core.proofs.WideLaws.{multiple_of_digits, multiple_fits}
use Rattle.cube_core.proofs.wide.Wide.times.Goals as goal

pub overflow_mul-result : goal.overflow_mul-result
overflow_mul-result c =
    let same : c.from-factor.result ≡ c.args.factor = search rules in
    let small : c.args.self * c.from-factor.result < 2 ^ 128 * 2 ^ 128
    = subst (λ k. c.args.self * k < 2 ^ 256) (sym same) c.requires in
    omega (
      arith,
      multiple_fits (2 ^ 128) c.self.inside.high c.self.inside.low c.from-factor.result
          0 (c.self.inside.low * c.from-factor.result) c.args.self (omega arith) c.self.view_is (omega arith) small,
    )

pub overflow_add-result : goal.overflow_add-result
overflow_add-result c =
    let same : c.from-factor.result ≡ c.args.factor = search rules in
    let small : c.args.self * c.from-factor.result < 2 ^ 128 * 2 ^ 128
    = subst (λ k. c.args.self * k < 2 ^ 256) (sym same) c.requires in
    omega (
      arith,
      multiple_fits (2 ^ 128) c.self.inside.high c.self.inside.low c.from-factor.result
          c.low.inside.high c.low.inside.low c.args.self (omega arith) c.self.view_is
          (c.low.view_is ∙ c.product-low.ensures) small,
    )

pub returns : goal.returns
returns c =
    let same : c.from-factor.result ≡ c.args.factor = search rules in
    multiple_of_digits (2 ^ 128) c.self.inside.high c.self.inside.low c.from-factor.result
    c.low.inside.high c.low.inside.low c.args.self c.self.view_is (c.low.view_is ∙ c.product-low.ensures)
    ∙ ap (λ k. c.args.self * k) same
