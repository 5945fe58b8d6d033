use Rattle.std.proofs.Common.{◌≡◌, ◌+◌, ◌*◌, ◌^◌, ◌∙◌, ap, arith}
use Rattle.cube_core.proofs.WideLaws.{multiple_of_digits, multiple_is_long}
use Rattle.cube_core.proofs.wide.Wide.checked_times.Goals as goal

pub returns-in_err-high : goal.returns-in_err-high
returns-in_err-high c =
    let upper : c.in_ok-upper.upper ≡ c.self.inside.high * c.args.factor + c.low.inside.high =
    omega (arith, c.in_ok-upper.ensures, c.product.ensures, c.of.ensures) in
    rw c.from_residual-in_err-high.ensures
    (omega (
      arith,
      multiple_is_long (2 ^ 128) c.self.inside.high c.self.inside.low c.args.factor c.low.inside.high c.low.inside.low
          c.args.self c.self.view_is (c.low.view_is ∙ c.product-low.ensures)
          (omega (arith, upper, c.in_err-high.ensures)),
    ))

pub returns : goal.returns
returns c =
    let high : c.in_ok-high.high ≡ c.self.inside.high * c.args.factor + c.low.inside.high =
    omega (arith, c.in_ok-high.ensures, c.in_ok-upper.ensures, c.product.ensures, c.of.ensures) in
    ap (λ k. k * 2 ^ 128 + c.low.inside.low) high
    ∙ multiple_of_digits (2 ^ 128) c.self.inside.high c.self.inside.low c.args.factor c.low.inside.high c.low.inside.low
    c.args.self c.self.view_is (c.low.view_is ∙ c.product-low.ensures)
