use Rattle.std.proofs.Common.{ℤ, ℕ, pos, ◌≡◌, ◌-◌, ◌*◌, ◌^◌, ◌≤◌, ◌<◌, ◌*ℤ◌, arith, sym, subst, rules, FitsSigned, w64, to_z, of_z}
use Rattle.std.specs.Int.{w128}
use Rattle.std.specs.Int.RustNames.{unsigned_abs}
use Rattle.std.proofs.lemmas.Int.{ints, to_z-of_z, fits_signed_mul}
use Rattle.cube_values.proofs.HeldLaws.{product-bound}
use Rattle.cube_values.proofs.held.pair_total.Goals as goal

pub returns-clause-bound : goal.returns-clause-bound
returns-clause-bound c =
    let pair : ℤ × ℕ = c.args.pair in
    let fits : FitsSigned w64 pair.0 = search rules in
    let few : pair.1 < 2 ^ 64 = search rules in
    let first : c.from.result ≡ pair.0 = search (rules, to_z-of_z) in
    let product : FitsSigned w128 (c.from.result *ℤ c.from-2.result) =
    fits_signed_mul w128 c.from.result c.from-2.result (2 ^ 63) (2 ^ 64 - 1) (omega (arith, ints, fits, first))
    (omega (arith, ints, few, c.from-2.ensures)) (omega arith) in
    let value : to_z w128 (of_z w128 (to_z w128 (of_z w128 c.from.result) *ℤ to_z w128 (of_z w128 c.from-2.result)))
    ≡ pair.0 *ℤ pos pair.1 = search (rules, to_z-of_z) in
    subst (λ (z : ℤ). unsigned_abs z ≤ 2 ^ 63 * pair.1) (sym value) (product-bound pair.0 pair.1 fits)
