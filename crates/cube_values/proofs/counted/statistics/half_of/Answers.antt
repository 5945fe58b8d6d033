use Rattle.std.proofs.Common.{ℤ, ℕ, pos, ◌≡◌, ◌<◌, ◌^◌, ◌-◌, ◌/◌, ◌+ℤ◌, refl, ap, ◌∙◌, arith, rules, FitsSigned, w64}
use Rattle.std.proofs.lemmas.Int.{to_z-of_z}
use Rattle.cube_values.specs.Bag.{Bag}
use Rattle.cube_values.specs.Statistics.{size_up_to}
use Rattle.cube_values.specs.Values.{bag_of}
use Rattle.cube_values.proofs.StatisticsLaws.{FitsSigned-between, FitsSigned-next, middle_is, next_is}
use Rattle.cube_values.proofs.StatisticsLaws.{IsSpanOf-lower, IsSpanOf-upper}
use Rattle.cube_values.proofs.counted.statistics.half_of.Goals as goal

pub returns-then-place-up_to-clause-span : goal.returns-then-place-up_to-clause-span
returns-then-place-up_to-clause-span c =
    let bag : Bag = bag_of c.args.values.now in
    let low : ℤ = c.args.span.low in
    let width : ℕ = c.args.span.width in
    let half : ℕ = width / 2 in
    let low_fits : FitsSigned w64 low = search rules in
    let wide : width < 2 ^ 64 = search rules in
    let fits : FitsSigned w64 (low +ℤ pos half) =
    FitsSigned-between low width half low_fits c.requires.span.fits (omega arith) in
    let counted : c.up_to.result ≡ size_up_to bag (low +ℤ pos half) =
    c.up_to.ensures ∙ ap (size_up_to bag)
    (middle_is low half low_fits (omega (arith, wide)) fits) in
    rw (to_z-of_z w64 low low_fits) (IsSpanOf-lower bag c.args.place low (low +ℤ pos half) width half c.requires.span refl
    fits (omega (arith, counted, c.if-place-up_to.true)))

pub returns-else-place-up_to-clause-span : goal.returns-else-place-up_to-clause-span
returns-else-place-up_to-clause-span c =
    let bag : Bag = bag_of c.args.values.now in
    let low : ℤ = c.args.span.low in
    let width : ℕ = c.args.span.width in
    let half : ℕ = width / 2 in
    let low_fits : FitsSigned w64 low = search rules in
    let wide : width < 2 ^ 64 = search rules in
    let fits : FitsSigned w64 (low +ℤ pos half) =
    FitsSigned-between low width half low_fits c.requires.span.fits (omega arith) in
    let next_fits : FitsSigned w64 (low +ℤ pos half +ℤ pos 1) =
    FitsSigned-next low width half low_fits c.requires.span.fits (omega (arith, c.requires.wide)) in
    let counted : c.up_to.result ≡ size_up_to bag (low +ℤ pos half) =
    c.up_to.ensures ∙ ap (size_up_to bag)
    (middle_is low half low_fits (omega (arith, wide)) fits) in
    rw (next_is low half low_fits (omega (arith, wide)) fits next_fits) (IsSpanOf-upper bag c.args.place low
    (low +ℤ pos half) (low +ℤ pos half +ℤ pos 1) width half (width - half - 1) c.requires.span refl refl
    (omega (arith, c.requires.wide)) (omega (arith, counted, c.if-place-up_to.false)))
