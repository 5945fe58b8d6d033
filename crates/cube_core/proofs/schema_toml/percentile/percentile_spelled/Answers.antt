use Rattle.std.proofs.Common.{rules, ◌≡◌, ◌∙◌, ◌++◌, ◌∷◌, ap, sym, Some, None, option_map, position}
use Rattle.std.specs.Str.{bytes_eq}
use Rattle.cube_core.specs.declared.aggregate.Agg.TheVariants.{PercentileDisc}
use Rattle.cube_core.proofs.PercentileSpellingLaws.{no-argument, no-level, no-comma, before-comma, round-comma}
use Rattle.cube_core.proofs.PercentileSpellingLaws.{percentiles_over-one}
use Rattle.cube_core.proofs.schema_toml.percentile.percentile_spelled.Goals as goal

pub returns-in_err-argument : goal.returns-in_err-argument
returns-in_err-argument c =
    c.from_residual.ensures
    ∙ sym (no-argument c.args.measures.now c.args.text.now (c.in_err-argument.ensures {u = tt}))

pub returns-in_err-level : goal.returns-in_err-level
returns-in_err-level c =
    c.from_residual-in_err-level.ensures
    ∙ sym (no-level c.args.measures.now c.args.text.now c.in_ok-argument.argument.now c.in_ok-argument.ensures
    (λ units places name lawful same. no-comma c.in_ok-argument.argument.now c.split_once.result
    c.split_once.ensures.cases (search rules) units places name same))

pub returns-in_err-units : goal.returns-in_err-units
returns-in_err-units c =
    c.from_residual-in_err-units.ensures
    ∙ sym (no-level c.args.measures.now c.args.text.now c.in_ok-argument.argument.now c.in_ok-argument.ensures
    (λ units places name lawful same. c.in_err-units.ensures {u = tt} units places lawful
    (before-comma c.in_ok-argument.argument.now c.split_once.result c.in_ok-level.level c.in_ok-level.name
    c.split_once.ensures.cases (search rules) units places name same)))

pub returns-in_err-measure : goal.returns-in_err-measure
returns-in_err-measure c =
    let level = c.in_ok-units.ensures in
    let is = round-comma c.in_ok-argument.argument.now c.split_once.result c.in_ok-level.level c.in_ok-level.name
    c.split_once.ensures.cases (search rules) in
    let none : position (λ other. bytes_eq other c.in_ok-level.name.now) c.args.measures.now ≡ None = search rules in
    c.from_residual-in_err-measure.ensures
    ∙ sym (percentiles_over-one c.args.measures.now c.args.text.now c.in_ok-argument.argument.now c.in_ok-units.units
    c.in_ok-units.places c.in_ok-level.name.now level.0 c.in_ok-argument.ensures
    (is ∙ ap (λ t. t ++ 44 ∷ c.in_ok-level.name.now) (sym level.1))
    ∙ ap (option_map (λ m. PercentileDisc m c.in_ok-units.units c.in_ok-units.places)) none)

pub returns : goal.returns
returns c =
    let level = c.in_ok-units.ensures in
    let is = round-comma c.in_ok-argument.argument.now c.split_once.result c.in_ok-level.level c.in_ok-level.name
    c.split_once.ensures.cases (search rules) in
    let found : position (λ other. bytes_eq other c.in_ok-level.name.now) c.args.measures.now
    ≡ Some c.in_ok-measure.measure = search rules in
    sym (percentiles_over-one c.args.measures.now c.args.text.now c.in_ok-argument.argument.now c.in_ok-units.units
    c.in_ok-units.places c.in_ok-level.name.now level.0 c.in_ok-argument.ensures
    (is ∙ ap (λ t. t ++ 44 ∷ c.in_ok-level.name.now) (sym level.1))
    ∙ ap (option_map (λ m. PercentileDisc m c.in_ok-units.units c.in_ok-units.places)) found)
