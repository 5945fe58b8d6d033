use Rattle.std.proofs.Common.{◌≡◌, ◌<◌, ◌≤◌, ◌^◌, ◌++◌, ◌∙◌, Some, ap, option_map, rules, arith}
use Rattle.std.proofs.lemmas.Result.{err_from_is_err_and}
use Rattle.toml.specs.View.{view}
use Rattle.cube_core.specs.DecimalsDocument.{decimals_of_value}
use Rattle.cube_core.specs.FeedDocument.{columns_of_value}
use Rattle.cube_core.specs.SchemaDocument.{sets_of_grouping}
use Rattle.cube_core.specs.TextPlaces.{at_places, beside_places}
use Rattle.cube_core.specs.TextsDocument.{columns_with_texts}
use Rattle.cube_core.proofs.SchemaLaws.{AreLawful, layout_of_parts-IsSchema}
use Rattle.cube_core.proofs.schema_toml.schema_of_parts.Goals as goal

pub invariant_of-result : goal.invariant_of-result
invariant_of-result c =
    let dimensions = c.args.parts.dimensions.items in
    let measures = c.args.parts.measures.items in
    let places = c.in-Some-text_places.text_places.items in
    let given = c.in_ok-aggregates.ensures in
    let aggregates = rw c.in-Some-text_places.is at given.aggregates in
    let lawful : AreLawful dimensions measures c.args.parts.aggregate_texts.items c.in_ok-aggregates.aggregates.items
    c.args.parts.least_measures places = record {
      dimensions_few = given.numbers.0;
      measures_few = given.numbers.1;
      names = given.names;
      aggregates_few = given.numbers.2;
      aggregates_are = aggregates.0;
      spelled = aggregates.1;
      suit = aggregates.2;
      places_are = rw c.in-Some-text_places.is at c.requires.texts;
    } in
    let least : 1 ≤ c.in_ok-aggregates.max_records = rw given.records at c.requires.records in
    let below : c.in_ok-aggregates.max_records < 2 ^ 32 = omega arith in
    let versions = rw c.in-Some-version.is at c.requires.versions in
    let sets : Some c.in-Some.grouping_sets.items
    ≡ sets_of_grouping dimensions (option_map (λ value. view value.now) c.args.grouping) = search rules in
    let columns : Some c.in-Some-2.columns
    ≡ columns_of_value dimensions measures (option_map (λ value. view value.now) c.args.feed) = search rules in
    let decimals : Some c.in-Some-3.decimals.items
    ≡ decimals_of_value measures (option_map (λ value. view value.now) c.args.decimals) = search rules in
    let texts : c.in_ok-measures.texts.items ≡ at_places places 0 measures = search rules in
    let joined : c.in_ok-joined.field-0.items ≡ dimensions ++ c.in_ok-measures.texts.items = search rules in
    let names : c.in_ok-joined.field-0.items ≡ dimensions ++ at_places places 0 measures =
    joined ∙ ap (λ others. dimensions ++ others) texts in
    let numbers : c.in_ok-measures.measures.items ≡ beside_places places 0 measures = search rules in
    let read : c.in_ok-columns_with_texts.field-0 ≡ option_map (columns_with_texts places) c.in-Some-2.columns =
    search rules in
    let digits : c.in_ok-decimals-2.decimals.items ≡ beside_places places 0 c.in-Some-3.decimals.items = search rules in
    rw (names, numbers, read, digits) (layout_of_parts-IsSchema dimensions measures _ _ c.args.parts.least_measures _
    (option_map (λ value. view value.now) c.args.grouping) _ _ _ (option_map (λ value. view value.now) c.args.feed) _
    (option_map (λ value. view value.now) c.args.decimals) _ places c.whole.ensures.lawful lawful (least, below) sets
    versions c.requires.measures columns decimals)

pub returns-in_err-aggregates : goal.returns-in_err-aggregates
returns-in_err-aggregates c =
    let p = err_from_is_err_and c.from_residual.result c.from_residual.ensures.1 in
    let sets = sets_of_grouping c.args.parts.dimensions.items (option_map (λ value. view value.now) c.args.grouping) in
    let columns = columns_of_value c.args.parts.dimensions.items c.args.parts.measures.items
    (option_map (λ value. view value.now) c.args.feed) in
    let decimals = decimals_of_value c.args.parts.measures.items
    (option_map (λ value. view value.now) c.args.decimals) in
    rw (p.1, p.2) (c.in_err-aggregates.ensures.faults sets columns decimals)
