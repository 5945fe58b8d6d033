use Rattle.std.proofs.Common.{◌≡◌, true, rules, option_map}
use Rattle.toml.specs.View.{view, table_view}
use Rattle.cube_core.specs.SchemaDocument.{has_known_keys, dimensions_in, measures_in, least_measures_in, spellings_in}
use Rattle.cube_core.specs.TextsDocument.{text_places_of_value}
use Rattle.cube_core.proofs.SchemaLaws.{document-answered_by, max_records_in-bounds, version_in-bounds}
use Rattle.cube_core.proofs.SchemaLaws.{least_measures_in-bound}
use Rattle.cube_core.proofs.TextsDocumentLaws.{text_places_of_value-are}
use Rattle.cube_core.proofs.schema_toml.schema_of.Goals as goal

pub schema_of_parts-requires-clause-records : goal.schema_of_parts-requires-clause-records
schema_of_parts-requires-clause-records c =
    max_records_in-bounds (table_view c.args.document.now) _ c.max_records_in.ensures

pub schema_of_parts-requires-clause-versions : goal.schema_of_parts-requires-clause-versions
schema_of_parts-requires-clause-versions c = version_in-bounds (table_view c.args.document.now) _ c.version_in.ensures

pub schema_of_parts-requires-clause-texts : goal.schema_of_parts-requires-clause-texts
schema_of_parts-requires-clause-texts c =
    let decimals = option_map (λ value. view value.now) c.value_at-decimals.result in
    let texts = option_map (λ value. view value.now) c.value_at-texts.result in
    let said : option_map (λ places. places.items) c.in_ok-text_places.text_places
    ≡ text_places_of_value c.in_ok-measures.measures.items decimals texts = search rules in
    text_places_of_value-are (λ places. places.items) c.in_ok-measures.measures.items decimals texts _ said

pub schema_of_parts-requires-clause-measures : goal.schema_of_parts-requires-clause-measures
schema_of_parts-requires-clause-measures c =
    let least : c.in_ok-measures.least_measures ≡ least_measures_in (table_view c.args.document.now) = search rules in
    least_measures_in-bound (table_view c.args.document.now) _ _ least c.value_at-feed.ensures

pub returns : goal.returns
returns c =
    let document = table_view c.args.document.now in
    let known : has_known_keys document ≡ true = search rules in
    let dimensions : c.in_ok-dimensions.dimensions.items ≡ dimensions_in document = search rules in
    let measures : c.in_ok-measures.measures.items ≡ measures_in document = search rules in
    let least : c.in_ok-measures.least_measures ≡ least_measures_in document = search rules in
    let texts : c.in_ok-aggregate_texts.aggregate_texts.items ≡ spellings_in document = search rules in
    let decimals = option_map (λ value. view value.now) c.value_at-decimals.result in
    let named = option_map (λ value. view value.now) c.value_at-texts.result in
    let places : option_map (λ places. places.items) c.in_ok-text_places.text_places
    ≡ text_places_of_value c.in_ok-measures.measures.items decimals named = search rules in
    document-answered_by document _ _ _ _ _ _ _ _ _ _ _ _ known dimensions measures least texts c.max_records_in.ensures
    c.value_at-grouping.ensures c.version_in.ensures c.value_at-feed.ensures
    c.value_at-decimals.ensures c.value_at-texts.ensures places c.schema_of_parts.ensures
