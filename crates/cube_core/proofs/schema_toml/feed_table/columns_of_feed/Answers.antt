use Rattle.std.proofs.Common.{◌≡◌, ◌++◌, true, None, Some, is_some, unwrap_or, rules}
use Rattle.std.specs.List.{filter_map, list_all}
use Rattle.toml.specs.View.{table_view}
use Rattle.cube_core.specs.FeedDocument.{are_plain_keys, columns_value, delimiter_in, dimension_column, has_only, id_in}
use Rattle.cube_core.specs.FeedDocument.{measure_column, nulls_in, op_in, point_in}
use Rattle.cube_core.proofs.FeedDocumentLaws.{right-table}
use Rattle.cube_core.proofs.schema_toml.feed_table.columns_of_feed.Goals as goal

pub returns : goal.returns
returns c =
    let feed = table_view c.args.feed.now in
    let columns = table_view c.in-Some.columns.now in
    let dimensions = c.args.dimensions.now in
    let measures = c.args.measures.now in
    let keys : are_plain_keys (table_view c.args.feed.now) ≡ true = search rules in
    let is : Some (table_view c.in-Some.columns.now) ≡ columns_value (table_view c.args.feed.now) = search rules in
    let names : has_only (c.args.dimensions.now ++ c.args.measures.now) (table_view c.in-Some.columns.now) ≡ true =
    search rules in
    let nulls : Some c.in-Some-2.nulls.items ≡ nulls_in (table_view c.args.feed.now) = search rules in
    let of_dimensions : (c.in-Some-3.of_dimensions.items
    ≡ filter_map (dimension_column (table_view c.in-Some.columns.now)) c.args.dimensions.now)
    × (list_all (λ name. is_some (dimension_column (table_view c.in-Some.columns.now) name)) c.args.dimensions.now
    ≡ true) = search rules in
    let of_measures : (c.in-Some-4.of_measures.items
    ≡ filter_map (measure_column (table_view c.in-Some.columns.now)) c.args.measures.now)
    × (list_all (λ name. is_some (measure_column (table_view c.in-Some.columns.now) name)) c.args.measures.now
    ≡ true) = search rules in
    let id : c.in_ok-name_copied.field-0 ≡ unwrap_or (id_in (table_view c.args.feed.now)) None = search rules in
    let op : c.in_ok-name_copied-2.field-0 ≡ unwrap_or (op_in (table_view c.args.feed.now)) None = search rules in
    let delimiter : c.unwrap_or.result ≡ unwrap_or (delimiter_in (table_view c.args.feed.now)) 44 = search rules in
    let point : c.unwrap_or-2.result ≡ unwrap_or (point_in (table_view c.args.feed.now)) 46 = search rules in
    let texts : c.from_vec.result ≡ c.in-Some-2.nulls.items = search rules in
    let in_dimensions : c.from_vec-2.result ≡ c.in-Some-3.of_dimensions.items = search rules in
    let in_measures : c.from_vec-3.result ≡ c.in-Some-4.of_measures.items = search rules in
    rw (
      id,
      op,
      texts,
      delimiter,
      point,
      in_dimensions,
      of_dimensions.0,
      in_measures,
      of_measures.0,
    ) (right-table dimensions measures feed columns c.in-Some-2.nulls.items keys is names nulls of_dimensions.1
    of_measures.1)
