use Rattle.std.proofs.Common.{rules, ◌≡◌, ◌≤◌, None, length, subst, sym}
use Rattle.cube_core.specs.Layout.{Layout, IsSchema, cube_dimensions, counted_names}
use Rattle.cube_core.specs.contracts.schema.Schema.{the_view}
use Rattle.cube_core.proofs.TextSchemaLaws.{cube_schema-IsSchema}
use Rattle.cube_core.proofs.schema.Schema.cube_schema.Goals as goal

pub invariant_of-result : goal.invariant_of-result
invariant_of-result c =
    let s : Layout = the_view c.self.inside in
    let some : 1 ≤ length s.text_places = search rules in
    let dimensions : c.in_ok-copy_texts.field-0.items ≡ cube_dimensions s = search rules in
    let measures : c.in_ok-counted_names.field-0.items ≡ counted_names s = search rules in
    let aggregates : c.in_ok-from_slice.field-0.items ≡ s.aggregates = search rules in
    let texts : c.in_ok-copy_texts-2.field-0.items ≡ s.aggregate_texts = search rules in
    let sets : c.in_ok-from_slice-2.field-0.items ≡ s.grouping_sets = search rules in
    let decimals : c.in_ok-from_slice-3.field-0.items ≡ s.decimals = search rules in
    subst IsSchema (λ i. record s {
      dimensions = sym dimensions i;
      measures = sym measures i;
      aggregates = sym aggregates i;
      aggregate_texts = sym texts i;
      grouping_sets = sym sets i;
      columns = None;
      decimals = sym decimals i;
      text_places = sym c.new.ensures.items i;
    }) (cube_schema-IsSchema s c.self.invariant some)
