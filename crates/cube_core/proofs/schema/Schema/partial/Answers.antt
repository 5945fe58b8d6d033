use Rattle.std.proofs.Common.{rules, ◌≡◌, [], map, length, ◌≤◌, subst, sym}
use Rattle.std.proofs.lemmas.List.{nil_from_length}
use Rattle.cube_core.specs.Layout.{Layout, IsSchema, spelling_of}
use Rattle.cube_core.specs.PartialForm.{partial_aggregates}
use Rattle.cube_core.specs.contracts.schema.Schema.{the_view}
use Rattle.cube_core.proofs.PartialFormLaws.{copied-partial_form, partial_form-IsSchema}
use Rattle.cube_core.proofs.schema.Schema.partial.Goals as goal

pub invariant_of-result : goal.invariant_of-result
invariant_of-result c =
    let s : Layout = the_view c.self.inside in
    let none : s.text_places ≡ [] = nil_from_length s.text_places (search rules) in
    let dimensions : c.in_ok-copy_texts.field-0.items ≡ s.dimensions = search rules in
    let measures : c.in_ok-copy_texts-2.field-0.items ≡ s.measures = search rules in
    let aggregates : c.in_ok-aggregates.aggregates.items ≡ partial_aggregates s.aggregates = search rules in
    let texts : c.in_ok-spellings_of.field-0.items
    ≡ map (spelling_of c.in_ok-copy_texts-2.field-0.items) c.in_ok-aggregates.aggregates.items =
    search (rules, measures) in
    let sets : c.in_ok-from_slice.field-0.items ≡ s.grouping_sets = search rules in
    let columns : c.in_ok-copy_columns.field-0 ≡ s.columns = search rules in
    let decimals : c.in_ok-from_slice-2.field-0.items ≡ s.decimals = search rules in
    let few : length (partial_aggregates s.aggregates) ≤ 32 = rw (← aggregates) (search rules) in
    let form = copied-partial_form s _ _ _ _ _ _ _ _ none dimensions measures aggregates texts sets columns decimals
    c.new.ensures.items in
    subst IsSchema form (partial_form-IsSchema s c.self.invariant none few)

pub returns : goal.returns
returns c =
    let s : Layout = the_view c.self.inside in
    let none : s.text_places ≡ [] = nil_from_length s.text_places (search rules) in
    let dimensions : c.in_ok-copy_texts.field-0.items ≡ s.dimensions = search rules in
    let measures : c.in_ok-copy_texts-2.field-0.items ≡ s.measures = search rules in
    let aggregates : c.in_ok-aggregates.aggregates.items ≡ partial_aggregates s.aggregates = search rules in
    let texts : c.in_ok-spellings_of.field-0.items
    ≡ map (spelling_of c.in_ok-copy_texts-2.field-0.items) c.in_ok-aggregates.aggregates.items =
    search (rules, measures) in
    let sets : c.in_ok-from_slice.field-0.items ≡ s.grouping_sets = search rules in
    let columns : c.in_ok-copy_columns.field-0 ≡ s.columns = search rules in
    let decimals : c.in_ok-from_slice-2.field-0.items ≡ s.decimals = search rules in
    rw (← c.self.view_is) (
      none,
      sym (copied-partial_form s _ _ _ _ _ _ _ _ none dimensions measures aggregates texts sets
          columns decimals c.new.ensures.items),
    )
