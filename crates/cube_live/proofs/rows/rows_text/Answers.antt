use Rattle.std.proofs.Common.{◌≡◌, ◌∙◌, ap, length, ℕ, pos, subst, sym}
use Rattle.std.proofs.lemmas.List.Sums.{list_all-from_AllPass}
use Rattle.std.proofs.lemmas.Result.{IfOk-weaker}
use Rattle.cube_core.specs.Layout.{Layout, cube_schema, number_of_dimensions}
use Rattle.cube_core.specs.Takes.{fits}
use Rattle.cube_core.specs.TextPlaces.{text_number}
use Rattle.cube_core.proofs.CubeSchemaLaws.{cube_schema-dimensions}
use Rattle.cube_ledger.specs.Ledger.{all_facts}
use Rattle.cube_text.proofs.RowShapeLaws.{HasShapeOf-counted}
use Rattle.cube_live.specs.Live.{CanAskOver}
use Rattle.cube_live.specs.Shows.{asks_for}
use Rattle.cube_live.proofs.rows.rows_text.Goals as goal

pub rows_of_parts-requires-clause-parts : goal.rows_of_parts-requires-clause-parts
rows_of_parts-requires-clause-parts c = record {
  schema = c.args.parted.now.schema;
  facts = all_facts c.args.parted.now.accounts;
  are = c.in-Some.ensures.parts;
}

pub rows_of_parts-requires-clause-can_ask : goal.rows_of_parts-requires-clause-can_ask
rows_of_parts-requires-clause-can_ask c = λ part d below.
    let s = c.args.schema.now in
    let same = (c.in-Some.ensures.parts.each part d below).over.schema ∙ ap cube_schema c.requires.schema in (
      same,
      c.requires.rows,
      subst (λ (n : ℕ). CanAskOver n c.args.question.now) (dimensions_of s _ same) c.requires.can_ask,
    )
  where
    dimensions_of : (s cube : Layout) → cube ≡ cube_schema s → number_of_dimensions s ≡ length cube.dimensions
    dimensions_of s cube same = sym (ap (λ (l : Layout). length l.dimensions) same ∙ cube_schema-dimensions s)

pub print_rows-requires : goal.print_rows-requires
print_rows-requires c =
    let s = c.args.schema.now in
    let facts = all_facts c.args.parted.now.accounts in
    let are = c.in_ok-rows.ensures s facts (rw c.requires.schema at c.in-Some.ensures.parts) in
    rw c.deref.ensures.value
    (HasShapeOf-counted (asks_for c.args.question.now) s (λ text. pos (text_number text)) facts c.in_ok-rows.rows.items
    (list_all-from_AllPass (fits s) facts (rw c.requires.schema at c.in-Some.ensures.fit)) are)

pub returns : goal.returns
returns c =
    let s = c.args.schema.now in
    let facts = all_facts c.args.parted.now.accounts in
    let are = c.in_ok-rows.ensures s facts (rw c.requires.schema at c.in-Some.ensures.parts) in
    IfOk-weaker c.print_rows.result _ _
    (λ text is. record {
      rows = c.in_ok-rows.rows.items;
      are_rows = are;
      text_is = rw c.deref.ensures.value at is;
    }) c.print_rows.ensures
