use Rattle.std.proofs.Common.{◌≡◌, [], ◌∙◌, ap, length, sym}
use Rattle.std.proofs.lemmas.Bool.{eqb-true}
use Rattle.std.proofs.lemmas.List.{nil_from_length}
use Rattle.cube_core.specs.TextsDocument.{counted_of_measures}
use Rattle.cube_core.proofs.TextSchemaLaws.{counted_of_measures-none}
use Rattle.cube_core.proofs.schema_toml.counted_aggregates.Goals as goal

pub returns-then-is_empty : goal.returns-then-is_empty
returns-then-is_empty c =
    let none : c.args.places.now ≡ [] = nil_from_length c.args.places.now
    (eqb-true (length c.args.places.now) 0 (sym c.is_empty.ensures ∙ c.if-is_empty.true)) in
    let same : counted_of_measures c.args.places.now c.args.measures.now ≡ c.args.measures.now =
    ap (λ places. counted_of_measures places c.args.measures.now) none ∙ counted_of_measures-none c.args.measures.now in
    rw same c.aggregates_of.ensures
