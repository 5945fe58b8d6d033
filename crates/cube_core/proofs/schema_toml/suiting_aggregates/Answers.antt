use Rattle.std.proofs.Common.{rules, ◌≡◌, ◌-◌, length, true, false}
use Rattle.std.specs.List.{list_all, filter_map}
use Rattle.std.proofs.lemmas.Bool.{and_right}
use Rattle.cube_core.specs.Layout.{suits}
use Rattle.cube_core.specs.SchemaDocument.{aggregate_spelled, are_spellings}
use Rattle.cube_core.specs.TextPlaces.{beside_places}
use Rattle.cube_core.specs.TextsDocument.{counted_of_measures}
use Rattle.cube_core.proofs.TextPlaceLaws.{beside_places-length, text_places-few}
use Rattle.cube_core.proofs.schema_toml.suiting_aggregates.Goals as goal

pub overflow_sub-measures : goal.overflow_sub-measures
overflow_sub-measures c = text_places-few c.args.places.now c.args.measures.now c.requires

pub returns-then-not-all_suit : goal.returns-then-not-all_suit
returns-then-not-all_suit c =
    let counted = counted_of_measures c.args.places.now c.args.measures.now in
    let read : c.in-Some.aggregates.items ≡ filter_map (aggregate_spelled counted) c.args.texts.now = search rules in
    let unsuited : list_all (suits (length c.args.measures.now - length c.args.places.now)) c.in-Some.aggregates.items
    ≡ false = search rules in
    let wrong : list_all (suits (length (beside_places c.args.places.now 0 c.args.measures.now)))
    (filter_map (aggregate_spelled counted) c.args.texts.now) ≡ false =
    rw (beside_places-length c.args.places.now c.args.measures.now c.requires, ← read) unsuited in
    and_right (are_spellings counted c.args.texts.now) _ wrong

pub returns : goal.returns
returns c =
    let counted = counted_of_measures c.args.places.now c.args.measures.now in
    let read : c.in-Some.aggregates.items ≡ filter_map (aggregate_spelled counted) c.args.texts.now = search rules in
    let spelled : are_spellings counted c.args.texts.now ≡ true = search rules in
    let suited : list_all (suits (length c.args.measures.now - length c.args.places.now)) c.in-Some.aggregates.items
    ≡ true = search rules in (
      read,
      spelled,
      rw (beside_places-length c.args.places.now c.args.measures.now c.requires, ← read) suited,
    )
