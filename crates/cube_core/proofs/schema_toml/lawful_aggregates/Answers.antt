use Rattle.std.proofs.Common.{length}
use Rattle.cube_core.proofs.TextsDocumentLaws.{said_places-are}
use Rattle.cube_core.proofs.schema_toml.lawful_aggregates.Goals as goal

pub suiting_aggregates-requires : goal.suiting_aggregates-requires
suiting_aggregates-requires c = rw (c.deref-6.ensures.value, c.places_of-places.ensures)
    (said_places-are (λ places. places.items) (length c.args.parts.now.measures.items) c.args.parts.now.text_places
    c.requires.texts)
