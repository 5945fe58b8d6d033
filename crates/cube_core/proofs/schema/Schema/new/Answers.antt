use Rattle.cube_core.proofs.SchemaLaws.{named_parts-answered, named_parts-layout}
use Rattle.cube_core.proofs.schema.Schema.new.Goals as goal

pub returns-clause-answer : goal.returns-clause-answer
returns-clause-answer c =
    named_parts-answered _ _ _ _ _ _ _ _ (c.in_ok-dimensions.ensures {u = tt}) (c.in_ok-measures.ensures {u = tt})
    (c.in_ok-aggregates.ensures {u = tt}) c.new.ensures.items c.schema_of_parts.ensures

pub returns-clause-schema : goal.returns-clause-schema
returns-clause-schema c =
    named_parts-layout _ _ _ _ _ _ _ _ (c.in_ok-dimensions.ensures {u = tt}) (c.in_ok-measures.ensures {u = tt})
    (c.in_ok-aggregates.ensures {u = tt}) c.new.ensures.items c.schema_of_parts.ensures
