use Rattle.std.proofs.Common.{◌≡◌, ◌++◌, drop}
use Rattle.std.specs.List.{filter_map}
use Rattle.cube_core.specs.SchemaDocument.{aggregate_spelled, are_spellings}
use Rattle.cube_core.proofs.schema_toml.aggregates_of.Given as goal

-- the aggregates so far and those to come are those of all texts, and all are spelled where those to come are
abbrev pub invariant-loop-text : goal.invariant-loop-text
invariant-loop-text l = record {
  found : l.aggregates.items ++ filter_map (aggregate_spelled l.measures) (drop l.text-index l.texts)
      ≡ filter_map (aggregate_spelled l.measures) l.texts;
  spelled : are_spellings l.measures (drop l.text-index l.texts) ≡ are_spellings l.measures l.texts;
}
