use Rattle.std.proofs.Common.{rules, ◌≡◌, ◌<◌, ◌∙◌, length, sym}
use Rattle.std.specs.Prelude.{None}
use Rattle.cube_core.specs.Query.{drill_fault}
use Rattle.cube_core.proofs.CubeSchemaLaws.{cube_schema-dimensions}
use Rattle.cube_build.specs.Parts.{schema_of_run}
use Rattle.cube_build.proofs.PartLaws.{each-schema, of-one}
use Rattle.cube_build.proofs.built.Built.drill_down.Goals as goal

pub rows_of_parts-requires-clause-parts : goal.rows_of_parts-requires-clause-parts
rows_of_parts-requires-clause-parts c = of-one c.builders.ensures.parts

pub rows_of_parts-requires-clause-can_ask : goal.rows_of_parts-requires-clause-can_ask
rows_of_parts-requires-clause-can_ask c =
    each-schema (λ s. (c.args.dim < length s.dimensions) × (length c.args.key.now.coords ≡ length s.dimensions))
    c.builders.ensures.parts
    (rw (c.builders.ensures.builders, cube_schema-dimensions (schema_of_run c.args.self.now))
    (c.requires.dim, c.requires.width))

pub returns : goal.returns
returns c =
    let none : c.drill_fault.result ≡ None = search rules in
    let is : drill_fault (schema_of_run c.args.self.now).grouping_sets c.args.dim c.args.key.now ≡ None =
    rw (← c.schema.ensures) (sym c.drill_fault.ensures ∙ none) in
    rw is (rw (← c.builders.ensures.builders) (c.in_ok-rows.ensures _ _ c.builders.ensures.parts))
