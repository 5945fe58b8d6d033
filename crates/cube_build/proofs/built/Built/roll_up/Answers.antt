use Rattle.std.proofs.Common.{◌≡◌, ◌<◌, length}
use Rattle.std.proofs.lemmas.Result.{IfOk-weaker}
use Rattle.cube_core.proofs.CubeSchemaLaws.{cube_schema-dimensions}
use Rattle.cube_build.specs.Parts.{schema_of_run}
use Rattle.cube_build.proofs.PartLaws.{each-schema, of-one}
use Rattle.cube_build.proofs.built.Built.roll_up.Goals as goal

pub row_above-requires-clause-parts : goal.row_above-requires-clause-parts
row_above-requires-clause-parts c = of-one c.builders.ensures.parts

pub row_above-requires-clause-dim : goal.row_above-requires-clause-dim
row_above-requires-clause-dim c =
    each-schema (λ s. c.args.dim < length s.dimensions) c.builders.ensures.parts
    (rw (c.builders.ensures.builders, cube_schema-dimensions (schema_of_run c.args.self.now)) c.requires.dim)

pub row_above-requires-clause-width : goal.row_above-requires-clause-width
row_above-requires-clause-width c =
    each-schema (λ s. length c.args.key.now.coords ≡ length s.dimensions) c.builders.ensures.parts
    (rw (c.builders.ensures.builders, cube_schema-dimensions (schema_of_run c.args.self.now)) c.requires.width)

pub returns : goal.returns
returns c =
    IfOk-weaker c.row_above.result _ _ (λ row whole.
    rw (← c.builders.ensures.builders) (whole _ _ c.builders.ensures.parts)) c.row_above.ensures
