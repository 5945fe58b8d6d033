use Rattle.std.proofs.Common.{◌∙◌, ap, arith, length}
use Rattle.cube_core.specs.Layout.{Layout}
use Rattle.cube_cells.specs.Cube.{Lattice}
use Rattle.cube_build.proofs.FactLaws.{cube_schema-measures}
use Rattle.cube_build.proofs.fill.counted_for.Goals as goal

pub of-requires-clause-few : goal.of-requires-clause-few
of-requires-clause-few c = omega (
  arith,
  ap length c.text_places-texts.ensures.value,
  ap (λ (s : Layout). length s.measures) c.requires.schema,
  cube_schema-measures c.args.schema.now c.text_places-texts.ensures.schema,
)

pub returns-clause-is : goal.returns-clause-is
returns-clause-is c = record {
  lawful = c.text_places-texts.ensures.schema;
  schema = ap (λ (l : Lattice). l.schema) c.of.ensures.cube ∙ c.requires.schema;
  texts = c.of.ensures.texts ∙ ap length c.text_places-texts.ensures.value;
}
