use Rattle.cube_core.proofs.CubeSchemaLaws.{are_rows-cube_schema}
use Rattle.cube_core.proofs.TextRowLaws.{are_rows-numbered, rows_by_numbers}
use Rattle.cube_laws.proofs.texts.numbers_of_texts_do_not_matter.Goals as goal

pub returns : goal.returns
returns c = record {
  of_any = λ s number other facts rows schema fit. rows_by_numbers s schema number other facts rows fit;
  of_schema = λ s number facts rows schema fit. are_rows-numbered s schema number facts rows fit;
  as_measures = λ s number facts rows schema fit. are_rows-cube_schema s schema number facts rows fit;
}
