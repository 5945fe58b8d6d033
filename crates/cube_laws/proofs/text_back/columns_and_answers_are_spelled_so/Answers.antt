use Rattle.cube_laws.proofs.PlainLaws.{text_of_rows-sample, row_fields-sample}
use Rattle.cube_laws.proofs.text_back.columns_and_answers_are_spelled_so.Goals as goal

pub returns : goal.returns
returns c = record { header = text_of_rows-sample; row = row_fields-sample }
