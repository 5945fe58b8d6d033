use Rattle.cube_laws.proofs.RowTextLaws.{text_of_rows-told}
use Rattle.cube_laws.proofs.text_back.rows_are_told_by_their_text.Goals as goal

pub returns : goal.returns
returns c s rows others schema h k same =
    text_of_rows-told s rows others schema.some_dimension schema.few_digits h k same
