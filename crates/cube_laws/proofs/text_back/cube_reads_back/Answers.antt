use Rattle.cube_laws.proofs.TextLaws.{records-text_of_rows}
use Rattle.cube_laws.proofs.text_back.cube_reads_back.Goals as goal

pub returns : goal.returns
returns c s facts rows schema are = records-text_of_rows s facts rows schema are
