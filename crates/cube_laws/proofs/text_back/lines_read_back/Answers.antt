use Rattle.cube_laws.proofs.TextLaws.{records-line}
use Rattle.cube_laws.proofs.text_back.lines_read_back.Goals as goal

pub returns : goal.returns
returns c lines all = records-line lines all
