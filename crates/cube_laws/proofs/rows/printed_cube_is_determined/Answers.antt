use Rattle.cube_laws.proofs.RowLaws.{IsPrinted-unique}
use Rattle.cube_laws.proofs.rows.printed_cube_is_determined.Goals as goal

pub returns : goal.returns
returns c = IsPrinted-unique
