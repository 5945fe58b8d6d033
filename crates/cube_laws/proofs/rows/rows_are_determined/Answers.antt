use Rattle.cube_laws.proofs.RowLaws.{AreRows-unique}
use Rattle.cube_laws.proofs.rows.rows_are_determined.Goals as goal

pub returns : goal.returns
returns c = AreRows-unique
