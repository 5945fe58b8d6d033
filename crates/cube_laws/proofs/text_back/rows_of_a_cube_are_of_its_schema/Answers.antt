use Rattle.cube_laws.proofs.RangeLaws.{AreRows-IsLawfulRow}
use Rattle.cube_laws.proofs.text_back.rows_of_a_cube_are_of_its_schema.Goals as goal

pub returns : goal.returns
returns c = AreRows-IsLawfulRow
