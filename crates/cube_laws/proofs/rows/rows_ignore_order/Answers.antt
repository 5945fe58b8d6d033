use Rattle.cube_laws.proofs.RowOrderLaws.{AreRows-IsPermutation}
use Rattle.cube_laws.proofs.rows.rows_ignore_order.Goals as goal

pub returns : goal.returns
returns c = AreRows-IsPermutation
