use Rattle.cube_laws.proofs.RowOrderLaws.{IsPrinted-IsPermutation}
use Rattle.cube_laws.proofs.rows.printed_cube_ignores_order.Goals as goal

pub returns : goal.returns
returns c = IsPrinted-IsPermutation
