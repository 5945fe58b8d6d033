use Rattle.cube_laws.proofs.SingleLaws.{AreRows-none, AreRows-no_row}
use Rattle.cube_laws.proofs.single.cube_of_no_fact_is_the_total.Goals as goal

pub returns : goal.returns
returns c = record { kept = AreRows-none; not_kept = AreRows-no_row }
