use Rattle.cube_laws.proofs.PlainLaws.{decimals-printed}
use Rattle.cube_laws.proofs.decimals.decimals_are_printed_so.Goals as goal

pub returns : goal.returns
returns c = decimals-printed
