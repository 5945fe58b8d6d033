use Rattle.cube_laws.proofs.FractionLaws.{IsInLowestTerms-unique}
use Rattle.cube_laws.proofs.fraction.fraction_is_determined.Goals as goal

pub returns : goal.returns
returns c = IsInLowestTerms-unique
