use Rattle.std.proofs.Common.{◌*◌, ◌/◌, ◌^◌, int_div, pos, refl, unsigned_abs}
use Rattle.cube_core.specs.Text.{common_with_ten}
use Rattle.cube_laws.proofs.ScaledLaws.{scaled-IsInLowestTerms}
use Rattle.cube_laws.proofs.fraction.printed_fraction_is_of_the_value.Goals as goal

pub returns : goal.returns
returns c k p q some coprime = (
  int_div p (pos (common_with_ten k (unsigned_abs p))),
  q * (10 ^ k / common_with_ten k (unsigned_abs p)),
  refl,
  scaled-IsInLowestTerms k p q some coprime,
)
