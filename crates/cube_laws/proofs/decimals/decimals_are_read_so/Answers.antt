use Rattle.std.proofs.Common.{refl}
use Rattle.cube_laws.proofs.decimals.decimals_are_read_so.Goals as goal

pub returns : goal.returns
returns c = record {
  two = refl;
  one = refl;
  whole = refl;
  below_zero = refl;
  zeros = refl;
  comma = refl;
  no_digits = refl;
  not_rounded = refl;
  nothing_before = refl;
  nothing_behind = refl;
  power = refl;
  thousands = refl;
}
