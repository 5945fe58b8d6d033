use Rattle.cube_laws.proofs.UnitTextLaws.{units_text-digits}
use Rattle.cube_laws.proofs.text_back.printed_digits_are_of_the_units.Goals as goal

pub returns : goal.returns
returns c k n some small = units_text-digits k n some small
