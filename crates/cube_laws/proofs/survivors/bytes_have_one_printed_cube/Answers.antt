use Rattle.cube_laws.proofs.SurvivorLaws.{IsPrintedOf-text}
use Rattle.cube_laws.proofs.survivors.bytes_have_one_printed_cube.Goals as goal

pub returns : goal.returns
returns c = IsPrintedOf-text
