use Rattle.cube_laws.proofs.PartsLaws.{partial_form-itself}
use Rattle.cube_laws.proofs.schema.partial_form_is_its_own.Goals as goal

pub returns : goal.returns
returns c = partial_form-itself
