use Rattle.std.proofs.Common.{◌∙◌, ap}
use Rattle.cube_core.proofs.LifeLaws.{life_after, life_of-naming, bytes_eq-itself}
use Rattle.cube_core.specs.declared.change.Change.TheVariants.{Update}
use Rattle.cube_laws.proofs.life.update_of_present_puts.Goals as goal

pub returns : goal.returns
returns c id changes fact other present =
    life_of-naming id changes (Update id other) (bytes_eq-itself id) ∙ ap (life_after (Update id other)) present
