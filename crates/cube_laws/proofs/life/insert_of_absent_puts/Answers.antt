use Rattle.std.proofs.Common.{◌∙◌, ap}
use Rattle.cube_core.proofs.LifeLaws.{life_after, life_of-naming, bytes_eq-itself}
use Rattle.cube_core.specs.declared.change.Change.TheVariants.{Insert}
use Rattle.cube_laws.proofs.life.insert_of_absent_puts.Goals as goal

pub returns : goal.returns
returns c id changes fact absent =
    life_of-naming id changes (Insert id fact) (bytes_eq-itself id) ∙ ap (life_after (Insert id fact)) absent
