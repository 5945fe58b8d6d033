use Rattle.std.proofs.Common.{◌∙◌, ap}
use Rattle.cube_core.proofs.LifeLaws.{life_after, life_of-naming, bytes_eq-itself}
use Rattle.cube_core.specs.declared.change.Change.TheVariants.{Insert}
use Rattle.cube_laws.proofs.life.second_insert_changes_nothing.Goals as goal

pub returns : goal.returns
returns c id changes fact other present =
    life_of-naming id changes (Insert id other) (bytes_eq-itself id) ∙ ap (life_after (Insert id other)) present
