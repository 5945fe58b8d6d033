use Rattle.std.proofs.Common.{◌++◌, ◌∷◌, [], ◌∙◌, sym}
use Rattle.cube_core.specs.declared.change.Change.TheVariants.{Upsert}
use Rattle.cube_laws.proofs.LifeLaws.{life_of-Upsert}
use Rattle.cube_laws.proofs.life.upsert_puts_in_any_case.Goals as goal

pub returns : goal.returns
returns c = record {
  present = life_of-Upsert;
  twice = λ id changes fact.
      life_of-Upsert id (changes ++ Upsert id fact ∷ []) fact ∙ sym (life_of-Upsert id changes fact);
}
