use Rattle.cube_core.specs.TextPlaces.{counted}
use Rattle.cube_laws.proofs.CountLaws.{counted-dims}
use Rattle.cube_laws.proofs.SingleLaws.{AreRows-HasValuesOrAll, AreRows-count, AreRows-answers}
use Rattle.cube_laws.proofs.single.cube_of_one_fact_shows_the_fact.Goals as goal

pub returns : goal.returns
returns c = record {
  keys = λ s fact rows key wide. AreRows-HasValuesOrAll s (counted s fact) rows key (counted-dims s fact wide);
  count = λ s fact rows wide. AreRows-count s (counted s fact) rows (counted-dims s fact wide);
  answers = λ s fact rows wide. AreRows-answers s (counted s fact) rows (counted-dims s fact wide);
}
