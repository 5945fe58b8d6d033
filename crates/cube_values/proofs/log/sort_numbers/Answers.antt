use Rattle.std.proofs.Common.{rules}
use Rattle.std.proofs.lemmas.List.Sorted.{answers_always}
use Rattle.cube_values.proofs.LogLaws.{IsSortedByKey-Rises}
use Rattle.cube_values.proofs.log.sort_numbers.Goals as goal

pub returns-clause-rises : goal.returns-clause-rises
returns-clause-rises c = IsSortedByKey-Rises c.sort_unstable_by_key.new.self
    (c.sort_unstable_by_key.ensures.sorted (λ e. e.0) (answers_always _ _ _ (λ f a r g h. search rules)))
