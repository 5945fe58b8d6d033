use Rattle.cube_laws.proofs.PartsLaws.{own-makes_each, partial-makes_each}
use Rattle.cube_laws.proofs.merging.partial_form_makes_each_aggregate.Goals as goal

pub returns : goal.returns
returns c = record {
  whole = λ s. own-makes_each s.aggregates;
  partial = λ s. partial-makes_each s.aggregates;
}
