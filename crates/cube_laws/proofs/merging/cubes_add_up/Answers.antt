use Rattle.cube_core.specs.PartialForm.{partial_aggregates}
use Rattle.cube_laws.proofs.MergedLaws.{AreMergedOf-AreRows}
use Rattle.cube_laws.proofs.merging.cubes_add_up.Goals as goal

pub returns : goal.returns
returns c = record {
  whole = λ s. AreMergedOf-AreRows s (partial_aggregates s.aggregates) s.aggregates;
  partial = λ s. AreMergedOf-AreRows s (partial_aggregates s.aggregates) (partial_aggregates s.aggregates);
}
