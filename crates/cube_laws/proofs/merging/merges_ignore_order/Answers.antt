use Rattle.cube_laws.proofs.MergeOrderLaws.{AreMergedOf-IsPermutation, AreMergedOf-parts}
use Rattle.cube_laws.proofs.merging.merges_ignore_order.Goals as goal

pub returns : goal.returns
returns c = record { of_cubes = AreMergedOf-IsPermutation; of_facts = AreMergedOf-parts }
