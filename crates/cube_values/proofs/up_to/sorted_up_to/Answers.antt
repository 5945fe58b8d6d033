use Rattle.std.proofs.Common.{not, sym, rules}
use Rattle.std.specs.Prelude.{int_lt}
use Rattle.std.proofs.lemmas.List.Sorted.{IsPartitionPoint-from_clause}
use Rattle.cube_values.proofs.NarrowLaws.{IsSorted-IsPartitionedBy}
use Rattle.cube_values.proofs.StatisticsLaws.{size_up_to-first}
use Rattle.cube_values.proofs.up_to.sorted_up_to.Goals as goal

pub returns : goal.returns
returns c =
    let point = IsPartitionPoint-from_clause (λ x. not (int_lt c.args.value x))
    c.args.numbers.now _ c.partition_point.ensures.partitioned
    (IsSorted-IsPartitionedBy c.args.numbers.now c.args.value c.requires) (λ a r q k. search rules) in
    sym (size_up_to-first c.args.numbers.now c.args.value c.partition_point.result c.partition_point.ensures.bound
    point.0 point.1)
