use Rattle.std.proofs.Common.{not, rules}
use Rattle.std.specs.Prelude.{int_lt}
use Rattle.std.proofs.lemmas.List.Sorted.{IsPartitionPoint-from_clause}
use Rattle.cube_values.proofs.LogLaws.{Rises-IsPartitionedBy, IsPartitionPoint-IsCut}
use Rattle.cube_values.proofs.log.place_past.Goals as goal

pub returns : goal.returns
returns c =
    let point = IsPartitionPoint-from_clause (λ e. not (int_lt c.args.value e.0))
    c.args.pairs.now _ c.partition_point.ensures.partitioned
    (Rises-IsPartitionedBy c.args.pairs.now c.args.value c.requires) (λ a r q k. search rules) in
    IsPartitionPoint-IsCut c.args.pairs.now c.args.value c.partition_point.result c.partition_point.ensures.bound point
