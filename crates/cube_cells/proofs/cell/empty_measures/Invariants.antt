use Rattle.std.proofs.Common.{◌≡◌, length}
use Rattle.std.specs.Prelude.{All}
use Rattle.cube_values.specs.Bag.{size_of}
use Rattle.cube_cells.proofs.cell.empty_measures.Given as goal

abbrev pub invariant-loop : goal.invariant-loop
invariant-loop g l = record {
  so_many : length l.measures.items ≡ l.counter;
  empty : All (λ bag. size_of bag ≡ 0) l.measures.items;
}
