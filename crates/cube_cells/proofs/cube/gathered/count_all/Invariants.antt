use Rattle.std.proofs.Common.{take, map, length, ◌≡◌}
use Rattle.cube_cells.specs.Gathered.{GathersMore}
use Rattle.cube_cells.proofs.cube.gathered.count_all.Given as goal

abbrev pub invariant-loop-place : goal.invariant-loop-place
invariant-loop-place g l = record {
  long : length l.codes ≡ length l.facts;
  schema : l.cube.schema ≡ l.fn.cube.schema;
  texts : l.cube.dictionaries ≡ l.fn.cube.dictionaries;
  gathers : GathersMore (take l.place (map (λ fact. fact.now) l.facts)) l.fn.cube l.cube;
}
