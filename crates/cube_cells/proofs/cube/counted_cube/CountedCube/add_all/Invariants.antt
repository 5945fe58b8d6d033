use Rattle.std.proofs.Common.{◌≡◌, map, take}
use Rattle.cube_cells.specs.CountedCube.{HasCounted}
use Rattle.cube_cells.specs.Cube.{SameSets}
use Rattle.cube_cells.proofs.cube.counted_cube.CountedCube.add_all.Given as goal

abbrev pub invariant-loop-fact : goal.invariant-loop-fact
invariant-loop-fact l = record {
  texts : l.self.texts ≡ l.fn.self.texts;
  same : SameSets l.fn.self.cube l.self.cube;
  has : HasCounted (take l.fact-index (map (λ fact. fact.now) l.facts)) l.self;
}
