use Rattle.std.proofs.Common.{map}
use Rattle.std.proofs.lemmas.Result.{on_ok_weaker}
use Rattle.cube_cells.proofs.cube.counted_cube.CountedCube.fill_with.Goals as goal

pub fill_from-requires : goal.fill_from-requires
fill_from-requires g c = (map (λ r. r.now) c.args.facts.now, c.in_ok-numbers.ensures)

pub returns-clause-has : goal.returns-clause-has
returns-clause-has g c = on_ok_weaker c.fill_from.result
    (λ has. has (map (λ r. r.now) c.args.facts.now) c.in_ok-numbers.ensures) c.fill_from.ensures.has
