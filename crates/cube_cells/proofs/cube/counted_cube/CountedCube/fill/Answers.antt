use Rattle.std.proofs.Common.{◌≡◌, ◌∙◌, List, map, sym, true}
use Rattle.std.specs.Prelude.{All}
use Rattle.std.proofs.lemmas.Result.{on_ok_weaker}
use Rattle.cube_core.specs.declared.fact.Fact.{Fact}
use Rattle.cube_cells.specs.CountedCube.{AreMadeFinest, fits_counted}
use Rattle.cube_cells.proofs.CountedCubeLaws.{AreMadeFinest-HasCounted}
use Rattle.cube_cells.proofs.cube.counted_cube.CountedCube.fill.Goals.{After-into_parts-numbers}
use Rattle.cube_cells.proofs.cube.counted_cube.CountedCube.fill.Goals as goal

pub add_all-requires-clause-fit : goal.add_all-requires-clause-fit
add_all-requires-clause-fit c = rw (c.in_ok-finest.ensures.texts, c.in_ok-finest.ensures.schema) c.requires

-- the cube over the finest grouping set was made of the facts
made : (c : After-into_parts-numbers)
    → AreMadeFinest c.args.self.now.texts c.args.self.now.cube.schema (map (λ r. r.now) c.args.facts.now)
    c.into_parts-numbers.result.0 c.into_parts-numbers.result.1
made c =
    let facts : List Fact = map (λ r. r.now) c.args.facts.now in
    let finest = c.add_all.new.self in
    let texts = c.add_all.ensures.texts ∙ c.in_ok-finest.ensures.texts in
    let schema = c.add_all.ensures.same.schema ∙ c.in_ok-finest.ensures.schema in
    let fit : All (λ fact. fits_counted finest.texts finest.cube.schema fact ≡ true) facts =
    rw (texts, schema) c.requires in
    let sets = rw (← c.add_all.ensures.same.schema, ← c.add_all.ensures.same.sets) at c.in_ok-finest.ensures.sets in
    rw (c.into_parts-numbers.ensures.numbers, c.into_parts-numbers.ensures.cube, ← texts, ← schema)
    (AreMadeFinest-HasCounted facts finest c.into_parts-numbers.ensures.is.dictionary sets fit c.in_ok-add_all.ensures.has)

pub fill_from-requires : goal.fill_from-requires
fill_from-requires c = (map (λ r. r.now) c.args.facts.now, made (goal.at.fill_from-requires c).After-into_parts-numbers)

pub returns-clause-has : goal.returns-clause-has
returns-clause-has c =
    let is = made (goal.at.returns-clause-has c).After-into_parts-numbers in
    on_ok_weaker c.fill_from.result (λ has. has (map (λ r. r.now) c.args.facts.now) is) c.fill_from.ensures.has
