use Rattle.std.proofs.Common.{◌≡◌, ◌∙◌, Bor, List, ap, map, subst, sym, true}
use Rattle.std.specs.Prelude.{All}
use Rattle.cube_core.specs.Takes.{fits}
use Rattle.cube_core.specs.declared.fact.Fact.{Fact}
use Rattle.cube_cells.specs.Codes.{IsDictionary}
use Rattle.cube_cells.specs.CountedCube.{AreMadeFinest}
use Rattle.cube_cells.specs.Fill.{IsCubeOfAll}
use Rattle.cube_cells.specs.TextNumbers.{number_in}
use Rattle.cube_core.specs.TextPlaces.{counted_by}
use Rattle.cube_cells.proofs.CountedCubeLaws.{All-fits-counted_by, All-fits-none, All-long, AreMadeFinest-none}
use Rattle.cube_cells.proofs.cube.counted_cube.CountedCube.finest_of.Given.{Over}
use Rattle.cube_cells.proofs.cube.counted_cube.CountedCube.finest_of.Goals.{After-deref-2}
use Rattle.cube_cells.proofs.cube.counted_cube.CountedCube.finest_of.Goals as goal

-- ---- no text is counted
pub finest_of-requires-clause-fit : goal.finest_of-requires-clause-fit
finest_of-requires-clause-fit g c = λ _ _.
    All-fits-none c.self.inside.texts c.self.inside.cube.schema (map (λ r. r.now) c.args.facts.now)
    c.if-self-eq0.true (rw (← c.self.view_is) at c.requires)

pub returns-then-self-eq0 : goal.returns-then-self-eq0
returns-then-self-eq0 g c =
    let dictionary : IsDictionary c.new-numbers.result = subst IsDictionary c.numbers.view_is c.numbers.invariant in
    let made = c.in_ok-finest.ensures in
    rw (← c.self.view_is) (AreMadeFinest-none c.self.inside.texts c.self.inside.cube.schema
    (map (λ r. r.now) c.args.facts.now) c.new-numbers.result c.in_ok-finest.finest c.if-self-eq0.true dictionary
    made.schema made.sets made.facts)

-- ---- some are
pub each_counted-requires : goal.each_counted-requires
each_counted-requires g c =
    All-long c.self.inside.texts c.self.inside.cube.schema (map (λ r. r.now) c.args.facts.now)
    (rw (← c.self.view_is) at c.requires)

-- the facts that are lent are the counted ones
lent : (g : Over) (c : After-deref-2 g) → map (λ r. r.now) c.deref-2.result.now
    ≡ map (counted_by (number_in c.each_counted.new.self) c.self.inside.texts) (map (λ r. r.now) c.args.facts.now)
lent g c =
    ap (λ (refs : List (Bor Fact)). map (λ r. r.now) refs) c.deref-2.ensures.value
    ∙ c.in_ok-lent.ensures ∙ c.deref.ensures.value ∙ c.in_ok-counted.ensures.counted

pub finest_of-requires-2-clause-fit : goal.finest_of-requires-2-clause-fit
finest_of-requires-2-clause-fit g c = λ _ _.
    let schema = c.self.inside.cube.schema in
    subst (All (λ fact. fits schema fact ≡ true))
    (sym (lent g (goal.at.finest_of-requires-2-clause-fit g c).After-deref-2))
    (All-fits-counted_by (number_in c.each_counted.new.self) c.self.inside.texts schema
    (map (λ r. r.now) c.args.facts.now) (rw (← c.self.view_is) at c.requires))

pub returns : goal.returns
returns g c =
    let made = c.in_ok-finest-2.ensures in
    let is : AreMadeFinest c.self.inside.texts c.self.inside.cube.schema (map (λ r. r.now) c.args.facts.now)
    c.each_counted.new.self c.in_ok-finest-2.finest = record {
      dictionary = c.each_counted.ensures.dictionary;
      schema_is = made.schema;
      sets_are = made.sets;
      all = subst (λ (facts : List Fact). IsCubeOfAll facts c.in_ok-finest-2.finest)
          (lent g (goal.at.returns g c).After-deref-2) made.facts;
      listed = c.in_ok-counted.ensures.listed;
    } in
    rw (← c.self.view_is) is
