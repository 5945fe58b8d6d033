use Rattle.std.proofs.Common.{◌≡◌, ◌≤◌, ◌∙◌, List, true, ap, arith, length, map, subst}
use Rattle.std.proofs.lemmas.List.Elements.{All-weaker}
use Rattle.std.proofs.lemmas.Result.{IfOk-weaker}
use Rattle.cube_core.specs.Takes.{fits}
use Rattle.cube_core.specs.declared.fact.Fact.{Fact}
use Rattle.cube_core.proofs.CellKeyLaws.{fits-length}
use Rattle.cube_cells.specs.Fill.{IsCubeOfAll}
use Rattle.cube_cells.specs.TextNumbers.{AreCountedFacts}
use Rattle.cube_build.proofs.FactLaws.{AllFit-counted, HasFacts-counted}
use Rattle.cube_build.proofs.fill.finest_of_texts.Given.{Over}
use Rattle.cube_build.proofs.fill.finest_of_texts.Goals.{After-deref-2}
use Rattle.cube_build.proofs.fill.finest_of_texts.Goals as goal

pub all_counted-requires : goal.all_counted-requires
all_counted-requires g c =
    let lawful = c.text_places-texts.ensures.schema in
    let texts = c.text_places-texts.result.now in
    All-weaker (λ fact. fits c.args.schema.now fact ≡ true) (λ fact. length texts ≤ length fact.dims)
    (λ fact fit. omega (
      arith,
      fits-length c.args.schema.now fact fit,
      lawful.some_dimension,
      ap length c.text_places-texts.ensures.value,
    ))
    (map (λ fact. fact.now) c.args.facts.now) c.requires.fit

-- the facts as they are counted
counted : (g : Over) (c : After-deref-2 g) → map (λ fact. fact.now) c.deref-2.result.now ≡ c.in_ok-counted.counted.items
counted g c = ap (map (λ fact. fact.now)) c.deref-2.ensures.value ∙ c.in_ok-lent.ensures ∙ c.deref.ensures.value

are : (g : Over) (c : After-deref-2 g)
    → AreCountedFacts (length c.args.schema.now.text_places) (map (λ fact. fact.now) c.args.facts.now)
    c.in_ok-counted.counted.items
are g c = rw c.text_places-texts.ensures.value at c.in_ok-counted.ensures

pub finest_of-requires-clause-fit : goal.finest_of-requires-clause-fit
finest_of-requires-clause-fit g c = λ lifetimes live.
    let they = are g c in
    rw (counted g c, they.are)
    (AllFit-counted c.args.schema.now c.args.cube.now.schema they.number (map (λ fact. fact.now) c.args.facts.now)
    c.requires.schema c.requires.fit)

pub returns-clause-has : goal.returns-clause-has
returns-clause-has g c =
    let at = (goal.at.returns-clause-has g c).After-deref-2 in
    IfOk-weaker c.finest_of.result _ _ (λ finest all.
    HasFacts-counted c.args.schema.now (map (λ fact. fact.now) c.args.facts.now) c.in_ok-counted.counted.items finest
    c.text_places-texts.ensures.schema c.requires.fit (are g at)
    (subst (λ (fs : List Fact). IsCubeOfAll fs finest) (counted g at) all)) c.finest_of.ensures.facts
