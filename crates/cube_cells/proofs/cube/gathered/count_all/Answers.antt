use Rattle.std.proofs.Common.{arith, ◌≡◌, ◌∙◌, List, map, refl, take, true}
use Rattle.std.proofs.lemmas.List.{length-map, take_all}
use Rattle.cube_core.proofs.ListLaws.{AllZip-length}
use Rattle.cube_core.specs.declared.fact.Fact.{Fact}
use Rattle.cube_core.specs.Takes.{fits}
use Rattle.cube_cells.specs.Gathered.{AreCodesOfFact}
use Rattle.cube_cells.proofs.Filling.GatheredLaws.{All-fact, AllZip-fact, GathersMore-AddsFact, GathersMore-none}
use Rattle.cube_cells.proofs.Filling.GatheredLaws.{take_fact}
use Rattle.cube_cells.proofs.cube.gathered.count_all.Goals.{After-index-facts-place}
use Rattle.cube_cells.proofs.cube.gathered.count_all.Goals as goal

pub loop-place-init : goal.loop-place-init
loop-place-init g c = record {
  long = omega (
    arith,
    AllZip-length (AreCodesOfFact c.args.cube.now.dictionaries) (map (λ r. r.now) c.args.facts.now) c.args.codes.now
        c.requires.codes,
    length-map c.args.facts.now (λ r. r.now),
  );
  schema = refl;
  texts = refl;
  gathers = GathersMore-none c.args.cube.now;
}

pub count_coded-requires-clause-fits : goal.count_coded-requires-clause-fits
count_coded-requires-clause-fits g c = rw c.loop-place.invariant.schema (All-fact c.args.facts.now c.loop-place.place
    c.index-facts-place.result c.loop-place-test.true c.index-facts-place.is
    (λ f. fits c.args.cube.now.schema f ≡ true) c.requires.fit)

pub count_coded-requires-clause-codes : goal.count_coded-requires-clause-codes
count_coded-requires-clause-codes g c = rw c.loop-place.invariant.texts (AllZip-fact c.args.facts.now c.loop-place.place
    c.index-facts-place.result c.loop-place-test.true c.index-facts-place.is
    (AreCodesOfFact c.args.cube.now.dictionaries) c.args.codes.now _ c.requires.codes)

pub loop-place-preserved : goal.loop-place-preserved
loop-place-preserved g c =
    let refs = c.args.facts.now in
    let i = c.loop-place.place in
    let fact = c.index-facts-place.result in
    let at = goal.at.loop-place-preserved g c in
    record {
      long = c.loop-place.invariant.long;
      schema = c.count_coded.ensures.schema ∙ c.loop-place.invariant.schema;
      texts = c.in_ok-count_coded.ensures.texts ∙ c.loop-place.invariant.texts;
      gathers = rw (take_fact refs i fact c.loop-place-test.true c.index-facts-place.is)
          (GathersMore-AddsFact (take i (map (λ r. r.now) refs)) fact.now c.args.cube.now c.loop-place.cube
          c.count_coded.new.self c.loop-place.invariant.gathers
          (count_coded-requires-clause-fits g at.After-index-facts-place) c.in_ok-count_coded.ensures.added);
    }

pub returns : goal.returns
returns g c =
    let facts : List Fact = map (λ r. r.now) c.args.facts.now in
    let all : take c.loop-place.place facts ≡ facts =
    take_all c.loop-place.place facts (omega (arith, length-map c.args.facts.now (λ r. r.now))) in
    rw all at c.loop-place.invariant.gathers
