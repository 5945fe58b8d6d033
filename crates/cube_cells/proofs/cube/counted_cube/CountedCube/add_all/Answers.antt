use Rattle.std.proofs.Common.{◌≡◌, ◌<◌, ◌∙◌, ◌∷◌, [], ◌++◌, List, arith, length, map, take, true}
use Rattle.std.proofs.lemmas.List.{length-map, take_all}
use Rattle.std.proofs.lemmas.List.Sorted.{IsPermutation-sym, IsPermutation-to_front}
use Rattle.cube_core.specs.declared.fact.Fact.{Fact}
use Rattle.cube_cells.specs.CountedCube.{fits_counted}
use Rattle.cube_cells.proofs.CountedCubeLaws.{HasCounted-IsPermutation}
use Rattle.cube_cells.proofs.Filling.GatheredLaws.{All-fact, take_fact}
use Rattle.cube_cells.proofs.cube.counted_cube.CountedCube.add_all.Goals as goal

pub add_counted-requires : goal.add_counted-requires
add_counted-requires c =
    let refs = c.args.facts.now in
    let inside : c.loop-fact.fact-index < length refs = omega arith in
    rw (c.loop-fact.invariant.texts, c.loop-fact.invariant.same.schema)
    (All-fact refs c.loop-fact.fact-index c.fact-item.result inside c.fact-item.is
    (λ fact. fits_counted c.args.self.now.texts c.args.self.now.cube.schema fact ≡ true) c.requires.fit)

pub loop-fact-preserved : goal.loop-fact-preserved
loop-fact-preserved c =
    let refs = c.args.facts.now in
    let i = c.loop-fact.fact-index in
    let facts : List Fact = take i (map (λ r. r.now) refs) in
    let fact = c.fact-item.result.now in
    let inside : i < length refs = omega arith in
    let before = c.loop-fact.invariant in
    let same = c.add_counted.ensures.same in
    record {
      texts = c.add_counted.ensures.texts ∙ before.texts;
      same = record {
        schema = same.schema ∙ before.same.schema;
        sets = same.sets ∙ before.same.sets;
      };
      has = rw (take_fact refs i c.fact-item.result inside c.fact-item.is)
          (HasCounted-IsPermutation (fact ∷ facts) (facts ++ fact ∷ []) c.add_counted.new.self
          (IsPermutation-sym _ _ (IsPermutation-to_front facts fact))
          (c.in_ok-add_counted.ensures.added facts before.has));
    }

pub returns-clause-has : goal.returns-clause-has
returns-clause-has c =
    let facts : List Fact = map (λ r. r.now) c.args.facts.now in
    let whole : take c.loop-fact.fact-index facts ≡ facts =
    take_all c.loop-fact.fact-index facts (omega (arith, length-map c.args.facts.now (λ r. r.now))) in
    rw whole at c.loop-fact.invariant.has
