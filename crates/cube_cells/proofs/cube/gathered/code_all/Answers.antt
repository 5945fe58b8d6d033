use Rattle.std.proofs.Common.{arith, ◌<◌, ◌≡◌, length, map, take, true}
use Rattle.cube_core.specs.Takes.{fits}
use Rattle.cube_core.proofs.ListLaws.{AllZip-push}
use Rattle.cube_cells.specs.Gathered.{AreCodesOfFact}
use Rattle.cube_cells.proofs.Filling.GatheredLaws.{All-fact, AllZip-codes_stay, OnlyAddsTexts-refl}
use Rattle.cube_cells.proofs.Filling.GatheredLaws.{OnlyAddsTexts-trans, take_fact}
use Rattle.cube_cells.proofs.cube.gathered.code_all.Goals as goal

pub loop-fact-init : goal.loop-fact-init
loop-fact-init g c = record { same = OnlyAddsTexts-refl c.args.cube.now; codes = rw c.requires.none tt }

pub code_fact-requires : goal.code_fact-requires
code_fact-requires g c =
    let refs = c.args.facts.now in
    let inside : c.loop-fact.fact-index < length refs = omega arith in
    record {
      fits = rw c.loop-fact.invariant.same.same.schema (All-fact refs c.loop-fact.fact-index c.fact-item.result inside
          c.fact-item.is (λ f. fits c.args.cube.now.schema f ≡ true) c.requires.fit);
    }

pub loop-fact-preserved : goal.loop-fact-preserved
loop-fact-preserved g c =
    let refs = c.args.facts.now in
    let i = c.loop-fact.fact-index in
    let new = c.code_fact.new.self in
    let same = c.code_fact.ensures.same in
    let inside : i < length refs = omega arith in
    record {
      same = OnlyAddsTexts-trans c.args.cube.now c.loop-fact.cube new c.loop-fact.invariant.same same;
      codes = rw (c.in_ok-push.ensures.items, take_fact refs i c.fact-item.result inside c.fact-item.is)
          (AllZip-push (AreCodesOfFact new.dictionaries) (take i (map (λ r. r.now) refs)) c.loop-fact.codes.items
          c.fact-item.result.now c.in_ok-code_fact.field-0
          (AllZip-codes_stay c.loop-fact.cube new (take i (map (λ r. r.now) refs)) c.loop-fact.codes.items same
          c.loop-fact.invariant.codes) c.in_ok-code_fact.ensures.codes);
    }
