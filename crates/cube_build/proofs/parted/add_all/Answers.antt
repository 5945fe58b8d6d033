use Rattle.std.proofs.Common.{◌+◌, ◌∷◌, [], drop, rules}
use Rattle.std.proofs.lemmas.List.{drop_all}
use Rattle.cube_build.proofs.FillLaws.{GainsCounted-all, IsFilling-more}
use Rattle.cube_build.proofs.PartedLaws.{next-fact}
use Rattle.cube_build.proofs.parted.add_all.Goals as goal

pub loop-fact-preserved : goal.loop-fact-preserved
loop-fact-preserved c =
    let facts = c.args.facts.now in
    let i = c.loop-fact.fact-index in
    let fact = c.fact-item.result in
    IsFilling-more facts (drop i facts) (fact ∷ [])
    (drop (i + 1) facts) c.args.cube.now c.loop-fact.cube c.add_counted.new.cube
    (next-fact facts i fact (search rules) (search rules)) c.in_ok-add_counted.ensures c.loop-fact.invariant

pub returns : goal.returns
returns c =
    let facts = c.args.facts.now in
    GainsCounted-all facts (drop c.loop-fact.fact-index facts) c.args.cube.now c.loop-fact.cube
    (drop_all c.loop-fact.fact-index facts (search rules)) c.loop-fact.invariant
