use Rattle.std.proofs.Common.{rules}
use Rattle.cube_build.proofs.PartedLaws.{IsTaking-fits, IsTaking-more, IsTaking-none, IsTaking-there, LosesCounted-all}
use Rattle.cube_build.proofs.parted.take_all.Goals as goal

pub loop-fact-init : goal.loop-fact-init
loop-fact-init c = IsTaking-none c.args.facts.now c.args.cube.now

pub remove-requires-clause-fits : goal.remove-requires-clause-fits
remove-requires-clause-fits c =
    IsTaking-fits c.args.facts.now c.loop-fact.fact-index c.fact-item.result c.args.cube.now c.loop-fact.cube
    (search rules) (search rules) c.requires.fit c.loop-fact.invariant

pub remove-requires-clause-there : goal.remove-requires-clause-there
remove-requires-clause-there c =
    IsTaking-there c.args.facts.now c.requires.has.0 c.loop-fact.fact-index c.fact-item.result c.args.cube.now
    c.loop-fact.cube (search rules) (search rules) c.requires.has.1 c.loop-fact.invariant

pub loop-fact-preserved : goal.loop-fact-preserved
loop-fact-preserved c =
    IsTaking-more c.args.facts.now c.loop-fact.fact-index c.fact-item.result c.args.cube.now c.loop-fact.cube
    c.remove.new.self (search rules) (search rules)
    (record { texts = c.remove.ensures.texts; same = c.remove.ensures.same }) c.remove.ensures.taken
    c.loop-fact.invariant

pub returns : goal.returns
returns c = LosesCounted-all c.args.facts.now c.loop-fact.fact-index c.args.cube.now c.loop-fact.cube
    (search rules) c.loop-fact.invariant
