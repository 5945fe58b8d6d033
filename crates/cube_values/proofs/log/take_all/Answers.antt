use Rattle.std.proofs.Common.{pos, rules, get_or, FitsSigned, w64}
use Rattle.std.proofs.lemmas.Int.{to_z-of_z}
use Rattle.cube_values.proofs.OwedLaws.{IsTaking-held, IsTaking-more, IsTaking-TakesAll}
use Rattle.cube_values.proofs.log.take_all.Goals as goal

pub take_held-requires-clause-held : goal.take_held-requires-clause-held
take_held-requires-clause-held c =
    let fits : FitsSigned w64 (get_or c.args.numbers.now c.loop-number.number-index (pos 0)) = search rules in
    rw (to_z-of_z w64 (get_or c.args.numbers.now c.loop-number.number-index (pos 0)) fits)
    (IsTaking-held c.args.pairs.now c.loop-number.pairs c.args.numbers.now c.loop-number.number-index
    (pos 0) c.loop-number-test.true c.loop-number.invariant.1 c.requires.covered)

pub loop-number-preserved : goal.loop-number-preserved
loop-number-preserved c =
    let fits : FitsSigned w64 (get_or c.args.numbers.now c.loop-number.number-index (pos 0)) = search rules in
    let taken = simp to_z-of_z at c.take_held.ensures.taken in (
      c.take_held.ensures.ordered,
      IsTaking-more c.args.pairs.now c.loop-number.pairs c.take_held.new.pairs c.args.numbers.now
          c.loop-number.number-index (pos 0) c.loop-number-test.true c.loop-number.invariant.1 taken,
    )

pub returns-clause-taken : goal.returns-clause-taken
returns-clause-taken c = IsTaking-TakesAll c.args.pairs.now c.loop-number.pairs c.args.numbers.now
    c.loop-number.number-index c.loop-number-test.false c.loop-number.invariant.1
