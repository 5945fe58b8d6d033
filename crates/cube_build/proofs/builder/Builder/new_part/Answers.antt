use Rattle.cube_build.proofs.BuilderLaws.{IsBuilder-has, IsBuilder-new}
use Rattle.cube_build.proofs.builder.Builder.new_part.Goals as goal

pub invariant_of-result : goal.invariant_of-result
invariant_of-result c =
    IsBuilder-new c.in_ok-ledger.ledger c.counted_for-cube.result c.args.schema.now c.args.sources
    c.in_ok-ledger.ensures.schema c.in_ok-ledger.ensures.accounts c.counted_for-cube.ensures.is
    c.counted_for-cube.ensures.has

pub returns-clause-stands : goal.returns-clause-stands
returns-clause-stands c = record {
  ledger = c.in_ok-ledger.ensures.stands;
  cube = IsBuilder-has c.in_ok-ledger.ledger c.counted_for-cube.result (invariant_of-result c);
}
