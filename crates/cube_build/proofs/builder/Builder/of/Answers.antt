use Rattle.std.proofs.Common.{◌≡◌, ◌∙◌, ap, map}
use Rattle.cube_ledger.specs.Ledger.{all_facts}
use Rattle.cube_build.proofs.BuilderLaws.{IsBuilder-filled, IsBuilder-has}
use Rattle.cube_build.proofs.PartedLaws.{AllFitCounted-for}
use Rattle.cube_build.proofs.builder.Builder.of.Goals.{After-deref}
use Rattle.cube_build.proofs.builder.Builder.of.Goals as goal

-- the facts are those of the books
facts : (c : After-deref) → map (λ fact. fact.now) c.deref.result.now ≡ all_facts c.args.ledger.accounts
facts c = ap (map (λ fact. fact.now)) c.deref.ensures.value ∙ c.in_ok-facts.ensures.facts

pub fill-requires : goal.fill-requires
fill-requires c =
    rw (facts c)
    (AllFitCounted-for c.args.ledger.schema c.counted_for-cube.result (all_facts c.args.ledger.accounts)
    (rw c.schema.ensures.value at c.counted_for-cube.ensures.is) c.in_ok-facts.ensures.fit)

pub invariant_of-result : goal.invariant_of-result
invariant_of-result c =
    IsBuilder-filled c.args.ledger c.counted_for-cube.result c.fill.new.self
    (rw c.schema.ensures.value at c.counted_for-cube.ensures.is) c.in_ok-facts.ensures.fit
    (record { texts = c.fill.ensures.texts; same = c.fill.ensures.same })
    (rw (facts (goal.at.invariant_of-result c).After-deref) at c.in_ok-fill.ensures.has)

pub returns-clause-has : goal.returns-clause-has
returns-clause-has c = IsBuilder-has c.args.ledger c.fill.new.self (invariant_of-result c)
