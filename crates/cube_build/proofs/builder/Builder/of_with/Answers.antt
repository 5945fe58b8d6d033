use Rattle.std.proofs.Common.{◌≡◌, ◌∙◌, ap, map, rules}
use Rattle.cube_ledger.specs.Ledger.{all_facts}
use Rattle.cube_build.proofs.BuilderLaws.{IsBuilder-filled, IsBuilder-has}
use Rattle.cube_build.proofs.PartedLaws.{AllFitCounted-for}
use Rattle.cube_build.proofs.builder.Builder.of_with.Given.{Over}
use Rattle.cube_build.proofs.builder.Builder.of_with.Goals.{After-deref}
use Rattle.cube_build.proofs.builder.Builder.of_with.Goals as goal

-- the facts are those of the books
facts : (g : Over) (c : After-deref g) → map (λ fact. fact.now) c.deref.result.now ≡ all_facts c.args.ledger.accounts
facts g c = ap (map (λ fact. fact.now)) c.deref.ensures.value ∙ c.in_ok-facts.ensures.facts

pub fill_with-requires : goal.fill_with-requires
fill_with-requires g c = (
  search rules,
  rw (facts g c)
      (AllFitCounted-for c.args.ledger.schema c.counted_for-cube.result (all_facts c.args.ledger.accounts)
      (rw c.schema.ensures.value at c.counted_for-cube.ensures.is) c.in_ok-facts.ensures.fit),
)

pub invariant_of-result : goal.invariant_of-result
invariant_of-result g c =
    IsBuilder-filled c.args.ledger c.counted_for-cube.result c.fill_with.new.self
    (rw c.schema.ensures.value at c.counted_for-cube.ensures.is) c.in_ok-facts.ensures.fit
    (record { texts = c.fill_with.ensures.texts; same = c.fill_with.ensures.same })
    (rw (facts g (goal.at.invariant_of-result g c).After-deref) at c.in_ok-fill_with.ensures.has)

pub returns-clause-has : goal.returns-clause-has
returns-clause-has g c = IsBuilder-has c.args.ledger c.fill_with.new.self (invariant_of-result g c)
