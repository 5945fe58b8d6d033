use Rattle.std.proofs.Common.{◌∙◌}
use Rattle.cube_build.specs.Counting.{HaveFactsOf}
use Rattle.cube_build.proofs.TakenLaws.{counts-new}
use Rattle.cube_build.proofs.draft.Draft.finest.Given.{Over}
use Rattle.cube_build.proofs.draft.Draft.finest.Goals.{In_ok-cube}
use Rattle.cube_build.proofs.draft.Draft.finest.Goals as goal

-- the cube has the facts of the books
has : (g : Over) (c : In_ok-cube g) → HaveFactsOf c.self.inside.ledger c.in_ok-cube.cube
has g c = record {
  schema = c.in_ok-cube.ensures.schema ∙ c.self.invariant.schema;
  has = c.in_ok-cube.ensures.has;
}

pub new-requires : goal.new-requires
new-requires g c =
    counts-new c.refusals_of-refused.result c.self.inside.ledger c.of-trace.result.ledger c.in_ok-cube.cube
    c.refusals_of-refused.ensures c.of-trace.ensures
    (has g (goal.at.new-requires g c).In_ok-cube)

pub returns : goal.returns
returns g c =
    rw (← c.self.view_is) (record {
      ledger_is = c.new.ensures.ledger ∙ c.of-trace.ensures;
      finest = rw c.new.ensures.cube c.in_ok-cube.ensures.sets;
      has = rw c.new.ensures.cube (has g (goal.at.returns g c).In_ok-cube);
    })
