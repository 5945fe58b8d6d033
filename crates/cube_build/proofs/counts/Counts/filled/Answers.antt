use Rattle.std.proofs.Common.{◌∙◌, ap, sym}
use Rattle.cube_core.specs.Layout.{cube_schema}
use Rattle.cube_build.specs.Builder.{BuilderView}
use Rattle.cube_build.specs.Counting.{HaveFactsOf}
use Rattle.cube_build.proofs.TakenLaws.{counts-all, counts-cells, filled-from, finest-has}
use Rattle.cube_build.proofs.counts.Counts.filled.Given.{Over}
use Rattle.cube_build.proofs.counts.Counts.filled.Goals.{In_ok-fill}
use Rattle.cube_build.proofs.counts.Counts.filled.Goals as goal

pub fill-requires-clause-schema : goal.fill-requires-clause-schema
fill-requires-clause-schema g c =
    c.self.invariant.cells.schema ∙ ap cube_schema (sym c.self.invariant.noted.schema)
    ∙ sym (c.in_ok-cube.ensures.new.schema_is ∙ ap cube_schema c.schema.ensures.value)

pub fill-requires-clause-facts : goal.fill-requires-clause-facts
fill-requires-clause-facts g c = (
  _,
  counts-all c.self.inside.refused c.self.inside.trace.ledger c.self.inside.cube c.self.invariant,
)

-- the cube that is filled has the facts of the ledger
filled : (g : Over) (c : In_ok-fill g) → HaveFactsOf c.self.inside.trace.ledger c.fill.new.self
filled g c =
    finest-has c.self.inside.refused c.self.inside.trace.ledger c.self.inside.cube c.fill.new.self c.self.invariant
    (c.in_ok-fill.ensures.same.schema ∙ c.in_ok-cube.ensures.new.schema_is ∙ ap cube_schema c.schema.ensures.value
    ∙ ap cube_schema c.self.invariant.noted.schema ∙ sym c.self.invariant.cells.schema) c.in_ok-fill.ensures.facts

pub new-requires : goal.new-requires
new-requires g c =
    counts-cells c.self.inside.refused c.self.inside.trace.ledger c.self.inside.cube c.fill.new.self
    c.self.invariant (filled g (goal.at.new-requires g c).In_ok-fill)

pub returns : goal.returns
returns g c =
    let was : BuilderView = record { ledger = c.self.inside.trace.ledger; cube = c.self.inside.cube } in
    rw (← c.self.view_is)
    (filled-from was c.new.result c.self.inside.refused.schema c.in_ok-cube.cube c.fill.new.self
    c.new.ensures.ledger c.new.ensures.cube c.self.invariant.noted.schema
    (rw c.schema.ensures.value at c.in_ok-cube.ensures.new) c.in_ok-fill.ensures.same
    (filled g (goal.at.returns g c).In_ok-fill).has)

pub fill-requires-clause-sets : goal.fill-requires-clause-sets
fill-requires-clause-sets g c = rw (← c.self.view_is) at c.requires
