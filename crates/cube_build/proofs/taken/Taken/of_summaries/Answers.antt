use Rattle.std.proofs.Common.{◌∙◌, ap, false}
use Rattle.std.specs.List.{list_all}
use Rattle.cube_core.specs.Layout.{Layout, all_suffice, cube_schema, suffices}
use Rattle.cube_core.proofs.CubeSchemaLaws.{cube_schema-aggregates}
use Rattle.cube_ledger.specs.Ledger.{LedgerView}
use Rattle.cube_build.specs.Counting.{HaveFactsOf}
use Rattle.cube_build.proofs.TakenLaws.{counts-all, finest-has, finest-taken}
use Rattle.cube_build.proofs.taken.Taken.of_summaries.Given.{Over}
use Rattle.cube_build.proofs.taken.Taken.of_summaries.Goals.{In_ok-of}
use Rattle.cube_build.proofs.taken.Taken.of_summaries.Goals as goal

pub of-requires-clause-sets : goal.of-requires-clause-sets
of-requires-clause-sets g c = λ lifetimes live. rw c.into_parts-refused.ensures.cube c.requires.finest

pub of-requires-clause-facts : goal.of-requires-clause-facts
of-requires-clause-facts g c = λ lifetimes live. (
  _,
  counts-all c.into_parts-refused.result.0 c.into_parts-refused.result.2.ledger c.into_parts-refused.result.1 c.into_parts-refused.ensures.are,
)

pub of-requires-clause-numbers : goal.of-requires-clause-numbers
of-requires-clause-numbers g c = λ lifetimes live.
    ap (λ (s : Layout). all_suffice false s)
    (c.into_parts-refused.ensures.are.cells.schema
    ∙ ap (λ (l : LedgerView). cube_schema l.schema) c.into_parts-refused.ensures.ledger)
    ∙ ap (list_all (suffices false)) (cube_schema-aggregates c.args.part.builder.ledger.schema)
    ∙ c.requires.numbers

-- the finest cells have the facts of the ledger
has : (g : Over) (c : In_ok-of g) → HaveFactsOf c.into_parts-refused.result.2.ledger c.in_ok-of.field-0
has g c =
    finest-has c.into_parts-refused.result.0 c.into_parts-refused.result.2.ledger c.into_parts-refused.result.1
    c.in_ok-of.field-0 c.into_parts-refused.ensures.are c.in_ok-of.ensures.schema c.in_ok-of.ensures.facts

pub invariant_of-result : goal.invariant_of-result
invariant_of-result g c =
    finest-taken c.into_parts-refused.result.0 c.into_parts-refused.result.2.ledger c.args.part.builder.ledger
    c.into_parts-refused.result.1 c.in_ok-of.field-0 c.facts-facts.result c.into_parts-refused.ensures.are
    (has g (goal.at.invariant_of-result g c).In_ok-of) c.into_parts-refused.ensures.ledger c.facts-facts.ensures

pub returns-clause-cells : goal.returns-clause-cells
returns-clause-cells g c = rw (← c.into_parts-refused.ensures.ledger) (has g (goal.at.returns-clause-cells g c).In_ok-of)
