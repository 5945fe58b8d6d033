use Rattle.std.proofs.Common.{◌∙◌, ap, false, map}
use Rattle.cube_core.specs.Layout.{Layout, all_suffice}
use Rattle.cube_build.proofs.TakenLaws.{schema-taken, taken-seen}
use Rattle.cube_build.proofs.taken.take_where.Goals as goal

pub of_numbers-requires-clause-finest : goal.of_numbers-requires-clause-finest
of_numbers-requires-clause-finest g c = λ lifetimes live. c.in_ok-part.ensures.ok.finest

pub returns-in-Ok-clause-ok : goal.returns-in-Ok-clause-ok
returns-in-Ok-clause-ok g c =
    taken-seen c.args.schema.now c.args.conditions.now (map g.R.Read.remaining c.args.readers.items)
    c.in_ok-part.part c.in-Ok.taken c.in_ok-part.ensures.ok c.in-Ok.ensures.ledger c.in-Ok.ensures.cells
    c.in-Ok.ensures.inlets

pub returns-in-Err-clause-err : goal.returns-in-Err-clause-err
returns-in-Err-clause-err g c = c.in_ok-part.ensures.ok.takes.good

pub of_summaries-requires-clause-finest : goal.of_summaries-requires-clause-finest
of_summaries-requires-clause-finest g c = λ lifetimes live. c.in_ok-part-2.ensures.ok.finest

-- the part has the schema, whose aggregates summaries suffice for
pub of_summaries-requires-clause-numbers : goal.of_summaries-requires-clause-numbers
of_summaries-requires-clause-numbers g c = λ lifetimes live.
    let schema = schema-taken c.args.schema.now c.args.conditions.now (map g.R.Read.remaining c.args.readers.items)
    c.in_ok-part-2.part c.in_ok-part-2.ensures.ok in
    ap (λ (s : Layout). all_suffice false s) schema ∙ c.needs_numbers.ensures.suffice c.if-needs_numbers.false

pub returns-in-Ok-of_summaries-clause-ok : goal.returns-in-Ok-of_summaries-clause-ok
returns-in-Ok-of_summaries-clause-ok g c =
    taken-seen c.args.schema.now c.args.conditions.now (map g.R.Read.remaining c.args.readers.items)
    c.in_ok-part-2.part c.in-Ok-of_summaries.taken c.in_ok-part-2.ensures.ok c.in-Ok-of_summaries.ensures.ledger
    c.in-Ok-of_summaries.ensures.cells c.in-Ok-of_summaries.ensures.inlets

pub returns-in-Err-of_summaries-clause-err : goal.returns-in-Err-of_summaries-clause-err
returns-in-Err-of_summaries-clause-err g c = c.in_ok-part-2.ensures.ok.takes.good
