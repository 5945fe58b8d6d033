use Rattle.std.proofs.Common.{◌∙◌, ap, map, sym}
use Rattle.std.proofs.lemmas.List.{length-map}
use Rattle.cube_tool.specs.declared.question.Question.TheVariants.{Cube}
use Rattle.cube_tool.proofs.RunLaws.{OfFeeds-sample}
use Rattle.cube_tool.proofs.command.sample.run_sample.Goals as goal

pub returns-clause-ok : goal.returns-clause-ok
returns-clause-ok g c =
    let readers = c.in-Ok-only.readers in
    OfFeeds-sample {builder = c.in_ok-builder.builder} Cube c.with_hash_key-schema.result
    (map g.R.Read.remaining readers.items) (c.with_hash_key-schema.ensures ∙ c.in-Ok.ensures)
    (ap (map g.R.Read.remaining) c.in-Ok-only.ensures)
    c.in_ok-builder.ensures.schema
    (c.in_ok-builder.ensures.sources ∙ readers.ok.0 ∙ sym (length-map readers.items g.R.Read.remaining))
    (rw c.ledger.ensures at c.status_after.ensures)
    c.in_ok-builder.ensures.ok
