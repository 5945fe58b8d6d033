use Rattle.std.proofs.Common.{◌∙◌, sym}
use Rattle.std.proofs.lemmas.List.{at_drop_all}
use Rattle.std.proofs.lemmas.List.Folds.{list_all_at}
use Rattle.std.specs.List.{list_all}
use Rattle.cube_core.proofs.ListLaws.{list_all-more}
use Rattle.cube_merge.specs.Source.{can_be_made}
use Rattle.cube_merge.proofs.source.can_all_be_made.Goals as goal

pub can_be_made-requires : goal.can_be_made-requires
can_be_made-requires c = c.requires c.loop-aggregate.aggregate-index _ c.loop-aggregate-test.true

pub loop-aggregate-preserved : goal.loop-aggregate-preserved
loop-aggregate-preserved c =
    list_all-more (can_be_made c.args.given.now) c.args.wanted.now c.loop-aggregate.aggregate-index _
    c.loop-aggregate-test.true (sym c.can_be_made.ensures ∙ c.if-not-can_be_made.false)
    ∙ c.loop-aggregate.invariant

pub returns-then-not-can_be_made : goal.returns-then-not-can_be_made
returns-then-not-can_be_made c =
    sym (list_all_at (can_be_made c.args.given.now) c.args.wanted.now c.loop-aggregate.aggregate-index _
    c.loop-aggregate-test.true (sym c.can_be_made.ensures ∙ c.if-not-can_be_made.true))

pub returns : goal.returns
returns c =
    sym (at_drop_all (list_all (can_be_made c.args.given.now)) c.args.wanted.now c.loop-aggregate.aggregate-index
    c.loop-aggregate-test.false)
    ∙ c.loop-aggregate.invariant
