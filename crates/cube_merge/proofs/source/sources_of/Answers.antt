use Rattle.std.proofs.lemmas.List.Folds.{list_all_at}
use Rattle.cube_merge.specs.Source.{IsSourceOf, can_be_made}
use Rattle.cube_merge.proofs.GatherLaws.{AllZip-take}
use Rattle.cube_merge.proofs.source.sources_of.Goals as goal

pub loop-aggregate-preserved : goal.loop-aggregate-preserved
loop-aggregate-preserved c =
    rw (c.in_ok-push.ensures.items)
    (AllZip-take (IsSourceOf c.args.given.now) c.args.wanted.now c.loop-aggregate.sources.items
    c.loop-aggregate.aggregate-index _ c.in-Some.source c.loop-aggregate-test.true c.loop-aggregate.invariant
    (c.in-Some.ensures.some))

pub source_of-requires : goal.source_of-requires
source_of-requires c = c.requires c.loop-aggregate.aggregate-index _ c.loop-aggregate-test.true

pub returns-in_default-clause-none : goal.returns-in_default-clause-none
returns-in_default-clause-none c =
    list_all_at (can_be_made c.args.given.now) c.args.wanted.now c.loop-aggregate.aggregate-index _
    c.loop-aggregate-test.true c.in_default.ensures.none
