use Rattle.cube_feed.proofs.HeaderLaws.{same_fields-equal, same_fields-other}
use Rattle.cube_feed.proofs.header.are_names_from.Goals as goal

pub returns-then-not-is_name : goal.returns-then-not-is_name
returns-then-not-is_name c =
    same_fields-other c.args.fields.now c.args.names.now c.args.start c.loop-i.i c.bytes_at.result.now
    c.index-names-i.result c.as_str.result.now _
    c.loop-i-test.true c.requires.in_record c.bytes_at.ensures c.index-names-i.is c.as_str.ensures.value
    c.if-not-is_name.ensures c.loop-i.invariant

pub loop-i-preserved : goal.loop-i-preserved
loop-i-preserved c =
    same_fields-equal c.args.fields.now c.args.names.now c.args.start c.loop-i.i c.bytes_at.result.now
    c.index-names-i.result c.as_str.result.now _
    c.loop-i-test.true c.requires.in_record c.bytes_at.ensures c.index-names-i.is c.as_str.ensures.value
    c.if-not-is_name.ensures c.loop-i.invariant
