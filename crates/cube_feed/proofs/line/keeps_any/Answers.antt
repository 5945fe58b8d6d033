use Rattle.cube_feed.proofs.LineLaws.{keeps_any-some, keeps_any-none}
use Rattle.cube_feed.proofs.line.keeps_any.Goals as goal

pub returns-then-version-eq2 : goal.returns-then-version-eq2
returns-then-version-eq2 c =
    keeps_any-some c.args.schema.now c.args.fields.now c.version.result c.has_keep_text.result c.version.ensures.value
    c.if-version-eq2.true c.has_keep_text.ensures

pub returns-else-version-eq2 : goal.returns-else-version-eq2
returns-else-version-eq2 c =
    keeps_any-none c.args.schema.now c.args.fields.now c.version.result c.version.ensures.value c.if-version-eq2.false
