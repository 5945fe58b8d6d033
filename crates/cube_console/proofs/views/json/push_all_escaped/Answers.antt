use Rattle.std.proofs.Common.{rules}
use Rattle.cube_console.specs.Json.{escaped}
use Rattle.cube_console.proofs.JsonLaws.{flat_map-step}
use Rattle.cube_console.proofs.views.json.push_all_escaped.Goals as goal

pub loop-byte-preserved : goal.loop-byte-preserved
loop-byte-preserved c =
    flat_map-step escaped c.args.field.now c.loop-byte.byte-index 0 c.args.text.now.items c.loop-byte.text.items
    c.push_escaped.new.text.items c.loop-byte-test.true c.loop-byte.invariant (search rules)
