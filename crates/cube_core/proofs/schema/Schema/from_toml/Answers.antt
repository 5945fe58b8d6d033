use Rattle.std.proofs.Common.{◌≡◌, Some, IsUtf8, rules}
use Rattle.toml.specs.Parse.{parse_document}
use Rattle.toml.specs.View.{table_view}
use Rattle.cube_core.proofs.SchemaLaws.{bytes-answered}
use Rattle.cube_core.proofs.schema.Schema.from_toml.Goals as goal

pub returns-in-Ok : goal.returns-in-Ok
returns-in-Ok c =
    let read : IsUtf8 c.args.bytes.now × (parse_document c.args.bytes.now ≡ Some (table_view c.in-Ok.document)) =
    search rules in
    bytes-answered c.args.bytes.now (table_view c.in-Ok.document) c.schema_of.result read.0 read.1 c.schema_of.ensures
