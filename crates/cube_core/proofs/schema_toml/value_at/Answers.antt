use Rattle.toml.proofs.Views.{table_get}
use Rattle.cube_core.proofs.schema_toml.value_at.Goals as goal

pub returns : goal.returns
returns c = table_get c.get.result c.args.key.now c.args.document.now.entries c.get.ensures.value
