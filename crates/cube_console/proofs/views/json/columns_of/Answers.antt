use Rattle.csv.specs.Records.{fields_of}
use Rattle.cube_console.proofs.JsonLaws.{columns-step}
use Rattle.cube_console.proofs.views.json.columns_of.Goals as goal

pub loop-place-preserved : goal.loop-place-preserved
loop-place-preserved c =
    rw c.in_ok-push.ensures.items
    (columns-step c.args.dimensions (fields_of c.args.header.now) c.loop-place.place c.loop-place.columns.items
    c.in_ok-column_of.field-0 c.loop-place.invariant c.in_ok-column_of.ensures)
