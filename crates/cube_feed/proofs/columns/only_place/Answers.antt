use Rattle.csv.specs.Records.{fields_of}
use Rattle.cube_feed.proofs.ColumnLaws.{FoundBefore-start}
use Rattle.cube_feed.proofs.columns.only_place.Goals as goal

pub loop-place-init : goal.loop-place-init
loop-place-init c = FoundBefore-start (fields_of c.args.header.now) c.args.name.now
