use Rattle.std.proofs.Common.{sym}
use Rattle.csv.specs.Records.{fields_of}
use Rattle.cube_feed.proofs.FieldLaws.{field_at-Some, field_at-None}
use Rattle.cube_feed.proofs.field.bytes_at.Goals as goal

pub returns-in-Some : goal.returns-in-Some
returns-in-Some c = field_at-Some (fields_of c.args.row.now) c.args.place c.in-Some.field.now c.in-Some.ensures.value

pub returns-in-None : goal.returns-in-None
returns-in-None c = sym (field_at-None (fields_of c.args.row.now) c.args.place c.in-None.ensures.value)
