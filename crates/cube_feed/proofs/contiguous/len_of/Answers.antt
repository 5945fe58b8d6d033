use Rattle.std.proofs.Common.{length, sym, ap}
use Rattle.csv.specs.Records.{fields_of}
use Rattle.cube_feed.proofs.FieldLaws.{field_at-Some, field_at-None}
use Rattle.cube_feed.proofs.contiguous.len_of.Goals as goal

pub returns-in-Some : goal.returns-in-Some
returns-in-Some c =
    ap length (field_at-Some (fields_of c.args.row.now) c.args.place c.in-Some.field.now c.in-Some.ensures.value)

pub returns-in-None : goal.returns-in-None
returns-in-None c = sym (ap length (field_at-None (fields_of c.args.row.now) c.args.place c.in-None.ensures.value))
