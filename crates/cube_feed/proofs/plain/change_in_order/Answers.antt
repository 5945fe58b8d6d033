use Rattle.csv.specs.Records.{fields_of}
use Rattle.cube_core.proofs.PlainLaws.{plain_in_order-same}
use Rattle.cube_feed.proofs.plain.change_in_order.Goals as goal

pub returns-then-is_plain : goal.returns-then-is_plain
returns-then-is_plain c =
    let same = c.is_plain.ensures c.if-is_plain.true in
    rw (plain_in_order-same c.args.schema.now (fields_of c.args.fields.now) same.0 same.1)
    (rw (c.of.ensures, c.in_ok-fields.ensures) at c.change.ensures)
