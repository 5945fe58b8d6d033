use Rattle.std.proofs.Common.{◌++◌, refl, take}
use Rattle.cube_console.proofs.WrittenLaws.{Wrote-more}
use Rattle.cube_console.proofs.views.json_writer.JsonWriter.take_bytes.Goals as goal

pub returns-in_ok-send-clause-wrote : goal.returns-in_ok-send-clause-wrote
returns-in_ok-send-clause-wrote g c d start text wrote =
    let part = take c.in_ok-count.count c.args.bytes.now in
    c.in_ok-send.ensures.wrote d start (text ++ part)
    (Wrote-more g.O.Write.contents d start text part c.args.self.now
    (record { lines = c.take_record.new.self; outlet = c.args.self.now.outlet }) wrote
    (c.in_ok-count.ensures.makes wrote.whole) refl)

pub returns-else-ready-ge-PART-clause-wrote : goal.returns-else-ready-ge-PART-clause-wrote
returns-else-ready-ge-PART-clause-wrote g c d start text wrote =
    Wrote-more g.O.Write.contents d start text (take c.in_ok-count.count c.args.bytes.now) c.args.self.now
    (record { lines = c.take_record.new.self; outlet = c.args.self.now.outlet }) wrote
    (c.in_ok-count.ensures.makes wrote.whole) refl
