use Rattle.cube_console.proofs.WrittenLaws.{OnOk-from, Wrote-all}
use Rattle.cube_console.proofs.views.json_writer.JsonWriter.finish.Goals as goal

pub returns : goal.returns
returns g c d start text wrote ends =
    OnOk-from c.flush.result
    (Wrote-all g.O.Write.contents d start text c.send.new.self c.flush.new.self.inner
    (c.in_ok-send.ensures.wrote d start text wrote) c.in_ok-send.ensures.ready ends c.flush.ensures)
