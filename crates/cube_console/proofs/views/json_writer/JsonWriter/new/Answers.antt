use Rattle.std.proofs.Common.{◌∙◌, ap}
use Rattle.cube_console.proofs.WrittenLaws.{Wrote-none}
use Rattle.cube_console.proofs.views.json_writer.JsonWriter.new.Goals as goal

pub returns : goal.returns
returns g c start holds =
    Wrote-none g.O.Write.contents c.args.dimensions start (record { lines = c.new.result; outlet = c.new-2.result })
    c.new.ensures (ap g.O.Write.contents c.new-2.ensures ∙ holds)
