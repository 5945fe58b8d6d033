use Rattle.cube_feed.proofs.RecordLaws.{ReadRecord-Advances}
use Rattle.cube_feed.proofs.record_source.RecordSource.advance.Goals as goal

pub returns-in-Ok-clause-takes : goal.returns-in-Ok-clause-takes
returns-in-Ok-clause-takes g c =
    rw (← c.self.view_is) (ReadRecord-Advances g.R.Read.remaining c.self.inside.reader c.read_byte_record.new.self
    c.in-Ok.found _ c.self.invariant c.in-Ok.ensures.reads)
