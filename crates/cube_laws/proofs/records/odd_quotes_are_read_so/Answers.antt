use Rattle.cube_laws.proofs.RecordLaws.{records-quote_within, records-quote_behind, records-quote_unclosed}
use Rattle.cube_laws.proofs.records.odd_quotes_are_read_so.Goals as goal

pub returns : goal.returns
returns c = record { within = records-quote_within; behind = records-quote_behind; unclosed = records-quote_unclosed }
