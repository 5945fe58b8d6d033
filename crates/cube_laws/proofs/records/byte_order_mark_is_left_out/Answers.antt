use Rattle.cube_laws.proofs.RecordLaws.{records_of-mark, records_of-other, records_of-none}
use Rattle.cube_laws.proofs.records.byte_order_mark_is_left_out.Goals as goal

pub returns : goal.returns
returns c = record { mark = records_of-mark; other = records_of-other; none = records_of-none }
