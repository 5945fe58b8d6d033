use Rattle.std.proofs.Common.{sym}
use Rattle.std.proofs.lemmas.Str.{IsUtf8-from_is_utf8}
use Rattle.cube_feed.proofs.field.Fields.text_at.Goals as goal

pub from_utf8_unchecked-requires : goal.from_utf8_unchecked-requires
from_utf8_unchecked-requires c = rw c.bytes_at.ensures (IsUtf8-from_is_utf8 _ (sym c.if-is_text_at.ensures))
