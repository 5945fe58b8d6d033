use Rattle.std.proofs.Common.{sym}
use Rattle.std.proofs.lemmas.Str.{is_utf8-from_IsUtf8}
use Rattle.cube_feed.proofs.FieldLaws.{fields_of-IsUtf8}
use Rattle.cube_feed.proofs.field.Fields.is_text_at.Goals as goal

pub returns-then-self : goal.returns-then-self
returns-then-self c =
    sym (rw (← c.self.view_is)
    (is_utf8-from_IsUtf8 _ (fields_of-IsUtf8 c.self.inside.row.now c.args.place (c.self.invariant c.if-self.true))))
