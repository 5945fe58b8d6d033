use Rattle.std.proofs.Common.{refl}
use Rattle.std.proofs.lemmas.Str.{is_utf8-from_IsUtf8}
use Rattle.cube_feed.proofs.FieldLaws.{is_utf8-IsUtf8}
use Rattle.cube_live.proofs.number.count_of.Goals as goal

pub returns-in-Ok : goal.returns-in-Ok
returns-in-Ok c =
    rw (is_utf8-from_IsUtf8 c.args.field.now c.in-Ok.ensures.cases.1, ← c.in-Ok.ensures.cases.0) c.count_in.ensures

pub returns-in-Err : goal.returns-in-Err
returns-in-Err c = rw (is_utf8-IsUtf8 c.args.field.now c.in-Err.ensures.cases.0) refl
