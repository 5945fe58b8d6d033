use Rattle.std.proofs.Common.{◌∙◌, sym}
use Rattle.std.proofs.lemmas.Result.{on_ok_weaker}
use Rattle.cube_store_commands.proofs.RecordLaws.{fields_in-pieces}
use Rattle.cube_store_commands.proofs.replay.read_stored.Goals as goal

pub returns-then-is_plain : goal.returns-then-is_plain
returns-then-is_plain c =
    on_ok_weaker c.read_pieces.result
    (λ read. read ∙ sym (fields_in-pieces c.args.text.now c.if-may_begin.ensures c.if-is_plain.ensures))
    c.read_pieces.ensures
