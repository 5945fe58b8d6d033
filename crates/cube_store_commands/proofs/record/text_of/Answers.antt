use Rattle.std.proofs.Common.{sym, subst}
use Rattle.std.proofs.lemmas.Result.{IfOk-weaker}
use Rattle.csv.specs.Records.{fields_of}
use Rattle.cube_store_commands.specs.Records.{ReadsBack}
use Rattle.cube_store_commands.proofs.RecordLaws as laws
use Rattle.cube_store_commands.proofs.record.text_of.Goals as goal

pub returns-clause-back : goal.returns-clause-back
returns-clause-back c =
    let fields = fields_of c.args.fields.now in
    IfOk-weaker c.line_text.result _ _
    (λ text is. subst (ReadsBack fields) (sym is) (laws.ReadsBack-text fields)) c.line_text.ensures
