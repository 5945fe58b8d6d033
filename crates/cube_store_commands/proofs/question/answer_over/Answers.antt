use Rattle.std.proofs.Common.{◌∙◌, ap, sym}
use Rattle.cube_ledger.specs.Ledger.{LedgerView}
use Rattle.cube_store_commands.proofs.AskingLaws as laws
use Rattle.cube_store_commands.proofs.question.answer_over.Goals as goal

pub ask_ledger-requires-clause-schema : goal.ask_ledger-requires-clause-schema
ask_ledger-requires-clause-schema g c κs within =
    ap (λ (l : LedgerView). l.schema) c.into_ledger-ledger.ensures.value ∙ c.into_ledger-ledger.ensures.live.schema
    ∙ sym c.schema-schema.ensures

pub returns-in-Ok-clause-ok : goal.returns-in-Ok-clause-ok
returns-in-Ok-clause-ok g c = λ arrivals stands.
    laws.AnsweredAt-ledger c.args.terms.now c.args.question.now c.args.live c.in-Ok.status _ _
    c.into_ledger-ledger.ensures.live
    (rw (c.schema-schema.ensures, c.into_ledger-ledger.ensures.value) at c.in-Ok.ensures.ok) arrivals stands

pub returns-in-Err-clause-err : goal.returns-in-Err-clause-err
returns-in-Err-clause-err g c = λ arrivals stands fits.
    laws.FailsAt-told c.args.terms.now c.args.question.now c.args.live c.in-Err.failure _ _ _
    c.into_ledger-ledger.ensures.live c.told_as.ensures
    (rw (c.schema-schema.ensures, c.into_ledger-ledger.ensures.value) at c.in-Err.ensures.err) arrivals stands

pub returns-in-Err-clause-unwritten : goal.returns-in-Err-clause-unwritten
returns-in-Err-clause-unwritten g c =
    laws.FailsUnwritten-told c.args.terms.now c.args.question.now c.args.live c.in-Err.failure _ _ _ c.told_as.ensures
    (rw (c.schema-schema.ensures, c.into_ledger-ledger.ensures.value) at c.in-Err.ensures.err)
