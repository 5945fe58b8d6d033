use Rattle.std.proofs.Common.{◌≡◌, ◌∙◌, refl, sym, subst}
use Rattle.std.proofs.lemmas.Result.{IfErr-weaker, IfOk-weaker, on_ok_weaker}
use Rattle.csv.specs.Records.{fields_of}
use Rattle.cube_live.specs.Request.{request_of}
use Rattle.cube_live.specs.declared.request.Request.{Request}
use Rattle.cube_live.specs.declared.request.Request.TheVariants as request
use Rattle.cube_live.proofs.RequestLaws.{IsSound, IsSound-request_of}
use Rattle.cube_live.proofs.KeepingLaws as keeping
use Rattle.cube_live.proofs.ServingLaws.{Replied-ask, Replied-change, Replied-wrong}
use Rattle.cube_live.proofs.ServingLaws.{ReplyFails-breaks, ReplyFails-change}
use Rattle.cube_live.proofs.session.take_record.Goals as goal

pub change-requires-clause-first : goal.change-requires-clause-first
change-requires-clause-first g c =
    let s = c.args.live.now.schema in
    let fields = fields_of c.args.fields.now in
    let asks : request.Change c.in-Change.source ≡ request_of s fields =
    sym c.in-Change.is ∙ (rw c.schema.ensures at c.in_ok-source.ensures) in
    (subst (λ (r : Request). IsSound s r) (sym asks) (IsSound-request_of s fields)).0

pub change-requires-clause-last : goal.change-requires-clause-last
change-requires-clause-last g c =
    let s = c.args.live.now.schema in
    let fields = fields_of c.args.fields.now in
    let asks : request.Change c.in-Change.source ≡ request_of s fields =
    sym c.in-Change.is ∙ (rw c.schema.ensures at c.in_ok-source.ensures) in
    (subst (λ (r : Request). IsSound s r) (sym asks) (IsSound-request_of s fields)).1

pub answer-requires-clause-ask : goal.answer-requires-clause-ask
answer-requires-clause-ask g c = λ sync lives.
    let s = c.args.live.now.schema in
    let fields = fields_of c.args.fields.now in
    let asks : request.Ask c.in-Ask.question ≡ request_of s fields =
    sym c.in-Ask.is ∙ (rw c.schema.ensures at c.in_ok-source.ensures) in
    subst (λ (r : Request). IsSound s r) (sym asks) (IsSound-request_of s fields)

pub returns-in-Ok-clause-ok : goal.returns-in-Ok-clause-ok
returns-in-Ok-clause-ok g c =
    let s = c.args.live.now.schema in
    let fields = fields_of c.args.fields.now in
    let asks : request.Change c.in-Change.source ≡ request_of s fields =
    sym c.in-Change.is ∙ (rw c.schema.ensures at c.in_ok-source.ensures) in
    λ arrivals stands. Replied-change s arrivals fields c.in-Change.source c.change.new.live c.args.sent _ asks
    (c.in-Ok.ensures.takes arrivals stands)

pub returns-in-Err-clause-err : goal.returns-in-Err-clause-err
returns-in-Err-clause-err g c =
    let s = c.args.live.now.schema in
    let fields = fields_of c.args.fields.now in
    let asks : request.Change c.in-Change.source ≡ request_of s fields =
    sym c.in-Change.is ∙ (rw c.schema.ensures at c.in_ok-source.ensures) in
    let within = subst (λ (r : Request). IsSound s r) (sym asks) (IsSound-request_of s fields) in
    λ arrivals stands. ReplyFails-change s c.args.live.now arrivals fields c.in-Change.source c.args.sent c.in-Err.fault
    _ refl asks within stands c.in-Err.ensures.fault

pub returns-in-Ask-clause-ok : goal.returns-in-Ask-clause-ok
returns-in-Ask-clause-ok g c =
    let s = c.args.live.now.schema in
    let fields = fields_of c.args.fields.now in
    let asks : request.Ask c.in-Ask.question ≡ request_of s fields =
    sym c.in-Ask.is ∙ (rw c.schema.ensures at c.in_ok-source.ensures) in
    IfOk-weaker c.answer.result _ _
    (λ total writes. λ arrivals stands. Replied-ask s arrivals fields c.in-Ask.question c.answer.new.live
    c.args.sent total _ _ asks (rw c.answer.ensures.same stands) (writes arrivals stands)) c.answer.ensures.ok

pub returns-in-Wrong-clause-ok : goal.returns-in-Wrong-clause-ok
returns-in-Wrong-clause-ok g c =
    let s = c.args.live.now.schema in
    let fields = fields_of c.args.fields.now in
    let asks : request.Wrong c.in-Wrong.fault ≡ request_of s fields =
    sym c.in-Wrong.is ∙ (rw c.schema.ensures at c.in_ok-source.ensures) in
    IfOk-weaker c.refuse.result _ _
    (λ total writes. λ arrivals stands. Replied-wrong s arrivals fields c.in-Wrong.fault c.args.live.now
    c.args.sent total _ _ asks stands (writes s arrivals)) c.refuse.ensures.ok

pub returns-in-Ask-clause-err : goal.returns-in-Ask-clause-err
returns-in-Ask-clause-err g c =
    let s = c.args.live.now.schema in
    let fields = fields_of c.args.fields.now in
    let asks : request.Ask c.in-Ask.question ≡ request_of s fields =
    sym c.in-Ask.is ∙ (rw c.schema.ensures at c.in_ok-source.ensures) in
    IfErr-weaker c.answer.result _ _
    (λ fault breaks. λ arrivals stands. ReplyFails-breaks s arrivals fields
    (request.Ask c.in-Ask.question) c.args.sent fault _ _ asks (breaks arrivals stands)) c.answer.ensures.err

pub returns-in-Wrong-clause-err : goal.returns-in-Wrong-clause-err
returns-in-Wrong-clause-err g c =
    let s = c.args.live.now.schema in
    let fields = fields_of c.args.fields.now in
    let asks : request.Wrong c.in-Wrong.fault ≡ request_of s fields =
    sym c.in-Wrong.is ∙ (rw c.schema.ensures at c.in_ok-source.ensures) in
    IfErr-weaker c.refuse.result _ _
    (λ fault breaks. λ arrivals stands. ReplyFails-breaks s arrivals fields
    (request.Wrong c.in-Wrong.fault) c.args.sent fault _ _ asks (breaks s arrivals)) c.refuse.ensures.err

pub returns-in-Ok-clause-kept : goal.returns-in-Ok-clause-kept
returns-in-Ok-clause-kept g c =
    let s = c.args.live.now.schema in
    let fields = fields_of c.args.fields.now in
    let asks : request.Change c.in-Change.source ≡ request_of s fields =
    sym c.in-Change.is ∙ (rw c.schema.ensures at c.in_ok-source.ensures) in
    keeping.KeepsOn-asks g.J.Journal.keeps g.J.Journal.breaks s c.args.journal.now (request.Change c.in-Change.source)
    (request_of s fields) fields c.change.new.journal asks c.in-Ok.ensures.kept

pub returns-in-Err-clause-err_kept : goal.returns-in-Err-clause-err_kept
returns-in-Err-clause-err_kept g c =
    let s = c.args.live.now.schema in
    let fields = fields_of c.args.fields.now in
    let asks : request.Change c.in-Change.source ≡ request_of s fields =
    sym c.in-Change.is ∙ (rw c.schema.ensures at c.in_ok-source.ensures) in
    keeping.EndsIn-asks g.J.Journal.keeps g.J.Journal.breaks s c.in-Err.fault c.args.journal.now
    (request.Change c.in-Change.source) (request_of s fields) fields c.change.new.journal asks c.in-Err.ensures.err_kept

pub returns-in-Ask-clause-kept : goal.returns-in-Ask-clause-kept
returns-in-Ask-clause-kept g c =
    let s = c.args.live.now.schema in
    let fields = fields_of c.args.fields.now in
    let asks : request.Ask c.in-Ask.question ≡ request_of s fields =
    sym c.in-Ask.is ∙ (rw c.schema.ensures at c.in_ok-source.ensures) in
    on_ok_weaker c.answer.result
    (keeping.KeepsOn-asks g.J.Journal.keeps g.J.Journal.breaks s c.args.journal.now (request.Ask c.in-Ask.question)
    (request_of s fields) fields c.answer.new.journal asks) c.answer.ensures.kept

pub returns-in-Ask-clause-err_kept : goal.returns-in-Ask-clause-err_kept
returns-in-Ask-clause-err_kept g c =
    let s = c.args.live.now.schema in
    let fields = fields_of c.args.fields.now in
    let asks : request.Ask c.in-Ask.question ≡ request_of s fields =
    sym c.in-Ask.is ∙ (rw c.schema.ensures at c.in_ok-source.ensures) in
    IfErr-weaker c.answer.result _ _
    (λ fault. keeping.EndsIn-asks g.J.Journal.keeps g.J.Journal.breaks s fault c.args.journal.now
    (request.Ask c.in-Ask.question) (request_of s fields) fields c.answer.new.journal asks) c.answer.ensures.err_kept

pub returns-in-Wrong-clause-kept : goal.returns-in-Wrong-clause-kept
returns-in-Wrong-clause-kept g c =
    let s = c.args.live.now.schema in
    let fields = fields_of c.args.fields.now in
    let asks : request.Wrong c.in-Wrong.fault ≡ request_of s fields =
    sym c.in-Wrong.is ∙ (rw c.schema.ensures at c.in_ok-source.ensures) in
    on_ok_weaker c.refuse.result
    (keeping.KeepsOn-asks g.J.Journal.keeps g.J.Journal.breaks s c.args.journal.now (request.Wrong c.in-Wrong.fault)
    (request_of s fields) fields c.refuse.new.journal asks) c.refuse.ensures.kept

pub returns-in-Wrong-clause-err_kept : goal.returns-in-Wrong-clause-err_kept
returns-in-Wrong-clause-err_kept g c =
    let s = c.args.live.now.schema in
    let fields = fields_of c.args.fields.now in
    let asks : request.Wrong c.in-Wrong.fault ≡ request_of s fields =
    sym c.in-Wrong.is ∙ (rw c.schema.ensures at c.in_ok-source.ensures) in
    IfErr-weaker c.refuse.result _ _
    (λ fault. keeping.EndsIn-asks g.J.Journal.keeps g.J.Journal.breaks s fault c.args.journal.now
    (request.Wrong c.in-Wrong.fault) (request_of s fields) fields c.refuse.new.journal asks) c.refuse.ensures.err_kept
