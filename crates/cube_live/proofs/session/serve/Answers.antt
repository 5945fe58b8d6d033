use Rattle.std.proofs.Common.{◌∙◌, refl}
use Rattle.std.proofs.lemmas.Result.{IfErr-weaker, err_from_is_err_and, on_ok_weaker}
use Rattle.cube_feed.specs.Reading.{uncounted}
use Rattle.cube_live.proofs.ServingLaws.{HasGone-all, HasGone-fails, HasGone-input, HasGone-journal, HasGone-more, HasGone-none}
use Rattle.cube_live.specs.declared.session.SessionFault.TheVariants.{Full}
use Rattle.cube_live.proofs.KeepingLaws as laws
use Rattle.cube_live.proofs.TakenLaws as taken_laws
use Rattle.cube_live.proofs.session.serve.Goals as goal

pub loop-turn-init : goal.loop-turn-init
loop-turn-init g c = record {
  schema = refl;
  kept = laws.HasKept-none g.J.Journal.keeps g.J.Journal.breaks c.args.journal.now c.args.live.now.schema
      c.args.records.now.left c.args.live.now (g.W.Write.contents c.args.out.now);
  gone =
      HasGone-none c.args.live.now.schema c.args.records.now.left c.args.live.now (g.W.Write.contents c.args.out.now);
  taken = taken_laws.HasTaken-none c.args.live.now.schema c.args.records.now.left c.args.live.now
      c.args.records.now.taken (g.W.Write.contents c.args.out.now);
}

pub returns-in_err-settle_at_rest-clause-err_kept : goal.returns-in_err-settle_at_rest-clause-err_kept
returns-in_err-settle_at_rest-clause-err_kept g c =
    let p = err_from_is_err_and c.from_residual.result c.from_residual.ensures.1 in
    rw (p.1, p.2)
    (laws.HasKept-journal g.J.Journal.keeps g.J.Journal.breaks c.args.journal.now c.loop-turn.journal
    c.args.live.now.schema c.args.records.now.left c.args.live.now c.loop-turn.records.left c.loop-turn.live
    c.loop-turn.sent c.in_err-settle_at_rest.field-0.0 _ _ c.settle_at_rest.new.journal c.loop-turn.invariant.kept
    c.in_err-settle_at_rest.ensures.fault c.in_err-settle_at_rest.ensures.err_kept)

pub returns-then-not-branch-clause-ok : goal.returns-then-not-branch-clause-ok
returns-then-not-branch-clause-ok g c =
    let ended = rw c.if-not-branch.true at c.in_ok-advance.ensures.takes in
    laws.OnOk-always c.settle.result
    (HasGone-all c.args.live.now.schema c.args.records.now.left c.args.live.now c.loop-turn.records.left
    c.loop-turn.live (uncounted c.advance.new.records) c.loop-turn.sent _ _
    c.loop-turn.invariant.gone ended)

pub returns-in-Err-clause-err : goal.returns-in-Err-clause-err
returns-in-Err-clause-err g c =
    let taken = rw c.if-not-branch.false at c.in_ok-advance.ensures.takes in
    HasGone-fails c.args.live.now.schema c.args.records.now.left c.args.live.now c.loop-turn.records.left
    c.loop-turn.live (uncounted c.advance.new.records) c.loop-turn.sent c.in-Err.fault _ _ _
    c.loop-turn.invariant.gone taken
    (λ arrivals stands. rw (c.loop-turn.invariant.schema, c.fields.ensures) at (c.in-Err.ensures.err arrivals stands))

pub loop-turn-preserved : goal.loop-turn-preserved
loop-turn-preserved g c =
    let taken = rw c.if-not-branch.false at c.in_ok-advance.ensures.takes in
    let still = laws.HasKept-still g.J.Journal.keeps g.J.Journal.breaks c.args.journal.now c.loop-turn.journal
    c.args.live.now.schema c.args.records.now.left c.args.live.now c.loop-turn.records.left c.loop-turn.live
    c.loop-turn.sent (g.W.Write.contents c.args.out.now) (g.W.Write.contents c.loop-turn.out)
    c.settle_at_rest.new.journal c.loop-turn.invariant.kept c.in_ok-settle_at_rest.ensures.kept in
    record {
      schema = c.take_record.ensures.schema ∙ c.loop-turn.invariant.schema;
      kept =
          laws.HasKept-more g.J.Journal.keeps g.J.Journal.breaks c.args.journal.now c.settle_at_rest.new.journal
          c.args.live.now.schema c.args.records.now.left c.args.live.now c.loop-turn.records.left
          c.loop-turn.live c.take_record.new.live (uncounted c.advance.new.records) c.loop-turn.sent c.in-Ok.total _ _ _
          c.take_record.new.journal still taken
          (λ arrivals stands.
          rw (c.loop-turn.invariant.schema, c.fields.ensures) at (c.in-Ok.ensures.ok arrivals stands))
          (rw (c.loop-turn.invariant.schema, c.fields.ensures) at c.in-Ok.ensures.kept);
      gone = HasGone-more c.args.live.now.schema c.args.records.now.left c.args.live.now c.loop-turn.records.left
          c.loop-turn.live c.take_record.new.live (uncounted c.advance.new.records) c.loop-turn.sent c.in-Ok.total _ _ _
          c.loop-turn.invariant.gone taken (λ arrivals stands.
          rw (c.loop-turn.invariant.schema, c.fields.ensures) at (c.in-Ok.ensures.ok arrivals stands));
      taken = taken_laws.HasTaken-more c.args.live.now.schema c.args.records.now.left c.args.live.now
          c.loop-turn.records.left c.loop-turn.live c.args.records.now.taken c.loop-turn.records.taken c.loop-turn.sent
          c.take_record.new.live (uncounted c.advance.new.records) c.advance.new.records.taken c.in-Ok.total _ _ _
          c.loop-turn.invariant.taken taken (λ arrivals stands.
          rw (c.loop-turn.invariant.schema, c.fields.ensures) at (c.in-Ok.ensures.ok arrivals stands))
          (rw c.if-not-branch.false at c.in_ok-advance.ensures.counts);
    }

pub returns-in_err-advance-clause-err_kept : goal.returns-in_err-advance-clause-err_kept
returns-in_err-advance-clause-err_kept g c =
    let p = err_from_is_err_and c.from_residual-in_err-advance.result c.from_residual-in_err-advance.ensures.1 in
    let still = laws.HasKept-still g.J.Journal.keeps g.J.Journal.breaks c.args.journal.now c.loop-turn.journal
    c.args.live.now.schema c.args.records.now.left c.args.live.now c.loop-turn.records.left c.loop-turn.live
    c.loop-turn.sent (g.W.Write.contents c.args.out.now) (g.W.Write.contents c.loop-turn.out)
    c.settle_at_rest.new.journal c.loop-turn.invariant.kept c.in_ok-settle_at_rest.ensures.kept in
    rw (p.1, p.2)
    (laws.HasKept-input g.J.Journal.keeps g.J.Journal.breaks c.args.journal.now c.settle_at_rest.new.journal
    c.args.live.now.schema c.args.records.now.left c.args.live.now c.loop-turn.records.left c.loop-turn.live
    c.loop-turn.sent c.in_err-advance.field-0.0 _ _ still c.in_err-advance.ensures.fault)

pub returns-then-not-branch-clause-kept : goal.returns-then-not-branch-clause-kept
returns-then-not-branch-clause-kept g c =
    let ended = rw c.if-not-branch.true at c.in_ok-advance.ensures.takes in
    let still = laws.HasKept-still g.J.Journal.keeps g.J.Journal.breaks c.args.journal.now c.loop-turn.journal
    c.args.live.now.schema c.args.records.now.left c.args.live.now c.loop-turn.records.left c.loop-turn.live
    c.loop-turn.sent (g.W.Write.contents c.args.out.now) (g.W.Write.contents c.loop-turn.out)
    c.settle_at_rest.new.journal c.loop-turn.invariant.kept c.in_ok-settle_at_rest.ensures.kept in
    on_ok_weaker c.settle.result
    (laws.HasKept-all g.J.Journal.keeps g.J.Journal.breaks c.args.journal.now c.settle_at_rest.new.journal
    c.args.live.now.schema c.args.records.now.left c.args.live.now c.loop-turn.records.left c.loop-turn.live
    (uncounted c.advance.new.records) c.loop-turn.sent (g.W.Write.contents c.args.out.now)
    (g.W.Write.contents c.loop-turn.out) c.settle.new.journal still ended) c.settle.ensures.kept

pub returns-then-not-branch-clause-err_kept : goal.returns-then-not-branch-clause-err_kept
returns-then-not-branch-clause-err_kept g c =
    let still = laws.HasKept-still g.J.Journal.keeps g.J.Journal.breaks c.args.journal.now c.loop-turn.journal
    c.args.live.now.schema c.args.records.now.left c.args.live.now c.loop-turn.records.left c.loop-turn.live
    c.loop-turn.sent (g.W.Write.contents c.args.out.now) (g.W.Write.contents c.loop-turn.out)
    c.settle_at_rest.new.journal c.loop-turn.invariant.kept c.in_ok-settle_at_rest.ensures.kept in
    laws.IfErr-and c.settle.result _ _ _ c.settle.ensures.fault c.settle.ensures.err_kept (λ fault is on.
    laws.HasKept-journal g.J.Journal.keeps g.J.Journal.breaks c.args.journal.now c.settle_at_rest.new.journal
    c.args.live.now.schema c.args.records.now.left c.args.live.now c.loop-turn.records.left c.loop-turn.live
    c.loop-turn.sent fault (g.W.Write.contents c.args.out.now)
    (g.W.Write.contents c.loop-turn.out) c.settle.new.journal still is on)

pub returns-in-Err-clause-err_kept : goal.returns-in-Err-clause-err_kept
returns-in-Err-clause-err_kept g c =
    let taken = rw c.if-not-branch.false at c.in_ok-advance.ensures.takes in
    let still = laws.HasKept-still g.J.Journal.keeps g.J.Journal.breaks c.args.journal.now c.loop-turn.journal
    c.args.live.now.schema c.args.records.now.left c.args.live.now c.loop-turn.records.left c.loop-turn.live
    c.loop-turn.sent (g.W.Write.contents c.args.out.now) (g.W.Write.contents c.loop-turn.out)
    c.settle_at_rest.new.journal c.loop-turn.invariant.kept c.in_ok-settle_at_rest.ensures.kept in
    laws.HasKept-fails g.J.Journal.keeps g.J.Journal.breaks c.args.journal.now c.settle_at_rest.new.journal
    c.args.live.now.schema c.args.records.now.left c.args.live.now c.loop-turn.records.left c.loop-turn.live
    (uncounted c.advance.new.records) c.loop-turn.sent c.in-Err.fault _ _ _ c.take_record.new.journal still taken
    (λ arrivals stands. rw (c.loop-turn.invariant.schema, c.fields.ensures) at (c.in-Err.ensures.err arrivals stands))
    (rw (c.loop-turn.invariant.schema, c.fields.ensures) at c.in-Err.ensures.err_kept)

pub returns-clause-err_kept : goal.returns-clause-err_kept
returns-clause-err_kept g c =
    laws.HasKept-input g.J.Journal.keeps g.J.Journal.breaks c.args.journal.now c.loop-turn.journal
    c.args.live.now.schema c.args.records.now.left c.args.live.now c.loop-turn.records.left c.loop-turn.live
    c.loop-turn.sent Full (g.W.Write.contents c.args.out.now)
    (g.W.Write.contents c.loop-turn.out) c.loop-turn.invariant.kept tt

pub returns-in_err-settle_at_rest-clause-reached : goal.returns-in_err-settle_at_rest-clause-reached
returns-in_err-settle_at_rest-clause-reached g c =
    let p = err_from_is_err_and c.from_residual.result c.from_residual.ensures.1 in
    rw (p.1, p.2)
    (taken_laws.LeavesTaken-journal c.args.live.now.schema c.args.records.now.left c.args.live.now
    c.loop-turn.records.left c.loop-turn.live c.args.records.now.taken c.loop-turn.records.taken c.loop-turn.sent
    c.in_err-settle_at_rest.field-0.0 _ _ c.loop-turn.invariant.taken c.in_err-settle_at_rest.ensures.fault)

pub returns-in_err-advance-clause-reached : goal.returns-in_err-advance-clause-reached
returns-in_err-advance-clause-reached g c =
    let p = err_from_is_err_and c.from_residual-in_err-advance.result c.from_residual-in_err-advance.ensures.1 in
    rw (p.1, p.2, c.in_err-advance.ensures.taken)
    (taken_laws.LeavesTaken-input c.args.live.now.schema c.args.records.now.left c.args.live.now
    c.loop-turn.records.left c.loop-turn.live c.args.records.now.taken c.loop-turn.records.taken c.loop-turn.sent
    c.in_err-advance.field-0.0 _ _ c.loop-turn.invariant.taken c.in_err-advance.ensures.fault)

pub returns-then-not-branch-clause-reached : goal.returns-then-not-branch-clause-reached
returns-then-not-branch-clause-reached g c =
    let same = rw c.if-not-branch.true at c.in_ok-advance.ensures.counts in
    rw same
    (IfErr-weaker c.settle.result _ _ (λ fault is. taken_laws.LeavesTaken-journal c.args.live.now.schema
    c.args.records.now.left c.args.live.now c.loop-turn.records.left c.loop-turn.live c.args.records.now.taken
    c.loop-turn.records.taken c.loop-turn.sent fault _ _ c.loop-turn.invariant.taken is) c.settle.ensures.fault)

pub returns-in-Err-clause-reached : goal.returns-in-Err-clause-reached
returns-in-Err-clause-reached g c =
    let taken = rw c.if-not-branch.false at c.in_ok-advance.ensures.takes in
    taken_laws.LeavesTaken-fails c.args.live.now.schema c.args.records.now.left c.args.live.now
    c.loop-turn.records.left c.loop-turn.live c.args.records.now.taken c.loop-turn.records.taken c.loop-turn.sent
    (uncounted c.advance.new.records) c.advance.new.records.taken c.in-Err.fault _ _ _ c.loop-turn.invariant.taken taken
    (λ arrivals stands. rw (c.loop-turn.invariant.schema, c.fields.ensures) at (c.in-Err.ensures.err arrivals stands))
    (rw c.if-not-branch.false at c.in_ok-advance.ensures.counts)

pub returns-clause-reached : goal.returns-clause-reached
returns-clause-reached g c =
    taken_laws.LeavesTaken-input c.args.live.now.schema c.args.records.now.left c.args.live.now
    c.loop-turn.records.left c.loop-turn.live c.args.records.now.taken c.loop-turn.records.taken c.loop-turn.sent
    Full (g.W.Write.contents c.args.out.now) (g.W.Write.contents c.loop-turn.out) c.loop-turn.invariant.taken tt

pub returns-in_err-settle_at_rest-clause-err : goal.returns-in_err-settle_at_rest-clause-err
returns-in_err-settle_at_rest-clause-err g c =
    let p = err_from_is_err_and c.from_residual.result c.from_residual.ensures.1 in
    rw (p.1, p.2)
    (HasGone-journal c.args.live.now.schema c.args.records.now.left c.args.live.now c.loop-turn.records.left
    c.loop-turn.live c.loop-turn.sent c.in_err-settle_at_rest.field-0.0 _ _ c.loop-turn.invariant.gone
    c.in_err-settle_at_rest.ensures.fault)

pub returns-in_err-advance-clause-err : goal.returns-in_err-advance-clause-err
returns-in_err-advance-clause-err g c =
    let p = err_from_is_err_and c.from_residual-in_err-advance.result c.from_residual-in_err-advance.ensures.1 in
    rw (p.1, p.2)
    (HasGone-input c.args.live.now.schema c.args.records.now.left c.args.live.now c.loop-turn.records.left
    c.loop-turn.live c.loop-turn.sent c.in_err-advance.field-0.0 _ _ c.loop-turn.invariant.gone
    c.in_err-advance.ensures.fault)

pub returns-then-not-branch-clause-err : goal.returns-then-not-branch-clause-err
returns-then-not-branch-clause-err g c =
    IfErr-weaker c.settle.result _ _ (λ fault is. HasGone-journal c.args.live.now.schema c.args.records.now.left
    c.args.live.now c.loop-turn.records.left c.loop-turn.live c.loop-turn.sent fault _ _ c.loop-turn.invariant.gone is)
    c.settle.ensures.fault

pub returns-clause-err : goal.returns-clause-err
returns-clause-err g c =
    HasGone-input c.args.live.now.schema c.args.records.now.left c.args.live.now c.loop-turn.records.left
    c.loop-turn.live c.loop-turn.sent Full (g.W.Write.contents c.args.out.now)
    (g.W.Write.contents c.loop-turn.out) c.loop-turn.invariant.gone tt
