use Rattle.std.proofs.Common.{inl, inr, arith}
use Rattle.std.proofs.lemmas.Result.{on_ok_weaker, IfErr-weaker}
use Rattle.sqlite_trees.specs.View.{IsClean}
use Rattle.cube_store.specs.Rows.{entries_of}
use Rattle.cube_store.proofs.MakeLaws as laws
use Rattle.cube_store.proofs.ViewLaws.{open_if_sound, clean_if_open}
use Rattle.cube_store.proofs.making.write_notes.Goals as goal

pub returns-clause-made : goal.returns-clause-made
returns-clause-made g c =
    let old = g.S.Store.view c.args.store.now in
    let put = g.S.Store.view c.put_notes.new.store in
    on_ok_weaker c.commit.result (λ h clean.
    let midway : IsClean put = omega (arith, c.commit.ensures.clean) in
    let before : IsClean old = omega (arith, c.put_notes.ensures.quiet.clean) in
    laws.made_is old put (entries_of c.args.notes.now) (c.requires before) (c.in_ok-put_notes.ensures.written midway)
    (g.S.Store.view c.commit.new.self) (h clean)) c.commit.ensures.ok

pub returns-clause-left : goal.returns-clause-left
returns-clause-left g c =
    let old = c.args.store.now in
    let put = c.put_notes.new.store in
    let now = c.commit.new.self in
    laws.leaves_either g.S.Store.view g.S.Store.faults g.S.Store.recovers (entries_of c.args.notes.now) old put now
    (λ db h. elim (c.commit.ensures.crash db h) [
      | inl both ↦ (
          let midway = clean_if_open (g.S.Store.view put) (g.met.S.Store.shut_if_dirty put)
          (open_if_sound (g.S.Store.view put) (g.met.S.Store.broken_if_shut put) both.0) in
          let before : IsClean (g.S.Store.view old) = omega (arith, c.put_notes.ensures.quiet.clean) in
          inl (laws.leaves_notes (g.S.Store.view old) (g.S.Store.view put) (entries_of c.args.notes.now)
          (c.requires before) (c.in_ok-put_notes.ensures.written midway) db before both.1))
      | inr earlier ↦ inr earlier
    ]) c.put_notes.ensures.quiet.outcomes
    (laws.goes_quiet g.S.Store.view g.S.Store.faults g.S.Store.recovers g.S.Store.is_shielded old put
    c.put_notes.ensures.quiet)
    (record { clean = c.commit.ensures.clean; counts = c.commit.ensures.counts; stays = c.commit.ensures.open })

pub returns-clause-cause : goal.returns-clause-cause
returns-clause-cause g c = λ clean.
    let old = c.args.store.now in
    let put = c.put_notes.new.store in
    let midway : IsClean (g.S.Store.view put) = omega (arith, c.commit.ensures.clean) in
    let before : IsClean (g.S.Store.view old) = omega (arith, c.put_notes.ensures.quiet.clean) in
    IfErr-weaker c.commit.result _ _ (λ e h. laws.commit_cause (g.S.Store.view old) (g.S.Store.view put)
    (entries_of c.args.notes.now) (c.requires before) (c.in_ok-put_notes.ensures.written midway)
    (g.S.Store.faults old) (g.S.Store.faults put) (g.S.Store.faults c.commit.new.self) _ e
    c.put_notes.ensures.quiet.counts h) (c.commit.ensures.cause clean)

pub returns-in_err-put_notes-clause-left : goal.returns-in_err-put_notes-clause-left
returns-in_err-put_notes-clause-left g c = record {
  crash = λ db h. inr (c.put_notes.ensures.quiet.outcomes db h);
  on = laws.goes_quiet g.S.Store.view g.S.Store.faults g.S.Store.recovers g.S.Store.is_shielded c.args.store.now
      c.put_notes.new.store c.put_notes.ensures.quiet;
}
