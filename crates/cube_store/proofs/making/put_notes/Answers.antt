use Rattle.std.proofs.Common.{◌<◌, ◌≤◌, length, take, ap, ◌∙◌, arith}
use Rattle.std.proofs.lemmas.Result.{err_from_is_err_and}
use Rattle.sqlite_trees.specs.View.{View, IsClean}
use Rattle.cube_store.specs.Rows.{entries_of}
use Rattle.cube_store.proofs.MakeLaws as laws
use Rattle.cube_store.proofs.ReadingLaws.{quiet_then}
use Rattle.cube_store.proofs.making.put_notes.Goals as goal

pub put_note-requires-clause-table : goal.put_note-requires-clause-table
put_note-requires-clause-table g c = λ clean.
    let first : IsClean (g.S.Store.view c.args.store.now) = omega (arith, c.notes.invariant.quiet.clean) in
    ap (λ (v : View). v.shape 1) (c.notes.invariant.written clean).others ∙ c.requires.table first

pub notes-preserved : goal.notes-preserved
notes-preserved g c =
    let old = c.args.store.now in
    let before = c.notes.store in
    let now = c.put_note.new.store in
    let within : c.notes.at < length c.args.notes.now = omega arith in
    record {
      written = λ clean.
          let back : IsClean (g.S.Store.view before) = omega (arith, c.put_note.ensures.quiet.clean) in
          laws.writes_more c.args.notes.now c.notes.at _ (g.S.Store.view old) (g.S.Store.view before)
          (g.S.Store.view now) within (c.notes.invariant.written back) (c.in_ok-put_note.ensures.ok clean);
      quiet = quiet_then g.S.Store.view g.S.Store.faults g.S.Store.recovers g.S.Store.is_shielded old before now
          c.notes.invariant.quiet c.put_note.ensures.quiet;
    }

pub returns-in_err-put_note-clause-cause : goal.returns-in_err-put_note-clause-cause
returns-in_err-put_note-clause-cause g c = λ clean.
    let p = err_from_is_err_and c.from_residual.result c.from_residual.ensures.1 in
    let old = c.args.store.now in
    let before = c.notes.store in
    let now = c.put_note.new.store in
    let back : IsClean (g.S.Store.view before) = omega (arith, c.put_note.ensures.quiet.clean) in
    let within : c.notes.at < length c.args.notes.now = omega arith in
    let up : g.S.Store.faults old ≤ g.S.Store.faults before = c.notes.invariant.quiet.counts in
    rw (p.1, p.2) (laws.note_cause (g.S.Store.view old) (g.S.Store.view before) (g.S.Store.faults old)
    (g.S.Store.faults before) (g.S.Store.faults now) c.args.notes.now c.notes.at _ c.in_err-put_note.field-0.0
    (take c.notes.at (entries_of c.args.notes.now)) within up
    (c.notes.invariant.written back) (c.in_err-put_note.ensures.cause clean))
