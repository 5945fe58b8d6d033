use Rattle.std.proofs.Common.{refl, arith}
use Rattle.sqlite_trees.specs.View.{IsClean}
use Rattle.cube_store.specs.Rows.{entries_of}
use Rattle.cube_store.specs.State.{stored_form}
use Rattle.cube_store.proofs.MakeLaws as laws
use Rattle.cube_store.proofs.making.make.Goals as goal

pub invariant_of-result : goal.invariant_of-result
invariant_of-result g c =
    laws.made_journal (stored_form (g.S.Store.view c.args.store)) (g.S.Store.view c.write_notes.new.store) (entries_of c.args.notes.now) c.in-Ok.ensures.made
    (g.met.S.Store.shut_if_dirty c.write_notes.new.store)

pub returns-in-Ok-clause-made : goal.returns-in-Ok-clause-made
returns-in-Ok-clause-made g c = λ clean.
    let old = g.S.Store.view c.args.store in
    let before : IsClean old = omega (arith, c.write_notes.ensures.left.on.clean) in
    laws.makes (stored_form old) (g.S.Store.view c.write_notes.new.store) (entries_of c.args.notes.now) (c.in-Ok.ensures.made clean) old
    (c.requires before) refl (g.met.S.Store.broken_if_shut c.write_notes.new.store)

pub returns-in-Err-clause-cause : goal.returns-in-Err-clause-cause
returns-in-Err-clause-cause g c = λ clean. (c.in-Err.error, refl, c.in-Err.ensures.cause clean)
