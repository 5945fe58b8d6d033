use Rattle.std.proofs.Common.{take}
use Rattle.sqlite_trees.specs.View.{IsClean, IsQuiet}
use Rattle.cube_store.specs.Making.{WritesNotes}
use Rattle.cube_store.specs.Rows.{entries_of}
use Rattle.cube_store.proofs.making.put_notes.Given as goal

abbrev pub invariant-notes : goal.invariant-notes
invariant-notes g l =
    let old = g.S.Store.view l.fn.store in
    let now = g.S.Store.view l.store in
    record {
      written : IsClean now → WritesNotes old now (take l.at (entries_of l.notes));
      quiet : IsQuiet g.S.Store.view g.S.Store.faults g.S.Store.recovers g.S.Store.is_shielded l.fn.store l.store;
    }
