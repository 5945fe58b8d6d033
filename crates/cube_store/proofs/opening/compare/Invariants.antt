use Rattle.std.proofs.Common.{◌≡◌, ◌++◌, take, IsSome, false}
use Rattle.sqlite_trees.specs.View.{IsClean, IsQuiet}
use Rattle.cube_store.specs.Rows.{entries_of, rows_from}
use Rattle.cube_store.specs.State.{OnlyReads, rows_left}
use Rattle.cube_store.proofs.opening.compare.Given as goal

abbrev pub invariant-notes : goal.invariant-notes
invariant-notes g l =
    let old = g.S.Store.view l.fn.store in
    let now = g.S.Store.view l.store in
    record {
      live : IsSome (now.cursors 0);
      reads : IsClean now → OnlyReads old now;
      quiet : IsQuiet g.S.Store.view g.S.Store.faults g.S.Store.recovers g.S.Store.is_shielded l.fn.store l.store;
      passed : IsClean now → old.trees 1 ≡ rows_from 0 (take l.at (entries_of l.notes)) ++ rows_left now 0;
      sound : IsClean now → old.is_broken ≡ false;
    }
