use Rattle.std.proofs.Common.{◌≡◌, IsSome, false}
use Rattle.sqlite_trees.specs.View.{IsClean, IsQuiet}
use Rattle.cube_store.specs.Reading.{HasPassed}
use Rattle.cube_store.specs.State.{OnlyReads, rows_left, form_in}
use Rattle.cube_store.proofs.opening.replay.Given as goal

abbrev pub invariant-changes : goal.invariant-changes
invariant-changes g l =
    let old = g.S.Store.view l.fn.store in
    let now = g.S.Store.view l.store in
    record {
      live : IsSome (now.cursors 0);
      reads : IsClean now → OnlyReads old now;
      quiet : IsQuiet g.S.Store.view g.S.Store.faults g.S.Store.recovers g.S.Store.is_shielded l.fn.store l.store;
      taken : IsClean now → HasPassed g.K.ChangeSink.takes (form_in old) (old.trees 0) (rows_left now 0) l.at l.digest l.fn.sink
          l.sink;
      sound : IsClean now → old.is_broken ≡ false;
    }
