use Rattle.std.proofs.Common.{inl}
use Rattle.std.proofs.lemmas.Result.{IfErr-weaker}
use Rattle.sqlite_trees.specs.declared.error.StoreError.{StoreError}
use Rattle.sqlite_trees.specs.declared.error.StoreError.TheVariants.{OutOfMemory, Io, Corrupt, Full, Broken, Unstorable}
use Rattle.sqlite_trees.specs.View.{View, HasCause}
use Rattle.cube_store.proofs.journal.put_change.Goals as goal

-- a cause among more
HasCause-wider : (v : View) (fault P Q : Type 0) (e : StoreError) → (P → Q) → HasCause v fault P e
    → HasCause v fault Q e
HasCause-wider v fault P Q OutOfMemory wider h = h
HasCause-wider v fault P Q Io wider h = h
HasCause-wider v fault P Q Corrupt wider h = h
HasCause-wider v fault P Q Full wider h = h
HasCause-wider v fault P Q Broken wider h = h
HasCause-wider v fault P Q Unstorable wider h = wider h

pub returns-clause-ok : goal.returns-clause-ok
returns-clause-ok g c = rw (c.in_ok-fill_change.ensures, c.form_of.ensures) at c.put.ensures.ok

pub returns-clause-cause : goal.returns-clause-cause
returns-clause-cause g c = λ clean.
    IfErr-weaker c.put.result _ _ (λ e h. HasCause-wider (g.S.Store.view c.args.store.now) _ _ _ e
    (λ not. inl (c.args.digest.now, c.told-digest, not)) h)
    (rw (c.in_ok-fill_change.ensures, c.form_of.ensures) at (c.put.ensures.cause clean))
