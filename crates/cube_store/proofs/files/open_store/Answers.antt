use Rattle.std.proofs.Common.{◌∙◌, sym, subst}
use Rattle.sqlite_pool.specs.Stored.{Recovers}
use Rattle.sqlite_trees.proofs.Doubt.{clean_of}
use Rattle.sqlite_store.specs.FileStore.{state, view}
use Rattle.sqlite_store.specs.Unopened.{image}
use Rattle.cube_store.specs.Found.{StoreOf, HasTablesOf}
use Rattle.cube_store.proofs.CodeLaws as codes
use Rattle.cube_store.proofs.FileLaws as laws
use Rattle.cube_store.proofs.files.open_store.Goals as goal

pub returns-in-Ok-open-clause-found : goal.returns-in-Ok-open-clause-found
returns-in-Ok-open-clause-found g c = λ clean.
    let store = c.in-Ok-open.store in
    let fresh = c.in-Ok.fresh in
    let e = c.in-Ok-open.ensures in
    let form = c.args.form in
    let now = clean_of (state store).is_clean clean in
    let schema = e.schema ∙ c.in-Ok.ensures.schema in
    record {
      is_open = e.ready.is_open clean;
      tables = laws.store_tables store form schema e.ready.unaltered;
      of_form = laws.store_form store form schema e.ready.unaltered;
      reads = subst (λ i. HasTablesOf form i (view store))
          (laws.image_is fresh c.args.files.log c.args.files.db c.in-Ok.ensures.files)
          (laws.reads_as store form (image fresh) now ((e.kept now).size ∙ c.in-Ok.ensures.size) schema e.ready.unaltered
          (subst (λ n. Recovers n (image fresh) (state store).committed) c.in-Ok.ensures.size (e.found now)));
    }

pub returns-in-Ok-open-clause-honest : goal.returns-in-Ok-open-clause-honest
returns-in-Ok-open-clause-honest g c = λ clean.
    laws.files_are_clean c.in-Ok.fresh c.args.files.log c.args.files.db c.in-Ok.ensures.files
    (c.in-Ok-open.ensures.honest (clean_of _ clean))

pub returns-in-Err-open-clause-falls : goal.returns-in-Err-open-clause-falls
returns-in-Err-open-clause-falls g c = λ clean.
    laws.files_are_clean c.in-Ok.fresh c.args.files.log c.args.files.db c.in-Ok.ensures.files
    (c.in-Err-open.ensures.falls
    (laws.left_is_clean c.in-Err-open.left c.close.result.log c.close.result.db c.close.ensures clean))

pub returns-in-Err-open-clause-accepts : goal.returns-in-Err-open-clause-accepts
returns-in-Err-open-clause-accepts g c = λ clean found.
    let still = laws.left_is_clean c.in-Err-open.left c.close.result.log c.close.result.db c.close.ensures clean in
    let same = laws.image_is c.in-Ok.fresh c.args.files.log c.args.files.db c.in-Ok.ensures.files in
    rw c.from.ensures (codes.attach_fails _ _ _ _ c.in-Err-open.error (c.in-Err-open.ensures.cause still)
    (laws.has_file c.in-Ok.fresh c.args.form c.in-Ok.ensures.size c.in-Ok.ensures.schema
    (subst (StoreOf c.args.form) (sym same) found)))
