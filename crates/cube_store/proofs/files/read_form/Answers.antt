use Rattle.std.proofs.Common.{◌∙◌, sym, ap, subst}
use Rattle.sqlite_store.specs.Unopened.{image}
use Rattle.cube_store.specs.Found.{HasLooked, form_told}
use Rattle.cube_store.proofs.CodeLaws as codes
use Rattle.cube_store.proofs.FileLaws as laws
use Rattle.cube_store.proofs.files.read_form.Goals as goal

pub returns-in-Ok-clause-seen : goal.returns-in-Ok-clause-seen
returns-in-Ok-clause-seen g c = λ clean.
    let left = c.close.result in
    let new = c.read_catalog.new.self in
    let told = c.form_told.result in
    subst (λ i. HasLooked (image c.args.fresh) i told) (sym (laws.image_left new left.log left.db c.close.ensures))
    (laws.has_looked c.args.fresh new c.in-Ok.rows.items told c.requires.size
    (c.in-Ok.ensures.ok (laws.left_is_clean new left.log left.db c.close.ensures clean))
    (sym (c.form_told.ensures ∙ ap form_told c.deref.ensures.value)))

pub returns-in-Ok-clause-honest : goal.returns-in-Ok-clause-honest
returns-in-Ok-clause-honest g c = λ clean.
    c.read_catalog.ensures.honest (laws.left_is_clean c.read_catalog.new.self c.close.result.log c.close.result.db
    c.close.ensures clean)

pub returns-in-Err-clause-accepts : goal.returns-in-Err-clause-accepts
returns-in-Err-clause-accepts g c = λ clean store.
    let still = laws.left_is_clean c.read_catalog.new.self c.close-in-Err.result.log c.close-in-Err.result.db
    c.close-in-Err.ensures clean in
    rw c.from.ensures (codes.attach_fails _ _ _ _ c.in-Err.error (c.in-Err.ensures.cause still)
    (laws.has_some_file c.args.fresh c.requires.size store))
