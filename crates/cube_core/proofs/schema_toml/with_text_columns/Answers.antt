use Rattle.std.proofs.Common.{◌++◌, ◌∷◌, [], ap, sym, ◌∙◌, append_assoc}
use Rattle.std.proofs.lemmas.List.{append-nil, map-append}
use Rattle.cube_core.specs.TextsDocument.{text_column}
use Rattle.cube_core.proofs.schema_toml.with_text_columns.Goals as goal

pub loop-name-init : goal.loop-name-init
loop-name-init c = sym (append-nil c.args.columns.items)

pub loop-name-preserved : goal.loop-name-preserved
loop-name-preserved c =
    let columns = c.args.columns.items in
    let name = c.in-Some.name in
    rw c.in_ok-push.ensures.items (ap (λ all. all ++ text_column name ∷ []) c.loop-name.invariant
    ∙ append_assoc columns _ (text_column name ∷ [])
    ∙ ap (λ more. columns ++ more) (sym (map-append text_column c.loop-name.yielded (name ∷ []))))
