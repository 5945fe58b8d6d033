use Rattle.std.proofs.Common.{◌∙◌, ◌++◌, ap, get_or, map, option_to_list, sym, take}
use Rattle.std.proofs.lemmas.List.{map-append, take_all}
use Rattle.cube_core.specs.Merged.{column}
use Rattle.cube_merge.specs.Joint.{rows_of}
use Rattle.cube_merge.specs.Made.{without_values}
use Rattle.cube_merge.specs.Merging.{nothing_left}
use Rattle.cube_merge.proofs.JointLaws.{column-more}
use Rattle.cube_merge.proofs.step.put_column.Goals as goal

pub loop-place-preserved : goal.loop-place-preserved
loop-place-preserved g c =
    let at = c.args.at in
    let inputs = c.args.inputs.now in
    let places = c.args.places.now in
    let i = c.loop-place.place-index in
    let next = column at (option_to_list (get_or inputs (get_or places i 0) nothing_left).row) in
    c.in_ok-push_answer.ensures {u = tt}
    ∙ ap (λ r. c.loop-place.answers.items ++ map without_values (column at (option_to_list r))) c.row_at.ensures
    ∙ ap (λ t. t ++ map without_values next) c.loop-place.invariant
    ∙ sym (map-append without_values (column at (rows_of inputs (take i places))) next)
    ∙ ap (map without_values) (sym (column-more at inputs places i c.loop-place-test.true))

pub returns : goal.returns
returns g c =
    c.loop-place.invariant ∙ ap (λ ps. map without_values (column c.args.at (rows_of c.args.inputs.now ps)))
    (take_all c.loop-place.place-index c.args.places.now c.loop-place-test.false)
