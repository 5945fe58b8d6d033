use Rattle.std.proofs.Common.{◌≡◌, ◌∙◌, ap, refl, subst, Some, IfSome, get_or}
use Rattle.std.proofs.lemmas.Result.{err_from_is_err_and}
use Rattle.cube_core.specs.declared.key.Row.{Row}
use Rattle.cube_merge.specs.Merging.{nothing_left}
use Rattle.cube_lines.specs.Parts.{key_parts}
use Rattle.cube_merge.proofs.LeastLaws.{at_place, used_rows-some}
use Rattle.cube_merge.proofs.CubesLaws.{IsLeastSoFar-all}
use Rattle.cube_merge.proofs.FaultLaws.{StepFails-join}
use Rattle.cube_merge.proofs.cubes.put_row.Goals as goal

pub join_rows-requires-clause-least : goal.join_rows-requires-clause-least
join_rows-requires-clause-least g c =
    let is : c.index-inputs-place.result.row ≡ Some c.in-Some.row.now = (c.in-Some.ensures {u = tt}).0 in
    IsLeastSoFar-all c.args.inputs.now c.args.place c.in-Some.row.now c.requires.least
    (ap (λ x. x.row)
    (at_place c.args.inputs.now c.args.place c.index-inputs-place.result c.requires.least.0 c.index-inputs-place.is)
    ∙ is)

pub returns-clause-ok : goal.returns-clause-ok
returns-clause-ok g c =
    let is : c.index-inputs-place.result.row ≡ Some c.in-Some.row.now = (c.in-Some.ensures {u = tt}).0 in
    let there : (get_or c.args.inputs.now c.args.place nothing_left).row ≡ Some c.in-Some.row.now
    = ap (λ x. x.row)
    (at_place c.args.inputs.now c.args.place c.index-inputs-place.result c.requires.least.0 c.index-inputs-place.is)
    ∙ is in
    let row : Row = record { key = c.in-Some.row.now.key; answers = c.put_answers.new.answers.items } in
    let shown : c.key_text.result.now ≡ key_parts c.in-Some.row.now.key =
    subst (λ o. IfSome o (λ (r : Row). c.key_text.result.now ≡ key_parts r.key)) is c.key_text.ensures in
    let joined = c.in_ok-join_rows.ensures {u = tt} in (
      row,
      (rw c.as_slice-2.ensures.value at (c.in_ok-push_line.ensures {u = tt})) c.in-Some.row.now.key
          (c.in-Some.ensures {u = tt}).1 shown,
      record {
        wide = joined.long;
        uses = joined.uses;
        fit = rw c.aggregates.ensures.value at joined.fit;
        some = used_rows-some c.in-Some.row.now.key c.join_rows.new.joint.used.items c.args.inputs.now c.args.place
            c.in-Some.row.now joined.long joined.uses there refl;
        answers = λ wanted sources. (rw c.as_slice.ensures.value at (c.in_ok-put_answers.ensures {u = tt}))
            c.args.given.now.aggregates wanted _ (rw c.aggregates.ensures.value at joined.made) sources;
      },
    )

pub returns-in_err-join_rows-clause-err : goal.returns-in_err-join_rows-clause-err
returns-in_err-join_rows-clause-err g c =
    let p = err_from_is_err_and c.from_residual.result c.from_residual.ensures.1 in
    rw (p.1, p.2) (StepFails-join c.args.given.now c.args.inputs.now _
    (rw c.aggregates.ensures.value at c.in_err-join_rows.ensures.err))
