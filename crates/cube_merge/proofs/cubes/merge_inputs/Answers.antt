use Rattle.std.proofs.Common.{◌≡◌, ◌∙◌, ap, false, get_or, length, refl, subst, inl, inr}
use Rattle.std.proofs.lemmas.Result.{IfErr-weaker, err_from_is_err_and, on_ok_weaker}
use Rattle.cube_merge.specs.Faults.{FailsAfter}
use Rattle.cube_merge.specs.Merging.{AllMove}
use Rattle.cube_merge.proofs.CubesLaws.{IsMerging-begun}
use Rattle.cube_merge.proofs.FaultLaws.{FailsAtFirstLine-moves}
use Rattle.cube_merge.proofs.cubes.merge_inputs.Goals as goal

pub returns-clause-ok : goal.returns-clause-ok
returns-clause-ok g c =
    let us = c.in_ok-used.used.items in
    let olds = c.args.inputs.now in
    let news = c.move_inputs.new.inputs in
    let same : length news ≡ length olds = c.move_inputs.auto.inputs in
    let moved : AllMove c.args.given.now us olds news =
    rw c.as_slice.ensures.value at (c.in_ok-move_inputs.ensures.ok) in
    let used = c.in_ok-used.ensures {u = tt} in
    on_ok_weaker c.merge_rows.result (λ rest starts fresh.
    let r = rest starts
    (IsMerging-begun c.args.given.now c.args.wanted.now.aggregates starts olds news us used.used fresh same moved) in
    (r.0, r.1, r.2 ∙ same, r.3, r.4, r.5)) c.merge_rows.ensures.ok

pub returns-clause-err : goal.returns-clause-err
returns-clause-err g c =
    let us = c.in_ok-used.used.items in
    let olds = c.args.inputs.now in
    let news = c.move_inputs.new.inputs in
    let same : length news ≡ length olds = c.move_inputs.auto.inputs in
    let moved : AllMove c.args.given.now us olds news =
    rw c.as_slice.ensures.value at (c.in_ok-move_inputs.ensures.ok) in
    let used = c.in_ok-used.ensures {u = tt} in
    IfErr-weaker c.merge_rows.result _ _ (λ fault rest. λ starts fresh. inr (subst
    (λ n. FailsAfter c.args.given.now c.args.wanted.now starts n fault (g.W.Write.contents c.args.w.now)
    (g.W.Write.contents c.merge_rows.new.w)) same
    (rest starts
    (IsMerging-begun c.args.given.now c.args.wanted.now.aggregates starts olds news us used.used fresh same moved))))
    c.merge_rows.ensures.err

pub returns-in_err-move_inputs-clause-err : goal.returns-in_err-move_inputs-clause-err
returns-in_err-move_inputs-clause-err g c =
    let p =
    err_from_is_err_and c.from_residual-in_err-move_inputs.result c.from_residual-in_err-move_inputs.ensures.1 in
    let used = c.in_ok-used.ensures {u = tt} in
    rw (p.1, p.2) (λ starts fresh. inl (
      refl,
      FailsAtFirstLine-moves c.args.given.now (c.as_slice.result.now) c.args.inputs.now _
          (λ k inside. ap (λ us. get_or us k false) c.as_slice.ensures.value ∙ used.used k inside)
          c.in_err-move_inputs.ensures.err,
    ))
