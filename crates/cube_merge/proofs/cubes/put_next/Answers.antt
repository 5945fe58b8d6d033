use Rattle.std.proofs.Common.{IfSome, length, refl, subst}
use Rattle.std.proofs.lemmas.Result.{err_from_is_err_and}
use Rattle.cube_merge.specs.Front.{IsInFront}
use Rattle.cube_merge.specs.Merging.{IsLeastSoFar}
use Rattle.cube_merge.proofs.CubesLaws.{IsLeastSoFar-none}
use Rattle.cube_merge.proofs.FaultLaws.{StepFails-moves}
use Rattle.cube_merge.proofs.LeastLaws.{AreAbove-moved}
use Rattle.cube_merge.proofs.StepLaws.{IsMerging-step}
use Rattle.cube_merge.proofs.cubes.put_next.Goals as goal

pub returns-clause-ok : goal.returns-clause-ok
returns-clause-ok g c sources =
    let put = c.in_ok-put_row.ensures.ok in
    let next = put.2 in (
      put.0,
      put.1,
      λ starts rows m.
          IsMerging-step c.args.given.now c.args.wanted.now.aggregates starts c.args.inputs.now c.move_inputs.new.inputs rows
          c.put_row.new.desk.joint.used.items put.0 m next.wide c.move_inputs.auto.inputs next.uses next.some
          (next.answers c.args.wanted.now.aggregates sources) next.fit
          (rw c.as_slice-2.ensures.value at (c.in_ok-move_inputs.ensures.ok)),
    )

pub returns-in_err-move_inputs-clause-err : goal.returns-in_err-move_inputs-clause-err
returns-in_err-move_inputs-clause-err g c =
    let next = (c.in_ok-put_row.ensures.ok).2 in
    let p =
    err_from_is_err_and c.from_residual-in_err-move_inputs.result c.from_residual-in_err-move_inputs.ensures.1 in
    rw (p.1, p.2) (StepFails-moves c.args.given.now c.put_row.new.desk.joint.used.items c.args.inputs.now _ _ next.wide
    next.uses next.some next.fit (rw c.as_slice-2.ensures.value at c.in_err-move_inputs.ensures.err))

pub put_moved-requires : goal.put_moved-requires
put_moved-requires g c =
    AreAbove-moved c.args.given.now c.least_input.new.self.bound c.least_input.new.self.behind.items
    c.put_row.new.desk.joint.used.items c.args.inputs.now c.move_inputs.new.inputs
    (rw c.as_slice.ensures.value at c.in_ok-put_row.ensures.unused)
    (rw c.as_slice-2.ensures.value at c.in_ok-move_inputs.ensures.ok) c.in_ok-place.ensures.above

pub put_row-requires-clause-least : goal.put_row-requires-clause-least
put_row-requires-clause-least g c =
    subst (λ o. IsLeastSoFar c.args.inputs.now o (length c.args.inputs.now)) c.in-Some.is c.in_ok-place.ensures.least

pub put_row-requires-clause-front : goal.put_row-requires-clause-front
put_row-requires-clause-front g c =
    rw c.as_slice.ensures.value (subst (λ o. IfSome o (IsInFront c.args.inputs.now c.least_input.new.self.behind.items))
    c.in-Some.is c.in_ok-place.ensures.front)

pub returns-in_err-put_row-clause-err : goal.returns-in_err-put_row-clause-err
returns-in_err-put_row-clause-err g c =
    let p = err_from_is_err_and c.from_residual-in_err-put_row.result c.from_residual-in_err-put_row.ensures.1 in
    rw (p.1, p.2) c.in_err-put_row.ensures.err

pub returns-clause-above : goal.returns-clause-above
returns-clause-above g c = c.put_moved.ensures

pub returns-in_default-clause-ok : goal.returns-in_default-clause-ok
returns-in_default-clause-ok g c =
    let none = subst
    (λ o. IsLeastSoFar c.args.inputs.now o (length c.args.inputs.now)) c.in_default.is c.in_ok-place.ensures.least in
    (refl, refl, IsLeastSoFar-none c.args.inputs.now none)
