use Rattle.std.proofs.Common.{◌≡◌, arith, length, subst}
use Rattle.cube_merge.specs.Front.{IsLeastIn}
use Rattle.cube_merge.proofs.front.least_in.Goals as goal

pub loop-place-init : goal.loop-place-init
loop-place-init g c = λ k below shown. absurd (omega arith)

pub loop-place-preserved : goal.loop-place-preserved
loop-place-preserved g c = c.lesser-least.ensures

pub returns : goal.returns
returns g c =
    let end : c.loop-place.place ≡ length c.args.inputs.now = omega arith in
    subst (λ n. IsLeastIn c.args.inputs.now c.args.behind.now c.loop-place.least n) end c.loop-place.invariant
