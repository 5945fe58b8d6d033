use Rattle.std.proofs.Common.{◌≡◌, ◌∷◌, ◌++◌, [], true, false, get_or, length-append, arith, below_more}
use Rattle.std.proofs.Math.ListN.{get_or-append}
use Rattle.std.proofs.Math.Seq.{get_or-append_seam}
use Rattle.cube_merge.proofs.cubes.all_used.Goals as goal

pub loop-init : goal.loop-init
loop-init c = rw c.in_ok-used.ensures.items (record { long = omega arith; used = λ k below. absurd (omega arith) })

pub loop-preserved : goal.loop-preserved
loop-preserved c =
    let used = c.loop.used.items in
    let so_far = c.loop.invariant in
    rw c.in_ok-push.ensures.items (record {
      long = omega (arith, so_far.long, length-append used (true ∷ []));
      used = below_more (λ k. get_or (used ++ true ∷ []) k false ≡ true) c.loop.counter
          (λ k below. rw (get_or-append used (true ∷ []) false k (omega (arith, below, so_far.long)))
          (so_far.used k below))
          (rw (← so_far.long) (get_or-append_seam used true [] false));
    })
