use Rattle.std.proofs.Common.{◌++◌, ◌∷◌, ◌∙◌, [], List, ap, refl}
use Rattle.std.specs.Prelude.{Ok, Result}
use Rattle.std.specs.declared.alloc.AllocError.{AllocError}
use Rattle.std.proofs.lemmas.List.{map-append}
use Rattle.cube_text.proofs.made.all_made.Goals as goal

pub loop-one-init : goal.loop-one-init
loop-one-init g c = rw c.in_ok-all.ensures.items refl

pub loop-one-preserved : goal.loop-one-preserved
loop-one-preserved g c =
    let one = c.in_ok-one.one in
    rw c.in_ok-push.ensures.items (rw (← c.in_ok-one.was) at (map-append Ok c.loop-one.all.items (one ∷ [])
    ∙ ap (λ (results : List (Result _ AllocError)). results ++ Ok one ∷ []) c.loop-one.invariant))
