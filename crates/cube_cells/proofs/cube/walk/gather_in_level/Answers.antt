use Rattle.std.proofs.Common.{refl}
use Rattle.std.proofs.lemmas.Result.{on_ok_weaker}
use Rattle.cube_cells.proofs.cube.walk.gather_in_level.Goals as goal

pub gather_at-requires : goal.gather_at-requires
gather_at-requires g c = rw c.kept-key.ensures c.requires

pub returns : goal.returns
returns g c = on_ok_weaker c.gather_at.result
    (λ adds. record { same_set = refl; adds = adds; apart = c.gather_at.ensures.apart })
    (rw c.kept-key.ensures at c.gather_at.ensures.added)
