use Rattle.std.proofs.Common.{ap, ◌∙◌}
use Rattle.std.proofs.lemmas.Result.{IfOk-weaker}
use Rattle.cube_rings.proofs.WireLaws.{ok-holds}
use Rattle.cube_rings.proofs.starting_builders.start.Goals as goal

pub returns : goal.returns
returns g c =
    ok-holds c.spawn_with-started.result c.ok.result _ c.ok.ensures.value
    (IfOk-weaker c.spawn_with-started.result _ _ (λ child same. ap (λ p. p.old.value) same ∙ c.of.ensures)
    c.spawn_with-started.ensures.ok)
