use Rattle.std.proofs.Common.{arith, ◌≤◌, ◌∙◌, ap, vec_len}
use Rattle.std.proofs.lemmas.Result.{IfOk-weaker}
use Rattle.cube_rings.proofs.PlaceLaws.{All-append_last}
use Rattle.cube_rings.proofs.WireLaws.{ok-holds}
use Rattle.cube_rings.proofs.starting_feeders.start_last.Goals as goal

pub unwrap-feeder-requires : goal.unwrap-feeder-requires
unwrap-feeder-requires g c = c.pop.ensures.variant.1 (omega (arith, c.requires.some))

pub spawn_with-started-requires-clause-runs : goal.spawn_with-started-requires-clause-runs
spawn_with-started-requires-clause-runs g c κs within =
    let whole = rw c.unwrap-feeder.ensures at c.pop.ensures.items in
    All-append_last (λ feeder. (1 ≤ vec_len feeder.outlets) × (vec_len feeder.outlets ≤ 8))
    c.pop.new.self.items c.unwrap-feeder.result (rw whole at c.requires.outlets)

pub returns : goal.returns
returns g c = record {
  feeder = c.unwrap-feeder.result;
  split = rw c.unwrap-feeder.ensures at c.pop.ensures.items;
  promises =
      ok-holds c.spawn_with-started.result c.ok.result _ c.ok.ensures.value
      (IfOk-weaker c.spawn_with-started.result _ _
      (λ child same. ap (λ p. p.feeder.value) same ∙ c.of.ensures) c.spawn_with-started.ensures.ok);
}
