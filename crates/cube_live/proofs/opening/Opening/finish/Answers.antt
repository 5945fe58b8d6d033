use Rattle.std.proofs.Common.{◌∙◌}
use Rattle.cube_live.specs.Opening.{OpeningView}
use Rattle.cube_live.proofs.OpeningLaws.{LiveStandsAt-made}
use Rattle.cube_live.proofs.opening.Opening.finish.Goals as goal

pub returns-clause-stands : goal.returns-clause-stands
returns-clause-stands c =
    let opening : OpeningView = record { ledger = c.self.inside.ledger; numbers = c.self.inside.numbers.items } in
    let all = rw (← c.self.view_is) at c.requires.sources in
    rw (← c.self.view_is) (λ arrivals. LiveStandsAt-made opening c.new.result arrivals all
    (c.new.ensures.ledger ∙ c.of.ensures) c.new.ensures.numbers)
