use Rattle.std.proofs.Common.{◌∙◌, ◌-◌, ℕ, ap, length}
use Rattle.std.specs.Prelude.{slice_set}
use Rattle.std.proofs.lemmas.List.{length-set}
use Rattle.cube_live.specs.Opening.{OpeningView}
use Rattle.cube_live.proofs.OpeningLaws.{OpeningStandsFrom-more}
use Rattle.cube_live.proofs.opening.Opening.apply.Goals as goal

pub returns-clause-stands : goal.returns-clause-stands
returns-clause-stands c =
    let old : OpeningView = record { ledger = c.self.inside.ledger; numbers = c.self.inside.numbers.items } in
    let within = rw (← c.self.view_is) at c.requires in
    let enters = c.in_ok-apply_fed.ensures.enters in
    let all = ap length enters.accounts ∙ length-set old.ledger.accounts (c.args.source - 1) enters.account in
    rw (← c.self.view_is) (λ first arrivals stands. OpeningStandsFrom-more first old _ arrivals c.args.source
    c.args.item within.0 within.1 all enters.schema (c.in_ok-apply_fed.ensures.stands arrivals)
    (ap (λ (n : ℕ). slice_set c.self.inside.numbers.items (c.args.source - 1) n) c.number-number.ensures) stands)
