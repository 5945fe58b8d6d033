use Rattle.std.proofs.Common.{◌≡◌, ◌++◌, ◌+◌, ◌∙◌, ℕ, suc, map, take, drop, set, get_or, ap, arith}
use Rattle.cube_ledger.proofs.InterestLaws.{kept-more}
use Rattle.cube_build.specs.Interest.{gathered_of_interest}
use Rattle.cube_build.proofs.building.keep_of_interest.Goals as goal

pub loop-gatherer-preserved : goal.loop-gatherer-preserved
loop-gatherer-preserved c =
    let gatherers = c.loop-gatherer.gatherers in
    let i = c.loop-gatherer.gatherer-index in
    let initial = c.args.gatherers.now in
    let keep = gathered_of_interest c.args.conditions.now in
    let so_far : gatherers ≡ map keep (take i initial) ++ drop i initial = c.loop-gatherer.invariant in
    ap (λ builder. set gatherers i (record (get_or gatherers i c.gatherer-item.result) { builder = builder }))
    c.keep.ensures
    ∙ (λ j. set (so_far j) i (keep (get_or (so_far j) i c.gatherer-item.result)))
    ∙ kept-more keep initial i c.gatherer-item.result (omega (arith, c.loop-gatherer-test.true))
    ∙ ap (λ (n : ℕ). map keep (take n initial) ++ drop n initial) (suc≡ i)
  where
    suc≡ : (n : ℕ) → suc n ≡ n + 1
    suc≡ n = omega arith
