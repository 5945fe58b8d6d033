use Rattle.std.proofs.Common.{◌≡◌, ◌++◌, ◌+◌, ◌∙◌, ℕ, suc, map, take, drop, set, get_or, ap, arith}
use Rattle.cube_ledger.specs.Interest.{account_of_interest}
use Rattle.cube_ledger.proofs.InterestLaws.{kept-more}
use Rattle.cube_ledger.proofs.ledger.keep_of_interest.Goals as goal

pub loop-account-preserved : goal.loop-account-preserved
loop-account-preserved c =
    let accounts = c.loop-account.accounts in
    let i = c.loop-account.account-index in
    let initial = c.args.accounts.now in
    let keep = account_of_interest c.args.conditions.now in
    let so_far : accounts ≡ map keep (take i initial) ++ drop i initial = c.loop-account.invariant in
    ap (set accounts i) c.keep.ensures
    ∙ (λ j. set (so_far j) i (keep (get_or (so_far j) i c.account-item.result)))
    ∙ kept-more keep initial i c.account-item.result (omega (arith, c.loop-account-test.true))
    ∙ ap (λ (n : ℕ). map keep (take n initial) ++ drop n initial) (suc≡ i)
  where
    suc≡ : (n : ℕ) → suc n ≡ n + 1
    suc≡ n = omega arith
