use Rattle.std.proofs.Common.{◌≡◌, ◌++◌, ◌+◌, ◌∙◌, ℕ, suc, map, take, drop, set, get_or, ap, arith}
use Rattle.cube_ledger.specs.Ledger.{without_facts}
use Rattle.cube_ledger.proofs.InterestLaws.{kept-more}
use Rattle.cube_ledger.proofs.ledger.forget_facts.Goals as goal

pub loop-account-preserved : goal.loop-account-preserved
loop-account-preserved g c =
    let accounts = c.loop-account.accounts in
    let i = c.loop-account.account-index in
    let initial = c.args.accounts.now in
    let so_far : accounts ≡ map without_facts (take i initial) ++ drop i initial = c.loop-account.invariant in
    ap (set accounts i) c.take_book.ensures.left
    ∙ (λ j. set (so_far j) i (without_facts (get_or (so_far j) i c.account-item.result)))
    ∙ kept-more without_facts initial i c.account-item.result (omega (arith, c.loop-account-test.true))
    ∙ ap (λ (n : ℕ). map without_facts (take n initial) ++ drop n initial) (suc≡ i)
  where
    suc≡ : (n : ℕ) → suc n ≡ n + 1
    suc≡ n = omega arith
