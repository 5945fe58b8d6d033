use Rattle.std.proofs.Common.{◌≡◌, ◌++◌, drop, flat_map}
use Rattle.cube_ledger.specs.Ledger.{AccountView}
use Rattle.cube_build.proofs.united.all_refusals.Given as goal

abbrev pub invariant-loop-account : goal.invariant-loop-account
invariant-loop-account l =
    l.refusals.items ++ flat_map (λ (a : AccountView). a.refusals) (drop l.account-index l.apart.accounts)
    ≡ flat_map (λ (a : AccountView). a.refusals) l.apart.accounts
