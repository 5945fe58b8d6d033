use Rattle.std.proofs.Common.{◌≡◌, ◌+◌, [], length, sum_by}
use Rattle.std.specs.List.{All}
use Rattle.cube_ledger.specs.Ledger.{LedgerStandsAt}
use Rattle.cube_build.proofs.ShareLaws.{sources_of, AreOfSchema}
use Rattle.cube_build.proofs.shares.new_ledgers.Given as goal

abbrev pub invariant-loop-share : goal.invariant-loop-share
invariant-loop-share l =
    (length l.ledgers.items ≡ l.share)
    × (sum_by sources_of l.ledgers.items + l.left ≡ l.sources)
    × AreOfSchema l.schema l.ledgers.items
    × All (λ ledger. LedgerStandsAt ledger []) l.ledgers.items
    × (l.share ≡ l.shares → l.left ≡ 0)
