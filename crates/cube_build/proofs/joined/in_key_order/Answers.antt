use Rattle.std.proofs.Common.{rules}
use Rattle.cube_core.proofs.KeyOrderLaws.{key_cmp-IsTotalOrder}
use Rattle.cube_cells.proofs.Codes.RankLaws.{IsSortedBy-key}
use Rattle.cube_build.proofs.joined.in_key_order.Goals as goal

pub returns-clause-order : goal.returns-clause-order
returns-clause-order c = IsSortedBy-key key_cmp-IsTotalOrder
    (λ row. row.key) c.sort_by.new.self.items c.in_ok-sort_by.ensures.sorted (λ a r q k. search rules)
