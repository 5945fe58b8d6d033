use Rattle.std.proofs.Common.{◌≡◌, ◌++◌}
use Rattle.std.specs.List.{All}
use Rattle.cube_live.specs.Opening.{IsUnnumbered, opening_ledgers}
use Rattle.cube_live.proofs.opening.openings_of.Given as goal

abbrev pub invariant-loop-ledger : goal.invariant-loop-ledger
invariant-loop-ledger l =
    (opening_ledgers l.openings.items ++ l.ledger-iterator.rest.items ≡ l.fn.ledgers.items)
    × All IsUnnumbered l.openings.items
