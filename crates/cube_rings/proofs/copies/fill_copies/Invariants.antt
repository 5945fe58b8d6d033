use Rattle.std.proofs.Common.{◌≡◌, ◌+◌, vec_len}
use Rattle.std.specs.List.{All}
use Rattle.cube_rings.proofs.copies.fill_copies.Given as goal

abbrev pub invariant-loop : goal.invariant-loop
invariant-loop l = (vec_len l.copies + 1 ≡ l.counter) × All (λ copy. copy ≡ l.item) l.copies.items
