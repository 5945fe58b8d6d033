use Rattle.std.proofs.Common.{◌≡◌, vec_len}
use Rattle.cube_rings.proofs.wiring.words_for.Given as goal

abbrev pub invariant-loop : goal.invariant-loop
invariant-loop l = vec_len l.posts ≡ l.counter
