use Rattle.std.proofs.Common.{◌≡◌, ◌<◌, ℕ, true, false, get_or, length}
use Rattle.cube_merge.proofs.cubes.all_used.Given as goal

abbrev pub invariant-loop : goal.invariant-loop
invariant-loop l = record {
  long : length l.used.items ≡ l.counter;
  used : (k : ℕ) → k < l.counter → get_or l.used.items k false ≡ true;
}
