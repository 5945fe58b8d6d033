-- The only shard of one has each id.
use Rattle.std.proofs.Common.{◌≡◌, ℕ, true, List, arith}
use Rattle.std.specs.Prelude.{◌==◌, ◌%◌, ◌<◌}
use Rattle.std.proofs.lemmas.Bool.{eq-eqb}
use Rattle.cube_core.specs.Shard.{IsShard, fnv_hash, is_in_shard}
use Rattle.cube_core.specs.declared.shard.Shard.{Shard}

remainder-one : (n place count : ℕ) → place < count → count ≡ 1 → (n % count == place) ≡ true
remainder-one n place count below one = eq-eqb (n % count) place (rw one (omega (arith, below, one)))

pub is_in_only_shard : (shard : Shard) (id : List ℕ) → IsShard shard → shard.count ≡ 1 → is_in_shard shard id ≡ true
is_in_only_shard shard id is one = remainder-one (fnv_hash id) shard.place shard.count is.below one
