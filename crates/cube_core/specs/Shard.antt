-- The shard of a record: which of so many shares of a feed it belongs to, told by its id alone (this project's choice;
-- the hash is FNV-1a of 64 bits, of Fowler, Noll and Vo, RFC 9923).
use Rattle.std.specs.Prelude.{◌==◌, ◌≤◌, ◌<◌, ◌*◌, ◌%◌, ◌^◌, bit_xor, ℕ, Bool, List}
use Rattle.std.specs.List.{fold}
use Rattle.cube_core.specs.declared.shard.Shard.{Shard}

-- what all hashes begin with, and what each step multiplies by
abbrev pub offset_basis : ℕ
offset_basis = 14695981039346656037

abbrev pub fnv_prime : ℕ
fnv_prime = 1099511628211

-- a hash with one byte more
abbrev pub with_byte : ℕ → ℕ → ℕ
with_byte hash byte = bit_xor hash byte * fnv_prime % 2 ^ 64

-- the FNV-1a hash of bytes: each in their order
abbrev pub fnv_hash : List ℕ → ℕ
fnv_hash bytes = fold with_byte offset_basis bytes

-- the shard of an id among so many, counted from 0
abbrev pub shard_of : ℕ → List ℕ → ℕ
shard_of count id = fnv_hash id % count

-- whether an id is in a shard
abbrev pub is_in_shard : Shard → List ℕ → Bool
is_in_shard shard id = shard_of shard.count id == shard.place

-- what is true of every shard: it is one of so many, which are 65536 at most
pub record IsShard (shard : Shard) : Type 0 where
  pub below : shard.place < shard.count
  pub at_most : shard.count ≤ 65536

-- the only shard of one, which has each id
abbrev pub whole_feed : Shard
whole_feed = record { place = 0; count = 1 }
