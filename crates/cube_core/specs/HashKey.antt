-- What ids and texts are hashed by: SipHash under a key (this project's choice).
use Rattle.std.specs.declared.hash.DefaultHasher.{DefaultHasher}
use Rattle.std.specs.Hash.DefaultHasher.{initial}
use Rattle.std.specs.RandomState.{initial_hasher}
use Rattle.cube_core.specs.declared.hash_key.HashKey.{HashKey}
use Rattle.cube_core.specs.declared.hash_key.HashKey.TheVariants.{Known, Drawn}

-- the hasher that a key begins each hash with
abbrev pub hasher_of : HashKey → DefaultHasher
hasher_of Known = initial
hasher_of (Drawn state) = initial_hasher state
