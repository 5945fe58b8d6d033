use Rattle.std.proofs.Common.{refl}
use Rattle.cube_laws.proofs.shards.hash_has_its_published_values.Goals as goal

pub returns : goal.returns
returns c = record { of_none = refl; of_a = refl; of_foobar = refl }
