use Rattle.std.proofs.Common.{refl}
use Rattle.sqlite_store.specs.Catalog.{describes, is_about}
use Rattle.cube_store.proofs.tables.lists_digests.Goals as goal

pub returns : goal.returns
unfolding describes is_about
returns c = rw (
  c.is_text.ensures,
  c.is_text-2.ensures,
  c.is_text-3.ensures,
  c.is_text-4.ensures,
  c.get.ensures,
  c.get-2.ensures,
  c.get-3.ensures,
  c.get-4.ensures,
) refl
