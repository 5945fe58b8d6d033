use Rattle.std.proofs.Common.{◌∙◌, ap, sym}
use Rattle.std.specs.Hash.{le_bytes}
use Rattle.std.proofs.lemmas.Nat.{from_le_bytes-to_le_bytes_8}
use Rattle.cube_cells.specs.CellKey.{taken}
use Rattle.cube_cells.proofs.cube.cell_key.CellHasherHasher.write_u64.Goals as goal

pub returns : goal.returns
unfolding le_bytes
returns c = c.take.ensures ∙ ap (taken c.args.self.now) (sym (from_le_bytes-to_le_bytes_8 c.args.number c.ranges.number.fits))
