use Rattle.std.proofs.Common.{◌≡◌, length}
use Rattle.cube_store.specs.Noting.{HasNoted}
use Rattle.cube_store.proofs.noting.note_of.Given as goal

abbrev pub invariant-loop : goal.invariant-loop
invariant-loop g l = record {
  size : length l.piece.items ≡ 65536;
  noted : HasNoted (g.R.Read.remaining l.initial.reader) (g.R.Read.remaining l.reader) l.hasher l.total;
}
