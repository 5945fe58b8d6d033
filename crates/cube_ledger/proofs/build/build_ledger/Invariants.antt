use Rattle.std.proofs.Common.{◌≡◌, ◌+◌, map, vec_len}
use Rattle.std.specs.Vec.Iter.{into_iter_items, into_iter_len}
use Rattle.cube_ledger.proofs.BuildLaws.{HasBuilt}
use Rattle.cube_ledger.proofs.build.build_ledger.Given as goal

abbrev pub invariant-loop-reader : goal.invariant-loop-reader
invariant-loop-reader g l =
    (goal.iterator-loop-reader g).can_next l.reader-iterator
    × (goal.iterator-loop-reader g).is_finite l.reader-iterator
    × HasBuilt l.schema (map g.R.Read.remaining l.fn.readers.items)
    (map g.R.Read.remaining (into_iter_items l.reader-iterator)) l.source l.ledger
    × (into_iter_len l.reader-iterator + l.source ≡ vec_len l.fn.readers)
