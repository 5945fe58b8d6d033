use Rattle.std.specs.Io.KnownBytes.{Consumes}
use Rattle.std.specs.Io.Buffered.{reader_remaining}
use Rattle.cube_merge.specs.NextLine.{LineGoesOn}
use Rattle.cube_merge.proofs.read.read_line.Given as goal

abbrev pub invariant-loop : goal.invariant-loop
invariant-loop g l = record {
  taken : Consumes (reader_remaining g.R.Read.remaining l.initial.reader)
      (reader_remaining g.R.Read.remaining l.reader) l.line.items;
  goes_on : LineGoesOn (reader_remaining g.R.Read.remaining l.initial.reader)
      (reader_remaining g.R.Read.remaining l.reader) l.line.items l.is_quoted;
}
