use Rattle.std.proofs.Common.{◌≡◌, ◌∙◌, false, true, ap, sym, subst, drop, length, rules}
use Rattle.std.specs.Io.Buffered.{reader_remaining}
use Rattle.std.specs.Io.KnownBytes.{Consumes, IsAtEnd}
use Rattle.std.proofs.KnownBytes.{Consumes-trans, starts_with_rest}
use Rattle.cube_merge.specs.NextLine.{is_quoted_after}
use Rattle.cube_merge.proofs.LineLaws.{IsNextLine-end, IsNextLine-last, LineGoesOn-more, LineGoesOn-none}
use Rattle.cube_merge.proofs.ReadLaws.{IsAtEnd-first}
use Rattle.cube_merge.proofs.read.read_line.Goals as goal

pub returns-then-taken-eq0-clause-end : goal.returns-then-taken-eq0-clause-end
returns-then-taken-eq0-clause-end g c empty =
    let remaining = reader_remaining g.R.Read.remaining in
    let end : IsAtEnd (remaining c.loop.reader) = c.in-Ok.ensures.end c.if-taken-eq0.true in
    IsAtEnd-first (remaining c.args.reader.now) (remaining c.loop.reader)
    (remaining c.read_until.new.self) _ _ c.loop.invariant.taken c.in-Ok.ensures.none_lost end

pub returns-then-taken-eq0-clause-whole : goal.returns-then-taken-eq0-clause-whole
returns-then-taken-eq0-clause-whole g c =
    let remaining = reader_remaining g.R.Read.remaining in
    let end : IsAtEnd (remaining c.loop.reader) = c.in-Ok.ensures.end c.if-taken-eq0.true in
    IsNextLine-end (remaining c.args.reader.now) (remaining c.loop.reader) c.loop.line.items c.read_until.new.buf.items
    c.loop.is_quoted c.loop.invariant.goes_on c.loop.invariant.taken c.in-Ok.ensures.bytes end

pub returns-then-not-is_quoted-clause-whole : goal.returns-then-not-is_quoted-clause-whole
returns-then-not-is_quoted-clause-whole g c =
    let remaining = reader_remaining g.R.Read.remaining in
    let flag : c.is_quoted_after-is_quoted.result ≡ false = search rules in
    let start : c.len-start.result ≡ length c.loop.line.items = search rules in
    let off : is_quoted_after c.loop.is_quoted (drop (length c.loop.line.items) c.read_until.new.buf.items) ≡ false
    = sym
    (c.is_quoted_after-is_quoted.ensures ∙ ap (λ xs. is_quoted_after c.loop.is_quoted (drop c.len-start.result xs))
    c.as_slice.ensures.value ∙ ap (λ n. is_quoted_after c.loop.is_quoted (drop n c.read_until.new.buf.items)) start)
    ∙ flag in
    IsNextLine-last (remaining c.args.reader.now) (remaining c.loop.reader) c.loop.line.items c.read_until.new.buf.items
    c.loop.is_quoted c.loop.invariant.goes_on c.loop.invariant.taken c.in-Ok.ensures.bytes off

pub loop-preserved : goal.loop-preserved
loop-preserved g c =
    let remaining = reader_remaining g.R.Read.remaining in
    let flag : c.is_quoted_after-is_quoted.result ≡ true = search rules in
    let start : c.len-start.result ≡ length c.loop.line.items = search rules in
    let on : is_quoted_after c.loop.is_quoted (drop (length c.loop.line.items) c.read_until.new.buf.items) ≡ true
    = sym
    (c.is_quoted_after-is_quoted.ensures ∙ ap (λ xs. is_quoted_after c.loop.is_quoted (drop c.len-start.result xs))
    c.as_slice.ensures.value ∙ ap (λ n. is_quoted_after c.loop.is_quoted (drop n c.read_until.new.buf.items)) start)
    ∙ flag in
    record {
      taken = subst (Consumes (remaining c.args.reader.now) (remaining c.read_until.new.self))
          (sym (starts_with_rest c.read_until.new.buf.items c.loop.line.items c.in-Ok.ensures.appends))
          (Consumes-trans (remaining c.args.reader.now) (remaining c.loop.reader)
          (remaining c.read_until.new.self) c.loop.line.items _ c.loop.invariant.taken c.in-Ok.ensures.none_lost);
      goes_on = rw flag (LineGoesOn-more (remaining c.args.reader.now) (remaining c.loop.reader)
          (remaining c.read_until.new.self) c.loop.line.items c.read_until.new.buf.items c.loop.is_quoted
          c.loop.invariant.goes_on c.loop.invariant.taken c.in-Ok.ensures.bytes c.in-Ok.ensures.rest on);
    }

pub loop-init : goal.loop-init
loop-init g c = record {
  taken = search rules;
  goes_on = rw c.clear.ensures.items (LineGoesOn-none (reader_remaining g.R.Read.remaining c.args.reader.now));
}

pub returns-then-taken-eq0-clause-taken : goal.returns-then-taken-eq0-clause-taken
returns-then-taken-eq0-clause-taken g c =
    let remaining = reader_remaining g.R.Read.remaining in
    subst (Consumes (remaining c.args.reader.now) (remaining c.read_until.new.self))
    (sym (starts_with_rest c.read_until.new.buf.items c.loop.line.items c.in-Ok.ensures.appends))
    (Consumes-trans (remaining c.args.reader.now) (remaining c.loop.reader) (remaining c.read_until.new.self)
    c.loop.line.items _ c.loop.invariant.taken c.in-Ok.ensures.none_lost)

pub returns-then-not-is_quoted-clause-taken : goal.returns-then-not-is_quoted-clause-taken
returns-then-not-is_quoted-clause-taken g c =
    let remaining = reader_remaining g.R.Read.remaining in
    subst (Consumes (remaining c.args.reader.now) (remaining c.read_until.new.self))
    (sym (starts_with_rest c.read_until.new.buf.items c.loop.line.items c.in-Ok.ensures.appends))
    (Consumes-trans (remaining c.args.reader.now) (remaining c.loop.reader) (remaining c.read_until.new.self)
    c.loop.line.items _ c.loop.invariant.taken c.in-Ok.ensures.none_lost)
