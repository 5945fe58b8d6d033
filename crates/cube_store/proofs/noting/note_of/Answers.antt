use Rattle.std.proofs.Common.{◌≡◌, ◌++◌, ◌∙◌, ℕ, List, length, take, drop, sym, ap, subst}
use Rattle.std.proofs.lemmas.List.{length-take-le}
use Rattle.sha2.specs.Hashers.{Holds256}
use Rattle.cube_store.specs.declared.note.FeedNote.{FeedNote}
use Rattle.cube_store.proofs.NotingLaws as laws
use Rattle.cube_store.proofs.noting.note_of.Goals as goal

pub loop-init : goal.loop-init
loop-init g c = record {
  size = sym c.in-Ok.piece.ok.0 ∙ c.in-Ok.ensures.len;
  noted = laws.HasNoted-none (g.R.Read.remaining c.args.reader.now) c.new-hasher.result c.new-hasher.ensures;
}

pub returns-then-count-eq0 : goal.returns-then-count-eq0
returns-then-count-eq0 g c =
    let note : FeedNote = record { length = c.loop.total; digest = c.finalize.result } in
    laws.IsNoteOf-end (g.R.Read.remaining c.args.reader.now) (g.R.Read.remaining c.loop.reader)
    (g.R.Read.remaining c.next_piece.new.reader) c.loop.hasher note c.loop.invariant.noted
    (rw c.if-count-eq0.true at c.in_ok-count.ensures.takes)
    (c.in_ok-count.ensures.end c.if-count-eq0.true) c.finalize.ensures

pub loop-preserved : goal.loop-preserved
loop-preserved g c =
    let piece : List ℕ = c.next_piece.new.piece in
    let whole : length piece ≡ c.loop.piece.len = c.in_ok-count.ensures.size ∙ c.deref_mut.ensures.len in
    let same : c.deref.result.now ≡ piece =
    c.deref.ensures.value ∙ laws.whole-piece c.loop.piece.len piece (drop (length piece) c.loop.piece.items) whole in
    record {
      size = ap length (sym c.deref.ensures.value) ∙ ap length same ∙ c.in_ok-count.ensures.size
          ∙ ap length c.deref_mut.ensures.value ∙ c.loop.invariant.size;
      noted = laws.HasNoted-more (g.R.Read.remaining c.args.reader.now) (g.R.Read.remaining c.loop.reader)
          (g.R.Read.remaining c.next_piece.new.reader) c.loop.hasher c.update.new.self
          c.loop.total c.in_ok-count.count c.in-Some.more
          (take c.in_ok-count.count piece) c.loop.invariant.noted c.in_ok-count.ensures.takes
          (sym (length-take-le c.in_ok-count.count piece c.in_ok-count.ensures.within)) c.in-Some.ensures.1
          (λ m holds.
          subst (λ l. Holds256 c.update.new.self (m ++ take c.in_ok-count.count l)) same (c.update.ensures m holds));
    }
