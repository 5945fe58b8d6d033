-- The bytes that were read of a text, piece by piece.
use Rattle.std.proofs.Common.{◌≡◌, ◌+◌, ◌++◌, ◌∙◌, ℕ, List, [], length, take, refl, sym, ap, length-append}
use Rattle.std.proofs.Common.{append_assoc}
use Rattle.std.specs.Prelude.{Option, None, Some, IfSome}
use Rattle.std.proofs.lemmas.List.{append-nil}
use Rattle.std.proofs.Math.Seq.{take-append_seam}
use Rattle.std.specs.Io.KnownBytes.{Consumes, IsAtEnd}
use Rattle.sha2.specs.declared.Sha256.{Sha256}
use Rattle.sha2.specs.Hashers.{Holds256}
use Rattle.sha2.specs.Sha256.{sha256}
use Rattle.cube_store.specs.declared.note.FeedNote.{FeedNote}
use Rattle.cube_store.specs.Noting.{HasNoted, IsNoteOf}

Consumes-more : (first mid now : Option (List ℕ)) (bytes piece : List ℕ) → Consumes first mid bytes
    → Consumes mid now piece → Consumes first now (bytes ++ piece)
Consumes-more None mid now bytes piece so_far more = tt
Consumes-more (Some all) None now bytes piece so_far more = absurd so_far
Consumes-more (Some all) (Some rest) None bytes piece so_far more = absurd more
Consumes-more (Some all) (Some rest) (Some left) bytes piece so_far more =
    so_far ∙ ap (λ l. bytes ++ l) more ∙ sym (append_assoc bytes piece left)

Consumes-none : (first : Option (List ℕ)) → Consumes first first []
Consumes-none None = tt
Consumes-none (Some all) = refl

pub HasNoted-none : (first : Option (List ℕ)) (hasher : Sha256) → Holds256 hasher [] → HasNoted first first hasher 0
HasNoted-none first hasher holds = record { bytes = []; holds = holds; counted = refl; consumed = Consumes-none first }

pub HasNoted-more : (first mid now : Option (List ℕ)) (hasher next : Sha256) (count more total : ℕ) (piece : List ℕ)
    → HasNoted first mid hasher count → Consumes mid now piece
    → more ≡ length piece → total ≡ count + more → ((m : List ℕ) → Holds256 hasher m → Holds256 next (m ++ piece))
    → HasNoted first now next total
HasNoted-more first mid now hasher next count more total piece noted consumes long is holds = record {
  bytes = noted.bytes ++ piece;
  holds = holds noted.bytes noted.holds;
  counted = is ∙ rw (noted.counted, long) (sym (length-append noted.bytes piece));
  consumed = Consumes-more first mid now noted.bytes piece noted.consumed consumes;
}

pub IsNoteOf-end : (first mid now : Option (List ℕ)) (hasher : Sha256) (note : FeedNote)
    → HasNoted first mid hasher note.length → Consumes mid now [] → IsAtEnd now
    → ((m : List ℕ) → Holds256 hasher m → note.digest ≡ sha256 m) → IfSome first (IsNoteOf note)
IsNoteOf-end None mid now hasher note noted consumes end digest = tt
IsNoteOf-end (Some all) mid now hasher note noted consumes end digest =
    let same : all ≡ noted.bytes = ends mid now noted.consumed consumes end in
    record {
      length_is = noted.counted ∙ ap length (sym same);
      digest_is = digest noted.bytes noted.holds ∙ ap sha256 (sym same);
    }
  where
    ends : (mid now : Option (List ℕ)) → Consumes (Some all) mid noted.bytes → Consumes mid now [] → IsAtEnd now
        → all ≡ noted.bytes
    ends None now so_far none end = absurd so_far
    ends (Some rest) None so_far none end = absurd none
    ends (Some rest) (Some left) so_far none end =
        so_far ∙ ap (λ l. noted.bytes ++ l) (none ∙ end) ∙ append-nil noted.bytes

-- a piece that was read over the whole of another
pub whole-piece : (long : ℕ) (piece before : List ℕ) → length piece ≡ long → take long (piece ++ before) ≡ piece
whole-piece long piece before is = ap (λ n. take n (piece ++ before)) (sym is) ∙ take-append_seam piece before
