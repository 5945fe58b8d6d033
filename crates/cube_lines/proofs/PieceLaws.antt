-- The text of pieces that go out one after another: where each of them lies in it.
use Rattle.std.proofs.Common.{◌≡◌, ◌∙◌, ℕ, suc, ◌+◌, ◌-◌, ◌<◌, List, ◌++◌, ◌∷◌, [], length, take, drop, get_or, sym, ap}
use Rattle.std.proofs.Common.{arith, length-append, take-append-drop}
use Rattle.std.specs.Prelude.{Option}
use Rattle.std.specs.Global.{Vec}
use Rattle.std.specs.Io.KnownBytes.{Appends}
use Rattle.std.proofs.KnownBytes.{Appends-trans}
use Rattle.std.proofs.Math.Seq.{drop-cons, take-append-add}
use Rattle.std.proofs.lemmas.Grind.{flat_map-append}
use Rattle.std.proofs.lemmas.List.{append-nil, take-append-le, take_more}
use Rattle.cube_lines.specs.Pieces.{SendsPart, text_of_pieces}

-- one piece more
pub text_of_pieces-more : (pieces : List (Vec ℕ)) (i : ℕ) (unused : Vec ℕ) → i < length pieces
    → text_of_pieces (take (i + 1) pieces) ≡ text_of_pieces (take i pieces) ++ (get_or pieces i unused).items
text_of_pieces-more pieces i unused inside =
    let piece = get_or pieces i unused in
    ap text_of_pieces (take_more pieces i unused inside)
    ∙ flat_map-append (λ (p : Vec ℕ). p.items) (take i pieces) (piece ∷ [])
    ∙ ap (λ (l : List ℕ). text_of_pieces (take i pieces) ++ l) (append-nil piece.items)

-- the first bytes of a text are those of a longer one
pub SendsPart-front : (before sent : ℕ) (a b : List ℕ) (old new : Option (List ℕ)) → SendsPart before a sent old new
    → SendsPart before (a ++ b) sent old new
SendsPart-front before sent a b old new part = record {
  from = part.from;
  within = omega (arith, part.within, length-append a b);
  written = rw (take-append-le (sent - before) a b (omega (arith, part.from, part.within))) part.written;
}

-- a text went out whole, and of what follows it the first bytes
pub SendsPart-behind : (before all sent : ℕ) (a b : List ℕ) (old mid new : Option (List ℕ)) → all ≡ before + length a
    → Appends old mid a → SendsPart all b sent mid new → SendsPart before (a ++ b) sent old new
SendsPart-behind before all sent a b old mid new is whole part =
    let count : sent - before ≡ length a + (sent - all) = omega (arith, is, part.from) in
    record {
      from = omega (arith, is, part.from);
      within = omega (arith, is, part.within, length-append a b);
      written = rw (count, take-append-add a b (sent - all)) (Appends-trans old mid new _ _ whole part.written);
    }

-- the first pieces went out, and of the next one the first bytes
pub SendsPart-piece : (before all sent : ℕ) (pieces : List (Vec ℕ)) (i : ℕ) (unused : Vec ℕ) (old mid new : Option (List ℕ))
    → i < length pieces → all ≡ before + length (text_of_pieces (take i pieces))
    → Appends old mid (text_of_pieces (take i pieces)) → SendsPart all (get_or pieces i unused).items sent mid new
    → SendsPart before (text_of_pieces pieces) sent old new
SendsPart-piece before all sent pieces i unused old mid new inside is whole part =
    let front = text_of_pieces (take i pieces) in
    let piece = get_or pieces i unused in
    let back = text_of_pieces (drop (suc i) pieces) in
    let all_of : text_of_pieces pieces ≡ front ++ (piece.items ++ back) =
    ap text_of_pieces (sym (take-append-drop i pieces))
    ∙ flat_map-append (λ (p : Vec ℕ). p.items) (take i pieces) (drop i pieces)
    ∙ ap (λ (l : List (Vec ℕ)). front ++ text_of_pieces l) (drop-cons pieces i unused inside) in
    rw all_of (SendsPart-behind before all sent front (piece.items ++ back) old mid new is whole
    (SendsPart-front all sent piece.items back mid new part))
