-- The arrival list of feeds one after another.
use Rattle.std.proofs.Common.{◌≡◌, ◌<◌, ◌≤◌, ◌+◌, ◌==◌, ℕ, zero, suc, false, List, []}
use Rattle.std.proofs.Common.{◌∷◌, ◌++◌, length, map, refl, sym}
use Rattle.std.proofs.Common.{ap, ◌∙◌, arith, append_assoc, add-zero}
use Rattle.std.specs.List.{range_with_len}
use Rattle.std.proofs.lemmas.Bool.{eq-eqb, eqb-true, false_from_ne_true}
use Rattle.std.proofs.lemmas.List.{append-nil}
use Rattle.cube_core.proofs.ArrivalLaws.{of_source-append}
use Rattle.cube_core.specs.Arrival.{Arrivals, of_source}
use Rattle.cube_core.specs.declared.change.Item.{Item}

-- items, each with the number of their source
abbrev pub from_source : ℕ → List Item → Arrivals
from_source source items = map (λ item. (source, item)) items

-- the arrival list of feeds one after another, from a source on
abbrev pub in_turn : ℕ → List (List Item) → Arrivals
in_turn source [] = []
in_turn source (items ∷ feeds) = from_source source items ++ in_turn (source + 1) feeds

-- one feed more
pub in_turn-more : (source : ℕ) (feeds : List (List Item)) (items : List Item)
    → in_turn source (feeds ++ items ∷ []) ≡ in_turn source feeds ++ from_source (source + length feeds) items
in_turn-more source [] items =
    append-nil (from_source source items) ∙ ap (λ n. from_source n items) (sym (add-zero source))
in_turn-more source (first ∷ feeds) items =
    ap (λ rest. from_source source first ++ rest)
    (in_turn-more (source + 1) feeds items ∙ ap (λ n. in_turn (source + 1) feeds ++ from_source n items) (omega arith))
    ∙ sym (append_assoc (from_source source first) (in_turn (source + 1) feeds)
    (from_source (source + suc (length feeds)) items))

-- ---- what the list has of each source

of_source-own : (source : ℕ) (items : List Item) → of_source (from_source source items) source ≡ items
of_source-own source [] = refl
of_source-own source (item ∷ items) =
    rw (eq-eqb source source refl) (ap (λ rest. item ∷ rest) (of_source-own source items))

of_source-none : (source other : ℕ) (items : List Item) → (source == other) ≡ false
    → of_source (from_source source items) other ≡ []
of_source-none source other [] apart = refl
of_source-none source other (item ∷ items) apart = rw apart (of_source-none source other items apart)

apart-lt : (a b : ℕ) → (a ≡ b → ⊥) → (a == b) ≡ false
apart-lt a b differs = false_from_ne_true (a == b) (λ same. differs (eqb-true a b same))

-- nothing of an earlier source
of_source-later : (source : ℕ) (feeds : List (List Item)) (earlier : ℕ) → earlier < source
    → of_source (in_turn source feeds) earlier ≡ []
of_source-later source [] earlier below = refl
of_source-later source (items ∷ feeds) earlier below =
    of_source-append (from_source source items) (in_turn (source + 1) feeds) earlier
    ∙ ap (λ l. l ++ of_source (in_turn (source + 1) feeds) earlier)
    (of_source-none source earlier items (apart-lt source earlier (λ same. absurd (omega (arith, same)))))
    ∙ of_source-later (source + 1) feeds earlier (omega arith)

-- functions that agree from a number on map a range from there alike
map-range : {X : Type 0} (f g : ℕ → X) (a n : ℕ) → ((k : ℕ) → a ≤ k → f k ≡ g k)
    → map f (range_with_len a n) ≡ map g (range_with_len a n)
map-range f g a zero same = refl
map-range f g a (suc n) same =
    let first : f a ≡ g a = same a (omega arith) in
    let rest : map f (range_with_len (a + 1) n) ≡ map g (range_with_len (a + 1) n) =
    map-range f g (a + 1) n (λ k from. same k (omega arith)) in
    λ i. first i ∷ rest i

-- what the list has of each source is the source's feed
pub of_sources-in_turn : (source : ℕ) (feeds : List (List Item))
    → map (of_source (in_turn source feeds)) (range_with_len source (length feeds)) ≡ feeds
of_sources-in_turn source [] = refl
of_sources-in_turn source (items ∷ feeds) =
    let rest : Arrivals = in_turn (source + 1) feeds in
    let here : of_source (from_source source items ++ rest) source ≡ items =
    of_source-append (from_source source items) rest source
    ∙ (λ i. of_source-own source items i ++ of_source-later (source + 1) feeds source (omega arith) i)
    ∙ append-nil items in
    let others : map (of_source (from_source source items ++ rest)) (range_with_len (source + 1) (length feeds))
    ≡ feeds =
    map-range (of_source (from_source source items ++ rest)) (of_source rest) (source + 1) (length feeds)
    (λ k from.
    of_source-append (from_source source items) rest k
    ∙ ap (λ l. l ++ of_source rest k)
    (of_source-none source k items (apart-lt source k (λ same. absurd (omega (arith, same))))))
    ∙ of_sources-in_turn (source + 1) feeds in
    λ i. here i ∷ others i
