-- What was gathered grows look by look.
use Rattle.std.proofs.Common.{append-nil, ◌≡◌, ◌≢◌, ◌<◌, ◌≤◌, ◌+◌, ◌==◌, ℕ, suc, Bool, true, false, List, [], ◌∷◌, ◌++◌}
use Rattle.std.proofs.Common.{length, get_or, set, replicate, map, refl, ap, sym, ◌∙◌, ◌⊎◌, inl, inr, arith, rules}
use Rattle.std.proofs.Common.{eq-eqb, append_assoc, length-set, get_or-set_same, get_or-set_other, subst}
use Rattle.std.specs.Prelude.{Result, Ok, Err, OnOk, OnErr, is_err}
use Rattle.std.proofs.lemmas.List.{map-append, map-set, length-map, length-replicate, get_or-map, get_or_default}
use Rattle.std.proofs.lemmas.List.{get_or-replicate, ext_get_or}
use Rattle.std.proofs.lemmas.List.FromFn.{get_or-map-range_with_len, length-map-range_with_len}
use Rattle.cube_core.specs.declared.change.Item.{Item}
use Rattle.cube_rings.specs.Link.{Receiving}
use Rattle.cube_core.specs.Arrival.{Arrivals, of_source, of_sources}
use Rattle.cube_rings.specs.Parcels.{lines_of, parcels_of}
use Rattle.cube_rings.specs.Gathering.{AreFresh, StandsAtFirst, Looks, Gathering, Gathers, from, taken_of}
use Rattle.cube_rings.specs.Gathering.{links_ended}
use Rattle.cube_rings.specs.declared.gathering.Taken.{Taken}
use Rattle.cube_rings.specs.declared.parcel.Parcel.{Parcel}
use Rattle.cube_rings.specs.declared.parcel.Parcel.TheVariants.{Line, End}
use Rattle.cube_core.proofs.ArrivalLaws.{of_source-append}

of_source-same : (source : ℕ) (items : List Item) → of_source (from source items) source ≡ items
of_source-same source [] = refl
of_source-same source (item ∷ items) =
    rw (eq-eqb source source refl) (ap (λ (rest : List Item). item ∷ rest) (of_source-same source items))

of_source-other : (source other : ℕ) (items : List Item) → other ≢ source → of_source (from other items) source ≡ []
of_source-other source other [] ne = refl
of_source-other source other (item ∷ items) ne =
    let no : (other == source) ≡ false = search (rules, ne) in
    rw no (of_source-other source other items ne)

taken_of-append : (last : Bool) (xs ys : List Item) → lines_of xs ++ taken_of last ys ≡ taken_of last (xs ++ ys)
taken_of-append false xs ys = sym (map-append Line xs ys)
taken_of-append true xs ys = sym (append_assoc (lines_of xs) (lines_of ys) (End ∷ []))
    ∙ ap (λ (all : List Parcel). all ++ End ∷ []) (sym (map-append Line xs ys))

eq-cases : (i j : ℕ) → (i ≡ j) ⊎ (i ≢ j)
eq-cases i j = grind arith

-- nothing came
pub stands-nothing : {B : Type 0} (stands : B → Arrivals → Type 0) (builder : B) (wanting : Bool) (arrivals : Arrivals)
    → StandsAtFirst stands builder wanting arrivals → StandsAtFirst stands builder wanting (arrivals ++ [])
stands-nothing stands builder wanting arrivals at = rw (append-nil arrivals) at

-- an item was dropped where memory ran out before
pub stands-dropped : {B : Type 0} (stands : B → Arrivals → Type 0) (builder : B) (wanting : Bool) (arrivals : Arrivals)
    (arrival : ℕ × Item) → wanting ≡ true → StandsAtFirst stands builder wanting arrivals
    → StandsAtFirst stands builder wanting (arrivals ++ arrival ∷ [])
stands-dropped stands builder wanting arrivals arrival wants at = record {
  first = at.first;
  rest = at.rest ++ arrival ∷ [];
  split = ap (λ (all : Arrivals). all ++ arrival ∷ []) at.split ∙ append_assoc at.first at.rest (arrival ∷ []);
  stands_at = at.stands_at;
  at_all = λ enough. cc (sym wants ∙ enough);
}

-- an item was taken, or memory ran out for it
pub stands-taken : {B E : Type 0} (stands : B → Arrivals → Type 0) (before after : B) (answer : Result Unit E)
    (arrivals : Arrivals) (arrival : ℕ × Item) → StandsAtFirst stands before false arrivals
    → OnOk answer ((all : Arrivals) → stands before all → stands after (all ++ arrival ∷ []))
    → OnErr answer ((all : Arrivals) → stands before all → stands after all)
    → StandsAtFirst stands after (is_err answer) (arrivals ++ arrival ∷ [])
stands-taken stands before after (Ok done) arrivals arrival at taken stays =
    let all : arrivals ≡ at.first =
    at.split ∙ ap (λ (rest : Arrivals). at.first ++ rest) (at.at_all refl) ∙ append-nil at.first in
    record {
      first = arrivals ++ arrival ∷ [];
      rest = [];
      split = sym (append-nil (arrivals ++ arrival ∷ []));
      stands_at = taken arrivals (subst (stands before) (sym all) at.stands_at);
      at_all = λ enough. refl;
    }
stands-taken stands before after (Err fault) arrivals arrival at taken stays =
    let left = stays at.first at.stands_at in
    stands-dropped stands after true arrivals arrival refl
    (record { first = at.first; rest = at.rest; split = at.split; stands_at = left; at_all = λ enough. cc enough })

from-append : (source : ℕ) (xs ys : List Item) → from source (xs ++ ys) ≡ from source xs ++ from source ys
from-append source xs ys = map-append (λ item. (source, item)) xs ys

-- nothing came on a link that hasn't ended
pub looks-nothing : {B : Type 0} (stands : B → B → Arrivals → Type 0) (source : ℕ) (inlet : Receiving Parcel)
    (ended : Bool) (builder : B) (wanting : Bool) → ended ≡ false
    → Looks stands source inlet inlet ended builder builder wanting wanting
looks-nothing stands source inlet ended builder wanting still = record {
  items = [];
  link = refl;
  received = rw still (sym (append-nil inlet.received));
  stands_on = λ first arrivals at. stands-nothing (stands first) builder wanting arrivals at;
}

-- a look after others at a link
pub looks-look : {B : Type 0} (stands : B → B → Arrivals → Type 0) (source : ℕ) (old now new : Receiving Parcel)
    (ended last : Bool) (first before after : B) (was wanting wanting' : Bool) →
    ended ≡ false → Looks stands source old now ended first before was wanting
    → Looks stands source now new last before after wanting wanting'
    → Looks stands source old new last first after was wanting'
looks-look stands source old now new ended last first before after was wanting wanting' still looks look = record {
  items = looks.items ++ look.items;
  link = look.link ∙ looks.link;
  received =
      let so_far : now.received ≡ old.received ++ lines_of looks.items = rw still at looks.received in
      look.received
      ∙ ap (λ (xs : List Parcel). xs ++ taken_of last look.items) so_far
      ∙ append_assoc old.received (lines_of looks.items) (taken_of last look.items)
      ∙ ap (λ (xs : List Parcel). old.received ++ xs) (taken_of-append last looks.items look.items);
  stands_on = λ start arrivals at.
      rw (
        from-append source looks.items look.items,
        sym (append_assoc arrivals (from source looks.items) (from source look.items)),
      )
      (look.stands_on start (arrivals ++ from source looks.items) (looks.stands_on start arrivals at));
}

-- one look more
pub gathering-look : {B : Type 0} (stands : B → B → Arrivals → Type 0) (first : B) (start now : List (Receiving Parcel))
    (taken : List Taken) (before after : B) (wanting wanting' : Bool) (i : ℕ) (d new : Receiving Parcel)
    (t last : Taken) →
    i < length now → i < length taken → (get_or taken i t).ended ≡ false
    → Looks stands (i + 1) (get_or now i d) new last.ended before after wanting wanting' →
    Gathering (stands first) start now (links_ended taken) before wanting
    → Gathering (stands first) start (set now i new) (links_ended (set taken i last)) after wanting'
gathering-look stands first start now taken before after wanting wanting' i d new t last below there still looks was =
    let ended = links_ended taken in
    let within : i < length ended = omega (arith, length-map taken (λ (t : Taken). t.ended)) in
    let running : get_or ended i false ≡ false = get_or-map (λ (t : Taken). t.ended) taken i t false there ∙ still in
    let same = was.same_length in
    let low : i < length start = omega arith in
    let items = looks.items in
    let more = from (i + 1) items in
    record {
      arrivals = was.arrivals ++ more;
      same_length = length-set now i new ∙ same;
      links = λ j e inside. elim (eq-cases j i) [
        | inl is ↦ rw (is, get_or-set_same now i new e below)
            (looks.link ∙ ap (λ (inlet : Receiving Parcel). inlet.link) (get_or_default now i d e below)
            ∙ was.links i e low)
        | inr ne ↦ rw (get_or-set_other now i j new e ne) (was.links j e inside)
      ];
      received = λ j e inside. elim (eq-cases j i) [
        | inl is ↦
            let before : (get_or now i d).received ≡ lines_of (of_source was.arrivals (i + 1)) =
            ap (λ (inlet : Receiving Parcel). inlet.received) (get_or_default now i d e below)
            ∙ (rw running at (was.received i e low)) in
            rw (
              is,
              get_or-set_same now i new e below,
              map-set (λ (t : Taken). t.ended) taken i last,
              get_or-set_same ended i last.ended false within,
              of_source-append was.arrivals more (i + 1),
              of_source-same (i + 1) items,
            )
            (looks.received ∙ ap (λ (xs : List Parcel). xs ++ taken_of last.ended items) before
            ∙ taken_of-append last.ended (of_source was.arrivals (i + 1)) items)
        | inr ne ↦
            let apart : i + 1 ≢ j + 1 = omega (arith, ne) in
            rw (
              get_or-set_other now i j new e ne,
              map-set (λ (t : Taken). t.ended) taken i last,
              get_or-set_other ended i j last.ended false ne,
              of_source-append was.arrivals more (j + 1),
              of_source-other (j + 1) (i + 1) items apart,
              append-nil (of_source was.arrivals (j + 1)),
            )
            (was.received j e inside)
      ];
      stands_at = looks.stands_on first was.arrivals was.stands_at;
    }

-- before the first look
pub gathering-start : {B : Type 0} (stands : B → Arrivals → Type 0) (inlets : List (Receiving Parcel)) (t : Taken)
    (builder : B) → t.ended ≡ false → length inlets ≤ 64 → AreFresh inlets → stands builder [] →
    Gathering stands inlets inlets (links_ended (replicate 64 t)) builder false
gathering-start stands inlets t builder still most fresh at = record {
  arrivals = [];
  same_length = refl;
  links = λ i d below. refl;
  received = λ i d below.
      let within : i < 64 = omega arith in
      let there : i < length (replicate 64 t) = omega (arith, length-replicate 64 t) in
      let running : get_or (links_ended (replicate 64 t)) i false ≡ false =
      get_or-map (λ (t : Taken). t.ended) (replicate 64 t) i t false there
      ∙ ap (λ (t : Taken). t.ended) (get_or-replicate 64 i t t within) ∙ still in
      rw running (fresh i d below);
  stands_at = record { first = []; rest = []; split = refl; stands_at = at; at_all = λ _. refl };
}

links-same : (old new : List (Receiving Parcel)) → length new ≡ length old
    → ((i : ℕ) (d : Receiving Parcel) → i < length old → (get_or new i d).link ≡ (get_or old i d).link)
    → map (λ (inlet : Receiving Parcel). inlet.link) new ≡ map (λ (inlet : Receiving Parcel). inlet.link) old
links-same [] [] same each = refl
links-same [] (y ∷ ys) same each = absurd (omega (arith, same))
links-same (x ∷ xs) [] same each = absurd (omega (arith, same))
links-same (x ∷ xs) (y ∷ ys) same each =
    let here : y.link ≡ x.link = each 0 x (omega arith) in
    let rest = links-same xs ys (omega (arith, same)) (λ i d below. each (suc i) d (omega arith)) in
    λ i. here i ∷ rest i

-- all links have ended
pub gathers-all : {B : Type 0} (stands : B → Arrivals → Type 0) (old now : List (Receiving Parcel)) (ended : List Bool)
    (builder : B) (wanting : Bool) →
    ((i : ℕ) → i < length now → get_or ended i false ≡ true) → Gathering stands old now ended builder wanting
    → Gathers stands old now builder wanting
gathers-all stands old now ended builder wanting all was =
    let received = map (λ (inlet : Receiving Parcel). inlet.received) now in
    let sources = of_sources (length old) was.arrivals in
    let same = was.same_length in
    let count = length-map-range_with_len (of_source was.arrivals) 1 (length old) in
    record {
      arrivals = was.arrivals;
      links = links-same old now same was.links;
      received = ext_get_or [] received (map parcels_of sources)
          (length-map now (λ inlet. inlet.received) ∙ same ∙ sym count ∙ sym (length-map sources parcels_of))
          (λ i below.
          let low : i < length now = omega (arith, length-map now (λ (inlet : Receiving Parcel). inlet.received)) in
          let low_too : i < length old = omega arith in
          let d = default now i low in
          let within : i < length sources = omega (arith, count) in
          get_or-map (λ (inlet : Receiving Parcel). inlet.received) now i d [] low
          ∙ was.received i d low_too
          ∙ ap (λ (last : Bool). taken_of last (of_source was.arrivals (i + 1))) (all i low)
          ∙ ap parcels_of
          (sym (get_or-map-range_with_len (of_source was.arrivals) 1 (length old) i (i + 1) [] low_too (omega arith)))
          ∙ sym (get_or-map parcels_of sources i [] [] within));
      stands_at = was.stands_at;
    } where
      default : (xs : List (Receiving Parcel)) (i : ℕ) → i < length xs → Receiving Parcel
      default [] i below = absurd (omega arith)
      default (x ∷ xs) i below = x
