-- Where a name stands in a header, found field by field, and all names of a list.
use Rattle.std.proofs.Common.{◌≡◌, ◌<◌, ◌≤◌, ◌+◌, ℕ, Bool, true, false, List, [], ◌∷◌, ◌++◌, length, get_or, drop}
use Rattle.std.proofs.Common.{filter, Option, Some, None, refl, ap, ◌∙◌, add-one, drop-cons, arith}
use Rattle.std.specs.Prelude.{suc, ◌&&◌, if◌then◌else◌}
use Rattle.std.proofs.lemmas.Bool.{and_left, and_right, ne_eqb}
use Rattle.std.proofs.lemmas.List.Folds.{list_all-append}
use Rattle.std.specs.Str.{bytes_eq}
use Rattle.std.specs.List.{list_all, position, position_from}
use Rattle.std.proofs.lemmas.List.{drop_all}
use Rattle.std.proofs.lemmas.Iterator.Adapters.{position_from-zero}
use Rattle.cube_core.specs.FeedRecords.{place_in, stands_once}
use Rattle.cube_feed.specs.Columns.{only_place}

-- what is known of a name before a place of a header: it stands nowhere, or at one place, and there first
abbrev pub FoundBefore : List (List ℕ) → List ℕ → ℕ → Option ℕ → Type 0
FoundBefore header name place None =
    (length (filter (bytes_eq name) header) ≡ length (filter (bytes_eq name) (drop place header)))
    × (position (bytes_eq name) header ≡ position_from (bytes_eq name) place (drop place header))
FoundBefore header name place (Some first) =
    (length (filter (bytes_eq name) header) ≡ suc (length (filter (bytes_eq name) (drop place header))))
    × (position (bytes_eq name) header ≡ Some first)

pub FoundBefore-start : (header : List (List ℕ)) (name : List ℕ) → FoundBefore header name 0 None
FoundBefore-start header name = (refl, position_from-zero (bytes_eq name) header)

-- the fields from a place on
from-place : (header : List (List ℕ)) (place : ℕ) → place < length header
    → drop place header ≡ get_or header place [] ∷ drop (place + 1) header
from-place header place inside = rw (add-one place) (drop-cons header place [] inside)

-- a field that isn't the name
pub FoundBefore-other : (header : List (List ℕ)) (name : List ℕ) (place : ℕ) (found : Option ℕ)
    → place < length header → bytes_eq name (get_or header place []) ≡ false
    → FoundBefore header name place found → FoundBefore header name (place + 1) found
FoundBefore-other header name place None inside other before =
    rw (from-place header place inside, other) at before
FoundBefore-other header name place (Some first) inside other before =
    rw (from-place header place inside, other) at before

-- the name, where it wasn't found before
pub FoundBefore-first : (header : List (List ℕ)) (name : List ℕ) (place : ℕ)
    → place < length header → bytes_eq name (get_or header place []) ≡ true
    → FoundBefore header name place None → FoundBefore header name (place + 1) (Some place)
FoundBefore-first header name place inside same before =
    rw (from-place header place inside, same) at before

-- the name again
pub FoundBefore-again : (header : List (List ℕ)) (name : List ℕ) (place first : ℕ)
    → place < length header → bytes_eq name (get_or header place []) ≡ true
    → FoundBefore header name place (Some first) → None ≡ only_place header name
FoundBefore-again header name place first inside same before =
    let more = length (filter (bytes_eq name) (drop (place + 1) header)) in
    let count = rw (from-place header place inside, same) at before.0 in
    let twice = ne_eqb (suc (suc more)) 1 (omega arith) in
    rw (count, twice) refl

-- the whole header
pub FoundBefore-end : (header : List (List ℕ)) (name : List ℕ) (place : ℕ) (found : Option ℕ)
    → length header ≤ place → FoundBefore header name place found → found ≡ only_place header name
FoundBefore-end header name place None past before =
    let count = rw (drop_all place header past) at before.0 in
    rw count refl
FoundBefore-end header name place (Some first) past before =
    let count = rw (drop_all place header past) at before.0 in
    rw (count, before.1) refl

-- a name that stands at one place only
pub only_place-Some : (header : List (List ℕ)) (name : List ℕ) (place : ℕ) → Some place ≡ only_place header name
    → (stands_once header name ≡ true) × (place ≡ place_in header name)
only_place-Some header name place found = by (stands_once header name) refl found
  where
    by : (once : Bool) → stands_once header name ≡ once
        → Some place ≡ (if once then Some (place_in header name) else None)
        → (stands_once header name ≡ true) × (place ≡ place_in header name)
    by true e f = (e, cc f)
    by false e f = cc f

pub only_place-None : (header : List (List ℕ)) (name : List ℕ) → None ≡ only_place header name
    → stands_once header name ≡ false
only_place-None header name found = by (stands_once header name) refl found
  where
    by : (once : Bool) → stands_once header name ≡ once
        → None ≡ (if once then Some (place_in header name) else None)
        → stands_once header name ≡ false
    by true e f = cc f
    by false e f = e

-- names in four parts
names-parts : (test : List ℕ → Bool) (a b c d : List (List ℕ))
    → list_all test (a ++ b ++ c ++ d)
    ≡ (((list_all test a && list_all test b) && list_all test c) && list_all test d)
names-parts test a b c d =
    list_all-append test (a ++ b ++ c) d
    ∙ ap (λ x. x && list_all test d)
    (list_all-append test (a ++ b) c ∙ ap (λ x. x && list_all test c) (list_all-append test a b))

pub names-all : (test : List ℕ → Bool) (a b c d : List (List ℕ))
    → list_all test a ≡ true → list_all test b ≡ true → list_all test c ≡ true → list_all test d ≡ true
    → list_all test (a ++ b ++ c ++ d) ≡ true
names-all test a b c d ha hb hc hd = names-parts test a b c d ∙ rw (ha, hb, hc, hd) refl

-- a part where a name fails
pub names-third : (test : List ℕ → Bool) (a b c d : List (List ℕ)) → list_all test c ≡ false
    → list_all test (a ++ b ++ c ++ d) ≡ false
names-third test a b c d bad = names-parts test a b c d ∙ and_left _ _ (and_right _ _ bad)
