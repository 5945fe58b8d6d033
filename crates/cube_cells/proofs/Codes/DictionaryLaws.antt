-- Laws of dictionaries: where a text stands, and which code stands for a coordinate.
use Rattle.std.proofs.Common.{◌≡◌, ℕ, zero, suc, ◌+◌, ◌<◌, ◌≤◌, ◌==◌, List, [], ◌∷◌, ◌++◌, Bool, true, false, not, cond}
use Rattle.std.proofs.Common.{◌||◌, refl, sym, ap, ◌∙◌, subst, arith, inl, inr, length, map, get_or, position, Some}
use Rattle.std.proofs.Common.{None, ◌⊎◌, nat_lt, if◌then◌else◌}
use Rattle.std.specs.List.{prefix_len, position_or_len, list_any}
use Rattle.std.specs.String.{string_bytes, string_eq}
use Rattle.std.specs.declared.string.String.{String}
use Rattle.indexmap.specs.IndexSet.{insert_key}
use Rattle.std.specs.Str.{bytes_eq}
use Rattle.std.proofs.lemmas.Bool.{cases_Bool, cases_lt, or_cases, or_right, or_left, or_from, and_parts, and_from}
use Rattle.std.proofs.lemmas.Bool.{eqb-true, ne_eqb, ltb-true, lt-ltb, le-ltb, both_ways, not-true, not_from_false}
use Rattle.std.proofs.lemmas.Bool.{false_from_ne_true, cond-false}
use Rattle.std.proofs.lemmas.List.{length-map, length_push, map_push}
use Rattle.std.proofs.lemmas.Slice.Eq.{bytes_eq-Decides}
use Rattle.cube_core.specs.Layout.{is_listed, are_distinct}
use Rattle.cube_core.specs.declared.key.Coord.TheVariants as coord
use Rattle.cube_cells.specs.Codes.{IsDictionary, IsCodeOf, is_code, coord_at, all_code, null_code, no_code}

-- ---- places
prefix_len-map : {A B : Type 0} (f : A → B) (p : B → Bool) (xs : List A)
    → prefix_len (λ x. p (f x)) xs ≡ prefix_len p (map f xs)
prefix_len-map f p [] = refl
prefix_len-map f p (x ∷ xs) = ap (λ n. cond (p (f x)) (1 + n) 0) (prefix_len-map f p xs)

-- a place among keys is that among their texts
pub position-map : {A B : Type 0} (f : A → B) (p : B → Bool) (xs : List A)
    → position (λ x. p (f x)) xs ≡ position p (map f xs)
position-map f p xs =
    let same : position_or_len (λ x. p (f x)) xs ≡ position_or_len p (map f xs) =
    prefix_len-map f (λ y. not (p y)) xs in
    rw (same, ← length-map xs f) refl

-- a text stands at a place
pub record StandsAt (text : List ℕ) (texts : List (List ℕ)) (place : ℕ) : Type 0 where
  pub below : place < length texts
  pub is_text : get_or texts place [] ≡ text

-- a place one further in a longer list
StandsAt-cons : (t text : List ℕ) (texts : List (List ℕ)) (place : ℕ) → StandsAt text texts place
    → StandsAt text (t ∷ texts) (1 + place)
StandsAt-cons t text texts place stands =
    let next : 1 + place ≡ suc place = omega arith in
    rw next (record { below = omega (arith, stands.below); is_text = stands.is_text })

-- where a text stands: at its first place, or nowhere
pub StandsAt-position_or_len : (text : List ℕ) (texts : List (List ℕ))
    → StandsAt text texts (position_or_len (bytes_eq text) texts)
    ⊎ ((is_listed text texts ≡ false) × (length texts ≤ position_or_len (bytes_eq text) texts))
StandsAt-position_or_len text [] = inr (refl, omega arith)
StandsAt-position_or_len text (t ∷ texts) = elim (cases_Bool (bytes_eq text t)) [
  | inl same ↦ inl (rw same (record { below = omega arith; is_text = sym ((bytes_eq-Decides text t).0 same) }))
  | inr apart ↦ elim (StandsAt-position_or_len text texts) [
    | inl later ↦ inl (rw apart (StandsAt-cons t text texts (position_or_len (bytes_eq text) texts) later))
    | inr nowhere ↦ inr (rw apart (nowhere.0, omega (arith, nowhere.1)))
  ]
]

-- a text that is found stands there
pub StandsAt-position : (text : List ℕ) (texts : List (List ℕ)) (place : ℕ)
    → position (bytes_eq text) texts ≡ Some place → StandsAt text texts place
StandsAt-position text texts place is = elim (StandsAt-position_or_len text texts) [
  | inl stands ↦
      let at : position_or_len (bytes_eq text) texts ≡ place =
      cc (rw (lt-ltb (position_or_len (bytes_eq text) texts) (length texts) stands.below) at is) in
      subst (λ (n : ℕ). StandsAt text texts n) at stands
  | inr nowhere ↦ cc (rw (le-ltb (position_or_len (bytes_eq text) texts) (length texts) nowhere.1) at is)
]

-- a text that isn't found isn't listed
pub is_listed-position : (text : List ℕ) (texts : List (List ℕ)) → position (bytes_eq text) texts ≡ None
    → is_listed text texts ≡ false
is_listed-position text texts is = elim (StandsAt-position_or_len text texts) [
  | inl stands ↦ cc (rw (lt-ltb (position_or_len (bytes_eq text) texts) (length texts) stands.below) at is)
  | inr nowhere ↦ nowhere.0
]

-- a text that stands at a place is listed
pub is_listed-StandsAt : (text : List ℕ) (texts : List (List ℕ)) (place : ℕ) → StandsAt text texts place
    → is_listed text texts ≡ true
is_listed-StandsAt text [] place stands = absurd (omega (arith, stands.below))
is_listed-StandsAt text (t ∷ texts) zero stands =
    or_left (bytes_eq text t) (is_listed text texts) ((bytes_eq-Decides text t).1 (sym stands.is_text))
is_listed-StandsAt text (t ∷ texts) (suc place) stands = or_right (bytes_eq text t) (is_listed text texts)
    (is_listed-StandsAt text texts place (record { below = omega (arith, stands.below); is_text = stands.is_text }))

-- a text that isn't listed stands at no place
stands_nowhere : (t text : List ℕ) (texts : List (List ℕ)) (b : ℕ) → not (is_listed t texts) ≡ true → t ≡ text
    → StandsAt text texts b → ⊥
stands_nowhere t text texts b alone same at_b = both_ways (is_listed t texts) (not-true (is_listed t texts) alone)
    (ap (λ (x : List ℕ). is_listed x texts) same ∙ is_listed-StandsAt text texts b at_b)

-- texts that differ stand at one place each
pub StandsAt-are_distinct : (text : List ℕ) (texts : List (List ℕ)) (a b : ℕ) → are_distinct texts ≡ true
    → StandsAt text texts a → StandsAt text texts b → a ≡ b
StandsAt-are_distinct text [] a b distinct at_a at_b = absurd (omega (arith, at_a.below))
StandsAt-are_distinct text (t ∷ texts) zero zero distinct at_a at_b = refl
StandsAt-are_distinct text (t ∷ texts) zero (suc b) distinct at_a at_b = absurd
    (stands_nowhere t text texts b (and_parts (not (is_listed t texts)) (are_distinct texts) distinct).0 at_a.is_text
    (record { below = omega (arith, at_b.below); is_text = at_b.is_text }))
StandsAt-are_distinct text (t ∷ texts) (suc a) zero distinct at_a at_b = absurd
    (stands_nowhere t text texts a (and_parts (not (is_listed t texts)) (are_distinct texts) distinct).0 at_b.is_text
    (record { below = omega (arith, at_a.below); is_text = at_a.is_text }))
StandsAt-are_distinct text (t ∷ texts) (suc a) (suc b) distinct at_a at_b =
    ap suc (StandsAt-are_distinct text texts a b (and_parts (not (is_listed t texts)) (are_distinct texts) distinct).1
    (record {
      below = omega (arith, at_a.below);
      is_text = at_a.is_text;
    }) (record { below = omega (arith, at_b.below); is_text = at_b.is_text }))

-- ---- keys that are strings
list_any-is_listed : {Y : Type 0} (text : String Y) (keys : List (String Y))
    → list_any (string_eq text) keys ≡ is_listed (string_bytes text) (map string_bytes keys)
list_any-is_listed text [] = refl
list_any-is_listed text (key ∷ keys) = ap (λ b. string_eq text key || b) (list_any-is_listed text keys)

-- a string that isn't there goes last
pub map-insert_key : {Y : Type 0} (text : String Y) (keys new : List (String Y)) (bytes : List ℕ)
    → new ≡ insert_key string_eq keys text → string_bytes text ≡ bytes → is_listed bytes (map string_bytes keys) ≡ false
    → map string_bytes new ≡ map string_bytes keys ++ bytes ∷ []
map-insert_key text keys new bytes is same unlisted =
    let absent : list_any (string_eq text) keys ≡ false =
    list_any-is_listed text keys ∙ ap (λ b. is_listed b (map string_bytes keys)) same ∙ unlisted in
    ap (map string_bytes) (is ∙ cond-false (list_any (string_eq text) keys) keys (keys ++ text ∷ []) absent)
    ∙ map_push string_bytes keys text ∙ ap (λ b. map string_bytes keys ++ b ∷ []) same

-- ---- codes
-- what a code of a dimension can be
pub is_code-cases : (texts : List (List ℕ)) (code : ℕ) → is_code texts code ≡ true
    → (code ≡ all_code) ⊎ ((code ≡ null_code) ⊎ (code < length texts))
is_code-cases texts code valid =
    elim (or_cases ((code == all_code) || (code == null_code)) (nat_lt code (length texts)) valid) [
      | inl top ↦ elim (or_cases (code == all_code) (code == null_code) top) [
        | inl all ↦ inl (eqb-true code all_code all)
        | inr null ↦ inr (inl (eqb-true code null_code null))
      ]
      | inr place ↦ inr (inr (ltb-true code (length texts) place))
    ]

-- the coordinate of a place is its text
pub coord_at-place : (texts : List (List ℕ)) (code : ℕ) → code < null_code
    → coord_at texts code ≡ coord.Text (get_or texts code [])
coord_at-place texts code small =
    let not_all : (code == all_code) ≡ false = ne_eqb code all_code (λ same. absurd (omega (arith, same, small))) in
    let not_null : (code == null_code) ≡ false = ne_eqb code null_code (λ same. absurd (omega (arith, same, small))) in
    rw (not_all, not_null) refl

-- ALL and null have their own codes
pub code_of_all : (texts : List (List ℕ)) → IsDictionary texts → IsCodeOf texts coord.All all_code
code_of_all texts is = record {
  alone = λ other valid. (
    λ same. elim (is_code-cases texts other valid) [
      | inl all ↦ all
      | inr rest ↦ elim rest [
        | inl null ↦ cc (ap (coord_at texts) (sym null) ∙ same)
        | inr place ↦ cc (sym (coord_at-place texts other (omega (arith, place, is.few))) ∙ same)
      ]
    ],
    λ all. ap (coord_at texts) all,
  );
}

pub code_of_null : (texts : List (List ℕ)) → IsDictionary texts → IsCodeOf texts coord.Null null_code
code_of_null texts is = record {
  alone = λ other valid. (
    λ same. elim (is_code-cases texts other valid) [
      | inl all ↦ cc (ap (coord_at texts) (sym all) ∙ same)
      | inr rest ↦ elim rest [
        | inl null ↦ null
        | inr place ↦ cc (sym (coord_at-place texts other (omega (arith, place, is.few))) ∙ same)
      ]
    ],
    λ null. ap (coord_at texts) null,
  );
}

-- a code that stands for a text is a place of it
pub StandsAt-coord_at : (texts : List (List ℕ)) (text : List ℕ) (other : ℕ) → IsDictionary texts
    → is_code texts other ≡ true → coord_at texts other ≡ coord.Text text → StandsAt text texts other
StandsAt-coord_at texts text other is valid same = elim (is_code-cases texts other valid) [
  | inl all ↦ cc (ap (coord_at texts) (sym all) ∙ same)
  | inr rest ↦ elim rest [
    | inl null ↦ cc (ap (coord_at texts) (sym null) ∙ same)
    | inr place ↦
        record { below = place; is_text = cc (sym (coord_at-place texts other (omega (arith, place, is.few))) ∙ same) }
  ]
]

-- the place of a text is its code
pub IsCodeOf-StandsAt : (texts : List (List ℕ)) (text : List ℕ) (place : ℕ) → IsDictionary texts
    → StandsAt text texts place → IsCodeOf texts (coord.Text text) place
IsCodeOf-StandsAt texts text place is stands = record {
  alone = λ other valid. (
    λ same. StandsAt-are_distinct text texts other place is.distinct
        (StandsAt-coord_at texts text other is valid same) stands,
    λ same. ap (coord_at texts) same ∙ coord_at-place texts place (omega (arith, stands.below, is.few))
        ∙ ap coord.Text stands.is_text,
  );
}

-- a text that isn't listed has none
pub IsCodeOf-no_code : (texts : List (List ℕ)) (text : List ℕ) → IsDictionary texts → is_listed text texts ≡ false
    → IsCodeOf texts (coord.Text text) no_code
IsCodeOf-no_code texts text is unlisted = record {
  alone = λ other valid. (
    λ same. absurd (both_ways (is_listed text texts) unlisted
        (is_listed-StandsAt text texts other (StandsAt-coord_at texts text other is valid same))),
    λ same. elim (is_code-cases texts other valid) [
      | inl all ↦ absurd (omega (arith, all, same))
      | inr rest ↦ elim rest [
        | inl null ↦ absurd (omega (arith, null, same))
        | inr place ↦ absurd (omega (arith, place, same, is.few))
      ]
    ],
  );
}

-- ---- a text more
is_listed-push : (text new : List ℕ) (texts : List (List ℕ))
    → is_listed text (texts ++ new ∷ []) ≡ (is_listed text texts || bytes_eq text new)
is_listed-push text new [] = grind arith
is_listed-push text new (t ∷ texts) = elim (cases_Bool (bytes_eq text t)) [
  | inl same ↦ rw same refl
  | inr apart ↦ rw apart (is_listed-push text new texts)
]

bytes_eq-sym : (a b : List ℕ) → bytes_eq a b ≡ false → bytes_eq b a ≡ false
bytes_eq-sym a b apart = false_from_ne_true (bytes_eq b a)
    (λ same. both_ways (bytes_eq a b) apart ((bytes_eq-Decides a b).1 (sym ((bytes_eq-Decides b a).0 same))))

pub are_distinct-push : (texts : List (List ℕ)) (new : List ℕ) → are_distinct texts ≡ true → is_listed new texts ≡ false
    → are_distinct (texts ++ new ∷ []) ≡ true
are_distinct-push [] new distinct unlisted = refl
are_distinct-push (t ∷ texts) new distinct unlisted =
    let parts = and_parts (not (is_listed t texts)) (are_distinct texts) distinct in
    let new_parts = or_halves (bytes_eq new t) (is_listed new texts) unlisted in
    let still : is_listed t (texts ++ new ∷ []) ≡ false = is_listed-push t new texts ∙ or_from (is_listed t texts)
    (bytes_eq t new) (not-true (is_listed t texts) parts.0) (bytes_eq-sym new t new_parts.0) in
    and_from (not (is_listed t (texts ++ new ∷ []))) (are_distinct (texts ++ new ∷ []))
    (not_from_false (is_listed t (texts ++ new ∷ [])) still) (are_distinct-push texts new parts.1 new_parts.1) where
      or_halves : (x y : Bool) → (x || y) ≡ false → (x ≡ false) × (y ≡ false)
      or_halves true y h = cc
      or_halves false y h = (refl, h)

-- a dictionary with a text more
pub IsDictionary-push : (texts : List (List ℕ)) (new : List ℕ) → IsDictionary texts → is_listed new texts ≡ false
    → length texts < no_code → IsDictionary (texts ++ new ∷ [])
IsDictionary-push texts new is unlisted room = record {
  distinct = are_distinct-push texts new is.distinct unlisted;
  few = omega (arith, length_push texts new, room);
}

-- a place is a code
pub is_code-place : (texts : List (List ℕ)) (place : ℕ) → place < length texts → is_code texts place ≡ true
is_code-place texts place below = or_right ((place == all_code) || (place == null_code)) (nat_lt place (length texts))
    (lt-ltb place (length texts) below)

-- the next code, where there is room
pub no_code-next : (len code : ℕ) → Some code ≡ (if nat_lt len no_code then Some len else None)
    → (len < no_code) × (code ≡ len)
no_code-next len code is = elim (cases_lt len no_code) [
  | inl below ↦ (below, cc (rw (lt-ltb len no_code below) at is))
  | inr past ↦ cc (rw (le-ltb len no_code past) at is)
]

-- a place is no other code
pub no_code-place : (texts : List (List ℕ)) (place : ℕ) → IsDictionary texts → place < length texts
    → true ≡ not (place == no_code)
no_code-place texts place is below =
    sym (not_from_false (place == no_code) (ne_eqb place no_code (λ same. absurd (omega (arith, same, below, is.few)))))

-- the code of a text that is listed is a code of the dimension
pub is_code-is_listed : (texts : List (List ℕ)) (text : List ℕ) (code : ℕ) → IsDictionary texts
    → IsCodeOf texts (coord.Text text) code → is_listed text texts ≡ true → is_code texts code ≡ true
is_code-is_listed texts text code is of listed = elim (StandsAt-position_or_len text texts) [
  | inl stands ↦
      let place = position_or_len (bytes_eq text) texts in
      let valid = is_code-place texts place stands.below in
      let at : coord_at texts place ≡ coord.Text text =
      coord_at-place texts place (omega (arith, stands.below, is.few)) ∙ ap coord.Text stands.is_text in
      subst (λ (n : ℕ). is_code texts n ≡ true) ((of.alone place valid).0 at) valid
  | inr nowhere ↦ absurd (both_ways (is_listed text texts) nowhere.0 listed)
]
