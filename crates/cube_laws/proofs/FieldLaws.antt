-- Each field of the fact of a present id is the one that was put last.
use Rattle.std.specs.Prelude.{◌≡◌, ◌<◌, ℕ, zero, suc, Bool, true, List, [], ◌∷◌, length, filter, slice_get}
use Rattle.std.specs.Prelude.{option_and_then, Option, Some, None}
use Rattle.std.specs.Str.{bytes_eq}
use Rattle.std.specs.List.{list_all, list_any, filter_map, cons_option, fold}
use Rattle.std.proofs.Common.{refl, sym, ap, ◌∙◌, inl, inr, arith}
use Rattle.std.proofs.lemmas.Bool.{cases_Bool, and_parts, and_from, eqb-true}
use Rattle.cube_core.specs.Layout.{Layout}
use Rattle.cube_core.specs.Takes.{takes, fits, fits_part}
use Rattle.cube_core.specs.Amendment.{fields_over, over}
use Rattle.cube_core.specs.Life.{id_of, naming, is_delete, since_delete, updated, from_insert, life_of}
use Rattle.cube_core.specs.declared.fact.Fact.{Fact}
use Rattle.cube_core.specs.declared.change.Change.{Change}
use Rattle.cube_core.specs.declared.change.Change.TheVariants.{Insert, Update, Amend, Upsert, Delete, Remove}
use Rattle.cube_core.specs.declared.partial.Field.{Field}
use Rattle.cube_core.specs.declared.partial.Field.TheVariants.{Keep, Put}
use Rattle.cube_core.specs.declared.partial.Partial.{Partial}
use Rattle.cube_laws.specs.Life.{value_put, put_at, puts_at, last_of}
use Rattle.cube_laws.proofs.LifeLaws.{fields_over-put, fields_over-kept}
use Rattle.cube_core.proofs.AmendmentLaws.{length-fields_over}

-- a list has an item at each of its places
slice_get-length : {A : Type 0} (items : List A) (place : ℕ) → place < length items
    → (item : A) × (slice_get items place ≡ Some item)
slice_get-length [] place below = absurd (omega arith)
slice_get-length (item ∷ items) zero below = (item, refl)
slice_get-length (item ∷ items) (suc place) below = slice_get-length items place (omega arith)

-- the last of a list, or else what was there before
abbrev pub last_after : {A : Type 0} → Option A → List A → Option A
last_after before items = fold (λ seen item. Some item) before items

-- one more value that is put
last_after-put : {A : Type 0} (before now : Option A) (item : A) (items : List A) → now ≡ Some item
    → last_after before (cons_option now items) ≡ last_after now items
last_after-put before now item items is = rw is refl

-- the values of a fact, dimensions or measures: how many there are, and what an amendment makes of them
pub record IsPart {A : Type 0} (s : Layout) (values : Fact → List A) (fields : Partial → List (Field A)) (count : ℕ)
    : Type 0 where
  pub of_fact : (fact : Fact) → fits s fact ≡ true → length (values fact) ≡ count
  pub of_part : (part : Partial) → fits_part s part ≡ true → length (fields part) ≡ count
  pub amended : (part : Partial) (fact : Fact) → values (over part fact) ≡ fields_over (fields part) (values fact)

-- a field of an amendment at a place, kept or put
fields_over-slice_get : {A : Type 0} (fields : List (Field A)) (olds : List A) (place : ℕ) (field : Field A)
    → length fields ≡ length olds → slice_get fields place ≡ Some field
    → (rest : List A) → last_after (slice_get (fields_over fields olds) place) rest
    ≡ last_after (slice_get olds place) (cons_option (value_put field) rest)
fields_over-slice_get fields olds place Keep same there rest =
    ap (λ o. last_after o rest) (fields_over-kept fields olds place same there)
fields_over-slice_get fields olds place (Put value) same there rest =
    ap (λ o. last_after o rest) (fields_over-put fields olds place value same there)

-- the value at a place after updates and amendments is the one put last, or else the first
updated-last : {A : Type 0} (s : Layout) (values : Fact → List A) (fields : Partial → List (Field A)) (count place : ℕ)
    → IsPart s values fields count → place < count
    → (changes : List Change) (fact : Fact) → list_all (takes s) changes ≡ true → length (values fact) ≡ count
    → slice_get (values (updated fact changes)) place
    ≡ last_after (slice_get (values fact) place) (filter_map (put_at values fields place) changes)
updated-last s values fields count place part below [] fact taken long = refl
updated-last s values fields count place part below (Insert id other ∷ changes) fact taken long =
    updated-last s values fields count place part below changes fact (and_parts _ _ taken).1 long
updated-last s values fields count place part below (Update id other ∷ changes) fact taken long =
    let both = and_parts (takes s (Update id other)) (list_all (takes s) changes) taken in
    let long' : length (values other) ≡ count = part.of_fact other (and_parts _ _ both.0).1 in
    let there = slice_get-length (values other) place (omega arith) in
    updated-last s values fields count place part below changes other both.1 long'
    ∙ sym (last_after-put (slice_get (values fact) place) (slice_get (values other) place) there.0
    (filter_map (put_at values fields place) changes) there.1)
updated-last s values fields count place part below (Amend id amendment ∷ changes) fact taken long =
    let both = and_parts (takes s (Amend id amendment)) (list_all (takes s) changes) taken in
    let long' : length (fields amendment) ≡ count = part.of_part amendment (and_parts _ _ both.0).1 in
    let there = slice_get-length (fields amendment) place (omega arith) in
    let same : length (fields amendment) ≡ length (values fact) = long' ∙ sym long in
    let longer : length (values (over amendment fact)) ≡ count =
    ap length (part.amended amendment fact) ∙ length-fields_over (fields amendment) (values fact) same ∙ long in
    updated-last s values fields count place part below changes (over amendment fact) both.1 longer
    ∙ ap (λ vs. last_after (slice_get vs place) (filter_map (put_at values fields place) changes))
    (part.amended amendment fact)
    ∙ fields_over-slice_get (fields amendment) (values fact) place there.0 same there.1
    (filter_map (put_at values fields place) changes)
    ∙ ap (λ o. last_after (slice_get (values fact) place)
    (cons_option (option_and_then value_put o) (filter_map (put_at values fields place) changes))) (sym there.1)
updated-last s values fields count place part below (Upsert id other ∷ changes) fact taken long =
    let both = and_parts (takes s (Upsert id other)) (list_all (takes s) changes) taken in
    let long' : length (values other) ≡ count = part.of_fact other (and_parts _ _ both.0).1 in
    let there = slice_get-length (values other) place (omega arith) in
    updated-last s values fields count place part below changes other both.1 long'
    ∙ sym (last_after-put (slice_get (values fact) place) (slice_get (values other) place) there.0
    (filter_map (put_at values fields place) changes) there.1)
updated-last s values fields count place part below (Delete id ∷ changes) fact taken long =
    updated-last s values fields count place part below changes fact (and_parts _ _ taken).1 long
updated-last s values fields count place part below (Remove id ∷ changes) fact taken long =
    updated-last s values fields count place part below changes fact (and_parts _ _ taken).1 long

-- from the first insert on
from_insert-last : {A : Type 0} (s : Layout) (values : Fact → List A) (fields : Partial → List (Field A))
    (count place : ℕ) → IsPart s values fields count → place < count
    → (changes : List Change) (fact : Fact) → list_all (takes s) changes ≡ true → from_insert changes ≡ Some fact
    → slice_get (values fact) place ≡ last_of (puts_at values fields place changes)
from_insert-last s values fields count place part below [] fact taken present = cc present
from_insert-last s values fields count place part below (Insert id first ∷ changes) fact taken present =
    let both = and_parts (takes s (Insert id first)) (list_all (takes s) changes) taken in
    let long : length (values first) ≡ count = part.of_fact first (and_parts _ _ both.0).1 in
    let there = slice_get-length (values first) place (omega arith) in
    let is : fact ≡ updated first changes = cc present in
    ap (λ f. slice_get (values f) place) is
    ∙ updated-last s values fields count place part below changes first both.1 long
    ∙ sym (last_after-put None (slice_get (values first) place) there.0
    (filter_map (put_at values fields place) changes) there.1)
from_insert-last s values fields count place part below (Update id other ∷ changes) fact taken present =
    from_insert-last s values fields count place part below changes fact (and_parts _ _ taken).1 present
from_insert-last s values fields count place part below (Amend id other ∷ changes) fact taken present =
    from_insert-last s values fields count place part below changes fact (and_parts _ _ taken).1 present
from_insert-last s values fields count place part below (Upsert id first ∷ changes) fact taken present =
    let both = and_parts (takes s (Upsert id first)) (list_all (takes s) changes) taken in
    let long : length (values first) ≡ count = part.of_fact first (and_parts _ _ both.0).1 in
    let there = slice_get-length (values first) place (omega arith) in
    let is : fact ≡ updated first changes = cc present in
    ap (λ f. slice_get (values f) place) is
    ∙ updated-last s values fields count place part below changes first both.1 long
    ∙ sym (last_after-put None (slice_get (values first) place) there.0
    (filter_map (put_at values fields place) changes) there.1)
from_insert-last s values fields count place part below (Delete id ∷ changes) fact taken present =
    from_insert-last s values fields count place part below changes fact (and_parts _ _ taken).1 present
from_insert-last s values fields count place part below (Remove id ∷ changes) fact taken present =
    from_insert-last s values fields count place part below changes fact (and_parts _ _ taken).1 present

-- a test of all holds of those that are left
list_all-filter : (test keep : Change → Bool) (changes : List Change) → list_all test changes ≡ true
    → list_all test (filter keep changes) ≡ true
list_all-filter test keep [] all = refl
list_all-filter test keep (change ∷ changes) all =
    let both = and_parts (test change) (list_all test changes) all in
    elim (cases_Bool (keep change)) [
      | inl kept ↦ rw kept (and_from _ _ both.0 (list_all-filter test keep changes both.1))
      | inr dropped ↦ rw dropped (list_all-filter test keep changes both.1)
    ]

list_all-since_delete : (test : Change → Bool) (changes : List Change) → list_all test changes ≡ true
    → list_all test (since_delete changes) ≡ true
list_all-since_delete test [] all = refl
list_all-since_delete test (change ∷ changes) all = elim (cases_Bool (list_any is_delete (change ∷ changes))) [
  | inl has ↦ rw has (list_all-since_delete test changes (and_parts (test change) (list_all test changes) all).1)
  | inr hasnt ↦ rw hasnt all
]

-- the value at a place of a present id is the one put last
pub life_of-last : {A : Type 0} (s : Layout) (values : Fact → List A) (fields : Partial → List (Field A))
    (count place : ℕ) → IsPart s values fields count → place < count
    → (id : List ℕ) (changes : List Change) (fact : Fact) → list_all (takes s) changes ≡ true
    → life_of id changes ≡ Some fact
    → slice_get (values fact) place ≡ last_of (puts_at values fields place (since_delete (naming id changes)))
life_of-last s values fields count place part below id changes fact taken present =
    from_insert-last s values fields count place part below (since_delete (naming id changes)) fact
    (list_all-since_delete (takes s) (naming id changes)
    (list_all-filter (takes s) (λ change. bytes_eq id (id_of change)) changes taken)) present

-- the dimensions, and the measures
pub dims-IsPart : (s : Layout) → IsPart s (λ fact. fact.dims) (λ part. part.dims) (length s.dimensions)
dims-IsPart s = record {
  of_fact = λ fact ok. eqb-true _ _ (and_parts _ _ (and_parts _ _ ok).0).0;
  of_part = λ part ok. eqb-true _ _ (and_parts _ _ (and_parts _ _ ok).0).0;
  amended = λ part fact. refl;
}

pub measures-IsPart : (s : Layout) → IsPart s (λ fact. fact.measures) (λ part. part.measures) (length s.measures)
measures-IsPart s = record {
  of_fact = λ fact ok. eqb-true _ _ (and_parts _ _ (and_parts _ _ ok).0).1;
  of_part = λ part ok. eqb-true _ _ (and_parts _ _ (and_parts _ _ ok).0).1;
  amended = λ part fact. refl;
}
