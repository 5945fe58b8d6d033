-- The life of an id, change by change.
use Rattle.std.specs.Prelude.{◌≡◌, ℕ, zero, suc, true, false, List, [], ◌∷◌, ◌++◌, length, map, slice_get, Some, None}
use Rattle.std.specs.Str.{bytes_eq}
use Rattle.std.proofs.Common.{refl, sym, ap, ◌∙◌, inl, inr, append_assoc, arith}
use Rattle.std.proofs.lemmas.List.Elements.{filter-append}
use Rattle.std.proofs.lemmas.List.Folds.{list_any-append}
use Rattle.std.proofs.lemmas.List.{append-nil}
use Rattle.std.proofs.lemmas.Bool.{cases_Bool, or_parts, or_right}
use Rattle.cube_core.specs.Amendment.{fields_over}
use Rattle.cube_core.specs.Life.{id_of, naming, is_delete, since_delete, from_insert, life_of}
use Rattle.cube_core.proofs.LifeLaws.{life_after, life_of-naming, life_of-other, life_after-delete, bytes_eq-itself}
use Rattle.cube_core.proofs.LifeLaws.{life_after-remove, life_after-upsert}
use Rattle.cube_core.specs.declared.fact.Fact.{Fact}
use Rattle.cube_core.specs.declared.change.Change.{Change}
use Rattle.cube_core.specs.declared.change.Change.TheVariants.{Insert, Update, Amend, Upsert, Delete, Remove}
use Rattle.cube_core.specs.declared.partial.Field.{Field}
use Rattle.cube_core.specs.declared.partial.Field.TheVariants.{Keep, Put}
use Rattle.cube_laws.specs.Life.{is_insert_of, inserts, keeping, putting}

-- after a delete an id is absent
pub life_of-Delete : (id : List ℕ) (changes : List Change) → life_of id (changes ++ Delete id ∷ []) ≡ None
life_of-Delete id changes =
    life_of-naming id changes (Delete id) (bytes_eq-itself id) ∙ sym (life_after-delete id (life_of id changes))

-- and after a removal
pub life_of-Remove : (id : List ℕ) (changes : List Change) → life_of id (changes ++ Remove id ∷ []) ≡ None
life_of-Remove id changes =
    life_of-naming id changes (Remove id) (bytes_eq-itself id) ∙ sym (life_after-remove id (life_of id changes))

-- after an upsert it is present with its fact
pub life_of-Upsert : (id : List ℕ) (changes : List Change) (fact : Fact)
    → life_of id (changes ++ Upsert id fact ∷ []) ≡ Some fact
life_of-Upsert id changes fact =
    life_of-naming id changes (Upsert id fact) (bytes_eq-itself id) ∙ life_after-upsert id fact (life_of id changes)

-- a change that doesn't insert an absent id leaves it absent
pub life_of-is_insert_of : (id : List ℕ) (changes : List Change) (change : Change) → life_of id changes ≡ None
    → is_insert_of id change ≡ false
    → life_of id (changes ++ change ∷ []) ≡ None
life_of-is_insert_of id changes (Insert named fact) absent uninserted =
    life_of-other id changes (Insert named fact) uninserted ∙ absent
life_of-is_insert_of id changes (Update named fact) absent uninserted = elim (cases_Bool (bytes_eq id named)) [
  | inl same ↦ life_of-naming id changes (Update named fact) same ∙ ap (life_after (Update named fact)) absent
  | inr other ↦ life_of-other id changes (Update named fact) other ∙ absent
]
life_of-is_insert_of id changes (Amend named part) absent uninserted = elim (cases_Bool (bytes_eq id named)) [
  | inl same ↦ life_of-naming id changes (Amend named part) same ∙ ap (life_after (Amend named part)) absent
  | inr other ↦ life_of-other id changes (Amend named part) other ∙ absent
]
life_of-is_insert_of id changes (Upsert named fact) absent uninserted =
    life_of-other id changes (Upsert named fact) uninserted ∙ absent
life_of-is_insert_of id changes (Delete named) absent uninserted = elim (cases_Bool (bytes_eq id named)) [
  | inl same ↦ life_of-naming id changes (Delete named) same ∙ ap (life_after (Delete named)) absent
  | inr other ↦ life_of-other id changes (Delete named) other ∙ absent
]
life_of-is_insert_of id changes (Remove named) absent uninserted = elim (cases_Bool (bytes_eq id named)) [
  | inl same ↦ life_of-naming id changes (Remove named) same ∙ ap (life_after (Remove named)) absent
  | inr other ↦ life_of-other id changes (Remove named) other ∙ absent
]

-- so do many of them
pub life_of-inserts : (id : List ℕ) (later changes : List Change) → life_of id changes ≡ None → inserts id later ≡ false
    → life_of id (changes ++ later) ≡ None
life_of-inserts id [] changes absent uninserted = ap (life_of id) (append-nil changes) ∙ absent
life_of-inserts id (change ∷ later) changes absent uninserted =
    let parts = or_parts (is_insert_of id change) (inserts id later) uninserted in
    ap (life_of id) (sym (append_assoc changes (change ∷ []) later))
    ∙ life_of-inserts id later (changes ++ change ∷ []) (life_of-is_insert_of id changes change absent parts.0) parts.1

-- a present id after an update, and after a delete and an insert
pub life_of-Update : (id : List ℕ) (changes : List Change) (fact other : Fact) → life_of id changes ≡ Some fact
    → life_of id (changes ++ Update id other ∷ []) ≡ life_of id (changes ++ Delete id ∷ Insert id other ∷ [])
life_of-Update id changes fact other present =
    let updated =
    life_of-naming id changes (Update id other) (bytes_eq-itself id) ∙ ap (life_after (Update id other)) present in
    let deleted : List Change = changes ++ Delete id ∷ [] in
    let inserted = life_of-naming id deleted (Insert id other) (bytes_eq-itself id)
    ∙ ap (life_after (Insert id other)) (life_of-Delete id changes) in
    updated ∙ sym (ap (life_of id) (sym (append_assoc changes (Delete id ∷ []) (Insert id other ∷ []))) ∙ inserted)

-- a value that is put, and one that is kept
pub fields_over-put : {A : Type 0} (fields : List (Field A)) (olds : List A) (place : ℕ) (value : A)
    → length fields ≡ length olds
    → slice_get fields place ≡ Some (Put value) → slice_get (fields_over fields olds) place ≡ Some value
fields_over-put [] olds place value same there = cc there
fields_over-put (field ∷ fields) [] place value same there = absurd (omega arith)
fields_over-put (Keep ∷ fields) (old ∷ olds) zero value same there = cc there
fields_over-put (Put new ∷ fields) (old ∷ olds) zero value same there = cc there
fields_over-put (field ∷ fields) (old ∷ olds) (suc place) value same there =
    fields_over-put fields olds place value (omega arith) there

pub fields_over-kept : {A : Type 0} (fields : List (Field A)) (olds : List A) (place : ℕ) → length fields ≡ length olds
    → slice_get fields place ≡ Some Keep → slice_get (fields_over fields olds) place ≡ slice_get olds place
fields_over-kept [] olds place same there = cc there
fields_over-kept (field ∷ fields) [] place same there = absurd (omega arith)
fields_over-kept (Keep ∷ fields) (old ∷ olds) zero same there = refl
fields_over-kept (Put new ∷ fields) (old ∷ olds) zero same there = cc there
fields_over-kept (field ∷ fields) (old ∷ olds) (suc place) same there =
    fields_over-kept fields olds place (omega arith) there

-- fields that are all kept, and fields that are all put
fields_over-keep_all : {A : Type 0} (olds : List A) → fields_over (map (λ old. Keep) olds) olds ≡ olds
fields_over-keep_all [] = refl
fields_over-keep_all (old ∷ olds) = ap (λ rest. old ∷ rest) (fields_over-keep_all olds)

fields_over-put_all : {A : Type 0} (values olds : List A) → length values ≡ length olds
    → fields_over (map Put values) olds ≡ values
fields_over-put_all [] olds same = refl
fields_over-put_all (value ∷ values) [] same = absurd (omega arith)
fields_over-put_all (value ∷ values) (old ∷ olds) same =
    ap (λ rest. value ∷ rest) (fields_over-put_all values olds (omega arith))

-- a present id after an amendment that keeps all, and after one that puts all
pub life_of-keeping : (id : List ℕ) (changes : List Change) (fact : Fact) → life_of id changes ≡ Some fact
    → life_of id (changes ++ Amend id (keeping fact) ∷ []) ≡ Some fact
life_of-keeping id changes fact present =
    life_of-naming id changes (Amend id (keeping fact)) (bytes_eq-itself id)
    ∙ ap (life_after (Amend id (keeping fact))) present
    ∙ (λ i. Some (record { dims = fields_over-keep_all fact.dims i; measures = fields_over-keep_all fact.measures i }))

pub life_of-putting : (id : List ℕ) (changes : List Change) (fact other : Fact) → life_of id changes ≡ Some fact
    → length other.dims ≡ length fact.dims → length other.measures ≡ length fact.measures
    → life_of id (changes ++ Amend id (putting other) ∷ []) ≡ life_of id (changes ++ Update id other ∷ [])
life_of-putting id changes fact other present dims measures =
    life_of-naming id changes (Amend id (putting other)) (bytes_eq-itself id)
    ∙ ap (life_after (Amend id (putting other))) present
    ∙ (λ i. Some (record {
      dims = fields_over-put_all other.dims fact.dims dims i;
      measures = fields_over-put_all other.measures fact.measures measures i;
    }))
    ∙ sym (life_of-naming id changes (Update id other) (bytes_eq-itself id) ∙ ap (life_after (Update id other)) present)

-- what stands before a delete is left out
since_delete-past : (id : List ℕ) (before after : List Change)
    → since_delete (before ++ Delete id ∷ after) ≡ since_delete after
since_delete-past id [] after = refl
since_delete-past id (change ∷ before) after =
    rw (list_any-append is_delete (change ∷ before) (Delete id ∷ after) ∙ or_right _ true refl)
    (since_delete-past id before after)

pub life_of-past : (id : List ℕ) (before after : List Change)
    → life_of id (before ++ Delete id ∷ after) ≡ life_of id after
life_of-past id before after =
    let named : naming id (before ++ Delete id ∷ after) ≡ naming id before ++ Delete id ∷ naming id after =
    filter-append (λ (c : Change). bytes_eq id (id_of c)) before (Delete id ∷ after) ∙ rw (bytes_eq-itself id) refl in
    ap (λ (cs : List Change). from_insert (since_delete cs)) named
    ∙ ap from_insert (since_delete-past id (naming id before) (naming id after))
