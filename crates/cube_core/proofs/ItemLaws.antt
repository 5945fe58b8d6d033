-- What a record spells: a change that the schema takes, and without a kept field a whole fact.
use Rattle.std.proofs.Common.{◌≡◌, ℕ, suc, Bool, true, false, List, [], ◌∷◌, length, map, take, drop, refl, sym, ap}
use Rattle.std.proofs.Common.{◌∙◌, inl, inr, true≢false, arith, length-drop}
use Rattle.std.specs.Prelude.{◌==◌, ◌&&◌, ◌||◌, ◌+◌, not, codes, IfOk, option_map, Option, Some, None, is_some, Result}
use Rattle.std.specs.Prelude.{if◌then◌else◌}
use Rattle.std.specs.Str.{bytes_eq, is_utf8}
use Rattle.std.specs.List.{list_all, list_any, filter_map, cons_option}
use Rattle.std.proofs.lemmas.Bool.{cases_Bool, and_from, and_parts, or_parts, eqb-true, eq-eqb}
use Rattle.std.proofs.lemmas.List.{length-map, length-take, drop-drop, take-append-drop}
use Rattle.std.proofs.lemmas.List.Folds.{list_any-append}
use Rattle.cube_core.specs.Layout.{Layout}
use Rattle.cube_core.specs.Takes.{takes, may_amend, may_upsert, is_id, fits, fits_part, is_dimension_value}
use Rattle.cube_core.specs.Takes.{puts_dimension_value}
use Rattle.cube_core.specs.Items.{width_of, field_at, is_null, is_keep, keeps_any, is_measure, dimension_of}
use Rattle.cube_core.specs.Items.{dimension_field_of, measure_of, measure_field_of, dimension_fields, measure_fields}
use Rattle.cube_core.specs.Items.{fact_of, amendment_of, unless_at_fault, unless_id_at_fault, insert_of, update_of}
use Rattle.cube_core.specs.Items.{upsert_of, change_of}
use Rattle.cube_core.specs.declared.change.Change.{Change}
use Rattle.cube_core.specs.declared.change.Change.TheVariants.{Delete, Remove}
use Rattle.cube_core.specs.declared.change.LineFault.{LineFault}
use Rattle.cube_core.specs.declared.partial.Field.TheVariants.{Put}

-- a choice of two answers has what each of them has
pub IfOk-if : {A E : Type 0} (P : A → Type 0) (b : Bool) (x y : Result A E) → (b ≡ true → IfOk x P)
    → (b ≡ false → IfOk y P) → IfOk (if b then x else y) P
IfOk-if P true x y first second = first refl
IfOk-if P false x y first second = second refl

-- what is turned round is turned back
holds-not : (b : Bool) → not b ≡ false → b ≡ true
holds-not true h = refl
holds-not false h = absurd (true≢false h)

-- a filter map that gives something of each item has as many
pub length-filter_map : {A B : Type 0} (f : A → Option B) (xs : List A) → list_all (λ x. is_some (f x)) xs ≡ true
    → length (filter_map f xs) ≡ length xs
length-filter_map f [] all = refl
length-filter_map f (x ∷ xs) all =
    let parts = and_parts (is_some (f x)) (list_all (λ y. is_some (f y)) xs) all in
    more (f x) parts.0 (filter_map f xs) ∙ ap (λ n. suc n) (length-filter_map f xs parts.1)
  where
    more : {C : Type 0} (o : Option C) → is_some o ≡ true → (rest : List C)
        → length (cons_option o rest) ≡ suc (length rest)
    more None there rest = absurd (true≢false (sym there))
    more (Some value) there rest = refl

-- without a kept field each measure is a value, and its test is that of the values
pub is_measure-value : (s : Layout) (fields : List (List ℕ)) → list_any (is_keep s) fields ≡ false
    → list_all (is_measure s) fields ≡ list_all (λ field. is_some (measure_of field)) fields
is_measure-value s [] none = refl
is_measure-value s (field ∷ fields) none =
    let parts = or_parts (is_keep s field) (list_any (is_keep s) fields) none in
    rw (parts.0, is_measure-value s fields parts.1)
    (ap (λ b. b && list_all (λ f. is_some (measure_of f)) fields) (same Put (measure_of field)))
  where
    same : {A B : Type 0} (f : A → B) (o : Option A) → is_some (option_map f o) ≡ is_some o
    same f None = refl
    same f (Some value) = refl

-- without a kept field none of the measures is kept
pub keeps_any-measures : (s : Layout) (fields : List (List ℕ)) → keeps_any s fields ≡ false
    → list_any (is_keep s) (measure_fields s fields) ≡ false
keeps_any-measures s fields none =
    let n = length s.dimensions in
    let whole : (list_any (is_keep s) (take n (drop 2 fields)) || list_any (is_keep s) (drop n (drop 2 fields)))
    ≡ false =
    sym (list_any-append (is_keep s) (take n (drop 2 fields)) (drop n (drop 2 fields)))
    ∙ ap (list_any (is_keep s)) (take-append-drop n (drop 2 fields)) ∙ none in
    ap (list_any (is_keep s)) (sym (drop-drop n 2 fields)) ∙ (or_parts _ _ whole).1

-- the numbers of fields that a record of the right width has for its dimensions and its measures
length-dimension_fields : (s : Layout) (fields : List (List ℕ)) → length fields ≡ width_of s
    → length (dimension_fields s fields) ≡ length s.dimensions
length-dimension_fields s fields right =
    omega (arith, length-take (length s.dimensions) (drop 2 fields), length-drop 2 fields)

length-measure_fields : (s : Layout) (fields : List (List ℕ)) → length fields ≡ width_of s
    → length (measure_fields s fields) ≡ length s.measures
length-measure_fields s fields right = omega (arith, length-drop (2 + length s.dimensions) fields)

-- each value that a field spells is one that a dimension may have
dimension_of-values : (fields : List (List ℕ)) → list_all is_dimension_value (map dimension_of fields) ≡ true
dimension_of-values [] = refl
dimension_of-values (field ∷ fields) = elim (cases_Bool (is_null field)) [
  | inl null ↦ rw null (dimension_of-values fields)
  | inr text ↦ rw (text, text) (dimension_of-values fields)
]

-- and so is each that a field puts
dimension_field_of-values : (s : Layout) (fields : List (List ℕ))
    → list_all puts_dimension_value (map (dimension_field_of s) fields) ≡ true
dimension_field_of-values s [] = refl
dimension_field_of-values s (field ∷ fields) = elim (cases_Bool (is_keep s field)) [
  | inl keeps ↦ rw keeps (dimension_field_of-values s fields)
  | inr puts ↦ rw puts (elim (cases_Bool (is_null field)) [
    | inl null ↦ rw null (dimension_field_of-values s fields)
    | inr text ↦ rw (text, text) (dimension_field_of-values s fields)
  ])
]

-- the fact of a record fits, where its measures are values
fits-fact_of : (s : Layout) (fields : List (List ℕ)) → length fields ≡ width_of s
    → list_all (λ field. is_some (measure_of field)) (measure_fields s fields) ≡ true
    → fits s (fact_of s fields) ≡ true
fits-fact_of s fields right lawful =
    let dims = length-map (dimension_fields s fields) dimension_of ∙ length-dimension_fields s fields right in
    let measures =
    length-filter_map measure_of (measure_fields s fields) lawful ∙ length-measure_fields s fields right in
    and_from _ _ (and_from _ _ (eq-eqb _ _ dims) (eq-eqb _ _ measures))
    (dimension_of-values (dimension_fields s fields))

-- and so does its amendment, where they are values or are kept
fits_part-amendment_of : (s : Layout) (fields : List (List ℕ)) → length fields ≡ width_of s
    → list_all (is_measure s) (measure_fields s fields) ≡ true
    → fits_part s (amendment_of s fields) ≡ true
fits_part-amendment_of s fields right lawful =
    let dims = length-map (dimension_fields s fields) (dimension_field_of s) ∙ length-dimension_fields s fields right in
    let measures =
    length-filter_map (measure_field_of s) (measure_fields s fields) lawful ∙ length-measure_fields s fields right in
    and_from _ _ (and_from _ _ (eq-eqb _ _ dims) (eq-eqb _ _ measures))
    (dimension_field_of-values s (dimension_fields s fields))

-- only feeds that may amend keep a field
pub may_amend-keeps : (s : Layout) (fields : List (List ℕ)) → list_any (is_keep s) fields ≡ true → may_amend s ≡ true
may_amend-keeps s fields keeps = by (may_amend s) refl
  where
    none : (fs : List (List ℕ)) → may_amend s ≡ false → list_any (is_keep s) fs ≡ false
    none [] never = refl
    none (f ∷ fs) never = rw never (none fs never)

    by : (b : Bool) → may_amend s ≡ b → may_amend s ≡ true
    by true e = e
    by false e = absurd (true≢false (sym keeps ∙ none fields e))

-- a record with a fact or an amendment spells a change that is taken, if its fields make that change taken
unless_at_fault-taken : (s : Layout) (fields : List (List ℕ)) (change : Result Change LineFault)
    → (length fields ≡ width_of s → is_id (field_at fields 1) ≡ true
    → list_all (is_measure s) (measure_fields s fields) ≡ true → IfOk change (λ c. takes s c ≡ true))
    → IfOk (unless_at_fault change s fields) (λ c. takes s c ≡ true)
unless_at_fault-taken s fields change taken =
    let P : Change → Type 0 = λ c. takes s c ≡ true in
    IfOk-if P (not (length fields == width_of s)) _ _ (λ wrong. tt) (λ right.
    IfOk-if P (not (list_all is_utf8 (drop 1 fields))) _ _ (λ bad. tt) (λ texts.
    IfOk-if P (length (field_at fields 1) == 0) _ _ (λ empty. tt) (λ named.
    IfOk-if P (not (list_all (is_measure s) (measure_fields s fields))) _ _ (λ bad. tt) (λ lawful.
    taken (eqb-true _ _ (holds-not _ right)) (ap not named) (holds-not _ lawful)))))

-- a record of which the id alone counts spells a change of which this holds, if it holds where the id is lawful
pub unless_id_at_fault-IfOk : (P : Change → Type 0) (s : Layout) (fields : List (List ℕ)) (change : Change)
    → (is_id (field_at fields 1) ≡ true → P change) → IfOk (unless_id_at_fault change s fields) P
unless_id_at_fault-IfOk P s fields change holds =
    IfOk-if P (not ((length fields == 2) || (length fields == width_of s))) _ _ (λ wrong. tt) (λ right.
    IfOk-if P (not (is_utf8 (field_at fields 1))) _ _ (λ bad. tt) (λ text.
    IfOk-if P (length (field_at fields 1) == 0) _ _ (λ empty. tt) (λ named. holds (ap not named))))

-- the change that a record spells is one that the schema takes
pub takes-change_of : (s : Layout) (fields : List (List ℕ))
    → IfOk (change_of s fields) (λ change. takes s change ≡ true)
takes-change_of s fields =
    let P : Change → Type 0 = λ c. takes s c ≡ true in
    let values : keeps_any s fields ≡ false → list_all (is_measure s) (measure_fields s fields) ≡ true
    → list_all (λ field. is_some (measure_of field)) (measure_fields s fields) ≡ true =
    λ none lawful. sym (is_measure-value s (measure_fields s fields) (keeps_any-measures s fields none)) ∙ lawful in
    IfOk-if P (bytes_eq (field_at fields 0) (codes "I")) _ _
    (λ letter. unless_at_fault-taken s fields (insert_of s fields) (λ right named lawful.
    IfOk-if P (keeps_any s fields) _ _ (λ keeps. tt)
    (λ none. and_from _ _ named (fits-fact_of s fields right (values none lawful)))))
    (λ other. IfOk-if P (bytes_eq (field_at fields 0) (codes "U")) _ _
    (λ letter. unless_at_fault-taken s fields (update_of s fields) (λ right named lawful.
    IfOk-if P (keeps_any s fields) _ _
    (λ keeps. and_from _ _ (and_from _ _ (may_amend-keeps s (drop 2 fields) keeps) named)
    (fits_part-amendment_of s fields right lawful))
    (λ none. and_from _ _ named (fits-fact_of s fields right (values none lawful)))))
    (λ neither. IfOk-if P (bytes_eq (field_at fields 0) (codes "D")) _ _
    (λ letter. unless_id_at_fault-IfOk P s fields (Delete (field_at fields 1)) (λ named. named))
    (λ not_delete. IfOk-if P (may_upsert s && bytes_eq (field_at fields 0) (codes "P")) _ _
    (λ letter. unless_at_fault-taken s fields (upsert_of s fields) (λ right named lawful.
    IfOk-if P (keeps_any s fields) _ _ (λ keeps. tt)
    (λ none. and_from _ _ (and_from _ _ (and_parts (may_upsert s) _ letter).0 named)
    (fits-fact_of s fields right (values none lawful)))))
    (λ not_upsert. IfOk-if P (may_upsert s && bytes_eq (field_at fields 0) (codes "R")) _ _
    (λ letter. unless_id_at_fault-IfOk P s fields (Remove (field_at fields 1))
    (λ named. and_from _ _ (and_parts (may_upsert s) _ letter).0 named))
    (λ none. tt)))))
