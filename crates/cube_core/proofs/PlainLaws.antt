-- The plain record of a record in the order of the schema.
use Rattle.std.proofs.Common.{◌≡◌, ℕ, List, [], ◌∷◌, ◌++◌, map, take, drop, None, refl, sym, ap, ap₂}
use Rattle.std.proofs.Common.{◌∙◌, inl, inr, append_assoc}
use Rattle.std.specs.Prelude.{◌+◌, length}
use Rattle.std.specs.Str.{bytes_eq}
use Rattle.std.proofs.lemmas.Bool.{cases_Bool}
use Rattle.std.proofs.lemmas.List.{drop-drop, take-append-drop}
use Rattle.std.proofs.lemmas.Slice.Eq.{bytes_eq-Decides}
use Rattle.cube_core.specs.Items.{arranged, is_keep, dimension_fields, measure_fields}
use Rattle.cube_core.specs.Layout.{Layout, decimals_of, number_of_dimensions}
use Rattle.cube_core.specs.Plain.{nulls_of, plain_dimension, plain_measure, plain_measures, plain_in_order}
use Rattle.cube_core.specs.Plain.{plain_of_arranged}
use Rattle.cube_core.specs.TextPlaces.{with_places_first}
use Rattle.cube_core.proofs.TextPlaceLaws.{at_places-none, beside_places-none}
use Rattle.cube_core.specs.Takes.{null_text}

-- fields of which each stays are the same
pub map-same : {X : Type 0} (f : X → X) → ((x : X) → f x ≡ x) → (xs : List X) → map f xs ≡ xs
map-same f same [] = refl
map-same f same (x ∷ xs) = ap (λ first. first ∷ map f xs) (same x) ∙ ap (λ others. x ∷ others) (map-same f same xs)

-- where only `\N` is null, each field stays as it is
pub plain_dimension-same : (s : Layout) (field : List ℕ)
    → plain_dimension s (null_text ∷ null_text ∷ []) None field ≡ field
plain_dimension-same s field = elim (cases_Bool (is_keep s field)) [
  | inl keeps ↦ rw keeps refl
  | inr puts ↦ elim (cases_Bool (bytes_eq field null_text)) [
    | inl null ↦ rw (puts, null) (sym ((bytes_eq-Decides field null_text).0 null))
    | inr text ↦ rw (puts, text) refl
  ]
]

pub plain_measure-same : (s : Layout) (point m : ℕ) (field : List ℕ) → s.decimals ≡ []
    → plain_measure s (null_text ∷ null_text ∷ []) point m field ≡ field
plain_measure-same s point m field none =
    let whole : decimals_of s m ≡ None = rw none refl in
    elim (cases_Bool (is_keep s field)) [
      | inl keeps ↦ rw keeps refl
      | inr puts ↦ elim (cases_Bool (bytes_eq field null_text)) [
        | inl null ↦ rw (puts, null) (sym ((bytes_eq-Decides field null_text).0 null))
        | inr text ↦ rw (puts, text, whole) refl
      ]
    ]

pub plain_measures-same : (s : Layout) (point m : ℕ) (fields : List (List ℕ)) → s.decimals ≡ []
    → plain_measures s (null_text ∷ null_text ∷ []) point m fields ≡ fields
plain_measures-same s point m [] none = refl
plain_measures-same s point m (field ∷ fields) none =
    ap₂ (λ first others. first ∷ others) (plain_measure-same s point m field none)
    (plain_measures-same s point (m + 1) fields none)

-- the fields of a record in three parts
parts-same : (n : ℕ) (fields : List (List ℕ))
    → take 2 fields ++ take n (drop 2 fields) ++ drop (2 + n) fields ≡ fields
parts-same n fields =
    ap (λ rest. (take 2 fields ++ take n (drop 2 fields)) ++ rest) (sym (drop-drop n 2 fields))
    ∙ append_assoc (take 2 fields) (take n (drop 2 fields)) (drop n (drop 2 fields))
    ∙ ap (λ rest. take 2 fields ++ rest) (take-append-drop n (drop 2 fields))
    ∙ take-append-drop 2 fields

-- a record in the order of a plain one is plain, where feeds have no columns by name and no measure takes a point
plain_of_arranged-same : (s : Layout) (fields : List (List ℕ)) → s.columns ≡ None → s.decimals ≡ []
    → plain_of_arranged s fields ≡ fields
plain_of_arranged-same s fields none whole =
    let nulls : nulls_of s ≡ null_text ∷ [] = rw none refl in
    rw (
      nulls,
      map-same (plain_dimension s (null_text ∷ null_text ∷ []) None) (plain_dimension-same s)
          (dimension_fields s fields),
      plain_measures-same s 46 0 (measure_fields s fields) whole,
    ) (parts-same (length s.dimensions) fields)

-- so is then one in the order of the schema, once its fields are arranged
pub plain_in_order-same : (s : Layout) (fields : List (List ℕ)) → s.columns ≡ None → s.decimals ≡ []
    → plain_in_order s fields ≡ arranged s fields
plain_in_order-same s fields none whole = plain_of_arranged-same s (arranged s fields) none whole

-- and its fields are, where no text is counted
pub arranged-none : (s : Layout) (fields : List (List ℕ)) → s.text_places ≡ [] → arranged s fields ≡ fields
arranged-none s fields none =
    let front = 2 + number_of_dimensions s in
    let others = drop front fields in
    ap (λ places. take front fields ++ with_places_first places others) none
    ∙ (λ i. take front fields ++ (at_places-none 0 others i ++ beside_places-none 0 others i))
    ∙ take-append-drop front fields
