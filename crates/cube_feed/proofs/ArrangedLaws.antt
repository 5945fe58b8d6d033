-- The fields of a record, put one by one in the order of a plain one.
use Rattle.std.proofs.Common.{◌≡◌, ◌<◌, ◌≤◌, ◌+◌, ◌-◌, ℕ, Bool, List, [], ◌∷◌, ◌++◌, length, drop}
use Rattle.std.proofs.Common.{Some, None, refl, sym, ap, ◌∙◌, append_assoc, add-one, drop-cons, arith, inl, inr}
use Rattle.std.specs.Prelude.{slice_range, if◌then◌else◌}
use Rattle.std.proofs.lemmas.Bool.{cases_Bool}
use Rattle.std.proofs.lemmas.List.{append-nil}
use Rattle.csv.specs.Records as csv
use Rattle.cube_core.specs.GroupingSet.{is_among}
use Rattle.cube_core.specs.Items.{field_at}
use Rattle.cube_feed.specs.Arranged.{elements_of, is_of}
use Rattle.cube_feed.specs.declared.arranged.MeasureKind.{MeasureKind}
use Rattle.cube_feed.specs.declared.arranged.MeasureKind.TheVariants.{Text, Number}
use Rattle.cube_feed.proofs.PlainFieldLaws.{part-Some, part-None}

-- fields that come next are put behind others
puts-more : (whole done new put rest others : List (List ℕ)) → rest ≡ put ++ others → new ≡ done ++ put
    → done ++ rest ≡ whole → new ++ others ≡ whole
puts-more whole done new put rest others begins more so_far =
    rw (more, append_assoc done put others, ← begins) so_far

-- ---- a part of a record
-- one field more is put
pub field-more : (fields : List (List ℕ)) (place end : ℕ) (whole done new : List (List ℕ)) (field partial : List ℕ)
    → place < end → Some field ≡ csv.field_at fields place → partial ≡ []
    → new ≡ done ++ (partial ++ field) ∷ []
    → done ++ slice_range fields place end ≡ whole → new ++ slice_range fields (place + 1) end ≡ whole
field-more fields place end whole done new field partial below found none more so_far =
    puts-more whole done new (field ∷ []) (slice_range fields place end) (slice_range fields (place + 1) end)
    (part-Some fields place end field below found) (rw none at more) so_far

-- none is left
pub field-none : (fields : List (List ℕ)) (place end : ℕ) (whole done : List (List ℕ))
    → None ≡ csv.field_at fields place → done ++ slice_range fields place end ≡ whole → done ≡ whole
field-none fields place end whole done none so_far =
    sym (append-nil done) ∙ ap (λ rest. done ++ rest) (sym (part-None fields place end none)) ∙ so_far

-- ---- the measures of a kind
-- the first element is of the kind, or it isn't
elements_of-cons : {A : Type 0} (kind : MeasureKind) (places : List ℕ) (first : ℕ) (x : A) (xs : List A)
    → elements_of kind places first (x ∷ xs)
    ≡ (if is_of kind first places then x ∷ [] else []) ++ elements_of kind places (first + 1) xs
elements_of-cons Text places first x xs = elim (cases_Bool (is_among first places)) [
  | inl is ↦ rw is refl
  | inr is ↦ rw is refl
]
elements_of-cons Number places first x xs = elim (cases_Bool (is_among first places)) [
  | inl is ↦ rw is refl
  | inr is ↦ rw is refl
]

-- one more is looked at
pub measure_of_kind-more : (kind : MeasureKind) (places : List ℕ) (fields : List (List ℕ)) (first place : ℕ)
    (whole done new : List (List ℕ)) (field : List ℕ) (is_put : Bool)
    → first ≤ place → place < length fields → field ≡ field_at fields place
    → is_put ≡ is_of kind (place - first) places → new ≡ done ++ (if is_put then field ∷ [] else [])
    → done ++ elements_of kind places (place - first) (drop place fields) ≡ whole
    → new ++ elements_of kind places (place + 1 - first) (drop (place + 1) fields) ≡ whole
measure_of_kind-more kind places fields first place whole done new field is_put from inside found is more so_far =
    let next : place + 1 - first ≡ place - first + 1 = omega arith in
    let others = drop (place + 1) fields in
    let left : drop place fields ≡ field ∷ others =
    rw (found, add-one place) (drop-cons fields place [] inside) in
    let begins : elements_of kind places (place - first) (drop place fields)
    ≡ (if is_put then field ∷ [] else []) ++ elements_of kind places (place - first + 1) others =
    rw (left, is) (elements_of-cons kind places (place - first) field others) in
    rw next (puts-more whole done new (if is_put then field ∷ [] else [])
    (elements_of kind places (place - first) (drop place fields)) (elements_of kind places (place - first + 1) others)
    begins more so_far)
