-- What a record spells, by its parts.
use Rattle.std.proofs.Common.{◌≡◌, ◌<◌, ◌≤◌, ◌+◌, ◌-◌, ℕ, ℤ, Bool, true, false, List, [], ◌∷◌, ◌++◌, length, get_or}
use Rattle.std.proofs.Common.{drop, map, refl, sym, ap, ◌∙◌, inl, inr, arith, drop-cons}
use Rattle.std.specs.Prelude.{◌&&◌, ◌==◌, not, slice_range, Option, Some, is_some, Result, Ok, Err, if◌then◌else◌}
use Rattle.std.specs.Str.{bytes_eq, is_utf8}
use Rattle.std.specs.List.{list_all, list_any, filter_map}
use Rattle.std.proofs.lemmas.List.{take-append-drop, drop-drop, take_all, length-drop}
use Rattle.std.proofs.lemmas.Bool.{cases_Bool, and_from, and_left, and_right, eqb-true, eq-eqb, ne_eqb}
use Rattle.std.proofs.lemmas.List.Folds.{list_all-append}
use Rattle.cube_core.specs.Layout.{Layout}
use Rattle.cube_core.specs.Takes.{may_amend}
use Rattle.cube_core.specs.Items.{width_of, field_at, keep_text, is_keep, keeps_any, is_measure, dimension_of}
use Rattle.cube_core.specs.Items.{dimension_field_of, measure_of, measure_field_of, dimension_fields, measure_fields}
use Rattle.cube_core.specs.Items.{fact_of, amendment_of, unless_at_fault, insert_of, update_of, upsert_of}
use Rattle.cube_core.proofs.ItemLaws.{is_measure-value, keeps_any-measures, may_amend-keeps}
use Rattle.cube_core.specs.declared.fact.Fact.{Fact}
use Rattle.cube_core.specs.declared.partial.Field.{Field}
use Rattle.cube_core.specs.declared.partial.Partial.{Partial}
use Rattle.cube_core.specs.declared.change.Change.{Change}
use Rattle.cube_core.specs.declared.change.Change.TheVariants.{Insert, Update, Amend, Upsert}
use Rattle.cube_core.specs.declared.change.LineFault.{LineFault}
use Rattle.cube_core.specs.declared.change.LineFault.TheVariants as fault
use Rattle.cube_feed.specs.declared.line.Operation.{Operation}
use Rattle.cube_feed.specs.declared.line.Operation.TheVariants as operation
use Rattle.cube_feed.specs.SoundFields.{is_sound_id, is_sound, are_sound, dimension_put, measure_put, read_of}
use Rattle.cube_feed.specs.SoundFields.{change_by}

-- two tests of each field
list_all-and : (p q : List ℕ → Bool) (fields : List (List ℕ))
    → list_all (λ field. p field && q field) fields ≡ (list_all p fields && list_all q fields)
list_all-and p q [] = refl
list_all-and p q (field ∷ fields) =
    rw (list_all-and p q fields) (four (p field) (q field) (list_all p fields) (list_all q fields))
  where
    four : (a b c d : Bool) → ((a && b) && (c && d)) ≡ ((a && c) && (b && d))
    four false b c d = refl
    four true false false d = refl
    four true false true d = refl
    four true true c d = refl

-- the fields after the operation are the id, the dimensions and the measures
pub drop-slice_range : (fields : List (List ℕ)) (first_measure : ℕ) → 2 ≤ first_measure → first_measure ≤ length fields
    → drop 1 fields ≡ get_or fields 1 [] ∷ (slice_range fields 2 first_measure ++ drop first_measure fields)
drop-slice_range fields first_measure h k =
    let one : 1 < length fields = omega arith in
    let whole : 2 + (first_measure - 2) ≡ first_measure = omega arith in
    let tail =
    rw (drop-drop (first_measure - 2) 2 fields, whole) at (take-append-drop (first_measure - 2) (drop 2 fields)) in
    drop-cons fields 1 [] one ∙ ap (λ (rest : List (List ℕ)). get_or fields 1 [] ∷ rest) (sym tail)

-- a part up to the end is all the rest
pub slice_range-drop : (fields : List (List ℕ)) (start : ℕ)
    → slice_range fields start (length fields) ≡ drop start fields
slice_range-drop fields start =
    take_all (length fields - start) (drop start fields) (omega (arith, length-drop start fields))

-- the fields of the dimensions are those after the id
pub slice_range-dimension_fields : (s : Layout) (fields : List (List ℕ))
    → slice_range fields 2 (2 + length s.dimensions) ≡ dimension_fields s fields
slice_range-dimension_fields s fields =
    let count : (2 + length s.dimensions) - 2 ≡ length s.dimensions = omega arith in
    rw count refl

-- what an answer to a reading says: the fault, or what follows from the parts
abbrev pub then_say : {X : Type 0} → Result X LineFault → (X → Result Change LineFault) → Result Change LineFault
then_say (Ok parts) answer = answer parts
then_say (Err why) answer = Err why

-- a filter map that gives something of each item is sound of each that is UTF-8
list_all-is_sound : {A : Type 0} (spells : List ℕ → Option A) → ((field : List ℕ) → is_some (spells field) ≡ true)
    → (fields : List (List ℕ))
    → list_all (is_sound spells) fields ≡ list_all is_utf8 fields
list_all-is_sound spells always [] = refl
list_all-is_sound spells always (field ∷ fields) = rw (
  always field,
  list_all-is_sound spells always fields,
) (ap (λ b. b && list_all is_utf8 fields) (and-true (is_utf8 field)))
  where
    and-true : (b : Bool) → (b && true) ≡ b
    and-true true = refl
    and-true false = refl

-- the first fault of a record is the same, whether its fields are looked at one by one or test by test
then_say-fault : {X : Type 0} (id dims measures empty lawful : Bool) (parts : X) (answer : X → Result Change LineFault)
    → then_say (if not (((id && not empty) && dims) && (measures && lawful))
    then Err (if not (id && (dims && measures)) then fault.Text else if empty then fault.Id else fault.Measure)
    else Ok parts) answer
    ≡ (if not (id && (dims && measures)) then Err fault.Text
    else if empty then Err fault.Id else if not lawful then Err fault.Measure else answer parts)
then_say-fault false dims measures empty lawful parts answer = refl
then_say-fault true false measures true lawful parts answer = refl
then_say-fault true false measures false lawful parts answer = refl
then_say-fault true true false true lawful parts answer = refl
then_say-fault true true false false lawful parts answer = refl
then_say-fault true true true true lawful parts answer = refl
then_say-fault true true true false true parts answer = refl
then_say-fault true true true false false parts answer = refl

-- what is read of a record says what the record spells,
-- where each text is a dimension and the measures are those of the schema
read_of-unless_at_fault : {D M : Type 0} (dimension : List ℕ → Option D) (measure : List ℕ → Option M) (s : Layout)
    (fields : List (List ℕ))
    → (answer : List ℕ × List D × List M → Result Change LineFault)
    → ((field : List ℕ) → is_some (dimension field) ≡ true)
    → list_all (is_measure s) (measure_fields s fields)
    ≡ list_all (λ field. is_some (measure field)) (measure_fields s fields)
    → then_say (read_of dimension measure s fields) answer
    ≡ unless_at_fault (answer (
      field_at fields 1,
      filter_map dimension (dimension_fields s fields),
      filter_map measure (measure_fields s fields),
    )) s fields
read_of-unless_at_fault dimension measure s fields answer always alike =
    let id : List ℕ = field_at fields 1 in
    let dims : List (List ℕ) = dimension_fields s fields in
    let measures : List (List ℕ) = measure_fields s fields in
    elim (cases_Bool (length fields == width_of s)) [
      | inl right ↦
          let long : length fields ≡ width_of s = eqb-true _ _ right in
          let texts : list_all is_utf8 (drop 1 fields)
          ≡ (is_utf8 id && (list_all is_utf8 dims && list_all is_utf8 measures)) =
          ap (list_all is_utf8) (drop-slice_range fields (2 + length s.dimensions) (omega arith) (omega arith)
          ∙ ap (λ part. id ∷ (part ++ measures)) (slice_range-dimension_fields s fields))
          ∙ ap (λ b. is_utf8 id && b) (list_all-append is_utf8 dims measures) in
          rw (
            right,
            texts,
            list_all-is_sound dimension always dims,
            list_all-and is_utf8 (λ field. is_some (measure field)) measures,
            alike,
          )
          (then_say-fault (is_utf8 id) (list_all is_utf8 dims) (list_all is_utf8 measures) (length id == 0)
          (list_all (λ field. is_some (measure field)) measures)
          (id, filter_map dimension dims, filter_map measure measures) answer)
      | inr wrong ↦ rw wrong refl
    ]

-- a filter map that gives something of each item is a map
filter_map-some : {A B : Type 0} (spells : A → Option B) (value : A → B) → ((x : A) → spells x ≡ Some (value x))
    → (xs : List A) → filter_map spells xs ≡ map value xs
filter_map-some spells value some [] = refl
filter_map-some spells value some (x ∷ xs) =
    rw (some x) (ap (λ values. value x ∷ values) (filter_map-some spells value some xs))

-- only in version 2 a field may keep a value
keeps_any-parts : (s : Layout) (fields : List (List ℕ))
    → (may_amend s && list_any (λ field. bytes_eq field keep_text) fields) ≡ list_any (is_keep s) fields
keeps_any-parts s fields = elim (cases_Bool (may_amend s)) [
  | inl amends ↦ rw amends (same amends fields)
  | inr never ↦ rw never (none never fields)
]
  where
    same : may_amend s ≡ true → (fs : List (List ℕ))
        → list_any (λ field. bytes_eq field keep_text) fs ≡ list_any (is_keep s) fs
    same amends [] = refl
    same amends (f ∷ fs) = rw (amends, same amends fs) refl

    none : may_amend s ≡ false → (fs : List (List ℕ)) → false ≡ list_any (is_keep s) fs
    none never [] = refl
    none never (f ∷ fs) = rw never (none never fs)

-- so a field keeps its value where the version is 2 and a field says so, and none does in the other version
pub keeps_any-some : (s : Layout) (fields : List (List ℕ)) (version : ℕ) (some : Bool) → version ≡ s.version
    → version ≡ 2
    → some ≡ list_any (λ field. bytes_eq field keep_text) (drop 2 fields) → some ≡ keeps_any s fields
keeps_any-some s fields version some is two found =
    let amends : may_amend s ≡ true = eq-eqb _ _ (sym is ∙ two) in
    found ∙ ap (λ b. b && list_any (λ field. bytes_eq field keep_text) (drop 2 fields)) (sym amends)
    ∙ keeps_any-parts s (drop 2 fields)

pub keeps_any-none : (s : Layout) (fields : List (List ℕ)) (version : ℕ) → version ≡ s.version → (version ≡ 2 → ⊥)
    → (version == 2) ≡ keeps_any s fields
keeps_any-none s fields version is other =
    let never : may_amend s ≡ false = ne_eqb _ _ (λ two. other (is ∙ two)) in
    ne_eqb version 2 other
    ∙ ap (λ b. b && list_any (λ field. bytes_eq field keep_text) (drop 2 fields)) (sym never)
    ∙ keeps_any-parts s (drop 2 fields)

-- a record without a kept field spells a fact
then_say-fact_of : (s : Layout) (fields : List (List ℕ)) → keeps_any s fields ≡ false
    → (read : Result (List ℕ × List (Option (List ℕ)) × List (Option ℤ)) LineFault)
    → read ≡ read_of (λ text. Some (dimension_of text)) measure_of s fields
    → (change : List ℕ → Fact → Change)
    → then_say read (λ parts. Ok (change parts.0 (record { dims = parts.1; measures = parts.2 })))
    ≡ unless_at_fault (Ok (change (field_at fields 1) (fact_of s fields))) s fields
then_say-fact_of s fields none read is change =
    let dims =
    filter_map-some (λ text. Some (dimension_of text)) dimension_of (λ text. refl) (dimension_fields s fields) in
    let said : List ℕ × List (Option (List ℕ)) × List (Option ℤ) → Result Change LineFault =
    λ parts. Ok (change parts.0 (record { dims = parts.1; measures = parts.2 })) in
    ap (λ r. then_say r said) is
    ∙ read_of-unless_at_fault (λ text. Some (dimension_of text)) measure_of s fields said (λ text. refl)
    (is_measure-value s (measure_fields s fields) (keeps_any-measures s fields none))
    ∙ ap (λ (values : List (Option (List ℕ))).
    unless_at_fault (said (field_at fields 1, values, filter_map measure_of (measure_fields s fields))) s fields) dims

-- a record with a kept field spells an amendment, or nothing where there is nothing to amend
then_say-part_of : (s : Layout) (fields : List (List ℕ)) → keeps_any s fields ≡ true
    → (read : Result (List ℕ × List (Field (Option (List ℕ))) × List (Field (Option ℤ))) LineFault)
    → read ≡ read_of dimension_put measure_put s fields
    → (said : List ℕ → Partial → Result Change LineFault)
    → then_say read (λ parts. said parts.0 (record { dims = parts.1; measures = parts.2 }))
    ≡ unless_at_fault (said (field_at fields 1) (amendment_of s fields)) s fields
then_say-part_of s fields keeps read is said =
    let amends : may_amend s ≡ true = may_amend-keeps s (drop 2 fields) keeps in
    let dims : filter_map dimension_put (dimension_fields s fields)
    ≡ map (dimension_field_of s) (dimension_fields s fields) =
    filter_map-some dimension_put (dimension_field_of s) (puts amends) (dimension_fields s fields) in
    let measures : measure_field_of s ≡ measure_put = λ i text. kept_or_put amends text i in
    let answer : List ℕ × List (Field (Option (List ℕ))) × List (Field (Option ℤ)) → Result Change LineFault =
    λ parts. said parts.0 (record { dims = parts.1; measures = parts.2 }) in
    ap (λ r. then_say r answer) is
    ∙ read_of-unless_at_fault dimension_put measure_put s fields answer always
    (ap (λ (spells : List ℕ → Option (Field (Option ℤ))).
    list_all (λ field. is_some (spells field)) (measure_fields s fields)) measures)
    ∙ (λ i. unless_at_fault (said (field_at fields 1)
    (record { dims = dims i; measures = filter_map (sym measures i) (measure_fields s fields) })) s fields)
  where
    puts : may_amend s ≡ true → (text : List ℕ) → dimension_put text ≡ Some (dimension_field_of s text)
    puts amends text = elim (cases_Bool (bytes_eq text keep_text)) [
      | inl kept ↦ rw (amends, kept) refl
      | inr other ↦ rw (amends, other) refl
    ]

    kept_or_put : may_amend s ≡ true → (text : List ℕ) → measure_field_of s text ≡ measure_put text
    kept_or_put amends text = rw amends refl

    always : (text : List ℕ) → is_some (dimension_put text) ≡ true
    always text = elim (cases_Bool (bytes_eq text keep_text)) [
      | inl kept ↦ rw kept refl
      | inr other ↦ rw other refl
    ]

-- what an insert says, an upsert and an update
pub insert_of-fact : (s : Layout) (fields : List (List ℕ)) → false ≡ keeps_any s fields
    → (read : Result (List ℕ × List (Option (List ℕ)) × List (Option ℤ)) LineFault)
    → read ≡ read_of (λ text. Some (dimension_of text)) measure_of s fields
    → then_say read (λ parts. Ok (Insert parts.0 (record { dims = parts.1; measures = parts.2 })))
    ≡ unless_at_fault (insert_of s fields) s fields
insert_of-fact s fields none read is =
    then_say-fact_of s fields (sym none) read is Insert
    ∙ ap (λ b. unless_at_fault
    (if b then Err fault.Keep else Ok (Insert (field_at fields 1) (fact_of s fields))) s fields) none

pub upsert_of-fact : (s : Layout) (fields : List (List ℕ)) → false ≡ keeps_any s fields
    → (read : Result (List ℕ × List (Option (List ℕ)) × List (Option ℤ)) LineFault)
    → read ≡ read_of (λ text. Some (dimension_of text)) measure_of s fields
    → then_say read (λ parts. Ok (Upsert parts.0 (record { dims = parts.1; measures = parts.2 })))
    ≡ unless_at_fault (upsert_of s fields) s fields
upsert_of-fact s fields none read is =
    then_say-fact_of s fields (sym none) read is Upsert
    ∙ ap (λ b. unless_at_fault
    (if b then Err fault.Keep else Ok (Upsert (field_at fields 1) (fact_of s fields))) s fields) none

pub update_of-fact : (s : Layout) (fields : List (List ℕ)) → false ≡ keeps_any s fields
    → (read : Result (List ℕ × List (Option (List ℕ)) × List (Option ℤ)) LineFault)
    → read ≡ read_of (λ text. Some (dimension_of text)) measure_of s fields
    → then_say read (λ parts. Ok (Update parts.0 (record { dims = parts.1; measures = parts.2 })))
    ≡ unless_at_fault (update_of s fields) s fields
update_of-fact s fields none read is =
    then_say-fact_of s fields (sym none) read is Update
    ∙ ap (λ b. unless_at_fault (if b then Ok (Amend (field_at fields 1) (amendment_of s fields))
    else Ok (Update (field_at fields 1) (fact_of s fields))) s fields) none

-- and all, where they keep a field
pub upsert_of-keep : (s : Layout) (fields : List (List ℕ)) → true ≡ keeps_any s fields
    → (read : Result (List ℕ × List (Field (Option (List ℕ))) × List (Field (Option ℤ))) LineFault)
    → read ≡ read_of dimension_put measure_put s fields
    → then_say read (λ parts. Err fault.Keep) ≡ unless_at_fault (upsert_of s fields) s fields
upsert_of-keep s fields keeps read is =
    then_say-part_of s fields (sym keeps) read is (λ id part. Err fault.Keep)
    ∙ ap (λ b. unless_at_fault
    (if b then Err fault.Keep else Ok (Upsert (field_at fields 1) (fact_of s fields))) s fields) keeps

pub insert_of-keep : (s : Layout) (fields : List (List ℕ)) → true ≡ keeps_any s fields
    → (read : Result (List ℕ × List (Field (Option (List ℕ))) × List (Field (Option ℤ))) LineFault)
    → read ≡ read_of dimension_put measure_put s fields
    → then_say read (λ parts. Err fault.Keep) ≡ unless_at_fault (insert_of s fields) s fields
insert_of-keep s fields keeps read is =
    then_say-part_of s fields (sym keeps) read is (λ id part. Err fault.Keep)
    ∙ ap (λ b. unless_at_fault
    (if b then Err fault.Keep else Ok (Insert (field_at fields 1) (fact_of s fields))) s fields) keeps

pub update_of-keep : (s : Layout) (fields : List (List ℕ)) → true ≡ keeps_any s fields
    → (read : Result (List ℕ × List (Field (Option (List ℕ))) × List (Field (Option ℤ))) LineFault)
    → read ≡ read_of dimension_put measure_put s fields
    → then_say read (λ parts. Ok (Amend parts.0 (record { dims = parts.1; measures = parts.2 })))
    ≡ unless_at_fault (update_of s fields) s fields
update_of-keep s fields keeps read is =
    then_say-part_of s fields (sym keeps) read is (λ id part. Ok (Amend id part))
    ∙ ap (λ b. unless_at_fault (if b then Ok (Amend (field_at fields 1) (amendment_of s fields))
    else Ok (Update (field_at fields 1) (fact_of s fields))) s fields) keeps

-- the fault of each, where a field is kept and where none is
pub change_by-keep_fault : (s : Layout) (fields : List (List ℕ)) (operation : Operation) → keeps_any s fields ≡ true
    → (why : LineFault) → Err why ≡ read_of dimension_put measure_put s fields
    → Err why ≡ unless_at_fault (change_by operation s fields) s fields
change_by-keep_fault s fields operation.Insert keeps why read = insert_of-keep s fields (sym keeps) (Err why) read
change_by-keep_fault s fields operation.Update keeps why read = update_of-keep s fields (sym keeps) (Err why) read
change_by-keep_fault s fields operation.Upsert keeps why read = upsert_of-keep s fields (sym keeps) (Err why) read

pub change_by-fact_fault : (s : Layout) (fields : List (List ℕ)) (operation : Operation) → false ≡ keeps_any s fields
    → (why : LineFault) → Err why ≡ read_of (λ text. Some (dimension_of text)) measure_of s fields
    → Err why ≡ unless_at_fault (change_by operation s fields) s fields
change_by-fact_fault s fields operation.Insert none why read = insert_of-fact s fields none (Err why) read
change_by-fact_fault s fields operation.Update none why read = update_of-fact s fields none (Err why) read
change_by-fact_fault s fields operation.Upsert none why read = upsert_of-fact s fields none (Err why) read

-- a part of a record that isn't sound
pub are_sound-id : {D M : Type 0} (dimension : List ℕ → Option D) (measure : List ℕ → Option M) (s : Layout)
    (fields : List (List ℕ))
    → is_sound_id (field_at fields 1) ≡ false → are_sound dimension measure s fields ≡ false
are_sound-id dimension measure s fields bad = rw bad refl

pub are_sound-dimensions : {D M : Type 0} (dimension : List ℕ → Option D) (measure : List ℕ → Option M) (s : Layout)
    (fields : List (List ℕ)) (names : List (List ℕ))
    → names ≡ s.dimensions → list_all (is_sound dimension) (slice_range fields 2 (2 + length names)) ≡ false
    → are_sound dimension measure s fields ≡ false
are_sound-dimensions dimension measure s fields names is bad =
    let dims = rw (is, slice_range-dimension_fields s fields) at bad in
    rw dims (and_left _ _ (and_right _ _ refl))

pub are_sound-measures : {D M : Type 0} (dimension : List ℕ → Option D) (measure : List ℕ → Option M) (s : Layout)
    (fields : List (List ℕ)) (names : List (List ℕ)) (fields_end : ℕ)
    → names ≡ s.dimensions → fields_end ≡ length fields
    → list_all (is_sound measure) (slice_range fields (2 + length names) fields_end) ≡ false
    → are_sound dimension measure s fields ≡ false
are_sound-measures dimension measure s fields names fields_end is end bad =
    let measures = rw (is, end, slice_range-drop fields (2 + length s.dimensions)) at bad in
    rw measures (and_right _ _ refl)

-- a record whose parts are all sound
pub are_sound-parts : {D M : Type 0} (dimension : List ℕ → Option D) (measure : List ℕ → Option M) (s : Layout)
    (fields : List (List ℕ)) (names : List (List ℕ)) (fields_end : ℕ)
    → names ≡ s.dimensions → fields_end ≡ length fields
    → is_sound_id (field_at fields 1) ≡ true
    → list_all (is_sound dimension) (slice_range fields 2 (2 + length names)) ≡ true
    → list_all (is_sound measure) (slice_range fields (2 + length names) fields_end) ≡ true
    → are_sound dimension measure s fields ≡ true
are_sound-parts dimension measure s fields names fields_end is end id dims measures =
    let first = rw (is, slice_range-dimension_fields s fields) at dims in
    let second = rw (is, end, slice_range-drop fields (2 + length s.dimensions)) at measures in
    and_from _ _ (and_from _ _ id first) second
