-- A start over a store goes on where the session that stored its changes ended.
use Rattle.std.proofs.Common.{◌≡◌, ◌∙◌, ◌<◌, ℕ, Bool, true, false, List, [], ◌∷◌, ◌++◌, length, drop, ap, sym, subst}
use Rattle.std.proofs.Common.{refl, arith, inl, inr}
use Rattle.std.specs.Prelude.{◌==◌, ◌&&◌, nat_lt, ⊤, ℤ, pos, negsuc, Option, Some, None, Result, Ok, Err, IfSome}
use Rattle.std.specs.Prelude.{codes, decimal, option_and_then, if◌then◌else◌, slice_index}
use Rattle.std.specs.Option.{option_map_or}
use Rattle.std.specs.Str.{bytes_eq, is_utf8}
use Rattle.std.proofs.lemmas.Bool.{and_parts, cases_Bool, eqb-true, ltb-true}
use Rattle.std.proofs.lemmas.Fmt.{IsAscii-decimal, decimal_nonempty}
use Rattle.std.proofs.lemmas.List.{map-append}
use Rattle.std.proofs.lemmas.Slice.Eq.{bytes_eq-Decides}
use Rattle.cube_core.specs.Arrival.{Arrivals}
use Rattle.cube_core.specs.FeedRecords.{is_read}
use Rattle.cube_core.specs.Items.{field_at, number_of}
use Rattle.cube_core.specs.Layout.{Layout}
use Rattle.cube_core.specs.Query.{drill_fault, spelled_by}
use Rattle.cube_core.specs.declared.key.Key.{Key}
use Rattle.cube_core.specs.declared.query.QueryFault.{QueryFault}
use Rattle.cube_store.specs.Rows.{Entry}
use Rattle.cube_live.specs.Keeping.{Keeping, keeping_after, keeping_by, keeping_with}
use Rattle.cube_live.specs.Request.{asked, cell_and_dimension, count_of, digits_of, drill_by, of_width, question_of}
use Rattle.cube_live.specs.Request.{refusals_by, request_of, source_numbered, source_of}
use Rattle.cube_live.specs.Session.{arrivals_after, arrivals_by}
use Rattle.cube_live.specs.declared.request.Request.{Request}
use Rattle.cube_live.specs.declared.request.Question.TheVariants.{Drill}
use Rattle.cube_live.specs.declared.request.Request.TheVariants.{Change, Ask, Wrong}
use Rattle.cube_live.specs.declared.request.RequestFault.TheVariants.{Query}
use Rattle.cube_store_commands.proofs.RecordLaws.{ReadsBack-text}
use Rattle.cube_store_commands.specs.Records.{fields_in, record_text, stored_all, stored_as}
use Rattle.cube_store_commands.specs.Replay.{arrivals_by_stored, arrivals_from}
use Rattle.cube_store_commands.specs.Serving.{changes_in, nothing}

-- ---- the text of a record whose first field names a source reads back

-- a text that begins with no byte of a byte order mark
pub record Begins (text : List ℕ) : Type 0 where
  pub first : ℕ
  pub more : List ℕ
  pub is : text ≡ first ∷ more
  pub other : (first == 0xEF) ≡ false

below-other : (b : ℕ) → b < 128 → (b == 0xEF) ≡ false
below-other b small = elim (cases_Bool (b == 0xEF)) [
  | inl is ↦ let same = eqb-true b 0xEF is in absurd (omega arith)
  | inr other ↦ other
]

Begins-decimal : (n : ℕ) → n < 65 → Begins (decimal n)
Begins-decimal n small = go (decimal n) (decimal_nonempty n (omega arith)) (IsAscii-decimal n (omega arith))
  where
    go : (text : List ℕ) → 0 < length text → ((i : ℕ) → slice_index text i < 128) → Begins text
    go [] some ascii = absurd (omega arith)
    go (b ∷ more) some ascii = record { first = b; more = more; is = refl; other = below-other b (ascii 0) }

Begins-digits : (field : List ℕ) (n : ℕ) (test : Bool) → bytes_eq field (decimal n) ≡ test
    → IfSome (option_and_then source_numbered (if test then Some n else None)) (λ source. Begins field)
Begins-digits field n false is = tt
Begins-digits field n true is = go (nat_lt 0 n && nat_lt n 65) refl
  where
    go : (test : Bool) → (nat_lt 0 n && nat_lt n 65) ≡ test
        → IfSome (if test then Some n else None) (λ source. Begins field)
    go false outside = tt
    go true inside =
        subst Begins (sym ((bytes_eq-Decides field (decimal n)).0 is))
        (Begins-decimal n (ltb-true n 65 (and_parts _ _ inside).1))

-- a field that names a source begins so
Begins-source : (field : List ℕ) → IfSome (source_of field) (λ source. Begins field)
Begins-source field = by_utf8 (is_utf8 field)
  where
    by_number : (number : Option ℤ)
        → IfSome (option_and_then source_numbered (option_and_then (digits_of field) number)) (λ source. Begins field)
    by_number None = tt
    by_number (Some (pos n)) = Begins-digits field n (bytes_eq field (decimal n)) refl
    by_number (Some (negsuc n)) = tt

    by_utf8 : (test : Bool)
        → IfSome (option_and_then source_numbered
        (if test then option_and_then (digits_of field) (number_of field) else None)) (λ source. Begins field)
    by_utf8 true = by_number (number_of field)
    by_utf8 false = tt

-- a record whose first field begins so reads back
read-back : (fields : List (List ℕ)) → Begins (field_at fields 0) → fields_in (record_text fields) ≡ fields
read-back [] begins = let bad : [] ≡ begins.first ∷ begins.more = begins.is in cc
read-back (field ∷ others) begins =
    ReadsBack-text (field ∷ others) begins.first begins.more others (ap (λ f. f ∷ others) begins.is) begins.other

-- ---- a record whose first field names no source is no change

-- what a record asks that is no change
abbrev pub NoChange : Request → Type 0
NoChange (Change source) = ⊥
NoChange (Ask question) = ⊤
NoChange (Wrong fault) = ⊤

NoChange-if : (test : Bool) (a b : Request) → NoChange a → NoChange b → NoChange (if test then a else b)
NoChange-if true a b first second = first
NoChange-if false a b first second = second

NoChange-of_width : (width : ℕ) (fields : List (List ℕ)) (request : Request) → NoChange request
    → NoChange (of_width width fields request)
NoChange-of_width width fields request none = NoChange-if (length fields == width) request _ none tt

NoChange-asked : {T : Type 0} (value : Result T QueryFault) (ask : T → Request) → ((v : T) → NoChange (ask v))
    → NoChange (asked value ask)
NoChange-asked (Ok value) ask none = none value
NoChange-asked (Err fault) ask none = tt

NoChange-drill_by : (s : Layout) (at : Key × ℕ) → NoChange (drill_by s at)
NoChange-drill_by s at = go (drill_fault s.grouping_sets at.1 at.0)
  where
    go : (said : Option QueryFault)
        → NoChange (option_map_or (λ fault. Wrong (Query fault)) said (Ask (Drill at.0 at.1)))
    go None = tt
    go (Some fault) = tt

NoChange-refusals_by : (source number : Option ℕ) → NoChange (refusals_by source number)
NoChange-refusals_by (Some source) (Some number) = tt
NoChange-refusals_by (Some source) None = tt
NoChange-refusals_by None number = tt

pub NoChange-question_of : (s : Layout) (fields : List (List ℕ)) → NoChange (question_of s fields)
NoChange-question_of s fields =
    NoChange-if (bytes_eq (field_at fields 0) (codes "print")) _ _ (NoChange-of_width 1 fields _ tt)
    (NoChange-if (bytes_eq (field_at fields 0) (codes "slice")) _ _
    (NoChange-of_width _ fields _ (NoChange-asked (spelled_by (drop 1 fields)) _ (λ pattern. tt)))
    (NoChange-if (bytes_eq (field_at fields 0) (codes "drill")) _ _
    (NoChange-of_width _ fields _ (NoChange-asked (cell_and_dimension s fields) _ (NoChange-drill_by s)))
    (NoChange-if (bytes_eq (field_at fields 0) (codes "rollup")) _ _
    (NoChange-of_width _ fields _ (NoChange-asked (cell_and_dimension s fields) _ (λ at. tt)))
    (NoChange-if (bytes_eq (field_at fields 0) (codes "refusals")) _ _
    (NoChange-if (length fields == 1) _ _ tt (NoChange-of_width 3 fields _
    (NoChange-refusals_by (source_of (field_at fields 1)) (count_of (field_at fields 2)))))
    (NoChange-if (bytes_eq (field_at fields 0) (codes "sync")) _ _ (NoChange-of_width 1 fields _ tt) tt)))))

-- ---- the changes of a session, stored

-- changes behind others
arrivals_from-append : (s : Layout) (start : Arrivals) (some more : List Entry)
    → arrivals_from s start (some ++ more) ≡ arrivals_from s (arrivals_from s start some) more
arrivals_from-append s start [] more = refl
arrivals_from-append s start (change ∷ some) more =
    arrivals_from-append s (arrivals_by_stored s start change) some more

-- a record leads to where what it has a journal keep leads
with-request : (s : Layout) (start : Arrivals) (k : Keeping) (fields : List (List ℕ)) (request : Request)
    → ((source : ℕ) → request ≡ Change source → fields_in (record_text fields) ≡ fields)
    → arrivals_from s start (stored_all (keeping_by s k request fields).told)
    ≡ arrivals_by s (arrivals_from s start (stored_all k.told)) request fields
with-request s start k fields (Ask question) back = refl
with-request s start k fields (Wrong fault) back = refl
with-request s start k fields (Change source) back = go (is_read s (drop 1 fields)) refl
  where
    go : (test : Bool) → is_read s (drop 1 fields) ≡ test
        → arrivals_from s start (stored_all (keeping_by s k (Change source) fields).told)
        ≡ arrivals_by s (arrivals_from s start (stored_all k.told)) (Change source) fields
    go true read = rw read (ap (arrivals_from s start) (map-append stored_as k.told ((source, fields) ∷ []))
        ∙ arrivals_from-append s start (stored_all k.told) (stored_as (source, fields) ∷ [])
        ∙ rw (back source refl, read) refl)
    go false other = rw other refl

-- what a record asks that is a change reads back
back-request : (s : Layout) (fields : List (List ℕ)) (source : ℕ) → request_of s fields ≡ Change source
    → fields_in (record_text fields) ≡ fields
back-request s fields source is = go (source_of (field_at fields 0)) (Begins-source (field_at fields 0)) is
  where
    go : (found : Option ℕ) → IfSome found (λ n. Begins (field_at fields 0))
        → option_map_or Change found (question_of s fields) ≡ Change source
        → fields_in (record_text fields) ≡ fields
    go (Some n) begins is = read-back fields begins
    go None begins is = absurd (subst NoChange is (NoChange-question_of s fields))

after-keeping : (s : Layout) (start : Arrivals) (k : Keeping) (records : List (List (List ℕ)))
    → arrivals_from s start (stored_all (keeping_after s k records).told)
    ≡ arrivals_after s (arrivals_from s start (stored_all k.told)) records
after-keeping s start k [] = refl
after-keeping s start k (fields ∷ records) =
    after-keeping s start (keeping_with s k fields) records
    ∙ ap (λ (a : Arrivals). arrivals_after s a records)
    (with-request s start k fields (request_of s fields) (back-request s fields))

pub goes_on : (s : Layout) (start : Arrivals) (stored : List Entry) (records : List (List (List ℕ)))
    → arrivals_from s start (stored ++ changes_in s records)
    ≡ arrivals_after s (arrivals_from s start stored) records
goes_on s start stored records =
    arrivals_from-append s start stored (changes_in s records)
    ∙ after-keeping s (arrivals_from s start stored) nothing records
