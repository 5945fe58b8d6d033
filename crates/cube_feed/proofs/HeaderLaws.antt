-- The names of a header, one by one and in parts.
use Rattle.std.proofs.Common.{◌≡◌, ◌<◌, ◌≤◌, ◌+◌, ◌-◌, ℕ, Bool, true, false, List, [], ◌∷◌, ◌++◌, length, get_or, drop}
use Rattle.std.proofs.Common.{refl, sym, ap, ◌∙◌, arith, add-one, drop-cons, length-append, length-drop}
use Rattle.std.proofs.lemmas.List.{length-take}
use Rattle.std.specs.Prelude.{◌&&◌, ◌||◌, zero, suc, codes, slice_range}
use Rattle.std.specs.Str.{bytes_eq}
use Rattle.std.proofs.lemmas.Bool.{and_parts}
use Rattle.cube_core.specs.Layout.{Layout}
use Rattle.cube_core.specs.Items.{width_of, field_at, same_fields, byte_order_mark, column_names, are_names}
use Rattle.cube_feed.proofs.FieldLaws.{slice_range-cons}
use Rattle.cube_feed.proofs.LineLaws.{drop-slice_range, slice_range-drop}

-- the default of `get_or` makes no difference at a place that is there
get_or-default : (names : List (List ℕ)) (i : ℕ) (d e : List ℕ) → i < length names → get_or names i d ≡ get_or names i e
get_or-default [] i d e h = absurd (omega arith)
get_or-default (name ∷ names) zero d e h = refl
get_or-default (name ∷ names) (suc i) d e h = get_or-default names i d e (omega arith)

-- the test of a field and a name, told of the lists
bytes_eq-get_or : (fields names : List (List ℕ)) (place i : ℕ) (field name text : List ℕ) (test : Bool)
    → i < length names
    → field ≡ get_or fields place [] → name ≡ get_or names i name → text ≡ name → test ≡ bytes_eq field text
    → bytes_eq (get_or fields place []) (get_or names i []) ≡ test
bytes_eq-get_or fields names place i field name text test h f n t e =
    let there : get_or names i [] ≡ name = get_or-default names i [] name h ∙ sym n in
    rw (there, ← t, ← f) (sym e)

-- the next name, where it is the field's
pub same_fields-equal : (fields names : List (List ℕ)) (start i : ℕ) (field name text : List ℕ) (whole : Bool)
    → i < length names → start + length names ≤ length fields
    → field ≡ get_or fields (start + i) [] → name ≡ get_or names i name → text ≡ name → true ≡ bytes_eq field text
    → same_fields (slice_range fields (start + i) (start + length names)) (drop i names) ≡ whole
    → same_fields (slice_range fields (start + (i + 1)) (start + length names)) (drop (i + 1) names) ≡ whole
same_fields-equal fields names start i field name text whole h k f n s e t =
    let next : start + (i + 1) ≡ (start + i) + 1 = omega arith in
    let same = bytes_eq-get_or fields names (start + i) i field name text true h f n s e in
    let cut = rw (
      slice_range-cons fields (start + i) (start + length names) (omega arith) k,
      drop-cons names i [] h,
      same,
    ) at t in
    rw (next, add-one i) cut

-- and where it isn't
pub same_fields-other : (fields names : List (List ℕ)) (start i : ℕ) (field name text : List ℕ) (whole : Bool)
    → i < length names → start + length names ≤ length fields
    → field ≡ get_or fields (start + i) [] → name ≡ get_or names i name → text ≡ name → false ≡ bytes_eq field text
    → same_fields (slice_range fields (start + i) (start + length names)) (drop i names) ≡ whole → false ≡ whole
same_fields-other fields names start i field name text whole h k f n s e t =
    let other = bytes_eq-get_or fields names (start + i) i field name text false h f n s e in
    rw (slice_range-cons fields (start + i) (start + length names) (omega arith) k, drop-cons names i [] h, other) at t

-- records with the same fields are as long
same_fields-length : (xs ys : List (List ℕ)) → same_fields xs ys ≡ true → length xs ≡ length ys
same_fields-length [] [] h = refl
same_fields-length [] (y ∷ ys) h = cc h
same_fields-length (x ∷ xs) [] h = cc h
same_fields-length (x ∷ xs) (y ∷ ys) h = ap (λ n. suc n) (same_fields-length xs ys (and_parts _ _ h).1)

-- records of other lengths differ
same_fields-other_length : (xs ys : List (List ℕ)) → (length xs ≡ length ys → ⊥) → same_fields xs ys ≡ false
same_fields-other_length xs ys h = by (same_fields xs ys) refl
  where
    by : (b : Bool) → same_fields xs ys ≡ b → same_fields xs ys ≡ false
    by true e = absurd (h (same_fields-length xs ys e))
    by false e = e

-- records in two parts, the first parts as long
same_fields-append : (xs ys vs ws : List (List ℕ)) → length xs ≡ length vs
    → same_fields (xs ++ ys) (vs ++ ws) ≡ (same_fields xs vs && same_fields ys ws)
same_fields-append [] ys [] ws h = refl
same_fields-append [] ys (v ∷ vs) ws h = absurd (omega arith)
same_fields-append (x ∷ xs) ys [] ws h = absurd (omega arith)
same_fields-append (x ∷ xs) ys (v ∷ vs) ws h =
    rw (same_fields-append xs ys vs ws (omega arith)) (one (bytes_eq x v) (same_fields xs vs) (same_fields ys ws))
  where
    one : (a b c : Bool) → (a && (b && c)) ≡ ((a && b) && c)
    one false b c = refl
    one true b c = refl

-- the fields of a record of another width are no names of columns
pub are_names-width_of : (s : Layout) (fields : List (List ℕ)) → (length fields ≡ width_of s → ⊥)
    → false ≡ are_names s fields
are_names-width_of s fields h =
    let long = length-append s.dimensions s.measures in
    let other : length fields ≡ length (codes "op" ∷ column_names s) → ⊥ = λ e. h (omega arith) in
    let marked : length fields ≡ length ((byte_order_mark ++ codes "op") ∷ column_names s) → ⊥ = λ e. h (omega arith) in
    rw (
      same_fields-other_length fields (codes "op" ∷ column_names s) other,
      same_fields-other_length fields ((byte_order_mark ++ codes "op") ∷ column_names s) marked,
    ) refl

-- the fields of a record of the right width
fields-slice_range : (fields : List (List ℕ)) (first_measure : ℕ) → 2 ≤ first_measure → first_measure ≤ length fields
    → fields
    ≡ get_or fields 0 [] ∷ get_or fields 1 [] ∷ (slice_range fields 2 first_measure ++ drop first_measure fields)
fields-slice_range fields first_measure h k =
    let some : 0 < length fields = omega arith in
    drop-cons fields 0 [] some
    ∙ ap (λ (rest : List (List ℕ)). get_or fields 0 [] ∷ rest) (drop-slice_range fields first_measure h k)

or-and : (a b c d e : Bool) → ((a && (c && (d && e))) || (b && (c && (d && e)))) ≡ ((((a || b) && c) && d) && e)
or-and true true true true true = refl
or-and true true true true false = refl
or-and true true true false e = refl
or-and true true false d e = refl
or-and true false true true true = refl
or-and true false true true false = refl
or-and true false true false e = refl
or-and true false false d e = refl
or-and false true true true e = refl
or-and false true true false e = refl
or-and false true false d e = refl
or-and false false c d e = refl

-- the test of the names of the columns, by their parts
pub are_names-parts : (s : Layout) (fields : List (List ℕ)) (first second dims measures : Bool)
    → length fields ≡ width_of s
    → first
    ≡ (bytes_eq (field_at fields 0) (codes "op") || bytes_eq (field_at fields 0) (byte_order_mark ++ codes "op"))
    → second ≡ bytes_eq (field_at fields 1) (codes "id")
    → dims ≡ same_fields (slice_range fields 2 (2 + length s.dimensions)) s.dimensions
    → measures ≡ same_fields
    (slice_range fields (2 + length s.dimensions) ((2 + length s.dimensions) + length s.measures)) s.measures
    → (first && second && dims && measures) ≡ are_names s fields
are_names-parts s fields first second dims measures h a b c d =
    let first_measure = 2 + length s.dimensions in
    let part = slice_range fields 2 first_measure in
    let long : length part ≡ length s.dimensions =
    omega (arith, length-take (first_measure - 2) (drop 2 fields), length-drop 2 fields) in
    let end : first_measure + length s.measures ≡ length fields = omega arith in
    let last : measures ≡ same_fields (drop first_measure fields) s.measures =
    d ∙ rw (end, slice_range-drop fields first_measure) refl in
    let parts = same_fields-append part (drop first_measure fields) s.dimensions s.measures long in
    let fits : (names : List ℕ) → same_fields fields (names ∷ column_names s)
    ≡ (bytes_eq (field_at fields 0) names && (second && (dims && measures)))
    = λ names. ap (λ (all : List (List ℕ)). same_fields all (names ∷ column_names s))
    (fields-slice_range fields first_measure (omega arith) (omega arith))
    ∙ rw (parts, b, c, last) refl in
    rw (fits (codes "op"), fits (byte_order_mark ++ codes "op"), a)
    (sym (or-and (bytes_eq (field_at fields 0) (codes "op"))
    (bytes_eq (field_at fields 0) (byte_order_mark ++ codes "op")) second dims measures))
