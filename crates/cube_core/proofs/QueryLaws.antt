-- What two reads of a word show of its records, and what the fields of a record spell, one by one.
use Rattle.std.proofs.Common.{◌≡◌, ◌+◌, ◌&&◌, ℕ, Bool, true, false, not, List, [], ◌∷◌, ◌++◌, length, drop, Option}
use Rattle.std.proofs.Common.{Some, None, Result, Ok, Err, refl, sym, ap, append_assoc, add-one}
use Rattle.std.specs.Prelude.{if◌then◌else◌, zero, suc, is_some, IsUtf8}
use Rattle.std.specs.Option.{ok_or, option_map}
use Rattle.std.proofs.lemmas.List.{append-nil}
use Rattle.std.specs.Str.{is_utf8}
use Rattle.std.specs.List.{list_all, filter_map}
use Rattle.std.specs.Ordering.{eq_by_cmp}
use Rattle.std.proofs.lemmas.Str.{IsUtf8-from_is_utf8, is_utf8-from_IsUtf8}
use Rattle.std.specs.Cmp.Lexicographic.{texts_ties}
use Rattle.csv.specs.Machine.{Read, next_record}
use Rattle.csv.specs.Reading.{NextIs, ReadsNext, ReadRecord, records, records_from, records_next, default_config}
use Rattle.csv.specs.Reading.{source_of, pending_of, reader_config, reader_state, strip_bom}
use Rattle.csv.specs.Records as csv
use Rattle.csv.specs.declared.reader.Reader.{Reader}
use Rattle.csv.specs.declared.parser.State.{State}
use Rattle.csv.specs.declared.parser.State.TheVariants as st
use Rattle.cube_core.specs.Records.{records_of}
use Rattle.cube_core.specs.Order.{coord_cmp}
use Rattle.cube_core.specs.Query.{Says, only_one, named_by, wanted_by, spelled_by}
use Rattle.cube_core.specs.declared.key.Coord.{Coord}
use Rattle.cube_core.specs.declared.key.Coord.TheVariants as coord
use Rattle.cube_core.specs.declared.query.QueryFault.{QueryFault}
use Rattle.cube_core.specs.declared.query.QueryFault.TheVariants.{Fields, Field, NotCell, NotRolled, UnknownDimension}
use Rattle.cube_core.specs.declared.query.QueryFault.TheVariants.{Memory, NotGrouped, Condition}
use Rattle.cube_core.specs.contracts.key.CoordPartialEq.TheImpl as CoordPartialEq

-- the records that a first read and a second show
only_one-records_next : (after later : State → List ℕ → List (List (List ℕ))) (first second : Option Read)
    (found more : Bool) (fields others : List (List ℕ)) (s s2 : State) (ys zs : List ℕ)
    → NextIs first found fields s ys → NextIs second more others s2 zs → after s ys ≡ records_next later second
    → only_one (records_next after first) ≡ (if found && not more then Some fields else None)
only_one-records_next after later None second found more fields others s s2 ys zs h k e = rw h refl
only_one-records_next after later (Some p) None found more fields others s s2 ys zs h k e =
    rw (h.0, h.1, k, ← h.2, ← h.3, e) refl
only_one-records_next after later (Some p) (Some q) found more fields others s s2 ys zs h k e =
    rw (h.0, k.0, ← h.2, ← h.3, e) refl

-- a text has exactly one record where a first read finds one and a second finds none
only_one-next_record : (xs ys zs : List ℕ) (found more : Bool) (fields others : List (List ℕ)) (s s2 : State)
    → NextIs (next_record default_config st.StartRecord [] [] xs) found fields s ys
    → NextIs (next_record default_config s [] [] ys) more others s2 zs
    → only_one (records default_config xs) ≡ (if found && not more then Some fields else None)
unfolding records_from next_record
only_one-next_record [] ys zs found more fields others s s2 h k = rw h refl
only_one-next_record (x ∷ xs) ys zs found more fields others s s2 h k =
    rw (add-one (length (x ∷ xs))) (only_one-records_next (records_from default_config (suc (length xs)))
    (records_from default_config (length xs))
    (next_record default_config st.StartRecord [] [] (x ∷ xs))
    (next_record default_config s [] [] ys) found more fields others s s2 ys zs h k refl)

only_one-ReadsNext : (xs : List ℕ) (after after2 : Option (List ℕ)) (found more : Bool) (fields others : List (List ℕ))
    (s s2 : State)
    → ReadsNext default_config st.StartRecord (Some xs) after found fields s
    → ReadsNext default_config s after after2 more others s2
    → only_one (records default_config xs) ≡ (if found && not more then Some fields else None)
only_one-ReadsNext xs None after2 found more fields others s s2 h k = absurd h
only_one-ReadsNext xs (Some ys) None found more fields others s s2 h k = absurd k
only_one-ReadsNext xs (Some ys) (Some zs) found more fields others s s2 h k =
    only_one-next_record xs ys zs found more fields others s s2 h k

-- a new reader that reads twice tells whether its text has exactly one record
pub only_one-ReadRecord : {R : Type 0} (remaining : R → Option (List ℕ)) (start middle end : Reader R) (text : List ℕ)
    (found more : Bool) (fields others : List (List ℕ))
    → source_of remaining start ≡ Some (strip_bom text) → reader_config start ≡ default_config
    → reader_state start ≡ st.StartRecord
    → ReadRecord remaining start middle found fields → ReadRecord remaining middle end more others
    → only_one (records_of text) ≡ (if found && not more then Some fields else None)
only_one-ReadRecord {R} remaining start middle end text found more fields others source config state first second =
    let one = rw (config, state, source) at first.0 in
    let two = rw (first.1, first.2, config) at second.0 in
    only_one-ReadsNext (strip_bom text) (pending_of (remaining middle.rdr) middle)
    (pending_of (remaining end.rdr) end) found more fields others middle.state end.state one two

-- what is made of a value that is there where a test holds
pub option_map-if : {A B : Type 0} (f : A → B) (b : Bool) (a : A)
    → option_map f (if b then Some a else None) ≡ (if b then Some (f a) else None)
option_map-if f true a = refl
option_map-if f false a = refl

-- the comparison that coordinates derive tells whether they compare equal
pub eq-coord_cmp : (a b : Coord) → (CoordPartialEq.eq-value).it a b ≡ eq_by_cmp coord_cmp a b
eq-coord_cmp (coord.Text a) (coord.Text b) = texts_ties a b
eq-coord_cmp (coord.Text a) coord.Null = refl
eq-coord_cmp (coord.Text a) coord.All = refl
eq-coord_cmp coord.Null (coord.Text b) = refl
eq-coord_cmp coord.Null coord.Null = refl
eq-coord_cmp coord.Null coord.All = refl
eq-coord_cmp coord.All (coord.Text b) = refl
eq-coord_cmp coord.All coord.Null = refl
eq-coord_cmp coord.All coord.All = refl

-- the text of a field that begins with `=`
pub named_by-text : (field text : List ℕ) (first : ℕ) → field ≡ first ∷ text → first ≡ 61 → IsUtf8 text
    → Some text ≡ named_by field
named_by-text field text first is sign sound = rw (is, sign, is_utf8-from_IsUtf8 text sound) refl

-- what follows is no text
pub named_by-none : (field text : List ℕ) (first : ℕ) → field ≡ first ∷ text → first ≡ 61 → (IsUtf8 text → ⊥)
    → None ≡ named_by field
named_by-none field text first is sign h = rw (is, sign) (by (is_utf8 text) refl)
  where
    by : (b : Bool) → is_utf8 text ≡ b → None ≡ (if b then Some text else None)
    by true e = absurd (h (IsUtf8-from_is_utf8 text e))
    by false e = refl

-- a fault of a part is one of the whole
pub Says-through : {A B : Type 0} (part : Result A QueryFault) (whole : Result B QueryFault) (fault : QueryFault)
    → Says part (Err fault) → (part ≡ Err fault → whole ≡ Err fault) → Says whole (Err fault)
Says-through part whole Memory h k = tt
Says-through part whole Fields h k = sym (k (sym h))
Says-through part whole Field h k = sym (k (sym h))
Says-through part whole NotCell h k = sym (k (sym h))
Says-through part whole NotRolled h k = sym (k (sym h))
Says-through part whole UnknownDimension h k = sym (k (sym h))
Says-through part whole NotGrouped h k = sym (k (sym h))
Says-through part whole Condition h k = sym (k (sym h))

-- csv's field at a place: it begins the fields from there on, which are none past the last
pub field_at-Some : (fields : List (List ℕ)) (place : ℕ) (field : List ℕ) → Some field ≡ csv.field_at fields place
    → drop place fields ≡ field ∷ drop (place + 1) fields
unfolding csv.field_at
field_at-Some [] place field h = cc h
field_at-Some (f ∷ fs) zero field h = cc h
field_at-Some (f ∷ fs) (suc place) field h =
    let more = rw (add-one place) at (field_at-Some fs place field h) in
    rw (add-one (suc place)) more

pub field_at-None : (fields : List (List ℕ)) (place : ℕ) → None ≡ csv.field_at fields place → drop place fields ≡ []
unfolding csv.field_at
field_at-None [] zero h = refl
field_at-None [] (suc place) h = refl
field_at-None (f ∷ fs) zero h = cc h
field_at-None (f ∷ fs) (suc place) h = field_at-None fs place h

-- one more field that wants something, and one that has none of the four forms
pub wanted_by-more : (fields : List (List ℕ)) (place : ℕ) (field : List ℕ) (wanted : Option Coord)
    (found : List (Option Coord))
    → Some field ≡ csv.field_at fields place → Ok wanted ≡ ok_or (wanted_by field) Field
    → ((found ++ wanted ∷ []) ++ filter_map wanted_by (drop (place + 1) fields)
    ≡ found ++ filter_map wanted_by (drop place fields))
    × (list_all (λ other. is_some (wanted_by other)) (drop (place + 1) fields)
    ≡ list_all (λ other. is_some (wanted_by other)) (drop place fields))
wanted_by-more fields place field wanted found at is =
    let here : wanted_by field ≡ Some wanted = by (wanted_by field) is in
    rw (field_at-Some fields place field at, here) (
      append_assoc found (wanted ∷ []) (filter_map wanted_by (drop (place + 1) fields)),
      refl,
    )
  where
    by : (o : Option (Option Coord)) → Ok wanted ≡ ok_or o Field → o ≡ Some wanted
    by None e = cc e
    by (Some found) e = cc e

pub wanted_by-stop : (fields : List (List ℕ)) (place : ℕ) (field : List ℕ) (fault : QueryFault)
    → Some field ≡ csv.field_at fields place → ok_or (wanted_by field) Field ≡ Err fault
    → list_all (λ other. is_some (wanted_by other)) (drop place fields)
    ≡ list_all (λ other. is_some (wanted_by other)) fields
    → spelled_by fields ≡ Err fault
wanted_by-stop fields place field fault at is all = by (wanted_by field) refl is
  where
    by : (o : Option (Option Coord)) → wanted_by field ≡ o → ok_or o Field ≡ Err fault → spelled_by fields ≡ Err fault
    by None e h =
        let none = rw (field_at-Some fields place field at, e) at all in
        let same : Field ≡ fault = cc h in
        rw (← none) (ap Err same)
    by (Some found) e h = cc h

-- no field is left
pub wanted_by-all : (fields : List (List ℕ)) (place : ℕ) (found : List (Option Coord))
    → None ≡ csv.field_at fields place
    → found ++ filter_map wanted_by (drop place fields) ≡ filter_map wanted_by fields
    → list_all (λ other. is_some (wanted_by other)) (drop place fields)
    ≡ list_all (λ other. is_some (wanted_by other)) fields
    → Ok found ≡ spelled_by fields
wanted_by-all fields place found end are all =
    let whole = rw (field_at-None fields place end, append-nil found) at are in
    let each = rw (field_at-None fields place end) at all in
    rw (← each, ← whole) refl
