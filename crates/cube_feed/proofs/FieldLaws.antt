-- The fields of a record, one by one and in parts.
use Rattle.std.proofs.Common.{◌≡◌, ◌<◌, ◌≤◌, ◌+◌, ◌-◌, ℕ, Bool, true, false, List, [], ◌∷◌, ◌++◌, append_assoc, length}
use Rattle.std.proofs.Common.{get_or, drop, Option, Some, None, refl, sym, arith, add-one, drop-cons}
use Rattle.std.specs.Prelude.{zero, suc, slice_range, IsUtf8}
use Rattle.std.specs.Str.{is_utf8, IsAscii}
use Rattle.std.specs.List.{list_all, filter_map}
use Rattle.cube_feed.specs.SoundFields.{is_sound}
use Rattle.std.proofs.lemmas.Str.{IsUtf8-from_is_utf8, IsUtf8-from_ascii, IsAscii-take, IsAscii-drop}
use Rattle.std.proofs.lemmas.Bool.{and_left, and_right}
use Rattle.csv.specs.Records as csv

-- a text that isn't UTF-8, as a test
pub is_utf8-IsUtf8 : (bs : List ℕ) → (IsUtf8 bs → ⊥) → is_utf8 bs ≡ false
is_utf8-IsUtf8 bs h = by (is_utf8 bs) refl
  where
    by : (b : Bool) → is_utf8 bs ≡ b → is_utf8 bs ≡ false
    by true e = absurd (h (IsUtf8-from_is_utf8 bs e))
    by false e = e

-- csv's field at a place, and the list's
pub field_at-Some : (fields : List (List ℕ)) (place : ℕ) (field : List ℕ) → Some field ≡ csv.field_at fields place
    → field ≡ get_or fields place []
unfolding csv.field_at
field_at-Some [] place field h = cc h
field_at-Some (f ∷ fs) zero field h = cc h
field_at-Some (f ∷ fs) (suc place) field h = field_at-Some fs place field h

pub field_at-None : (fields : List (List ℕ)) (place : ℕ) → None ≡ csv.field_at fields place
    → get_or fields place [] ≡ []
unfolding csv.field_at
field_at-None [] place h = refl
field_at-None (f ∷ fs) zero h = cc h
field_at-None (f ∷ fs) (suc place) h = field_at-None fs place h

-- a part of a record begins with the field at its first place
pub slice_range-cons : (fields : List (List ℕ)) (place end : ℕ) → place < end → end ≤ length fields
    → slice_range fields place end ≡ get_or fields place [] ∷ slice_range fields (place + 1) end
slice_range-cons fields place end h k =
    let first : place < length fields = omega arith in
    let count : end - place ≡ suc (end - (place + 1)) = omega arith in
    rw (count, drop-cons fields place [] first, add-one place) refl

-- a part with a field that isn't sound
pub is_sound-slice_range : {A : Type 0} (spells : List ℕ → Option A) (fields : List (List ℕ)) (place end : ℕ)
    (all : Bool)
    → place < end → end ≤ length fields → is_sound spells (get_or fields place []) ≡ false
    → list_all (is_sound spells) (slice_range fields place end) ≡ all → all ≡ false
is_sound-slice_range spells fields place end all h k fails t =
    sym (rw (slice_range-cons fields place end h k, fails) at t)

-- one more value
pub filter_map-slice_range : {A : Type 0} (spells : List ℕ → Option A) (fields : List (List ℕ)) (place end : ℕ)
    (text : List ℕ) (value : A) (values whole : List A) (all : Bool)
    → place < end → end ≤ length fields → text ≡ get_or fields place [] → is_utf8 (get_or fields place []) ≡ true
    → Some value ≡ spells text
    → list_all (is_sound spells) (slice_range fields place end) ≡ all
    → values ++ filter_map spells (slice_range fields place end) ≡ whole
    → (list_all (is_sound spells) (slice_range fields (place + 1) end) ≡ all)
    × ((values ++ value ∷ []) ++ filter_map spells (slice_range fields (place + 1) end) ≡ whole)
filter_map-slice_range spells fields place end text value values whole all h k is sound v t w =
    let lawful = rw is at (sym v) in
    let next = rw (slice_range-cons fields place end h k, sound, lawful) at t in
    let more = rw (slice_range-cons fields place end h k, lawful) at w in
    (next, rw (append_assoc values (value ∷ []) (filter_map spells (slice_range fields (place + 1) end))) more)

-- a field that isn't UTF-8 is not sound, and neither is a text that spells no value
pub is_sound-is_utf8 : {A : Type 0} (spells : List ℕ → Option A) (field : List ℕ) → is_utf8 field ≡ false
    → is_sound spells field ≡ false
is_sound-is_utf8 spells field h = and_left _ _ h

pub is_sound-None : {A : Type 0} (spells : List ℕ → Option A) (field text : List ℕ) → text ≡ field → None ≡ spells text
    → is_sound spells field ≡ false
is_sound-None spells field text is h = let none = rw is at (sym h) in rw none (and_right _ _ refl)

-- each field of a record of ASCII is ASCII
cut_from-IsAscii : (start : ℕ) (ends bytes : List ℕ) (place : ℕ) → IsAscii bytes
    → IsAscii (get_or (csv.cut_from start ends bytes) place [])
unfolding csv.cut_from
cut_from-IsAscii start [] bytes place h = λ i. omega arith
cut_from-IsAscii start (end ∷ ends) bytes zero h =
    IsAscii-take (drop start bytes) (end - start) (IsAscii-drop bytes start h)
cut_from-IsAscii start (end ∷ ends) bytes (suc place) h = cut_from-IsAscii end ends bytes place h

-- so it is UTF-8
pub fields_of-IsUtf8 : (row : csv.Row) (place : ℕ) → IsAscii (csv.text_of row)
    → IsUtf8 (get_or (csv.fields_of row) place [])
fields_of-IsUtf8 row place h =
    IsUtf8-from_ascii (get_or (csv.fields_of row) place []) (cut_from-IsAscii 0 row.ends row.bytes place h)
