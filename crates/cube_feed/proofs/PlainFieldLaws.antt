-- The fields of a plain record, put one by one.
use Rattle.std.proofs.Common.{◌≡◌, ◌<◌, ◌≤◌, ◌+◌, ◌-◌, ℕ, List, [], ◌∷◌, ◌++◌, length, map, get_or, take, drop}
use Rattle.std.proofs.Common.{Some, None, refl, sym, ap, ◌∙◌, append_assoc, add-one, drop-cons, arith}
use Rattle.std.specs.Prelude.{zero, suc, replicate, slice_range}
use Rattle.std.proofs.Common.{take-suc, true, false}
use Rattle.std.specs.Prelude.{◌&&◌}
use Rattle.std.specs.Char.{is_ascii_digit}
use Rattle.std.specs.Fmt.{is_char_start, take_chars}
use Rattle.std.specs.List.{list_all}
use Rattle.std.specs.Str.{all_ascii_digits}
use Rattle.std.proofs.lemmas.Bool.{ne_eqb}
use Rattle.std.proofs.lemmas.List.{append-nil, drop_all, take_all}
use Rattle.csv.specs.Records as csv
use Rattle.cube_core.specs.Items.{field_at}
use Rattle.cube_core.specs.Layout.{Layout}
use Rattle.cube_core.specs.Plain.{plain_measure, plain_measures}
use Rattle.cube_core.proofs.QueryLaws.{field_at-Some, field_at-None}

-- one item more, whose field is put
pub put-more : {X : Type 0} (f : X → List ℕ) (xs : List X) (i : ℕ) (d : X) (whole done new : List (List ℕ))
    (field partial : List ℕ)
    → i < length xs → field ≡ f (get_or xs i d) → partial ≡ [] → new ≡ done ++ (partial ++ field) ∷ []
    → done ++ map f (drop i xs) ≡ whole → new ++ map f (drop (i + 1) xs) ≡ whole
put-more f xs i d whole done new field partial inside is none more so_far =
    let next : drop i xs ≡ get_or xs i d ∷ drop (i + 1) xs = rw (add-one i) (drop-cons xs i d inside) in
    let all : done ++ f (get_or xs i d) ∷ map f (drop (i + 1) xs) ≡ whole = rw next at so_far in
    rw (more, none, append_assoc done (field ∷ []) (map f (drop (i + 1) xs)), is) all

-- no item is left
pub put-all : {X : Type 0} (f : X → List ℕ) (xs : List X) (i : ℕ) (whole done : List (List ℕ))
    → length xs ≤ i → done ++ map f (drop i xs) ≡ whole → done ≡ whole
put-all f xs i whole done past so_far =
    let none : drop i xs ≡ [] = drop_all i xs past in
    sym (append-nil done) ∙ ap (λ rest. done ++ map f rest) (sym none) ∙ so_far

-- a part of a record begins with the field at its first place, where there is one
pub part-Some : (fields : List (List ℕ)) (place end : ℕ) (field : List ℕ) → place < end
    → Some field ≡ csv.field_at fields place
    → slice_range fields place end ≡ field ∷ slice_range fields (place + 1) end
part-Some fields place end field below found =
    let count : end - place ≡ suc (end - (place + 1)) = omega arith in
    rw (count, field_at-Some fields place field found) refl

take-none : (n : ℕ) (fields : List (List ℕ)) → fields ≡ [] → take n fields ≡ []
take-none zero fields none = refl
take-none (suc n) [] none = refl
take-none (suc n) (field ∷ fields) none = cc none

-- and has nothing past the last field
pub part-None : (fields : List (List ℕ)) (place end : ℕ) → None ≡ csv.field_at fields place
    → slice_range fields place end ≡ []
part-None fields place end none = take-none (end - place) (drop place fields) (field_at-None fields place none)

-- one field more of a part
pub part-more : (f : List ℕ → List ℕ) (fields : List (List ℕ)) (place end : ℕ) (whole done new : List (List ℕ))
    (field put partial : List ℕ)
    → place < end → Some field ≡ csv.field_at fields place → put ≡ f field → partial ≡ []
    → new ≡ done ++ (partial ++ put) ∷ []
    → done ++ map f (slice_range fields place end) ≡ whole → new ++ map f (slice_range fields (place + 1) end) ≡ whole
part-more f fields place end whole done new field put partial below found is none more so_far =
    let all : done ++ f field ∷ map f (slice_range fields (place + 1) end) ≡ whole =
    rw (part-Some fields place end field below found) at so_far in
    rw (more, none, append_assoc done (put ∷ []) (map f (slice_range fields (place + 1) end)), is) all

-- no field of a part is left
pub part-none : (f : List ℕ → List ℕ) (fields : List (List ℕ)) (place end : ℕ) (whole done : List (List ℕ))
    → None ≡ csv.field_at fields place → done ++ map f (slice_range fields place end) ≡ whole → done ≡ whole
part-none f fields place end whole done none so_far =
    sym (append-nil done) ∙ ap (λ rest. done ++ map f rest) (sym (part-None fields place end none)) ∙ so_far

pub part-all : (f : List ℕ → List ℕ) (fields : List (List ℕ)) (place end : ℕ) (whole done : List (List ℕ))
    → end ≤ place → done ++ map f (slice_range fields place end) ≡ whole → done ≡ whole
part-all f fields place end whole done past so_far =
    let none : slice_range fields place end ≡ [] = rw (zero-of (end - place) (omega arith)) refl in
    sym (append-nil done) ∙ ap (λ rest. done ++ map f rest) (sym none) ∙ so_far
  where
    zero-of : (n : ℕ) → n ≤ 0 → n ≡ 0
    zero-of n h = omega arith

-- ---- the plain fields of measures
-- one more, whose field is put
measure-more : (s : Layout) (nulls : List (List ℕ)) (point m next : ℕ) (rest others : List (List ℕ))
    (whole done new : List (List ℕ)) (field put partial : List ℕ)
    → rest ≡ field ∷ others → next ≡ m + 1 → put ≡ plain_measure s nulls point m field → partial ≡ []
    → new ≡ done ++ (partial ++ put) ∷ []
    → done ++ plain_measures s nulls point m rest ≡ whole → new ++ plain_measures s nulls point next others ≡ whole
measure-more s nulls point m next rest others whole done new field put partial begins after is none more so_far =
    let all : done ++ plain_measure s nulls point m field ∷ plain_measures s nulls point (m + 1) others ≡ whole =
    rw begins at so_far in
    rw (more, none, after, append_assoc done (put ∷ []) (plain_measures s nulls point (m + 1) others), is) all

-- of fields at places
pub measure-at-more : (s : Layout) (nulls : List (List ℕ)) (point m d : ℕ) (fields : List (List ℕ)) (places : List ℕ)
    (whole done new : List (List ℕ)) (put partial : List ℕ)
    → m < length places → put ≡ plain_measure s nulls point m (field_at fields (get_or places m d)) → partial ≡ []
    → new ≡ done ++ (partial ++ put) ∷ []
    → done ++ plain_measures s nulls point m (map (field_at fields) (drop m places)) ≡ whole
    → new ++ plain_measures s nulls point (m + 1) (map (field_at fields) (drop (m + 1) places)) ≡ whole
measure-at-more s nulls point m d fields places whole done new put partial inside is none more so_far =
    let next : drop m places ≡ get_or places m d ∷ drop (m + 1) places =
    rw (add-one m) (drop-cons places m d inside) in
    let begins : map (field_at fields) (drop m places)
    ≡ field_at fields (get_or places m d) ∷ map (field_at fields) (drop (m + 1) places) = rw next refl in
    measure-more s nulls point m (m + 1) (map (field_at fields) (drop m places))
    (map (field_at fields) (drop (m + 1) places)) whole done new (field_at fields (get_or places m d)) put partial begins
    refl is none more so_far

-- of the fields of a record from a place on
pub measure-from-more : (s : Layout) (nulls : List (List ℕ)) (point first place : ℕ) (fields : List (List ℕ))
    (whole done new : List (List ℕ)) (field put partial : List ℕ)
    → first ≤ place → Some field ≡ csv.field_at fields place
    → put ≡ plain_measure s nulls point (place - first) field → partial ≡ []
    → new ≡ done ++ (partial ++ put) ∷ []
    → done ++ plain_measures s nulls point (place - first) (drop place fields) ≡ whole
    → new ++ plain_measures s nulls point (place + 1 - first) (drop (place + 1) fields) ≡ whole
measure-from-more s nulls point first place fields whole done new field put partial from found is none more so_far =
    measure-more s nulls point (place - first) (place + 1 - first) (drop place fields) (drop (place + 1) fields) whole
    done new field put partial (field_at-Some fields place field found) (omega arith) is none more so_far

-- none is left
pub measure-none : (s : Layout) (nulls : List (List ℕ)) (point m : ℕ) (rest whole done : List (List ℕ)) → rest ≡ []
    → done ++ plain_measures s nulls point m rest ≡ whole → done ≡ whole
measure-none s nulls point m rest whole done none so_far =
    sym (append-nil done) ∙ ap (λ more. done ++ plain_measures s nulls point m more) (sym none) ∙ so_far

-- ---- a number in units
-- whether each byte is a digit
pub list_all-digits : (text : List ℕ) → list_all is_ascii_digit text ≡ all_ascii_digits text
list_all-digits [] = refl
list_all-digits (byte ∷ text) = ap (λ others. is_ascii_digit byte && others) (list_all-digits text)

-- one zero more, where zeros are put behind it
pub zeros-more : (units new whole : List ℕ) (wanted done : ℕ) → done < wanted → new ≡ units ++ 48 ∷ []
    → units ++ replicate (wanted - done) 48 ≡ whole → new ++ replicate (wanted - (done + 1)) 48 ≡ whole
zeros-more units new whole wanted done below pushed so_far =
    let count : wanted - done ≡ suc (wanted - (done + 1)) = omega arith in
    let all : units ++ 48 ∷ replicate (wanted - (done + 1)) 48 ≡ whole = rw count at so_far in
    rw (pushed, append_assoc units (48 ∷ []) (replicate (wanted - (done + 1)) 48)) all

-- ---- the first characters of a text

-- the byte at a place begins the first character that is cut off
pub take_chars-stops : (text : List ℕ) (i : ℕ) → i < length text → is_char_start (get_or text i 0) ≡ true
    → take i text ++ take_chars 0 (drop i text) ≡ take i text
unfolding take_chars
take_chars-stops text i inside begins = rw (drop-cons text i 0 inside, begins) (append-nil (take i text))

-- or it begins one that is kept
pub take_chars-begins : (text : List ℕ) (i n m : ℕ) → i < length text → is_char_start (get_or text i 0) ≡ true
    → n ≡ suc m
    → take (i + 1) text ++ take_chars m (drop (i + 1) text) ≡ take i text ++ take_chars n (drop i text)
unfolding take_chars
take_chars-begins text i n m inside begins count =
    let left : n - 1 ≡ m = omega arith in
    let some = ne_eqb n 0 (omega arith) in
    rw (
      add-one i,
      take-suc text i 0 inside,
      append_assoc (take i text) (get_or text i 0 ∷ []) (take_chars m (drop (suc i) text)),
      drop-cons text i 0 inside,
      begins,
      some,
      left,
    ) refl

-- or it is of one that is kept
pub take_chars-goes_on : (text : List ℕ) (i n : ℕ) → i < length text → is_char_start (get_or text i 0) ≡ false
    → take (i + 1) text ++ take_chars n (drop (i + 1) text) ≡ take i text ++ take_chars n (drop i text)
unfolding take_chars
take_chars-goes_on text i n inside within =
    rw (
      add-one i,
      take-suc text i 0 inside,
      append_assoc (take i text) (get_or text i 0 ∷ []) (take_chars n (drop (suc i) text)),
      drop-cons text i 0 inside,
      within,
    ) refl

-- all of it is kept
pub take_chars-all : (text : List ℕ) (i n : ℕ) (whole : List ℕ) → length text ≤ i
    → take i text ++ take_chars n (drop i text) ≡ whole → text ≡ whole
unfolding take_chars
take_chars-all text i n whole past so_far =
    sym (append-nil text) ∙ rw (take_all i text past, drop_all i text past) at so_far
