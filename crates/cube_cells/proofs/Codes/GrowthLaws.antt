-- Laws of dictionaries that grow, and of the counts of the cells of a grouping set.
use Rattle.std.proofs.Common.{◌≡◌, ℕ, zero, suc, ◌*◌, ◌^◌, ◌<◌, ◌==◌, ◌%◌, ◌/◌, List, [], ◌∷◌, ◌++◌, Bool, true, false}
use Rattle.std.proofs.Common.{refl, sym, ap, ◌∙◌, subst, arith, inl, inr, length, map, get_or, Option, Some, None, ◌⊎◌}
use Rattle.std.proofs.Common.{if◌then◌else◌}
use Rattle.std.specs.Prelude.{All, sum_by}
use Rattle.std.specs.Cmp.{nat_cmp_is}
use Rattle.std.specs.List.{IsDistinct}
use Rattle.std.specs.List.Sorted.{IsStrictlySortedBy}
use Rattle.std.specs.Ordering.{nat_cmp}
use Rattle.std.specs.declared.cmp.Ordering.TheVariants.{Less, Equal, Greater}
use Rattle.std.proofs.lemmas.Bool.{cases_Bool, cases_order, or_cases, and_parts, and_from, both_ways, eqb-true, eq-eqb}
use Rattle.std.proofs.lemmas.Bool.{false_from_ne_true}
use Rattle.std.proofs.lemmas.List.{append-nil, length-append, get_or_append_left}
use Rattle.std.proofs.lemmas.List.Elements.{All-head, All-tail, All-cons, All-nil, All-from_recursion}
use Rattle.std.proofs.lemmas.List.Elements.{recursion_from_All}
use Rattle.std.proofs.lemmas.List.Sums.{sum_by-cons}
use Rattle.std.proofs.Math.Nat.{pow-succ'}
use Rattle.cube_core.specs.GroupingSet.{mask_of, mask_of_coords, is_among}
use Rattle.cube_core.specs.Layout.{is_listed}
use Rattle.cube_core.specs.declared.fact.Fact.{Fact}
use Rattle.cube_core.specs.declared.key.Coord.{Coord}
use Rattle.cube_core.specs.declared.key.Coord.TheVariants as coord
use Rattle.cube_core.specs.declared.key.Key.{Key}
use Rattle.cube_core.proofs.AncestorLaws.{ancestor_of, mask_of_coords-ancestor_of}
use Rattle.cube_cells.specs.Codes.{Dictionaries, IsDictionary, IsCodeOf, AreCodesOf, is_code, are_codes, coord_at}
use Rattle.cube_cells.specs.Codes.{coords_at, key_at, kept_codes, all_code, null_code, coord_of_value, texts_with}
use Rattle.cube_cells.specs.Coded.{CodedCells, IsCodedCell, same_codes, decoded}
use Rattle.cube_cells.specs.Cube.{Cells, count_in, MayAddTexts, AddsTexts}
use Rattle.cube_cells.specs.Tally.{Tally}
use Rattle.cube_cells.specs.Walk.{key_in, codes_in, weight_of_cells}
use Rattle.cube_cells.specs.declared.cube.codes.Codes.{Codes}
use Rattle.cube_cells.proofs.Codes.DictionaryLaws.{is_code-cases, coord_at-place, is_code-place}
use Rattle.cube_cells.proofs.Codes.KeyLaws.{HasFactCodes, coord-IsCodeOf, coords_at-AreCodesOf, HasCodes-covering_key}
use Rattle.cube_cells.proofs.Cells.WalkLaws.{same_codes-exact}

-- ---- dictionaries that grow
-- each dictionary has the old texts first
abbrev pub AreGrown : Dictionaries → Dictionaries → Type 0
AreGrown [] [] = Unit {0}
AreGrown [] (u ∷ new) = ⊥
AreGrown (t ∷ old) [] = ⊥
AreGrown (t ∷ old) (u ∷ new) = ((more : List (List ℕ)) × (u ≡ t ++ more)) × AreGrown old new

-- the texts with one more have the old ones first
pub texts_with-append : (value : Option (List ℕ)) (texts : List (List ℕ))
    → (more : List (List ℕ)) × (texts_with value texts ≡ texts ++ more)
texts_with-append None texts = ([], sym (append-nil texts))
texts_with-append (Some text) texts = elim (cases_Bool (is_listed text texts)) [
  | inl listed ↦ ([], rw listed (sym (append-nil texts)))
  | inr unlisted ↦ (text ∷ [], rw unlisted refl)
]

-- where at most texts of some values were added
AreGrown-texts_with : (value : ℕ → Option (List ℕ)) (old new : Dictionaries) → length new ≡ length old
    → ((d : ℕ) → (get_or new d [] ≡ get_or old d []) ⊎ (get_or new d [] ≡ texts_with (value d) (get_or old d [])))
    → AreGrown old new
AreGrown-texts_with value [] [] lengths may = tt
AreGrown-texts_with value [] (u ∷ new) lengths may = absurd (omega (arith, lengths))
AreGrown-texts_with value (t ∷ old) [] lengths may = absurd (omega (arith, lengths))
AreGrown-texts_with value (t ∷ old) (u ∷ new) lengths may = (
  elim (may zero) [
    | inl same ↦ ([], same ∙ sym (append-nil t))
    | inr with_one ↦ let more = texts_with-append (value zero) t in (more.0, with_one ∙ more.1)
  ],
  AreGrown-texts_with (λ d. value (suc d)) old new (omega (arith, lengths)) (λ d. may (suc d)),
)

pub AreGrown-MayAddTexts : (values : List (Option (List ℕ))) (old new : Dictionaries) → length new ≡ length old
    → MayAddTexts values old new → AreGrown old new
AreGrown-MayAddTexts values old new lengths may = AreGrown-texts_with (λ d. get_or values d None) old new lengths may

pub AreGrown-AddsTexts : (values : List (Option (List ℕ))) (old new : Dictionaries) → length new ≡ length old
    → AddsTexts values old new → AreGrown old new
AreGrown-AddsTexts values old new lengths adds =
    AreGrown-texts_with (λ d. get_or values d None) old new lengths (λ d. inr (adds d))

pub AreGrown-refl : (dictionaries : Dictionaries) → AreGrown dictionaries dictionaries
AreGrown-refl [] = tt
AreGrown-refl (t ∷ dictionaries) = (([], sym (append-nil t)), AreGrown-refl dictionaries)

-- a code stays a code, of the same coordinate
pub is_code-append : (t more u : List (List ℕ)) (code : ℕ) → u ≡ t ++ more → IsDictionary u → is_code t code ≡ true
    → (is_code u code ≡ true) × (coord_at u code ≡ coord_at t code)
is_code-append t more u code is dictionary valid = elim (is_code-cases t code valid) [
  | inl all ↦ (rw all refl, rw all refl)
  | inr rest ↦ elim rest [
    | inl null ↦ (rw null refl, rw null refl)
    | inr place ↦
        let longer : code < length u = omega (arith, ap length is, length-append t more, place) in
        let small : code < null_code = omega (arith, longer, dictionary.few) in (
          is_code-place u code longer,
          coord_at-place u code small ∙ ap (λ (ts : List (List ℕ)). coord.Text (get_or ts code [])) is
              ∙ ap coord.Text (get_or_append_left t more [] code place) ∙ sym (coord_at-place t code small),
        )
  ]
]

pub are_codes-AreGrown : (old new : Dictionaries) (codes : List ℕ) → AreGrown old new → All IsDictionary new
    → are_codes old codes ≡ true → (are_codes new codes ≡ true) × (coords_at new codes ≡ coords_at old codes)
are_codes-AreGrown [] [] codes grown all valid = (valid, refl)
are_codes-AreGrown [] (u ∷ new) codes grown all valid = absurd grown
are_codes-AreGrown (t ∷ old) [] codes grown all valid = absurd grown
are_codes-AreGrown (t ∷ old) (u ∷ new) [] grown all valid = cc valid
are_codes-AreGrown (t ∷ old) (u ∷ new) (x ∷ codes) grown all valid =
    let parts = and_parts (is_code t x) (are_codes old codes) valid in
    let first = is_code-append t grown.0.0 u x grown.0.1 (All-head IsDictionary u new all) parts.0 in
    let rest = are_codes-AreGrown old new codes grown.1 (All-tail IsDictionary u new all) parts.1 in
    let head : coord_at u x ≡ coord_at t x = first.1 in
    let tail : coords_at new codes ≡ coords_at old codes = rest.1 in
    (and_from (is_code u x) (are_codes new codes) first.0 rest.0, cc)

-- codes of coordinates stay theirs
pub AreCodesOf-AreGrown : (old new : Dictionaries) (coords : List Coord) (codes : List ℕ) → AreGrown old new
    → All IsDictionary new → are_codes old codes ≡ true → AreCodesOf old coords codes → AreCodesOf new coords codes
AreCodesOf-AreGrown [] [] [] codes grown all valid are = are
AreCodesOf-AreGrown [] [] (c ∷ coords) codes grown all valid are = absurd are
AreCodesOf-AreGrown [] (u ∷ new) coords codes grown all valid are = absurd grown
AreCodesOf-AreGrown (t ∷ old) [] coords codes grown all valid are = absurd grown
AreCodesOf-AreGrown (t ∷ old) (u ∷ new) [] codes grown all valid are = absurd are
AreCodesOf-AreGrown (t ∷ old) (u ∷ new) (c ∷ coords) [] grown all valid are = absurd are
AreCodesOf-AreGrown (t ∷ old) (u ∷ new) (c ∷ coords) (x ∷ codes) grown all valid are =
    let parts = and_parts (is_code t x) (are_codes old codes) valid in
    let dictionary = All-head IsDictionary u new all in
    let first = is_code-append t grown.0.0 u x grown.0.1 dictionary parts.0 in
    let found = coord-IsCodeOf u c dictionary in
    let same : x ≡ found.0 = (found.1.alone x first.0).0 (first.1 ∙ (are.0.alone x parts.0).1 refl) in (
      subst (IsCodeOf u c) (sym same) found.1,
      AreCodesOf-AreGrown old new coords codes grown.1 (All-tail IsDictionary u new all) parts.1 are.1,
    )

-- the cells stay the same cells
pub IsCodedCell-AreGrown : (old new : Dictionaries) (measures : ℕ) (cells : CodedCells) → AreGrown old new
    → All IsDictionary new → All (IsCodedCell old measures) cells
    → All (IsCodedCell new measures) cells × (decoded new cells ≡ decoded old cells)
IsCodedCell-AreGrown old new measures [] grown dictionaries all = (All-nil (IsCodedCell new measures), refl)
IsCodedCell-AreGrown old new measures (e ∷ cells) grown dictionaries all =
    let cell = All-head (IsCodedCell old measures) e cells all in
    let codes = are_codes-AreGrown old new e.0.codes grown dictionaries cell.codes in
    let rest =
    IsCodedCell-AreGrown old new measures cells grown dictionaries (All-tail (IsCodedCell old measures) e cells all) in
    let make : List Coord → Cells = λ coords. (record { coords = coords }, e.1) ∷ decoded new cells in (
      All-cons (IsCodedCell new measures) e cells
          (record { codes = codes.0; eight = cell.eight; width = cell.width; some = cell.some }) rest.0,
      ap make codes.1 ∙ ap (λ (others : Cells). (key_at old e.0.codes, e.1) ∷ others) rest.1,
    )

pub AreGrown-length : (old new : Dictionaries) → AreGrown old new → length new ≡ length old
AreGrown-length [] [] grown = refl
AreGrown-length [] (u ∷ new) grown = absurd grown
AreGrown-length (t ∷ old) [] grown = absurd grown
AreGrown-length (t ∷ old) (u ∷ new) grown = ap suc (AreGrown-length old new grown.1)

-- ---- the counts of a set
-- 1 for codes in a set, else 0
abbrev pub set_weight : Dictionaries → ℕ → Codes → ℕ
set_weight dictionaries set codes = if mask_of_coords (coords_at dictionaries codes.codes) == set then 1 else 0

if-times : (b : Bool) (n : ℕ) → (if b then n else 0) ≡ (if b then 1 else 0) * n
if-times true n = omega arith
if-times false n = omega arith

pub count_in-weight_of_cells : (dictionaries : Dictionaries) (set : ℕ) (cells : CodedCells)
    → count_in set (decoded dictionaries cells) ≡ weight_of_cells (set_weight dictionaries set) cells
count_in-weight_of_cells dictionaries set [] = refl
count_in-weight_of_cells dictionaries set (e ∷ cells) =
    omega (
      arith,
      sum_by-cons (λ (cell : Key × Tally). if mask_of cell.0 == set then cell.1.facts else 0)
          (key_at dictionaries e.0.codes, e.1) (decoded dictionaries cells),
      sum_by-cons (λ (cell : Codes × Tally). set_weight dictionaries set cell.0 * cell.1.facts) e cells,
      if-times (mask_of_coords (coords_at dictionaries e.0.codes) == set) e.1.facts,
      count_in-weight_of_cells dictionaries set cells,
    )

lt-nat_cmp : (x y : ℕ) → nat_cmp x y ≡ Less → x < y
lt-nat_cmp x y less = elim (cases_order x y) [
  | inl same ↦ cc (nat_cmp_is x y Equal same ∙ less)
  | inr rest ↦ elim rest [
    | inl below ↦ below
    | inr above ↦ cc (nat_cmp_is x y Greater above ∙ less)
  ]
]

-- sets in ascending order differ
pub IsStrictlySortedBy-head : (set : ℕ) (sets : List ℕ) → IsStrictlySortedBy nat_cmp (set ∷ sets)
    → All (λ other. set < other) sets
unfolding IsStrictlySortedBy
IsStrictlySortedBy-head set sets ascending =
    All-less sets (All-from_recursion (λ other. nat_cmp set other ≡ Less) sets ascending.0)
  where
    All-less : (xs : List ℕ) → All (λ other. nat_cmp set other ≡ Less) xs → All (λ other. set < other) xs
    All-less xs all = λ k d inside. lt-nat_cmp set (get_or xs k d) (all k d inside)

pub IsStrictlySortedBy-tail : (set : ℕ) (sets : List ℕ) → IsStrictlySortedBy nat_cmp (set ∷ sets)
    → IsStrictlySortedBy nat_cmp sets
unfolding IsStrictlySortedBy
IsStrictlySortedBy-tail set sets ascending = ascending.1

-- what is true of each set is true of one among them
pub All-is_among : (P : ℕ → Type 0) (sets : List ℕ) (set : ℕ) → All P sets → is_among set sets ≡ true → P set
All-is_among P [] set all among = cc among
All-is_among P (first ∷ sets) set all among = elim (or_cases (first == set) (is_among set sets) among) [
  | inl same ↦ subst P (eqb-true first set same) (All-head P first sets all)
  | inr later ↦ All-is_among P sets set (All-tail P first sets all) later
]

-- what is among the first and others
first_among : (x : ℕ) (xs : List ℕ) → is_among x (x ∷ xs) ≡ true
first_among x xs = rw (eq-eqb x x refl) refl

later_among : (x y : ℕ) (xs : List ℕ) → is_among y xs ≡ true → is_among y (x ∷ xs) ≡ true
later_among x y xs later = elim (cases_Bool (x == y)) [ inl same ↦ rw same refl | inr apart ↦ rw apart later ]

-- the weight of keys of some sets
sum_by-codes_in_none : (weight : Codes → ℕ) (codes : Codes) (set : ℕ) (sets : List ℕ)
    → ((other : ℕ) → is_among other sets ≡ true → weight (key_in codes other) ≡ (if other == set then 1 else 0))
    → is_among set sets ≡ false → sum_by weight (codes_in sets codes) ≡ 0
sum_by-codes_in_none weight codes set [] at_each among = refl
sum_by-codes_in_none weight codes set (first ∷ sets) at_each among = elim (cases_Bool (first == set)) [
  | inl same ↦ cc (rw same at among)
  | inr apart ↦
      let here = at_each first (first_among first sets) in
      let zero_here : weight (key_in codes first) ≡ 0 = here ∙ ap (λ (b : Bool). if b then 1 else 0) apart in
      omega (
        arith,
        sum_by-cons weight (key_in codes first) (codes_in sets codes),
        zero_here,
        sum_by-codes_in_none weight codes set sets (λ other later. at_each other (later_among first other sets later))
            (rw apart at among),
      )
]

pub is_among-below : (set : ℕ) (sets : List ℕ) → All (λ other. set < other) sets → is_among set sets ≡ false
is_among-below set sets above = false_from_ne_true (is_among set sets)
    (λ among. absurd (omega (arith, All-is_among (λ other. set < other) sets set above among)))

pub sum_by-codes_in_one : (weight : Codes → ℕ) (codes : Codes) (set : ℕ) (sets : List ℕ)
    → ((other : ℕ) → is_among other sets ≡ true → weight (key_in codes other) ≡ (if other == set then 1 else 0))
    → IsStrictlySortedBy nat_cmp sets → is_among set sets ≡ true → sum_by weight (codes_in sets codes) ≡ 1
sum_by-codes_in_one weight codes set [] at_each ascending among = cc among
sum_by-codes_in_one weight codes set (first ∷ sets) at_each ascending among = elim (cases_Bool (first == set)) [
  | inl same ↦
      let is : first ≡ set = eqb-true first set same in
      let here : weight (key_in codes first) ≡ 1 =
      at_each first (first_among first sets) ∙ ap (λ (b : Bool). if b then 1 else 0) same in
      let none : is_among set sets ≡ false = ap (λ (s : ℕ). is_among s sets) (sym is)
      ∙ is_among-below first sets (IsStrictlySortedBy-head first sets ascending) in
      omega (
        arith,
        sum_by-cons weight (key_in codes first) (codes_in sets codes),
        here,
        sum_by-codes_in_none weight codes set sets
            (λ other later. at_each other (later_among first other sets later)) none,
      )
  | inr apart ↦
      let here : weight (key_in codes first) ≡ 0 =
      at_each first (first_among first sets) ∙ ap (λ (b : Bool). if b then 1 else 0) apart in
      omega (
        arith,
        sum_by-cons weight (key_in codes first) (codes_in sets codes),
        here,
        sum_by-codes_in_one weight codes set sets (λ other later. at_each other (later_among first other sets later))
            (IsStrictlySortedBy-tail first sets ascending) (rw apart at among),
      )
]

-- codes in a set weigh 1 in it and 0 in others
pub set_weight-key_in : (dictionaries : Dictionaries) (fact : Fact) (codes : Codes) (set other : ℕ)
    → All IsDictionary dictionaries → HasFactCodes dictionaries fact codes
    → are_codes dictionaries (key_in codes other).codes ≡ true → other < 2 ^ length fact.dims
    → set_weight dictionaries set (key_in codes other) ≡ (if other == set then 1 else 0)
set_weight-key_in dictionaries fact codes set other all has valid below =
    let of_set = HasCodes-covering_key dictionaries fact codes other all has in
    let coords =
    coords_at-AreCodesOf dictionaries (ancestor_of fact.dims other) (key_in codes other).codes of_set.are valid in
    ap (λ (cs : List Coord). if mask_of_coords cs == set then 1 else 0) coords
    ∙ ap (λ (m : ℕ). if m == set then 1 else 0) (mask_of_coords-ancestor_of fact.dims other below)

-- ---- sets have codes of their own
pub coord_of_value-all_code : (texts : List (List ℕ)) (value : Option (List ℕ)) (code : ℕ)
    → IsCodeOf texts (coord_of_value value) code → code ≡ all_code → ⊥
coord_of_value-all_code texts None code of same = cc ((of.alone all_code refl).1 (sym same))
coord_of_value-all_code texts (Some text) code of same = cc ((of.alone all_code refl).1 (sym same))

-- the codes of a fact tell the sets apart
pub kept_codes-injective : (dictionaries : Dictionaries) (values : List (Option (List ℕ))) (codes : List ℕ) (a b : ℕ)
    → AreCodesOf dictionaries (map coord_of_value values) codes → a < 2 ^ length values → b < 2 ^ length values
    → kept_codes a codes ≡ kept_codes b codes → a ≡ b
kept_codes-injective [] [] codes a b are below_a below_b same = omega arith
kept_codes-injective [] (v ∷ values) codes a b are below_a below_b same = absurd are
kept_codes-injective (texts ∷ dictionaries) [] codes a b are below_a below_b same = omega arith
kept_codes-injective (texts ∷ dictionaries) (v ∷ values) [] a b are below_a below_b same = absurd are
kept_codes-injective (texts ∷ dictionaries) (v ∷ values) (x ∷ codes) a b are below_a below_b same =
    let first : (if a % 2 == 1 then x else all_code) ≡ (if b % 2 == 1 then x else all_code) = cc same in
    let rest : kept_codes (a / 2) codes ≡ kept_codes (b / 2) codes = cc same in
    let half : a / 2 ≡ b / 2 = kept_codes-injective dictionaries values codes (a / 2) (b / 2) are.1
    (omega (arith, pow-succ' 2 (length values))) (omega (arith, pow-succ' 2 (length values))) rest in
    bits (a % 2 == 1) (b % 2 == 1) refl refl first half where
      bits : (p q : Bool) → (a % 2 == 1) ≡ p → (b % 2 == 1) ≡ q
          → (if p then x else all_code) ≡ (if q then x else all_code) → a / 2 ≡ b / 2 → a ≡ b
      bits true true odd_a odd_b first half = omega (arith, eqb-true (a % 2) 1 odd_a, eqb-true (b % 2) 1 odd_b, half)
      bits false false odd_a odd_b first half = omega (arith, even a odd_a, even b odd_b, half) where
        even : (n : ℕ) → (n % 2 == 1) ≡ false → n % 2 ≡ 0
        even n apart = elim (cases_order (n % 2) 1) [
          | inl one ↦ absurd (both_ways (n % 2 == 1) apart (eq-eqb (n % 2) 1 one))
          | inr other ↦ omega (arith, other)
        ]
      bits true false odd_a odd_b first half = absurd (coord_of_value-all_code texts v x are.0 first)
      bits false true odd_a odd_b first half = absurd (coord_of_value-all_code texts v x are.0 (sym first))

-- so do their keys
pub codes_in-IsDistinct : (dictionaries : Dictionaries) (fact : Fact) (codes : Codes) (sets : List ℕ)
    → HasFactCodes dictionaries fact codes → IsStrictlySortedBy nat_cmp sets
    → All (λ set. set < 2 ^ length fact.dims) sets → IsDistinct same_codes (codes_in sets codes)
unfolding IsDistinct
codes_in-IsDistinct dictionaries fact codes [] has ascending below = tt
codes_in-IsDistinct dictionaries fact codes (first ∷ sets) has ascending below = (
  recursion_from_All (λ key. same_codes (key_in codes first) key ≡ false) (codes_in sets codes) (others sets
      (IsStrictlySortedBy-head first sets ascending) (All-tail (λ set. set < 2 ^ length fact.dims) first sets below)),
  codes_in-IsDistinct dictionaries fact codes sets has (IsStrictlySortedBy-tail first sets ascending)
      (All-tail (λ set. set < 2 ^ length fact.dims) first sets below),
) where
  apart : (set : ℕ) → first < set → set < 2 ^ length fact.dims
      → same_codes (key_in codes first) (key_in codes set) ≡ false
  apart set above small = false_from_ne_true (same_codes (key_in codes first) (key_in codes set)) (λ same.
      let lists : kept_codes first codes.codes ≡ kept_codes set codes.codes =
      ap (λ (k : Codes). k.codes) (same_codes-exact (key_in codes first) (key_in codes set) same) in
      absurd (omega (
        arith,
        kept_codes-injective dictionaries fact.dims codes.codes first set has.are
            (All-head (λ s. s < 2 ^ length fact.dims) first sets below) small lists,
      )))

  others : (rest : List ℕ) → All (λ other. first < other) rest → All (λ set. set < 2 ^ length fact.dims) rest
      → All (λ key. same_codes (key_in codes first) key ≡ false) (codes_in rest codes)
  others [] above small = All-nil (λ key. same_codes (key_in codes first) key ≡ false)
  others (set ∷ rest) above small =
      All-cons (λ key. same_codes (key_in codes first) key ≡ false) (key_in codes set) (codes_in rest codes) (apart set
      (All-head (λ other. first < other) set rest above) (All-head (λ s. s < 2 ^ length fact.dims) set rest small))
      (others rest (All-tail (λ other. first < other) set rest above)
      (All-tail (λ s. s < 2 ^ length fact.dims) set rest small))
