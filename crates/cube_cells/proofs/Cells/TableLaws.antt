-- Laws of the tables of a cube: what is found in the cells of all levels is found in the level of its set,
-- and what is done in each level is done in all of them.
use Rattle.std.proofs.Common.{◌≡◌, ℕ, zero, suc, ◌+◌, ◌*◌, ◌^◌, ◌<◌, ◌==◌, ◌%◌, ◌/◌, List, [], ◌∷◌, ◌++◌, Bool}
use Rattle.std.proofs.Common.{true, false, refl, sym, ap, ◌∙◌, subst, arith, inl, inr, ◌⊎◌, length, map, get_or, set}
use Rattle.std.proofs.Common.{take, append_assoc, Option, Some, None, if◌then◌else◌}
use Rattle.std.specs.Prelude.{ℤ, All}
use Rattle.std.specs.List.{AllZip, list_all}
use Rattle.std.specs.List.Sorted.{IsStrictlySortedBy}
use Rattle.std.specs.Ordering.{nat_cmp}
use Rattle.std.proofs.lemmas.Bool.{cases_Bool, cases_order, and_parts, or_left, or_right, both_ways, eqb-true, eq-eqb}
use Rattle.std.proofs.lemmas.Bool.{ne_eqb, false_from_ne_true}
use Rattle.std.proofs.lemmas.List.{append-nil, get_or-set_other, get_or-set_same, length-set, take_more}
use Rattle.std.proofs.lemmas.List.Elements.{All-head, All-tail, All-nil, All-cons, All-weaker, All-contains}
use Rattle.std.proofs.lemmas.List.Sums.{sum_by-cons, sum_by-append}
use Rattle.std.proofs.lemmas.Map.Views.{Contains-from_lookup}
use Rattle.std.proofs.Math.Nat.{pow-succ'}
use Rattle.cube_core.specs.GroupingSet.{mask_of_coords, is_among}
use Rattle.cube_cells.specs.Codes.{Dictionaries, IsDictionary, AreCodesOf, is_code, are_codes, coords_at, kept_codes}
use Rattle.cube_cells.specs.Codes.{all_code, coord_of_value}
use Rattle.cube_cells.specs.Coded.{CodedCells, AreNewCells, coded_at, is_total_code, total_codes}
use Rattle.cube_cells.specs.Cube.{AddsAt, SameCell, TakesAt, cell_holds}
use Rattle.cube_cells.specs.Levels.{AreLevelsOf, AddsInLevel, ChangesFirst, HasRoomInLevel, IsNewLevel, IsOfOneSet}
use Rattle.cube_cells.specs.Levels.{SameInLevel, TakesInLevel, cells_of, key_of_level, mask_of_codes, sets_of, table_at}
use Rattle.cube_cells.specs.Tally.{Tally}
use Rattle.cube_cells.specs.Walk.{AddsIn, AreApart, CountMore, SameCoded, TakesIn, codes_in, is_in, key_in}
use Rattle.cube_cells.specs.declared.cube.codes.Codes.{Codes}
use Rattle.cube_cells.specs.declared.cube.levels.Level.{Level}
use Rattle.cube_cells.proofs.Codes.GrowthLaws.{IsStrictlySortedBy-head, IsStrictlySortedBy-tail}
use Rattle.cube_cells.proofs.Codes.GrowthLaws.{coord_of_value-all_code}
use Rattle.cube_cells.proofs.Codes.GrowthLaws.{is_among-below, All-is_among}
use Rattle.cube_cells.proofs.Cells.JoinLaws.{AreApart-nil, AreApart-append, AreApart-append_left, AreApart-append_right}
use Rattle.cube_cells.proofs.Cells.JoinLaws.{coded_at-append, either}
use Rattle.cube_cells.proofs.Cells.KeptLaws.{All-coded_at}
use Rattle.cube_cells.proofs.Codes.KeyLaws.{is_all_coord-coord_at, is_in-set, set_of-is_in}
use Rattle.cube_cells.proofs.Cells.WalkLaws.{AddsIn-TakesIn, SameCell-refl, SameCoded-refl, is_in-one}
use Rattle.cube_cells.proofs.Cells.WalkLaws.{same_codes-IsEquivalence, same_codes-exact, weigh}

-- ---- the mask of codes
mask_of_codes-all : (codes : List ℕ) → list_all (λ code. code == all_code) codes ≡ true → mask_of_codes codes ≡ 0
mask_of_codes-all [] all = refl
mask_of_codes-all (code ∷ codes) all =
    let parts = and_parts (code == all_code) (list_all (λ c. c == all_code) codes) all in
    rw (parts.0, mask_of_codes-all codes parts.1) refl

abbrev bit_of : ℕ → ℕ
bit_of code = if code == all_code then 0 else 1

-- the bits of four codes, and of eight, added up
pub mask_of_codes-four : (first second third fourth a b c d : ℕ) → a ≡ (if first == all_code then 0 else 1)
    → b ≡ (if second == all_code then 0 else 1) → c ≡ (if third == all_code then 0 else 1)
    → d ≡ (if fourth == all_code then 0 else 1)
    → a + 2 * b + 4 * c + 8 * d ≡ mask_of_codes (first ∷ second ∷ third ∷ fourth ∷ [])
mask_of_codes-four first second third fourth a b c d a_is b_is c_is d_is =
    rw (a_is, b_is, c_is, d_is) (four (bit_of first) (bit_of second) (bit_of third) (bit_of fourth))
  where
    four : (a b c d : ℕ) → a + 2 * b + 4 * c + 8 * d ≡ a + 2 * (b + 2 * (c + 2 * (d + 2 * 0)))
    four a b c d = omega arith

sum_of_bits : (a b c d e f g h : ℕ)
    → a + 2 * (b + 2 * (c + 2 * (d + 2 * 0))) + 16 * (e + 2 * (f + 2 * (g + 2 * (h + 2 * 0))))
    ≡ a + 2 * (b + 2 * (c + 2 * (d + 2 * (e + 2 * (f + 2 * (g + 2 * (h + 2 * 0)))))))
sum_of_bits a b c d e f g h = omega arith

pub mask_of_codes-eight : (codes : List ℕ) → length codes ≡ 8
    → mask_of_codes (get_or codes 0 0 ∷ get_or codes 1 0 ∷ get_or codes 2 0 ∷ get_or codes 3 0 ∷ [])
    + 16 * mask_of_codes (get_or codes 4 0 ∷ get_or codes 5 0 ∷ get_or codes 6 0 ∷ get_or codes 7 0 ∷ [])
    ≡ mask_of_codes codes
mask_of_codes-eight [] eight = absurd (omega (arith, eight))
mask_of_codes-eight (a ∷ []) eight = absurd (omega (arith, eight))
mask_of_codes-eight (a ∷ b ∷ []) eight = absurd (omega (arith, eight))
mask_of_codes-eight (a ∷ b ∷ c ∷ []) eight = absurd (omega (arith, eight))
mask_of_codes-eight (a ∷ b ∷ c ∷ d ∷ []) eight = absurd (omega (arith, eight))
mask_of_codes-eight (a ∷ b ∷ c ∷ d ∷ e ∷ []) eight = absurd (omega (arith, eight))
mask_of_codes-eight (a ∷ b ∷ c ∷ d ∷ e ∷ f ∷ []) eight = absurd (omega (arith, eight))
mask_of_codes-eight (a ∷ b ∷ c ∷ d ∷ e ∷ f ∷ g ∷ []) eight = absurd (omega (arith, eight))
mask_of_codes-eight (a ∷ b ∷ c ∷ d ∷ e ∷ f ∷ g ∷ h ∷ []) eight =
    sum_of_bits (bit_of a) (bit_of b) (bit_of c) (bit_of d) (bit_of e) (bit_of f) (bit_of g) (bit_of h)
mask_of_codes-eight (a ∷ b ∷ c ∷ d ∷ e ∷ f ∷ g ∷ h ∷ i ∷ rest) eight = absurd (omega (arith, eight))

-- the codes of values, kept in a set, are of that set
pub mask_of_codes-kept_codes : (dictionaries : Dictionaries) (values : List (Option (List ℕ))) (codes : List ℕ)
    (set : ℕ) → AreCodesOf dictionaries (map coord_of_value values) codes → set < 2 ^ length values
    → mask_of_codes (kept_codes set codes) ≡ set
mask_of_codes-kept_codes [] [] codes set are below = none codes set are (omega (arith, below)) where
  none : (xs : List ℕ) (s : ℕ) → list_all (λ code. code == all_code) xs ≡ true → s ≡ 0
      → mask_of_codes (kept_codes s xs) ≡ s
  none [] s all is = sym is
  none (x ∷ xs) s all is =
      let parts = and_parts (x == all_code) (list_all (λ c. c == all_code) xs) all in
      let rest : mask_of_codes (kept_codes (s / 2) xs) ≡ s / 2 = none xs (s / 2) parts.1 (omega (arith, is)) in
      omega (arith, is, rest, first (s % 2 == 1) parts.0) where
        first : (b : Bool) → (x == all_code) ≡ true → bit_of (if b then x else all_code) ≡ 0
        first true same = rw same refl
        first false same = refl
mask_of_codes-kept_codes [] (v ∷ values) codes set are below = absurd are
mask_of_codes-kept_codes (texts ∷ dictionaries) [] codes set are below = absurd are
mask_of_codes-kept_codes (texts ∷ dictionaries) (v ∷ values) [] set are below = absurd are
mask_of_codes-kept_codes (texts ∷ dictionaries) (v ∷ values) (x ∷ codes) set are below =
    let rest : mask_of_codes (kept_codes (set / 2) codes) ≡ set / 2 = mask_of_codes-kept_codes dictionaries values codes
    (set / 2) are.1 (omega (arith, below, pow-succ' 2 (length values))) in
    first (set % 2 == 1) refl rest where
      apart : (x == all_code) ≡ false
      apart = ne_eqb x all_code (λ same. coord_of_value-all_code texts v x are.0 same)

      even : (n : ℕ) → (n % 2 == 1) ≡ false → n % 2 ≡ 0
      even n other = elim (cases_order (n % 2) 1) [
        | inl one ↦ absurd (both_ways (n % 2 == 1) other (eq-eqb (n % 2) 1 one))
        | inr rest ↦ omega (arith, rest)
      ]

      first : (b : Bool) → (set % 2 == 1) ≡ b → mask_of_codes (kept_codes (set / 2) codes) ≡ set / 2
          → (if (if b then x else all_code) == all_code then 0 else 1) + 2 * mask_of_codes (kept_codes (set / 2) codes)
          ≡ set
      first true odd rest = rw apart (omega (arith, eqb-true (set % 2) 1 odd, rest))
      first false odd rest = omega (arith, even set odd, rest)

-- it is the mask of their coordinates
pub mask_of_coords-mask_of_codes : (dictionaries : Dictionaries) (codes : List ℕ) → All IsDictionary dictionaries
    → are_codes dictionaries codes ≡ true → mask_of_coords (coords_at dictionaries codes) ≡ mask_of_codes codes
mask_of_coords-mask_of_codes [] codes all valid = sym (mask_of_codes-all codes valid)
mask_of_coords-mask_of_codes (texts ∷ dictionaries) [] all valid = cc valid
mask_of_coords-mask_of_codes (texts ∷ dictionaries) (x ∷ codes) all valid =
    let parts = and_parts (is_code texts x) (are_codes dictionaries codes) valid in
    rw (
      is_all_coord-coord_at texts x parts.0 (All-head IsDictionary texts dictionaries all),
      mask_of_coords-mask_of_codes dictionaries codes (All-tail IsDictionary texts dictionaries all) parts.1,
    ) refl

-- ---- look-ups
-- codes of another set aren't found in a level
coded_at-other_set : {N : Type 0} (level : Level N) (q : Codes) → IsOfOneSet level
    → (level.set == mask_of_codes q.codes) ≡ false
    → coded_at level.cells.entries q ≡ None
coded_at-other_set level q one other = by_found (coded_at level.cells.entries q) refl where
  P : Codes × Tally → Type 0
  P cell = mask_of_codes cell.0.codes ≡ level.set

  by_found : (o : Option Tally) → coded_at level.cells.entries q ≡ o → coded_at level.cells.entries q ≡ None
  by_found None is = is
  by_found (Some t) is =
      let same : mask_of_codes q.codes ≡ level.set = All-contains P level.cells.entries (q, t) one
      (Contains-from_lookup same_codes-exact q t level.cells.entries is) in
      absurd
      (both_ways (level.set == mask_of_codes q.codes) other (eq-eqb level.set (mask_of_codes q.codes) (sym same)))

-- nor in any where no level is of their set
coded_at-no_set : {N : Type 0} (levels : List (Level N)) (q : Codes) → All IsOfOneSet levels
    → is_among (mask_of_codes q.codes) (sets_of levels) ≡ false → coded_at (cells_of levels) q ≡ None
coded_at-no_set [] q each none = refl
coded_at-no_set (level ∷ levels) q each none = elim (cases_Bool (level.set == mask_of_codes q.codes)) [
  | inl same ↦ cc (sym (rw same at none))
  | inr other ↦
      let here = coded_at-other_set level q (All-head IsOfOneSet level levels each) other in
      let rest = coded_at-no_set levels q (All-tail IsOfOneSet level levels each) (rw other at none) in
      rw (coded_at-append level.cells.entries (cells_of levels) q, here, rest) refl
]

either-none : (o : Option Tally) → either o None ≡ o
either-none None = refl
either-none (Some t) = refl

-- the sets behind the first one are others
not_among : {N : Type 0} (level : Level N) (levels : List (Level N)) (set : ℕ) → IsStrictlySortedBy nat_cmp
    (sets_of (level ∷ levels))
    → level.set ≡ set → is_among set (sets_of levels) ≡ false
not_among level levels set ascending same =
    subst (λ (s : ℕ). is_among s (sets_of levels) ≡ false) same
    (is_among-below level.set (sets_of levels) (IsStrictlySortedBy-head level.set (sets_of levels) ascending))

-- what is found is found in the level of its set
pub coded_at-table_at : {N : Type 0} (levels : List (Level N)) (q : Codes) → All IsOfOneSet levels
    → IsStrictlySortedBy nat_cmp (sets_of levels) → coded_at (cells_of levels) q ≡ coded_at (table_at levels q) q
coded_at-table_at [] q each ascending = refl
coded_at-table_at (level ∷ levels) q each ascending = elim (cases_Bool (level.set == mask_of_codes q.codes)) [
  | inl same ↦
      let none = coded_at-no_set levels q (All-tail IsOfOneSet level levels each)
      (not_among level levels (mask_of_codes q.codes) ascending (eqb-true level.set (mask_of_codes q.codes) same)) in
      rw (
        coded_at-append level.cells.entries (cells_of levels) q,
        none,
        same,
      ) (either-none (coded_at level.cells.entries q))
  | inr other ↦
      let here = coded_at-other_set level q (All-head IsOfOneSet level levels each) other in
      rw (coded_at-append level.cells.entries (cells_of levels) q, here, other) (coded_at-table_at levels q
      (All-tail IsOfOneSet level levels each) (IsStrictlySortedBy-tail level.set (sets_of levels) ascending))
]

-- what is true of the sets of levels
All-sets_of : {N : Type 0} (P : ℕ → Type 0) (levels : List (Level N)) → All P (sets_of levels) → All
    (λ level. P level.set) levels
All-sets_of {N} P [] all = All-nil (λ level. P level.set)
All-sets_of {N} P (level ∷ levels) all = All-cons (λ (l : Level N). P l.set) level levels
    (All-head P level.set (sets_of levels) all) (All-sets_of P levels (All-tail P level.set (sets_of levels) all))

-- codes have keys of these sets
abbrev pub HasKeysIn : Codes → List ℕ → Type 0
HasKeysIn codes sets = All (λ set. mask_of_codes (key_in codes set).codes ≡ set) sets

-- the key in the set of a level is found there
coded_at-key_of_level : {N : Type 0} (codes : Codes) (levels : List (Level N)) → All IsOfOneSet levels
    → IsStrictlySortedBy nat_cmp (sets_of levels) → HasKeysIn codes (sets_of levels) → All
    (λ level. coded_at (cells_of levels) (key_of_level codes level)
    ≡ coded_at level.cells.entries (key_of_level codes level)) levels
coded_at-key_of_level {N} codes [] each ascending keys =
    All-nil (λ (l : Level N). coded_at [] (key_of_level codes l) ≡ coded_at l.cells.entries (key_of_level codes l))
coded_at-key_of_level {N} codes (level ∷ levels) each ascending keys =
    let K : ℕ → Type 0 = λ set. mask_of_codes (key_in codes set).codes ≡ set in
    let A : ℕ → Type 0 = λ other. level.set < other in
    let later = All-tail IsOfOneSet level levels each in
    let own : mask_of_codes (key_of_level codes level).codes ≡ level.set = All-head K level.set (sets_of levels) keys in
    let none = coded_at-no_set levels (key_of_level codes level) later
    (not_among level levels (mask_of_codes (key_of_level codes level).codes) ascending (sym own)) in
    let head : coded_at (cells_of (level ∷ levels)) (key_of_level codes level)
    ≡ coded_at level.cells.entries (key_of_level codes level) =
    coded_at-append level.cells.entries (cells_of levels) (key_of_level codes level)
    ∙ ap (either (coded_at level.cells.entries (key_of_level codes level))) none
    ∙ either-none (coded_at level.cells.entries (key_of_level codes level)) in
    let others = coded_at-key_of_level codes levels later (IsStrictlySortedBy-tail level.set (sets_of levels) ascending)
    (All-tail K level.set (sets_of levels) keys) in
    let keys_later = All-sets_of K levels (All-tail K level.set (sets_of levels) keys) in
    let above = All-sets_of A levels (IsStrictlySortedBy-head level.set (sets_of levels) ascending) in
    All-cons (λ (l : Level N). coded_at (cells_of (level ∷ levels)) (key_of_level codes l)
    ≡ coded_at l.cells.entries (key_of_level codes l)) level levels head (λ k d inside.
    let q = key_of_level codes (get_or levels k d) in
    let other : (level.set == mask_of_codes q.codes) ≡ false = ne_eqb level.set (mask_of_codes q.codes)
    (λ same. absurd (omega (arith, same, keys_later k d inside, above k d inside))) in
    coded_at-append level.cells.entries (cells_of levels) q
    ∙ ap (λ (o : Option Tally). either o (coded_at (cells_of levels) q))
    (coded_at-other_set level q (All-head IsOfOneSet level levels each) other) ∙ others k d inside)

-- what is true of each key in all cells is true of it in its level
pub All-key_of_level : {N : Type 0} (P : Codes → Option Tally → Type 0) (codes : Codes) (levels : List (Level N))
    → All IsOfOneSet levels
    → IsStrictlySortedBy nat_cmp (sets_of levels) → HasKeysIn codes (sets_of levels)
    → ((key : Codes) → is_in (codes_in (sets_of levels) codes) key ≡ true → P key (coded_at (cells_of levels) key))
    → All (λ level. P (key_of_level codes level) (coded_at level.cells.entries (key_of_level codes level))) levels
All-key_of_level P codes levels each ascending keys found =
    let at = coded_at-key_of_level codes levels each ascending keys in
    let among = All-sets_of (λ set. is_among set (sets_of levels) ≡ true) levels (All-among (sets_of levels)) in
    λ k d inside. subst (P (key_of_level codes (get_or levels k d))) (at k d inside)
    (found (key_of_level codes (get_or levels k d))
    (is_in-set (sets_of levels) codes (get_or levels k d).set (among k d inside)))
  where
    All-among : (sets : List ℕ) → All (λ set. is_among set sets ≡ true) sets
    All-among [] = All-nil (λ set. is_among set [] ≡ true)
    All-among (first ∷ sets) =
        All-cons (λ set. is_among set (first ∷ sets) ≡ true) first sets
        (or_left (first == first) (is_among first sets) (eq-eqb first first refl))
        (All-weaker (λ set. is_among set sets ≡ true) (λ set. is_among set (first ∷ sets) ≡ true)
        (λ set later. or_right (first == set) (is_among set sets) later) sets (All-among sets))

-- a test of each key in its level is one in all cells
pub list_all-key_of_level : {N : Type 0} (f : Option Tally → Bool) (codes : Codes) (levels : List (Level N))
    → All IsOfOneSet levels → IsStrictlySortedBy nat_cmp (sets_of levels) → HasKeysIn codes (sets_of levels)
    → list_all (λ level. f (coded_at level.cells.entries (key_of_level codes level))) levels
    ≡ list_all (λ set. f (coded_at (cells_of levels) (key_in codes set))) (sets_of levels)
list_all-key_of_level {N} f codes levels each ascending keys =
    by_each (cells_of levels) levels (coded_at-key_of_level codes levels each ascending keys)
  where
    by_each : (all : CodedCells) (ls : List (Level N)) → All
        (λ level. coded_at all (key_of_level codes level) ≡ coded_at level.cells.entries (key_of_level codes level)) ls
        → list_all (λ level. f (coded_at level.cells.entries (key_of_level codes level))) ls
        ≡ list_all (λ set. f (coded_at all (key_in codes set))) (sets_of ls)
    by_each all [] at = refl
    by_each all (level ∷ ls) at =
        let P : Level N → Type 0 =
        λ l. coded_at all (key_of_level codes l) ≡ coded_at l.cells.entries (key_of_level codes l) in
        rw (← All-head P level ls at, by_each all ls (All-tail P level ls at)) refl

-- ---- levels that change
-- each level keeps its set, and changes at the key of codes alone
record Steps {N : Type 0} (codes : Codes) (old new : Level N) : Type 0 where
  pub same_set : new.set ≡ old.set
  pub others : (q : Codes) → is_in (key_of_level codes old ∷ []) q ≡ false
      → coded_at new.cells.entries q ≡ coded_at old.cells.entries q
  pub apart : AreApart old.cells.entries → AreApart new.cells.entries

AllZip-weaker : {N : Type 0} (R S : Level N → Level N → Type 0) (xs ys : List (Level N))
    → ((x y : Level N) → R x y → S x y) → AllZip R xs ys
    → AllZip S xs ys
AllZip-weaker R S [] [] each all = tt
AllZip-weaker R S [] (y ∷ ys) each all = absurd all
AllZip-weaker R S (x ∷ xs) [] each all = absurd all
AllZip-weaker R S (x ∷ xs) (y ∷ ys) each all = (each x y all.0, AllZip-weaker R S xs ys each all.1)

sets_of-Steps : {N : Type 0} (codes : Codes) (old new : List (Level N)) → AllZip (Steps codes) old new
    → sets_of new ≡ sets_of old
sets_of-Steps codes [] [] steps = refl
sets_of-Steps codes [] (b ∷ new) steps = absurd steps
sets_of-Steps codes (a ∷ old) [] steps = absurd steps
sets_of-Steps codes (a ∷ old) (b ∷ new) steps = rw (steps.0.same_set, sets_of-Steps codes old new steps.1) refl

-- its cells stay cells of its set
IsOfOneSet-Steps : {N : Type 0} (codes : Codes) (old new : Level N) → mask_of_codes
    (key_of_level codes old).codes ≡ old.set
    → Steps codes old new → IsOfOneSet old → AreApart old.cells.entries → IsOfOneSet new
IsOfOneSet-Steps codes old new own steps one apart = All-coded_at P new.cells.entries
    (steps.apart apart) (λ q t found. elim (cases_Bool (is_in (key_of_level codes old ∷ []) q)) [
      | inl inside ↦ ap (λ (k : Codes). mask_of_codes k.codes) (is_in-one (key_of_level codes old) q inside) ∙ own
          ∙ sym steps.same_set
      | inr outside ↦ All-contains Q old.cells.entries (q, t) one
          (Contains-from_lookup same_codes-exact q t old.cells.entries (sym (steps.others q outside) ∙ found))
          ∙ sym steps.same_set
    ]) where
      P : Codes × Tally → Type 0
      P cell = mask_of_codes cell.0.codes ≡ new.set

      Q : Codes × Tally → Type 0
      Q cell = mask_of_codes cell.0.codes ≡ old.set

All-IsOfOneSet-Steps : {N : Type 0} (codes : Codes) (old new : List (Level N)) → HasKeysIn codes (sets_of old)
    → AllZip (Steps codes) old new → All IsOfOneSet old → AreApart (cells_of old) → All IsOfOneSet new
All-IsOfOneSet-Steps codes [] [] keys steps each apart = All-nil IsOfOneSet
All-IsOfOneSet-Steps codes [] (b ∷ new) keys steps each apart = absurd steps
All-IsOfOneSet-Steps codes (a ∷ old) [] keys steps each apart = absurd steps
All-IsOfOneSet-Steps codes (a ∷ old) (b ∷ new) keys steps each apart =
    let K : ℕ → Type 0 = λ set. mask_of_codes (key_in codes set).codes ≡ set in
    All-cons IsOfOneSet b new
    (IsOfOneSet-Steps codes a b (All-head K a.set (sets_of old) keys) steps.0 (All-head IsOfOneSet a old each)
    (AreApart-append_left a.cells.entries (cells_of old) apart))
    (All-IsOfOneSet-Steps codes old new (All-tail K a.set (sets_of old) keys) steps.1 (All-tail IsOfOneSet a old each)
    (AreApart-append_right a.cells.entries (cells_of old) apart))

-- the codes of all cells differ where those of each level do
AreApart-cells_of : {N : Type 0} (levels : List (Level N)) → All IsOfOneSet levels → IsStrictlySortedBy nat_cmp
    (sets_of levels)
    → All (λ level. AreApart level.cells.entries) levels → AreApart (cells_of levels)
AreApart-cells_of {N} [] each ascending all = AreApart-nil
AreApart-cells_of {N} (level ∷ levels) each ascending all =
    let A : Level N → Type 0 = λ l. AreApart l.cells.entries in
    let one = All-head IsOfOneSet level levels each in
    AreApart-append level.cells.entries (cells_of levels) (All-head A level levels all)
    (AreApart-cells_of levels (All-tail IsOfOneSet level levels each)
    (IsStrictlySortedBy-tail level.set (sets_of levels) ascending) (All-tail A level levels all))
    (λ k d inside. coded_at-no_set levels (get_or level.cells.entries k d).0 (All-tail IsOfOneSet level levels each)
    (not_among level levels (mask_of_codes (get_or level.cells.entries k d).0.codes) ascending (sym (one k d inside))))

AreApart-Steps : {N : Type 0} (codes : Codes) (old new : List (Level N)) → AllZip (Steps codes) old new
    → AreApart (cells_of old)
    → All (λ level. AreApart level.cells.entries) new
AreApart-Steps codes [] [] steps apart = All-nil (λ level. AreApart level.cells.entries)
AreApart-Steps codes [] (b ∷ new) steps apart = absurd steps
AreApart-Steps codes (a ∷ old) [] steps apart = absurd steps
AreApart-Steps codes (a ∷ old) (b ∷ new) steps apart =
    All-cons (λ level. AreApart level.cells.entries) b new
    (steps.0.apart (AreApart-append_left a.cells.entries (cells_of old) apart))
    (AreApart-Steps codes old new steps.1 (AreApart-append_right a.cells.entries (cells_of old) apart))

-- the levels stay levels of the sets, and all codes differ
AreLevelsOf-Steps : {N : Type 0} (codes : Codes) (sets : List ℕ) (old new : List (Level N))
    → IsStrictlySortedBy nat_cmp sets
    → HasKeysIn codes sets → AreLevelsOf sets old → AreApart (cells_of old) → AllZip (Steps codes) old new
    → AreLevelsOf sets new × AreApart (cells_of new)
AreLevelsOf-Steps codes sets old new ascending keys are apart steps =
    let each : All IsOfOneSet new = All-IsOfOneSet-Steps codes old new (rw are.sets_are keys) steps are.each apart in
    let same : sets_of new ≡ sets = sets_of-Steps codes old new steps ∙ are.sets_are in (
      record { sets_are = same; each = each },
      AreApart-cells_of new each (rw same ascending) (AreApart-Steps codes old new steps apart),
    )

-- the level of codes before and after
table_at-AllZip : {N : Type 0} (R : Level N → Level N → Type 0) (old new : List (Level N)) (q : Codes)
    → ((a b : Level N) → R a b → b.set ≡ a.set) → AllZip R old new →
    ((a : Level N) × (b : Level N) × R a b × (a.set ≡ mask_of_codes q.codes) × (is_among a.set (sets_of old) ≡ true)
    × (table_at old q ≡ a.cells.entries) × (table_at new q ≡ b.cells.entries))
    ⊎ ((is_among (mask_of_codes q.codes) (sets_of old) ≡ false) × (table_at new q ≡ table_at old q))
table_at-AllZip R [] [] q same all = inr (refl, refl)
table_at-AllZip R [] (b ∷ new) q same all = absurd all
table_at-AllZip R (a ∷ old) [] q same all = absurd all
table_at-AllZip R (a ∷ old) (b ∷ new) q same all = elim (cases_Bool (a.set == mask_of_codes q.codes)) [
  | inl here ↦ inl (
    a,
    b,
    all.0,
    eqb-true a.set (mask_of_codes q.codes) here,
    or_left (a.set == a.set) (is_among a.set (sets_of old)) (eq-eqb a.set a.set refl),
    rw here refl,
    rw (same a b all.0, here) refl,
  )
  | inr other ↦ elim (table_at-AllZip R old new q same all.1) [
    | inl found ↦ inl (
      found.0,
      found.1,
      found.2,
      found.3,
      or_right (a.set == found.0.set) (is_among found.0.set (sets_of old)) found.4,
      rw other found.5,
      rw (same a b all.0, other) found.6,
    )
    | inr none ↦ inr (rw other none.0, rw (same a b all.0, other) none.1)
  ]
]

-- codes among the keys are the key of the level of their set
is_in-key_of_level : {N : Type 0} (codes : Codes) (sets : List ℕ) (q : Codes) (level : Level N) → HasKeysIn codes sets
    → level.set ≡ mask_of_codes q.codes → is_in (codes_in sets codes) q ≡ true
    → is_in (key_of_level codes level ∷ []) q ≡ true
is_in-key_of_level codes sets q level keys own inside =
    let found = set_of-is_in sets codes q inside in
    let set : mask_of_codes q.codes ≡ found.0 = ap (λ (k : Codes). mask_of_codes k.codes) found.2
    ∙ All-is_among (λ s. mask_of_codes (key_in codes s).codes ≡ s) sets found.0 keys found.1 in
    let key : q ≡ key_of_level codes level = found.2 ∙ ap (key_in codes) (sym (own ∙ set)) in
    subst (λ (k : Codes). is_in (k ∷ []) q ≡ true) key (or_left _ false (same_codes-IsEquivalence.refl q))

-- and others aren't
is_in-no_key : {N : Type 0} (codes : Codes) (sets : List ℕ) (q : Codes) (level : Level N)
    → is_among level.set sets ≡ true
    → is_in (codes_in sets codes) q ≡ false → is_in (key_of_level codes level ∷ []) q ≡ false
is_in-no_key codes sets q level among outside = false_from_ne_true (is_in (key_of_level codes level ∷ []) q) (λ one.
    both_ways (is_in (codes_in sets codes) q) outside
    (ap (is_in (codes_in sets codes)) (is_in-one (key_of_level codes level) q one)
    ∙ is_in-set sets codes level.set among))

-- codes of no level are no key
no_key : (codes : Codes) (sets : List ℕ) (q : Codes) → HasKeysIn codes sets
    → is_among (mask_of_codes q.codes) sets ≡ false → is_in (codes_in sets codes) q ≡ true → ⊥
no_key codes sets q keys none inside =
    let found = set_of-is_in sets codes q inside in
    let set : mask_of_codes q.codes ≡ found.0 = ap (λ (k : Codes). mask_of_codes k.codes) found.2
    ∙ All-is_among (λ s. mask_of_codes (key_in codes s).codes ≡ s) sets found.0 keys found.1 in
    both_ways (is_among (mask_of_codes q.codes) sets) none (ap (λ (s : ℕ). is_among s sets) set ∙ found.1)

-- levels before and after a change, each of one set
record AreStepped {N : Type 0} (codes : Codes) (sets : List ℕ) (old new : List (Level N)) : Type 0 where
  pub ascending : IsStrictlySortedBy nat_cmp sets
  pub keys : HasKeysIn codes sets
  pub before : AreLevelsOf sets old
  pub after : AreLevelsOf sets new

-- what holds at the key of each level holds at the keys
lift-at : {N : Type 0} (P : Codes → Option Tally → Option Tally → Type 0) (R : Level N → Level N → Type 0)
    (codes : Codes)
    (sets : List ℕ) (old new : List (Level N)) → AreStepped codes sets old new
    → ((a b : Level N) → R a b → b.set ≡ a.set) →
    ((a b : Level N) → R a b → (q : Codes) → is_in (key_of_level codes a ∷ []) q ≡ true
    → P q (coded_at a.cells.entries q) (coded_at b.cells.entries q)) → AllZip R old new → (q : Codes)
    → is_in (codes_in sets codes) q ≡ true → P q (coded_at (cells_of old) q) (coded_at (cells_of new) q)
lift-at P R codes sets old new are same at all q inside = elim (table_at-AllZip R old new q same all) [
  | inl found ↦
      let before : coded_at (cells_of old) q ≡ coded_at found.0.cells.entries q =
      coded_at-table_at old q are.before.each (rw are.before.sets_are are.ascending)
      ∙ ap (λ (cells : CodedCells). coded_at cells q) found.5 in
      let after : coded_at (cells_of new) q ≡ coded_at found.1.cells.entries q =
      coded_at-table_at new q are.after.each (rw are.after.sets_are are.ascending)
      ∙ ap (λ (cells : CodedCells). coded_at cells q) found.6 in
      rw (before, after)
      (at found.0 found.1 found.2 q (is_in-key_of_level codes sets q found.0 are.keys found.3 inside))
  | inr none ↦ absurd (no_key codes sets q are.keys (rw are.before.sets_are at none.0) inside)
]

-- and every other cell stays where it does so in each level
lift-others : {N : Type 0} (R : Level N → Level N → Type 0) (codes : Codes) (sets : List ℕ) (old new : List (Level N))
    → AreStepped codes sets old new → ((a b : Level N) → R a b → b.set ≡ a.set) →
    ((a b : Level N) → R a b → (q : Codes) → is_in (key_of_level codes a ∷ []) q ≡ false
    → coded_at b.cells.entries q ≡ coded_at a.cells.entries q) → AllZip R old new → (q : Codes)
    → is_in (codes_in sets codes) q ≡ false → coded_at (cells_of new) q ≡ coded_at (cells_of old) q
lift-others R codes sets old new are same others all q outside =
    let before : coded_at (cells_of old) q ≡ coded_at (table_at old q) q =
    coded_at-table_at old q are.before.each (rw are.before.sets_are are.ascending) in
    let after : coded_at (cells_of new) q ≡ coded_at (table_at new q) q =
    coded_at-table_at new q are.after.each (rw are.after.sets_are are.ascending) in
    elim (table_at-AllZip R old new q same all) [
      | inl found ↦ rw (before, after, found.5, found.6) (others found.0 found.1 found.2 q
          (is_in-no_key codes sets q found.0 (rw are.before.sets_are at found.4) outside))
      | inr none ↦ rw (before, after) (ap (λ (cells : CodedCells). coded_at cells q) none.1)
    ]

-- what counts more in a level and in the others counts more in all of them
CountMore-level : (facts : ℕ) (k : Codes) (keys : List Codes) (a b old new : CodedCells) → CountMore facts (k ∷ []) a b
    → CountMore facts keys old new → CountMore facts (k ∷ keys) (a ++ old) (b ++ new)
CountMore-level facts k keys a b old new here others = λ weight. omega (
  arith,
  sum_by-append (weigh weight) a old,
  sum_by-append (weigh weight) b new,
  here weight,
  others weight,
  ap (λ n. n * facts) (sum_by-cons weight k keys),
)

-- ---- a fact more
Steps-AddsInLevel : {N : Type 0} (codes : Codes) (values : List (Option ℤ)) (a b : Level N)
    → AddsInLevel codes values a b
    → Steps codes a b
Steps-AddsInLevel codes values a b adds =
    record { same_set = adds.same_set; others = adds.adds.others; apart = adds.apart }

CountMore-AddsInLevel : {N : Type 0} (codes : Codes) (values : List (Option ℤ)) (old new : List (Level N))
    → AllZip (AddsInLevel codes values) old new → CountMore 1 (codes_in (sets_of old) codes)
    (cells_of old) (cells_of new)
CountMore-AddsInLevel codes values [] [] all = λ weight. refl
CountMore-AddsInLevel codes values [] (b ∷ new) all = absurd all
CountMore-AddsInLevel codes values (a ∷ old) [] all = absurd all
CountMore-AddsInLevel codes values (a ∷ old) (b ∷ new) all =
    CountMore-level 1 (key_of_level codes a) (codes_in (sets_of old) codes) a.cells.entries b.cells.entries
    (cells_of old) (cells_of new) all.0.adds.counts_more (CountMore-AddsInLevel codes values old new all.1)

pub AddsIn-AddsInLevel : {N : Type 0} (codes : Codes) (values : List (Option ℤ)) (sets : List ℕ)
    (old new : List (Level N))
    → IsStrictlySortedBy nat_cmp sets → HasKeysIn codes sets → AreLevelsOf sets old → AreApart (cells_of old)
    → AllZip (AddsInLevel codes values) old new
    → AreLevelsOf sets new × AreApart (cells_of new) × AddsIn (codes_in sets codes) values (cells_of old) (cells_of new)
AddsIn-AddsInLevel {N} codes values sets old new ascending keys are apart all =
    let R : Level N → Level N → Type 0 = AddsInLevel codes values in
    let after = AreLevelsOf-Steps codes sets old new ascending keys are apart
    (AllZip-weaker R (Steps codes) old new (Steps-AddsInLevel codes values) all) in
    let stepped : AreStepped codes sets old new =
    record { ascending = ascending; keys = keys; before = are; after = after.0 } in (
      after.0,
      after.1,
      record {
        added = lift-at (λ q o n. AddsAt values o n) R codes sets old new stepped (λ a b adds. adds.same_set)
            (λ a b adds. adds.adds.added) all;
        held = lift-at (λ q o n. cell_holds values n ≡ true) R codes sets old new stepped (λ a b adds. adds.same_set)
            (λ a b adds. adds.adds.held) all;
        others =
            lift-others R codes sets old new stepped (λ a b adds. adds.same_set) (λ a b adds. adds.adds.others) all;
        counts_more = rw are.sets_are at (CountMore-AddsInLevel codes values old new all);
      },
    )

-- ---- a fact less
Steps-TakesInLevel : {N : Type 0} (codes : Codes) (values : List (Option ℤ)) (a b : Level N)
    → TakesInLevel codes values a b
    → Steps codes a b
Steps-TakesInLevel codes values a b takes =
    record { same_set = takes.same_set; others = takes.takes.others; apart = takes.apart }

CountMore-TakesInLevel : {N : Type 0} (codes : Codes) (values : List (Option ℤ)) (old new : List (Level N))
    → AllZip (TakesInLevel codes values) old new → CountMore 1 (codes_in (sets_of old) codes)
    (cells_of new) (cells_of old)
CountMore-TakesInLevel codes values [] [] all = λ weight. refl
CountMore-TakesInLevel codes values [] (b ∷ new) all = absurd all
CountMore-TakesInLevel codes values (a ∷ old) [] all = absurd all
CountMore-TakesInLevel codes values (a ∷ old) (b ∷ new) all =
    CountMore-level 1 (key_of_level codes a) (codes_in (sets_of old) codes) b.cells.entries a.cells.entries
    (cells_of new) (cells_of old) all.0.takes.counts_less (CountMore-TakesInLevel codes values old new all.1)

pub TakesIn-TakesInLevel : {N : Type 0} (codes : Codes) (values : List (Option ℤ)) (sets : List ℕ)
    (old new : List (Level N))
    → IsStrictlySortedBy nat_cmp sets → HasKeysIn codes sets → AreLevelsOf sets old → AreApart (cells_of old)
    → AllZip (TakesInLevel codes values) old new → AreLevelsOf sets new × AreApart (cells_of new)
    × TakesIn (codes_in sets codes) values (cells_of old) (cells_of new)
TakesIn-TakesInLevel {N} codes values sets old new ascending keys are apart all =
    let R : Level N → Level N → Type 0 = TakesInLevel codes values in
    let after = AreLevelsOf-Steps codes sets old new ascending keys are apart
    (AllZip-weaker R (Steps codes) old new (Steps-TakesInLevel codes values) all) in
    let stepped : AreStepped codes sets old new =
    record { ascending = ascending; keys = keys; before = are; after = after.0 } in (
      after.0,
      after.1,
      record {
        taken = lift-at (λ q o n. TakesAt (is_total_code q) values o n) R codes sets old new stepped
            (λ a b takes. takes.same_set) (λ a b takes. takes.takes.taken) all;
        others = lift-others R codes sets old new stepped (λ a b takes. takes.same_set)
            (λ a b takes. takes.takes.others) all;
        counts_less = rw are.sets_are at (CountMore-TakesInLevel codes values old new all);
      },
    )

-- ---- the same counts
Steps-SameInLevel : {N : Type 0} (codes : Codes) (a b : Level N) → SameInLevel codes a b → Steps codes a b
Steps-SameInLevel codes a b same = record { same_set = same.same_set; others = same.same.others; apart = same.apart }

CountMore-SameInLevel : {N : Type 0} (codes : Codes) (old new : List (Level N)) → AllZip (SameInLevel codes) old new
    → CountMore 0 (codes_in (sets_of old) codes) (cells_of old) (cells_of new)
CountMore-SameInLevel codes [] [] all = λ weight. refl
CountMore-SameInLevel codes [] (b ∷ new) all = absurd all
CountMore-SameInLevel codes (a ∷ old) [] all = absurd all
CountMore-SameInLevel codes (a ∷ old) (b ∷ new) all =
    CountMore-level 0 (key_of_level codes a) (codes_in (sets_of old) codes) a.cells.entries b.cells.entries
    (cells_of old) (cells_of new) all.0.same.counts_same (CountMore-SameInLevel codes old new all.1)

pub SameCoded-SameInLevel : {N : Type 0} (codes : Codes) (sets : List ℕ) (old new : List (Level N))
    → IsStrictlySortedBy nat_cmp sets
    → HasKeysIn codes sets → AreLevelsOf sets old → AreApart (cells_of old) → AllZip (SameInLevel codes) old new
    → AreLevelsOf sets new × AreApart (cells_of new) × SameCoded (codes_in sets codes) (cells_of old) (cells_of new)
SameCoded-SameInLevel {N} codes sets old new ascending keys are apart all =
    let R : Level N → Level N → Type 0 = SameInLevel codes in
    let after = AreLevelsOf-Steps codes sets old new ascending keys are apart
    (AllZip-weaker R (Steps codes) old new (Steps-SameInLevel codes) all) in
    let stepped : AreStepped codes sets old new =
    record { ascending = ascending; keys = keys; before = are; after = after.0 } in
    let others =
    lift-others R codes sets old new stepped (λ a b same. same.same_set) (λ a b same. same.same.others) all in (
      after.0,
      after.1,
      record {
        cells = λ q. elim (cases_Bool (is_in (codes_in sets codes) q)) [
          | inl inside ↦ lift-at (λ q o n. SameCell o n) R codes sets old new stepped (λ a b same. same.same_set)
              (λ a b same key inside. same.same.cells key) all q inside
          | inr outside ↦ rw (others q outside) (SameCell-refl (coded_at (cells_of old) q))
        ];
        others = others;
        counts_same = rw are.sets_are at (CountMore-SameInLevel codes old new all);
      },
    )

-- ---- the first levels
AllZip-from_get_or : {N : Type 0} (R : Level N → Level N → Type 0) (old new : List (Level N))
    → length new ≡ length old
    → ((i : ℕ) (d : Level N) → i < length old → R (get_or old i d) (get_or new i d)) → AllZip R old new
AllZip-from_get_or R [] [] long each = tt
AllZip-from_get_or R [] (b ∷ new) long each = absurd (omega (arith, long))
AllZip-from_get_or R (a ∷ old) [] long each = absurd (omega (arith, long))
AllZip-from_get_or R (a ∷ old) (b ∷ new) long each = (
  each zero a (omega arith),
  AllZip-from_get_or R old new (omega (arith, long)) (λ i d inside. each (suc i) d (omega (arith, inside))),
)

-- all of them
pub AllZip-ChangesFirst : {N : Type 0} (R : Level N → Level N → Type 0) (old new : List (Level N)) (number : ℕ)
    → number ≡ length old
    → ChangesFirst R number old new → AllZip R old new
AllZip-ChangesFirst R old new number whole changes =
    AllZip-from_get_or R old new changes.same_length (λ i d inside. changes.changed i d (omega (arith, inside, whole)))

-- a fact that was added in a level and taken again
SameInLevel-AddsInLevel : {N : Type 0} (codes : Codes) (values : List (Option ℤ)) (a b c : Level N)
    → HasRoomInLevel codes values a
    → AddsInLevel codes values a b → TakesInLevel codes values b c → SameInLevel codes a c
SameInLevel-AddsInLevel codes values a b c room adds takes = record {
  same_set = takes.same_set ∙ adds.same_set;
  same = AddsIn-TakesIn (key_of_level codes a) values a.cells.entries b.cells.entries c.cells.entries room adds.adds
      (rw adds.same_set at takes.takes);
  apart = λ apart. takes.apart (adds.apart apart);
}

SameInLevel-refl : {N : Type 0} (codes : Codes) (a b : Level N) → b ≡ a → SameInLevel codes a b
SameInLevel-refl codes a b is = subst (SameInLevel codes a) (sym is) (record {
  same_set = refl;
  same = SameCoded-refl (key_of_level codes a ∷ []) a.cells.entries a.cells.entries refl;
  apart = λ apart. apart;
})

-- a refusal in a level, after which the fact is taken from those before it
pub AllZip-refused : {N : Type 0} (codes : Codes) (values : List (Option ℤ)) (number : ℕ)
    (old now new : List (Level N)) (next : Level N)
    → number < length old → All (HasRoomInLevel codes values) old
    → ChangesFirst (AddsInLevel codes values) number old now
    → ((d : Level N) → SameInLevel codes (get_or now number d) next)
    → ChangesFirst (TakesInLevel codes values) number (set now number next) new → AllZip (SameInLevel codes) old new
AllZip-refused codes values number old now new next inside room adds refused takes =
    AllZip-from_get_or (SameInLevel codes) old new
    (takes.same_length ∙ length-set now number next ∙ adds.same_length) (λ i d within. elim (cases_order i number) [
      | inl here ↦
          let at : get_or new i d ≡ next =
          takes.others i d (omega (arith, here)) ∙ ap (λ (k : ℕ). get_or (set now number next) k d) here
          ∙ get_or-set_same now number next d (omega (arith, inside, adds.same_length)) in
          let was : get_or old i d ≡ get_or now number d =
          ap (λ (k : ℕ). get_or old k d) here ∙ sym (adds.others number d (omega arith)) in
          rw (at, was) (refused d)
      | inr rest ↦ elim rest [
        | inl less ↦
            let same : get_or (set now number next) i d ≡ get_or now i d =
            get_or-set_other now number i next d (λ is. absurd (omega (arith, is, less))) in
            SameInLevel-AddsInLevel codes values (get_or old i d) (get_or now i d) (get_or new i d) (room i d within)
            (adds.changed i d less) (rw same at (takes.changed i d less))
        | inr more ↦
            let same : get_or (set now number next) i d ≡ get_or now i d =
            get_or-set_other now number i next d (λ is. absurd (omega (arith, is, more))) in
            SameInLevel-refl codes (get_or old i d) (get_or new i d)
            (takes.others i d (omega (arith, more)) ∙ same ∙ adds.others i d (omega (arith, more)))
      ]
    ])

-- the cells of the levels up to a place and at it
cells_of-append : {N : Type 0} (a b : List (Level N)) → cells_of (a ++ b) ≡ cells_of a ++ cells_of b
cells_of-append [] b = refl
cells_of-append (level ∷ a) b = ap (λ (cells : CodedCells). level.cells.entries ++ cells) (cells_of-append a b)
    ∙ sym (append_assoc level.cells.entries (cells_of a) (cells_of b))

pub cells_of-take_more : {N : Type 0} (levels : List (Level N)) (i : ℕ) (d : Level N) → i < length levels
    → cells_of (take (i + 1) levels) ≡ cells_of (take i levels) ++ (get_or levels i d).cells.entries
cells_of-take_more levels i d inside =
    ap cells_of (take_more levels i d inside)
    ∙ cells_of-append (take i levels) (get_or levels i d ∷ [])
    ∙ ap (λ (cells : CodedCells). cells_of (take i levels) ++ cells) (append-nil (get_or levels i d).cells.entries)

-- ---- new levels
cells_of-none : {N : Type 0} (measures : ℕ) (sets : List ℕ) (levels : List (Level N)) → AllZip
    (IsNewLevel measures) sets levels
    → All (λ set. 0 < set) sets → cells_of levels ≡ []
cells_of-none measures [] [] new above = refl
cells_of-none measures [] (level ∷ levels) new above = absurd new
cells_of-none measures (set ∷ sets) [] new above = absurd new
cells_of-none measures (set ∷ sets) (level ∷ levels) new above =
    let P : ℕ → Type 0 = λ s. 0 < s in
    let here : level.cells.entries ≡ [] =
    new.0.new.none (ne_eqb set 0 (λ same. absurd (omega (arith, same, All-head P set sets above)))) in
    rw (here, cells_of-none measures sets levels new.1 (All-tail P set sets above)) refl

append-none : (a b : CodedCells) → b ≡ [] → a ++ b ≡ a
append-none [] b none = none
append-none (e ∷ a) b none = ap (λ (cells : CodedCells). e ∷ cells) (append-none a b none)

pub AreNewCells-IsNewLevel : {N : Type 0} (measures : ℕ) (sets : List ℕ) (levels : List (Level N))
    → IsStrictlySortedBy nat_cmp sets
    → AllZip (IsNewLevel measures) sets levels → AreNewCells (is_among 0 sets) measures (cells_of levels)
AreNewCells-IsNewLevel measures [] [] ascending new = record { none = λ _. refl; total = λ never. cc never }
AreNewCells-IsNewLevel measures [] (level ∷ levels) ascending new = absurd new
AreNewCells-IsNewLevel measures (set ∷ sets) [] ascending new = absurd new
AreNewCells-IsNewLevel measures (set ∷ sets) (level ∷ levels) ascending new = elim (cases_Bool (set == 0)) [
  | inl zero_set ↦
      let above : All (λ other. 0 < other) sets = All-weaker (λ other. set < other) (λ other. 0 < other)
      (λ other more. omega (arith, more)) sets (IsStrictlySortedBy-head set sets ascending) in
      let alone : cells_of (level ∷ levels) ≡ level.cells.entries =
      append-none level.cells.entries (cells_of levels) (cells_of-none measures sets levels new.1 above) in
      rw (alone, zero_set) (rw zero_set at new.0.new)
  | inr other ↦
      let here : level.cells.entries ≡ [] = new.0.new.none other in
      rw (here, other) (AreNewCells-IsNewLevel measures sets levels (IsStrictlySortedBy-tail set sets ascending) new.1)
]

pub AreLevelsOf-IsNewLevel : {N : Type 0} (measures : ℕ) (sets : List ℕ) (levels : List (Level N))
    → AllZip (IsNewLevel measures) sets levels → AreLevelsOf sets levels
AreLevelsOf-IsNewLevel measures [] [] new = record { sets_are = refl; each = All-nil IsOfOneSet }
AreLevelsOf-IsNewLevel measures [] (level ∷ levels) new = absurd new
AreLevelsOf-IsNewLevel measures (set ∷ sets) [] new = absurd new
AreLevelsOf-IsNewLevel measures (set ∷ sets) (level ∷ levels) new =
    let rest = AreLevelsOf-IsNewLevel measures sets levels new.1 in
    let P : Codes × Tally → Type 0 = λ cell. mask_of_codes cell.0.codes ≡ level.set in
    record {
      sets_are = rw (new.0.set_is, rest.sets_are) refl;
      each = All-cons IsOfOneSet level levels
          (elim (cases_Bool (set == 0)) [
            | inl zero_set ↦
                let one = new.0.new.total zero_set in
                rw one.1 (All-cons P (total_codes, one.0) [] (sym (new.0.set_is ∙ eqb-true set 0 zero_set)) (All-nil P))
            | inr other ↦ rw (new.0.new.none other) (All-nil P)
          ])
          rest.each;
    }
