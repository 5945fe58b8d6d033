-- Laws of the cells of a bottom-up walk over finest cells: what is found at codes, part by part.
use Rattle.std.proofs.Common.{◌≡◌, ℕ, zero, suc, ◌+◌, ◌*◌, ◌<◌, ◌≤◌, ◌==◌, ◌%◌, ◌/◌, List, [], ◌∷◌, Bool, true, false}
use Rattle.std.proofs.Common.{Option, Some, None, refl, sym, ap, ◌∙◌, subst, arith, inl, inr, ◌⊎◌, length, get_or, set}
use Rattle.std.proofs.Common.{if◌then◌else◌}
use Rattle.std.specs.Prelude.{All}
use Rattle.std.specs.Cmp.Lexicographic.{slice_cmp}
use Rattle.std.specs.List.{AllByRecursion, IsDistinct}
use Rattle.std.specs.List.Sorted.{IsStrictlySortedBy}
use Rattle.std.specs.Map.{keys_of}
use Rattle.std.specs.Ordering.{nat_cmp}
use Rattle.std.specs.declared.cmp.Ordering.TheVariants.{Less, Equal}
use Rattle.std.proofs.lemmas.Bool.{both_ways, cases_lt, cond-false, cond-true, eqb-true, eq-eqb, false_from_ne_true}
use Rattle.std.proofs.lemmas.Cmp.{nat_list_cmp_total, tied_itself}
use Rattle.std.proofs.lemmas.List.{ext_get_or, get_or-set_same, get_or-set_other, length-set}
use Rattle.std.proofs.lemmas.List.Elements.{All-head, All-tail}
use Rattle.std.proofs.lemmas.List.Sums.{get_or-le-sum_by, sum_by-cons}
use Rattle.cube_values.specs.Bag.{held_of}
use Rattle.cube_cells.specs.BottomUp.{IsFree, IsItem, IsPart, IsWalkOf, all_at, codes_cmp, only, spread, weigh}
use Rattle.cube_cells.specs.Codes.{all_code, kept_codes}
use Rattle.cube_cells.specs.Coded.{CodedCells, coded_at, same_codes}
use Rattle.cube_cells.specs.Levels.{mask_of_codes}
use Rattle.cube_cells.specs.Tally.{Tally, bag_at}
use Rattle.cube_cells.specs.Walk.{AreApart, key_in}
use Rattle.cube_cells.specs.declared.cube.codes.Codes.{Codes}
use Rattle.cube_cells.proofs.Cells.WalkLaws.{same_codes-exact}

-- ---- parts of a tally
pub IsPart-facts : IsPart (λ t. t.facts)
IsPart-facts = record { adds = λ old new more plus. plus.facts }

pub IsPart-held : (m : ℕ) (x : _) → IsPart (λ t. held_of (bag_at t.bags m) x)
IsPart-held m x = record { adds = λ old new more plus. (plus.bags.each m).held x }

-- ---- what weighs nothing
-- 0 where a test passes
abbrev none_if : Bool → ℕ
none_if b = if b then 0 else 1

pub weigh-none : (weight : Codes → ℕ) (part : Tally → ℕ) (cells : CodedCells) → All (λ cell. weight cell.0 ≡ 0) cells
    → weigh weight part cells ≡ 0
weigh-none weight part [] none = refl
weigh-none weight part (cell ∷ cells) none =
    let P : Codes × Tally → Type 0 = λ c. weight c.0 ≡ 0 in
    omega (
      arith,
      sum_by-cons (λ (c : Codes × Tally). weight c.0 * part c.1) cell cells,
      ap (λ (n : ℕ). n * part cell.1) (All-head P cell cells none),
      weigh-none weight part cells (All-tail P cell cells none),
    )

no_product : (a b : ℕ) → a * b ≡ 0 → 0 < b → a ≡ 0
no_product zero b none some = refl
no_product (suc a) zero none some = absurd (omega (arith, some))
no_product (suc a) (suc b) none some = absurd (omega (arith, none))

-- where the spread of items weighs nothing, no cell does
pub All-weightless : (is_kept : Codes → Bool) (measures left from : ℕ) (weight : Codes → ℕ) (items cells : CodedCells)
    → IsWalkOf is_kept left from items cells → All (IsItem measures) items
    → All (λ item. spread (only is_kept weight) left from item.0 ≡ 0) items → All (λ cell. weight cell.0 ≡ 0) cells
All-weightless is_kept measures left from weight items cells walk each none k d inside =
    let all : weigh weight (λ t. t.facts) cells ≡ 0 = walk.weighs (λ t. t.facts) IsPart-facts weight
    ∙ weigh-none (spread (only is_kept weight) left from) (λ t. t.facts) items none in
    let one : weight (get_or cells k d).0 * (get_or cells k d).1.facts ≤ weigh weight (λ t. t.facts) cells =
    get_or-le-sum_by (λ (c : Codes × Tally). weight c.0 * c.1.facts) cells k d inside in
    no_product (weight (get_or cells k d).0) (get_or cells k d).1.facts (omega (arith, one, all))
    (walk.each measures each k d inside).some

-- what is true of codes and stays so where a dimension is ALL is true of the cells
spread-closed : (is_kept test : Codes → Bool) (left from : ℕ) (codes : Codes)
    → ((d : ℕ) (other : Codes) → d < from + left → test other ≡ true → test (all_at d other) ≡ true)
    → test codes ≡ true
    → spread (only is_kept (λ c. none_if (test c))) left from codes ≡ 0
spread-closed is_kept test zero from codes closed passes = by_kept (is_kept codes) where
  by_kept : (b : Bool) → (if b then none_if (test codes) else 0) ≡ 0
  by_kept true = ap none_if passes
  by_kept false = refl
spread-closed is_kept test (suc left) from codes closed passes = omega (
  arith,
  spread-closed is_kept test left (from + 1) codes (λ d other below. closed d other (omega (arith, below))) passes,
  spread-closed is_kept test left (from + 1) (all_at from codes)
      (λ d other below. closed d other (omega (arith, below))) (closed from codes (omega arith) passes),
)

pub All-closed : (is_kept test : Codes → Bool) (measures left from : ℕ) (items cells : CodedCells)
    → IsWalkOf is_kept left from items cells → All (IsItem measures) items
    → ((d : ℕ) (other : Codes) → d < from + left → test other ≡ true → test (all_at d other) ≡ true)
    → All (λ item. test item.0 ≡ true) items → All (λ cell. test cell.0 ≡ true) cells
All-closed is_kept test measures left from items cells walk each closed passes =
    λ k d inside. passed (test (get_or cells k d).0) (All-weightless is_kept measures left from
    (λ c. none_if (test c)) items cells walk each
    (λ i e within. spread-closed is_kept test left from (get_or items i e).0 closed (passes i e within)) k d inside)
  where
    passed : (b : Bool) → none_if b ≡ 0 → b ≡ true
    passed true none = refl
    passed false none = absurd (omega (arith, none))

-- each cell is of a kept set
spread-kept : (is_kept : Codes → Bool) (left from : ℕ) (codes : Codes)
    → spread (only is_kept (λ c. none_if (is_kept c))) left from codes ≡ 0
spread-kept is_kept zero from codes = by_kept (is_kept codes) where
  by_kept : (b : Bool) → (if b then none_if b else 0) ≡ 0
  by_kept true = refl
  by_kept false = refl
spread-kept is_kept (suc left) from codes =
    omega (arith, spread-kept is_kept left (from + 1) codes, spread-kept is_kept left (from + 1) (all_at from codes))

pub All-kept : (is_kept : Codes → Bool) (measures left from : ℕ) (items cells : CodedCells)
    → IsWalkOf is_kept left from items cells → All (IsItem measures) items → All (λ cell. is_kept cell.0 ≡ true) cells
All-kept is_kept measures left from items cells walk each =
    λ k d inside. passed (is_kept (get_or cells k d).0) (All-weightless is_kept measures left from
    (λ c. none_if (is_kept c)) items cells walk each
    (λ i e within. spread-kept is_kept left from (get_or items i e).0) k d inside)
  where
    passed : (b : Bool) → none_if b ≡ 0 → b ≡ true
    passed true none = refl
    passed false none = absurd (omega (arith, none))

-- ---- look-ups
-- cells in order are apart
pub AreApart-sorted : (cells : CodedCells) → IsStrictlySortedBy codes_cmp cells → AreApart cells
unfolding IsDistinct IsStrictlySortedBy
AreApart-sorted [] in_order = tt
AreApart-sorted (cell ∷ cells) in_order = (others cells in_order.0, AreApart-sorted cells in_order.1) where
  others : (rest : CodedCells) → AllByRecursion (λ y. codes_cmp cell y ≡ Less) rest
      → AllByRecursion (λ y. same_codes cell.0 y ≡ false) (keys_of rest)
  others [] below = tt
  others (other ∷ rest) below = (
    false_from_ne_true (same_codes cell.0 other.0) (λ same.
        let tied : slice_cmp nat_cmp cell.0.codes other.0.codes ≡ Equal =
        ap (λ (c : Codes). slice_cmp nat_cmp cell.0.codes c.codes) (sym (same_codes-exact cell.0 other.0 same))
        ∙ tied_itself nat_list_cmp_total cell.0.codes in
        cc (below.0, tied)),
    others rest below.1,
  )

-- the part of the tally that is found
abbrev pub part_at : (Tally → ℕ) → Option Tally → ℕ
part_at part None = 0
part_at part (Some t) = part t

-- whether codes are these, as a number
abbrev pub at_codes : Codes → Codes → ℕ
at_codes key codes = if same_codes key codes then 1 else 0

at_codes-others : (key : Codes) (part : Tally → ℕ) (cells : CodedCells)
    → AllByRecursion (λ y. same_codes key y ≡ false) (keys_of cells) → weigh (at_codes key) part cells ≡ 0
at_codes-others key part [] apart = refl
at_codes-others key part (cell ∷ cells) apart =
    let none : at_codes key cell.0 ≡ 0 = ap (λ (b : Bool). if b then 1 else 0) apart.0 in
    omega (
      arith,
      sum_by-cons (λ (c : Codes × Tally). at_codes key c.0 * part c.1) cell cells,
      ap (λ (n : ℕ). n * part cell.1) none,
      at_codes-others key part cells apart.1,
    )

pub weigh-at_codes : (key : Codes) (part : Tally → ℕ) (cells : CodedCells) → AreApart cells
    → weigh (at_codes key) part cells ≡ part_at part (coded_at cells key)
unfolding IsDistinct
weigh-at_codes key part [] apart = refl
weigh-at_codes key part (cell ∷ cells) apart =
    by_test (same_codes key cell.0) refl (weigh-at_codes key part cells apart.1)
  where
    by_test : (b : Bool) → same_codes key cell.0 ≡ b
        → weigh (at_codes key) part cells ≡ part_at part (coded_at cells key)
        → weigh (at_codes key) part (cell ∷ cells) ≡ part_at part (coded_at (cell ∷ cells) key)
    by_test true same rest =
        let one : at_codes key cell.0 ≡ 1 = ap (λ (b : Bool). if b then 1 else 0) same in
        let P : Codes → Type 0 = λ c. AllByRecursion (λ y. same_codes c y ≡ false) (keys_of cells) in
        let others : weigh (at_codes key) part cells ≡ 0 = at_codes-others key part cells
        (subst P (sym (same_codes-exact key cell.0 same)) apart.0) in
        let found : coded_at (cell ∷ cells) key ≡ Some cell.1 =
        cond-true (same_codes key cell.0) (Some cell.1) (coded_at cells key) same in
        let sum : weigh (at_codes key) part (cell ∷ cells) ≡ part cell.1 = omega (
          arith,
          sum_by-cons (λ (c : Codes × Tally). at_codes key c.0 * part c.1) cell cells,
          ap (λ (n : ℕ). n * part cell.1) one,
          others,
        ) in
        sum ∙ ap (part_at part) (sym found)
    by_test false other rest =
        let none : at_codes key cell.0 ≡ 0 = ap (λ (b : Bool). if b then 1 else 0) other in
        let found : coded_at (cell ∷ cells) key ≡ coded_at cells key =
        cond-false (same_codes key cell.0) (Some cell.1) (coded_at cells key) other in
        let sum : weigh (at_codes key) part (cell ∷ cells) ≡ weigh (at_codes key) part cells = omega (
          arith,
          sum_by-cons (λ (c : Codes × Tally). at_codes key c.0 * part c.1) cell cells,
          ap (λ (n : ℕ). n * part cell.1) none,
        ) in
        sum ∙ rest ∙ ap (part_at part) (sym found)

-- ---- the codes above an item
-- the codes with ALL where these have it, in so many dimensions from one on
abbrev chosen : Codes → ℕ → ℕ → Codes → Codes
chosen key zero from codes = codes
chosen key (suc left) from codes =
    chosen key left (from + 1) (if get_or key.codes from 0 == all_code then all_at from codes else codes)

-- one step
abbrev raised_if : Bool → ℕ → Codes → Codes
raised_if b from codes = if b then all_at from codes else codes

length-raised_if : (b : Bool) (from : ℕ) (codes : Codes) → length (raised_if b from codes).codes ≡ length codes.codes
length-raised_if true from codes = length-set codes.codes from all_code
length-raised_if false from codes = refl

raised_if-others : (b : Bool) (from : ℕ) (codes : Codes) (i : ℕ) → (i ≡ from → ⊥)
    → get_or (raised_if b from codes).codes i 0 ≡ get_or codes.codes i 0
raised_if-others true from codes i other = get_or-set_other codes.codes from i all_code 0 other
raised_if-others false from codes i other = refl

raised_if-here : (b : Bool) (from : ℕ) (codes : Codes) → from < length codes.codes
    → get_or (raised_if b from codes).codes from 0 ≡ (if b then all_code else get_or codes.codes from 0)
raised_if-here true from codes inside = get_or-set_same codes.codes from all_code 0 inside
raised_if-here false from codes inside = refl

length-chosen : (key : Codes) (left from : ℕ) (codes : Codes)
    → length (chosen key left from codes).codes ≡ length codes.codes
length-chosen key zero from codes = refl
length-chosen key (suc left) from codes =
    length-chosen key left (from + 1) (raised_if (get_or key.codes from 0 == all_code) from codes)
    ∙ length-raised_if (get_or key.codes from 0 == all_code) from codes

-- the others stay
chosen-others : (key : Codes) (left from : ℕ) (codes : Codes) (i : ℕ) → (i < from) ⊎ (from + left ≤ i)
    → get_or (chosen key left from codes).codes i 0 ≡ get_or codes.codes i 0
chosen-others key zero from codes i outside = refl
chosen-others key (suc left) from codes i outside =
    chosen-others key left (from + 1) (raised_if (get_or key.codes from 0 == all_code) from codes) i (further outside)
    ∙ raised_if-others (get_or key.codes from 0 == all_code) from codes i (other outside)
  where
    further : (i < from) ⊎ (from + suc left ≤ i) → (i < from + 1) ⊎ (from + 1 + left ≤ i)
    further (inl before) = inl (omega (arith, before))
    further (inr past) = inr (omega (arith, past))

    other : (i < from) ⊎ (from + suc left ≤ i) → i ≡ from → ⊥
    other (inl before) same = absurd (omega (arith, before, same))
    other (inr past) same = absurd (omega (arith, past, same))

chosen-within : (key : Codes) (left from : ℕ) (codes : Codes) (i : ℕ) → from ≤ i → i < from + left
    → from + left ≤ length codes.codes → get_or (chosen key left from codes).codes i 0
    ≡ (if get_or key.codes i 0 == all_code then all_code else get_or codes.codes i 0)
chosen-within key zero from codes i after before room = absurd (omega (arith, after, before))
chosen-within key (suc left) from codes i after before room = by_place (cases_lt from i)
    (λ later. chosen-within key left (from + 1) next i (omega (arith, later)) (omega (arith, before))
    (omega (arith, room, length-raised_if is_all from codes)))
  where
    is_all : Bool
    is_all = get_or key.codes from 0 == all_code

    next : Codes
    next = raised_if is_all from codes

    by_place : (from < i) ⊎ (i ≤ from) → (from < i → get_or (chosen key left (from + 1) next).codes i 0
        ≡ (if get_or key.codes i 0 == all_code then all_code else get_or next.codes i 0))
        → get_or (chosen key left (from + 1) next).codes i 0
        ≡ (if get_or key.codes i 0 == all_code then all_code else get_or codes.codes i 0)
    by_place (inl later) rest = rest later
        ∙ ap (λ (n : ℕ). if get_or key.codes i 0 == all_code then all_code else n)
        (raised_if-others is_all from codes i (λ same. absurd (omega (arith, later, same))))
    by_place (inr now) rest =
        let at : i ≡ from = omega (arith, now, after) in
        subst (λ (j : ℕ). get_or (chosen key left (from + 1) next).codes j 0
        ≡ (if get_or key.codes j 0 == all_code then all_code else get_or codes.codes j 0)) (sym at)
        (chosen-others key left (from + 1) next from (inl (omega arith))
        ∙ raised_if-here is_all from codes (omega (arith, room)))

-- kept codes weigh the same
only-at_codes : (is_kept : Codes → Bool) (key codes : Codes) → is_kept key ≡ true
    → only is_kept (at_codes key) codes ≡ at_codes key codes
only-at_codes is_kept key codes kept = by_test (same_codes key codes) refl where
  by_test : (b : Bool) → same_codes key codes ≡ b → only is_kept (at_codes key) codes ≡ at_codes key codes
  by_test true same =
      let here : is_kept codes ≡ true = subst (λ (c : Codes). is_kept c ≡ true) (same_codes-exact key codes same) kept in
      ap (λ (b : Bool). if b then at_codes key codes else 0) here
  by_test false other =
      let none : at_codes key codes ≡ 0 = ap (λ (b : Bool). if b then 1 else 0) other in
      either (is_kept codes) none
    where
      either : (b : Bool) → at_codes key codes ≡ 0 → (if b then at_codes key codes else 0) ≡ at_codes key codes
      either true none = refl
      either false none = sym none

-- codes that differ in a place are not the same
at_codes-differ : (key codes : Codes) (i : ℕ) → (get_or key.codes i 0 ≡ get_or codes.codes i 0 → ⊥)
    → at_codes key codes ≡ 0
at_codes-differ key codes i differ =
    let apart : same_codes key codes ≡ false = false_from_ne_true (same_codes key codes) (λ same.
    differ (ap (λ (c : Codes). get_or c.codes i 0) (same_codes-exact key codes same))) in
    ap (λ (b : Bool). if b then 1 else 0) apart

-- of the codes above an item one alone may be these
spread-at_codes : (is_kept : Codes → Bool) (key : Codes) (left from : ℕ) (codes : Codes) → is_kept key ≡ true
    → ((d : ℕ) → from ≤ d → d < from + left → get_or codes.codes d 0 < all_code)
    → from + left ≤ length codes.codes
    → spread (only is_kept (at_codes key)) left from codes ≡ at_codes key (chosen key left from codes)
spread-at_codes is_kept key zero from codes kept free room = only-at_codes is_kept key codes kept
spread-at_codes is_kept key (suc left) from codes kept free room = by_code (get_or key.codes from 0 == all_code) refl
    (spread-at_codes is_kept key left (from + 1) codes kept
    (λ d after before. free d (omega (arith, after)) (omega (arith, before))) (omega (arith, room)))
    (spread-at_codes is_kept key left (from + 1) (all_at from codes) kept
    (λ d after before. omega (
      arith,
      get_or-set_other codes.codes from d all_code 0 (λ same. absurd (omega (arith, same, after))),
      free d (omega (arith, after)) (omega (arith, before)),
    )) (omega (arith, room, length-set codes.codes from all_code)))
  where
    low : get_or codes.codes from 0 < all_code
    low = free from (omega arith) (omega arith)

    first_at : get_or (chosen key left (from + 1) codes).codes from 0 ≡ get_or codes.codes from 0
    first_at = chosen-others key left (from + 1) codes from (inl (omega arith))

    second_at : get_or (chosen key left (from + 1) (all_at from codes)).codes from 0 ≡ all_code
    second_at = chosen-others key left (from + 1) (all_at from codes) from (inl (omega arith))
        ∙ get_or-set_same codes.codes from all_code 0 (omega (arith, room))

    by_code : (b : Bool) → (get_or key.codes from 0 == all_code) ≡ b
        → spread (only is_kept (at_codes key)) left (from + 1) codes
        ≡ at_codes key (chosen key left (from + 1) codes)
        → spread (only is_kept (at_codes key)) left (from + 1) (all_at from codes)
        ≡ at_codes key (chosen key left (from + 1) (all_at from codes))
        → spread (only is_kept (at_codes key)) (suc left) from codes
        ≡ at_codes key (chosen key left (from + 1) (if b then all_at from codes else codes))
    by_code true all first second =
        let is : get_or key.codes from 0 ≡ all_code = eqb-true (get_or key.codes from 0) all_code all in
        let none : at_codes key (chosen key left (from + 1) codes) ≡ 0 =
        at_codes-differ key (chosen key left (from + 1) codes) from
        (λ same. absurd (omega (arith, same, is, first_at, low))) in
        omega (arith, first, second, none)
    by_code false some first second =
        let none : at_codes key (chosen key left (from + 1) (all_at from codes)) ≡ 0 =
        at_codes-differ key (chosen key left (from + 1) (all_at from codes)) from
        (λ same. both_ways (get_or key.codes from 0 == all_code) some
        (eq-eqb (get_or key.codes from 0) all_code (same ∙ second_at))) in
        omega (arith, first, second, none)

-- what is kept of codes in the set of others
kept_codes-mask : (key codes : List ℕ) (i : ℕ) → i < length key → i < length codes
    → get_or (kept_codes (mask_of_codes key) codes) i 0
    ≡ (if get_or key i 0 == all_code then all_code else get_or codes i 0)
kept_codes-mask [] codes i in_key in_codes = absurd (omega (arith, in_key))
kept_codes-mask (x ∷ key) [] i in_key in_codes = absurd (omega (arith, in_codes))
kept_codes-mask (x ∷ key) (c ∷ codes) zero in_key in_codes = first (x == all_code) where
  first : (b : Bool) → (if ((if b then 0 else 1) + 2 * mask_of_codes key) % 2 == 1 then c else all_code)
      ≡ (if b then all_code else c)
  first true =
      let even : (0 + 2 * mask_of_codes key) % 2 ≡ 0 = omega arith in
      ap (λ (n : ℕ). if n == 1 then c else all_code) even
  first false =
      let odd : (1 + 2 * mask_of_codes key) % 2 ≡ 1 = omega arith in
      ap (λ (n : ℕ). if n == 1 then c else all_code) odd
kept_codes-mask (x ∷ key) (c ∷ codes) (suc i) in_key in_codes =
    ap (λ (n : ℕ). get_or (kept_codes n codes) i 0) (half (x == all_code))
    ∙ kept_codes-mask key codes i (omega (arith, in_key)) (omega (arith, in_codes))
  where
    half : (b : Bool) → ((if b then 0 else 1) + 2 * mask_of_codes key) / 2 ≡ mask_of_codes key
    half true = omega arith
    half false = omega arith

length-kept : (set : ℕ) (codes : List ℕ) → length (kept_codes set codes) ≡ length codes
length-kept set [] = refl
length-kept set (x ∷ codes) = ap suc (length-kept (set / 2) codes)

-- codes have ALL past so many dimensions
abbrev pub IsAllPast : ℕ → Codes → Type 0
IsAllPast dimensions codes = (i : ℕ) → dimensions ≤ i → i < 8 → get_or codes.codes i 0 ≡ all_code

chosen-key_in : (key codes : Codes) (dimensions : ℕ) → length key.codes ≡ 8 → length codes.codes ≡ 8
    → dimensions ≤ 8 → IsAllPast dimensions key → IsAllPast dimensions codes
    → chosen key dimensions 0 codes ≡ key_in codes (mask_of_codes key.codes)
chosen-key_in key codes dimensions eight_key eight few past_key past =
    let make : List ℕ → Codes = λ xs. record { codes = xs } in
    ap make (ext_get_or 0 (chosen key dimensions 0 codes).codes (kept_codes (mask_of_codes key.codes) codes.codes)
    (length-chosen key dimensions 0 codes ∙ sym (length-kept (mask_of_codes key.codes) codes.codes))
    (λ i inside. at i (omega (arith, inside, length-chosen key dimensions 0 codes, eight)) (cases_lt i dimensions)))
  where
    at : (i : ℕ) → i < 8 → (i < dimensions) ⊎ (dimensions ≤ i) → get_or (chosen key dimensions 0 codes).codes i 0
        ≡ get_or (kept_codes (mask_of_codes key.codes) codes.codes) i 0
    at i small (inl below) =
        chosen-within key dimensions 0 codes i (omega arith) (omega (arith, below)) (omega (arith, few, eight))
        ∙ sym (kept_codes-mask key.codes codes.codes i (omega (arith, small, eight_key)) (omega (arith, small, eight)))
    at i small (inr above) =
        let all : (get_or key.codes i 0 == all_code) ≡ true = eq-eqb (get_or key.codes i 0) all_code
        (past_key i above small) in
        chosen-others key dimensions 0 codes i (inr (omega (arith, above))) ∙ past i above small
        ∙ sym (kept_codes-mask key.codes codes.codes i (omega (arith, small, eight_key)) (omega (arith, small, eight))
        ∙ ap (λ (b : Bool). if b then all_code else get_or codes.codes i 0) all)

-- ---- what is found
weigh-same : (f g : Codes → ℕ) (part : Tally → ℕ) (cells : CodedCells) → All (λ cell. f cell.0 ≡ g cell.0) cells
    → weigh f part cells ≡ weigh g part cells
weigh-same f g part [] same = refl
weigh-same f g part (cell ∷ cells) same =
    let P : Codes × Tally → Type 0 = λ c. f c.0 ≡ g c.0 in
    omega (
      arith,
      sum_by-cons (λ (c : Codes × Tally). f c.0 * part c.1) cell cells,
      sum_by-cons (λ (c : Codes × Tally). g c.0 * part c.1) cell cells,
      ap (λ (n : ℕ). n * part cell.1) (All-head P cell cells same),
      weigh-same f g part cells (All-tail P cell cells same),
    )

-- each part of what is found at codes of a kept set is that of the items that have these codes in the set
pub part_at-IsWalkOf : (is_kept : Codes → Bool) (measures dimensions : ℕ) (items cells : CodedCells) (key : Codes)
    (part : Tally → ℕ) → IsWalkOf is_kept dimensions 0 items cells → All (IsItem measures) items
    → All (IsFree dimensions 0) items → All (λ item. IsAllPast dimensions item.0) items → dimensions ≤ 8
    → is_kept key ≡ true → length key.codes ≡ 8 → IsAllPast dimensions key → IsPart part
    → part_at part (coded_at cells key)
    ≡ weigh (λ codes. at_codes key (key_in codes (mask_of_codes key.codes))) part items
part_at-IsWalkOf is_kept measures dimensions items cells key part walk each free past few kept eight past_key is =
    sym (weigh-at_codes key part cells (AreApart-sorted cells walk.in_order))
    ∙ walk.weighs part is (at_codes key)
    ∙ weigh-same (spread (only is_kept (at_codes key)) dimensions 0)
    (λ codes. at_codes key (key_in codes (mask_of_codes key.codes))) part items (λ k d inside.
    spread-at_codes is_kept key dimensions 0 (get_or items k d).0 kept
    (λ i after before. free k d inside i after before) (omega (arith, few, (each k d inside).eight))
    ∙ ap (at_codes key) (chosen-key_in key (get_or items k d).0 dimensions eight (each k d inside).eight few past_key
    (past k d inside)))
