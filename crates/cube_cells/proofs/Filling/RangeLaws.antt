-- Laws of ranges of codes: the raised items of all ranges, one range behind another, are the raised items.
use Rattle.std.proofs.Common.{◌≡◌, ℕ, zero, suc, ◌+◌, ◌*◌, ◌/◌, ◌<◌, ◌≤◌, ◌&&◌, List, [], ◌∷◌, ◌++◌}
use Rattle.std.proofs.Common.{Bool, true, false, not}
use Rattle.std.proofs.Common.{refl, sym, ap, ◌∙◌, subst, add-one, arith, inl, inr}
use Rattle.std.proofs.Common.{length, get_or, take, map, filter, cond, ltb}
use Rattle.std.specs.Prelude.{All, Contains, IfOk, Ok, Result}
use Rattle.std.specs.Cmp.Lexicographic.{slice_cmp}
use Rattle.std.specs.Global.{Vec}
use Rattle.std.specs.List.Sorted.{IsPermutation, IsStrictlySortedBy}
use Rattle.std.specs.Ordering.{nat_cmp, is_lt}
use Rattle.std.specs.declared.alloc.AllocError.{AllocError}
use Rattle.std.specs.declared.cmp.Ordering.{Ordering}
use Rattle.std.specs.declared.cmp.Ordering.TheVariants.{Less, Equal, Greater}
use Rattle.std.proofs.lemmas.Bool.{and_from, and_parts, cases_Bool, lt-ltb, ltb-true, not_from_false}
use Rattle.std.proofs.lemmas.Bool.{and_left, le-ltb, true≢false}
use Rattle.std.proofs.Math.Bool.{and_comm}
use Rattle.std.proofs.lemmas.Cmp.{nat_list_cmp_total}
use Rattle.std.proofs.lemmas.List.{append-nil, get_or-map, get_or_default, length-map, map-append, take_more, take_all}
use Rattle.std.proofs.lemmas.List.Concat.{flat_map-append}
use Rattle.std.proofs.lemmas.List.Elements.{All-append, All-contains, All-map, All-nil, filter_passes}
use Rattle.std.proofs.lemmas.List.Elements.{Contains-append_left, Contains-append_right, recursion_from_All}
use Rattle.std.proofs.lemmas.List.Sorted.{All-permutation, Contains-permutation, IsPermutation-filter_both}
use Rattle.std.proofs.lemmas.List.Sorted.{IsPermutation-map, IsPermutation-sym, ranks_by, sorted_far}
use Rattle.std.proofs.lemmas.List.Sorted.{sum_by-IsPermutation}
use Rattle.cube_core.proofs.ListLaws.{filter-all}
use Rattle.cube_cells.specs.Fill.{AreMade}
use Rattle.cube_cells.specs.BottomUp.{AreRaised, IsItem, all_at, cells_of_items, codes_cmp}
use Rattle.cube_cells.specs.Coded.{CodedCells}
use Rattle.cube_cells.specs.Ranges.{AreInOrder, AreRaisedIn, is_from, is_in_range, items_in}
use Rattle.cube_cells.specs.Tally.{Tally}
use Rattle.cube_cells.specs.WalkParts.{cells_of_lists, put_together}
use Rattle.cube_cells.specs.declared.cube.bottom_up.Item.{Item}
use Rattle.cube_cells.specs.declared.cube.codes.Codes.{Codes}
use Rattle.cube_cells.proofs.Filling.BottomUpLaws.{All-parts, sorted-append, weigh-append}
use Rattle.cube_cells.proofs.Filling.PartLaws.{length-cells_of_lists}

-- ---- beginnings of ranges
-- whether codes are below others
abbrev below : Codes → Codes → Bool
below a b = is_lt (slice_cmp nat_cmp a.codes b.codes)

from_not : (x : Bool) → not x ≡ true → x ≡ false
from_not true is = sym is
from_not false is = refl

-- what comes from a range on comes from the one before it on
is_from-before : (marks : List Codes) (range : ℕ) (codes : Codes) → AreInOrder marks
    → is_from marks (suc range) codes ≡ true → is_from marks range codes ≡ true
is_from-before marks zero codes in_order is = refl
is_from-before marks (suc before) codes in_order is =
    let here : ℕ = suc before * 32 in
    let next : ℕ = suc (suc before) * 32 in
    let parts = and_parts (ltb next (length marks)) (not (below codes (get_or marks next codes))) is in
    let inside : next < length marks = ltb-true next (length marks) parts.0 in
    let rises : below (get_or marks next codes) (get_or marks here codes) ≡ false =
    sorted_far below (ranks_by nat_list_cmp_total (λ (a : Codes). a.codes)) marks in_order here next codes
    (omega arith) inside in
    and_from (ltb here (length marks)) (not (below codes (get_or marks here codes)))
    (lt-ltb here (length marks) (omega (arith, inside))) (not_from_false (below codes (get_or marks here codes))
    ((ranks_by nat_list_cmp_total (λ (a : Codes). a.codes)).chain codes (get_or marks next codes)
    (get_or marks here codes) (from_not (below codes (get_or marks next codes)) parts.1) rises))

-- what comes before a range is below what comes from it on
is_from-apart : (marks : List Codes) (range : ℕ) (a b : Codes) → is_from marks range a ≡ false
    → is_from marks range b ≡ true → slice_cmp nat_cmp a.codes b.codes ≡ Less
is_from-apart marks zero a b before from = cc before
is_from-apart marks (suc range) a b before from = by_order (slice_cmp nat_cmp a.codes b.codes) refl where
  up : below a b ≡ false → true ≡ false
  up not_below =
      let place : ℕ = suc range * 32 in
      let parts = and_parts (ltb place (length marks)) (not (below b (get_or marks place b))) from in
      let from_b : below b (get_or marks place a) ≡ false = subst (λ (mark : Codes). below b mark ≡ false)
      (get_or_default marks place b a (ltb-true place (length marks) parts.0))
      (from_not (below b (get_or marks place b)) parts.1) in
      sym (and_from (ltb place (length marks)) (not (below a (get_or marks place a))) parts.0
      (not_from_false (below a (get_or marks place a))
      ((ranks_by nat_list_cmp_total (λ (c : Codes). c.codes)).chain a b (get_or marks place a) not_below from_b)))
      ∙ before

  by_order : (order : Ordering) → slice_cmp nat_cmp a.codes b.codes ≡ order → order ≡ Less
  by_order Less is = refl
  by_order Equal is = absurd (true≢false (up (ap is_lt is)))
  by_order Greater is = absurd (true≢false (up (ap is_lt is)))

-- no codes come from behind the last range on
is_from-none : (marks : List Codes) (codes : Codes) → is_from marks (length marks / 32 + 1) codes ≡ false
is_from-none marks codes =
    let past : ℕ = suc (length marks / 32) * 32 in
    subst (λ (range : ℕ). is_from marks range codes ≡ false) (sym (add-one (length marks / 32)))
    (and_left (ltb past (length marks)) (not (below codes (get_or marks past codes)))
    (le-ltb past (length marks) (omega arith)))

-- ---- what passes tests
-- what passes a test of what passes another
filter-both : {X : Type 0} (p q r : X → Bool) → ((x : X) → q x ≡ (r x && p x)) → (xs : List X)
    → filter p (filter r xs) ≡ filter q xs
filter-both p q r is [] = refl
filter-both p q r is (x ∷ xs) = elim (cases_Bool (r x)) [
  | inl passes ↦ rw (is x, passes) (ap (λ (l : List _). cond (p x) (x ∷ l) l) (filter-both p q r is xs))
  | inr fails ↦ rw (is x, fails) (filter-both p q r is xs)
]

-- ---- raised items
pub AreRaised-none : (from : ℕ) → AreRaised from [] []
unfolding IsStrictlySortedBy
AreRaised-none from = record {
  weighs = λ part is weight. refl;
  in_order = tt;
  among = All-nil (λ (cell : Codes × Tally). Contains (map (λ (item : Codes × Tally). all_at from item.0) []) cell.0);
  each = λ measures each. each;
}

-- those of items in another order
AreRaised-permutation : (from : ℕ) (items others raised : CodedCells) → IsPermutation items others
    → AreRaised from items raised → AreRaised from others raised
AreRaised-permutation from items others raised moved are = record {
  weighs = λ part is weight. are.weighs part is weight
      ∙ sym (sum_by-IsPermutation (λ (cell : Codes × Tally). weight (all_at from cell.0) * part cell.1)
      items others moved);
  in_order = are.in_order;
  among = λ k d inside. Contains-permutation (map (λ item. all_at from item.0) items)
      (map (λ item. all_at from item.0) others) (get_or raised k d).0
      (IsPermutation-map (λ (item : Codes × Tally). all_at from item.0) items others moved) (are.among k d inside);
  each = λ measures each. are.each measures
      (All-permutation (IsItem measures) others items (IsPermutation-sym items others moved) each);
}

-- those of items of which all raised ones are below those of others
AreRaised-append : (from : ℕ) (test : Codes → Bool)
    → ((a b : Codes) → test a ≡ false → test b ≡ true → slice_cmp nat_cmp a.codes b.codes ≡ Less)
    → (first second low high : CodedCells) → All (λ item. test (all_at from item.0) ≡ false) first
    → All (λ item. test (all_at from item.0) ≡ true) second → AreRaised from first low → AreRaised from second high
    → AreRaised from (first ++ second) (low ++ high)
AreRaised-append from test apart first second low high fail pass of_first of_second = record {
  weighs = λ part is weight. omega (
    arith,
    weigh-append weight part low high,
    of_first.weighs part is weight,
    of_second.weighs part is weight,
    weigh-append (λ codes. weight (all_at from codes)) part first second,
  );
  in_order = sorted-append codes_cmp low high of_first.in_order of_second.in_order (λ k d inside j e within.
      apart (get_or low k d).0 (get_or high j e).0 (at first low false fail of_first k d inside)
      (at second high true pass of_second j e within));
  among = subst (λ (l : List Codes). All (λ cell. Contains l cell.0) (low ++ high))
      (sym (map-append raise_codes first second))
      (All-append (λ (cell : Codes × Tally). Contains (map raise_codes first ++ map raise_codes second) cell.0) low high
      (λ k d inside. Contains-append_left (map raise_codes first) (map raise_codes second) (get_or low k d).0
      (of_first.among k d inside))
      (λ k d inside. Contains-append_right (map raise_codes first) (map raise_codes second) (get_or high k d).0
      (of_second.among k d inside)));
  each = λ measures each.
      let parts = All-parts (IsItem measures) first second each in
      All-append (IsItem measures) low high (of_first.each measures parts.0) (of_second.each measures parts.1);
} where
  raise_codes : Codes × Tally → Codes
  raise_codes item = all_at from item.0

  at : (items raised : CodedCells) (answer : Bool) → All (λ item. test (all_at from item.0) ≡ answer) items
      → AreRaised from items raised → All (λ cell. test cell.0 ≡ answer) raised
  at items raised answer each are = λ k d inside. All-contains (λ (codes : Codes). test codes ≡ answer)
      (map raise_codes items) (get_or raised k d).0
      (All-map (λ (codes : Codes). test codes ≡ answer) raise_codes items each)
      (are.among k d inside)

-- ---- all ranges
-- the items before a range
abbrev items_before : List Codes → ℕ → ℕ → CodedCells → CodedCells
items_before marks from range items = filter (λ item. not (is_from marks range (all_at from item.0))) items

items_before-first : (marks : List Codes) (from : ℕ) (items : CodedCells) → items_before marks from 0 items ≡ []
items_before-first marks from [] = refl
items_before-first marks from (item ∷ items) = items_before-first marks from items

items_before-end : (marks : List Codes) (from : ℕ) (items : CodedCells)
    → items_before marks from (length marks / 32 + 1) items ≡ items
items_before-end marks from items =
    filter-all (λ (item : Codes × Tally). not (is_from marks (length marks / 32 + 1) (all_at from item.0))) items
    (recursion_from_All
    (λ (item : Codes × Tally). not (is_from marks (length marks / 32 + 1) (all_at from item.0)) ≡ true)
    items (λ k d inside. not_from_false (is_from marks (length marks / 32 + 1) (all_at from (get_or items k d).0))
    (is_from-none marks (all_at from (get_or items k d).0))))

-- a range more
AreRaised-range : (marks : List Codes) (from range : ℕ) (items low high : CodedCells) → AreInOrder marks
    → AreRaised from (items_before marks from range items) low → AreRaised from (items_in marks from range items) high
    → AreRaised from (items_before marks from (range + 1) items) (low ++ high)
AreRaised-range marks from range items low high in_order of_low of_high =
    let is : Codes × Tally → Bool = λ item. is_from marks range (all_at from item.0) in
    let is_not : Codes × Tally → Bool = λ item. not (is item) in
    let before : Codes × Tally → Bool = λ item. not (is_from marks (range + 1) (all_at from item.0)) in
    let rest : CodedCells = items_before marks from (range + 1) items in
    let first : filter is_not rest ≡ items_before marks from range items =
    filter-both is_not is_not before
    (λ item. still (is item) (is_from marks (range + 1) (all_at from item.0))
    (λ after. is_from-before marks range (all_at from item.0) in_order
    (subst (λ (n : ℕ). is_from marks n (all_at from item.0) ≡ true) (add-one range) after))) items in
    let second : filter is rest ≡ items_in marks from range items =
    filter-both is (λ item. is_in_range marks range (all_at from item.0)) before
    (λ item. and_comm (is item) (before item)) items in
    AreRaised-permutation from (filter is_not rest ++ filter is rest) rest (low ++ high)
    (IsPermutation-sym rest (filter is_not rest ++ filter is rest) (IsPermutation-filter_both is_not is
    (λ item. twice (is item)) rest))
    (AreRaised-append from (is_from marks range) (is_from-apart marks range) (filter is_not rest) (filter is rest)
    low high
    (λ k d inside. from_not (is (get_or (filter is_not rest) k d)) (filter_passes is_not rest k d inside))
    (filter_passes is rest)
    (subst (λ (l : CodedCells). AreRaised from l low) (sym first) of_low)
    (subst (λ (l : CodedCells). AreRaised from l high) (sym second) of_high))
  where
    still : (x y : Bool) → (y ≡ true → x ≡ true) → not x ≡ (not y && not x)
    still true true implies = refl
    still true false implies = refl
    still false true implies = sym (implies refl)
    still false false implies = refl

    twice : (x : Bool) → x ≡ not (not x)
    twice true = refl
    twice false = refl

-- the lists of the ranges, one behind another
pub AreRaised-ranges : (marks : List Codes) (from : ℕ) (items : CodedCells) (lists : List CodedCells)
    → AreInOrder marks → length lists ≡ length marks / 32 + 1
    → ((range : ℕ) → range < length lists → AreRaised from (items_in marks from range items) (get_or lists range []))
    → AreRaised from items (put_together lists)
AreRaised-ranges marks from items lists in_order long each =
    subst (λ (l : List CodedCells). AreRaised from items (put_together l)) (take_all (length lists) lists (omega arith))
    (subst (λ (l : CodedCells). AreRaised from l (put_together (take (length lists) lists)))
    (items_before-end marks from items)
    (subst (λ (n : ℕ). AreRaised from (items_before marks from n items) (put_together (take (length lists) lists))) long
    (first (length lists) (omega arith))))
  where
    first : (n : ℕ) → n ≤ length lists → AreRaised from (items_before marks from n items) (put_together (take n lists))
    first zero within = subst (λ (l : CodedCells). AreRaised from l [])
        (sym (items_before-first marks from items)) (AreRaised-none from)
    first (suc n) within =
        let more : put_together (take (n + 1) lists) ≡ put_together (take n lists) ++ get_or lists n [] =
        ap put_together (take_more lists n [] (omega (arith, within)))
        ∙ flat_map-append (λ (cells : CodedCells). cells) (take n lists) (get_or lists n [] ∷ [])
        ∙ ap (λ (l : CodedCells). put_together (take n lists) ++ l) (append-nil (get_or lists n [])) in
        subst (λ (m : ℕ). AreRaised from (items_before marks from m items) (put_together (take m lists))) (add-one n)
        (subst (AreRaised from (items_before marks from (n + 1) items)) (sym more)
        (AreRaised-range marks from n items (put_together (take n lists)) (get_or lists n []) in_order
        (first n (omega (arith, within))) (each n (omega (arith, within)))))

-- lists of items
pub AreRaised-lists : {N : Type 0} (marks : List Codes) (from : ℕ) (items : List (Item N)) (lists : List (Vec (Item N)))
    → AreInOrder marks → length lists ≡ length marks / 32 + 1
    → ((range : ℕ) (unused : Vec (Item N)) → range < length marks / 32 + 1
    → AreRaisedIn marks from items range (get_or lists range unused))
    → AreRaised from (cells_of_items items) (put_together (cells_of_lists lists))
AreRaised-lists {N} marks from items lists in_order long each =
    AreRaised-ranges marks from (cells_of_items items) (cells_of_lists lists) in_order
    (length-cells_of_lists lists ∙ long)
    (λ range within.
    let inside : range < length lists = omega (arith, within, length-cells_of_lists lists) in
    by_list range lists inside (λ unused. each range unused (omega (arith, inside, long))))
  where
    by_list : (range : ℕ) (lists : List (Vec (Item N))) → range < length lists
        → ((unused : Vec (Item N)) → AreRaisedIn marks from items range (get_or lists range unused))
        → AreRaised from (items_in marks from range (cells_of_items items)) (get_or (cells_of_lists lists) range [])
    by_list range [] inside is = absurd (omega (arith, inside))
    by_list range (list ∷ lists) inside is =
        subst (AreRaised from (items_in marks from range (cells_of_items items)))
        (sym (get_or-map (λ (l : Vec (Item N)). cells_of_items l.items) (list ∷ lists) range list [] inside)) (is list)

-- results of which each was made
pub made_each : {X : Type 0} (is : ℕ → X → Type 0) (xs : List X) (made : List (Result X AllocError)) (number : ℕ)
    → map Ok xs ≡ made → AreMade is number made
    → (length xs ≡ number) × ((i : ℕ) (unused : X) → i < number → is i (get_or xs i unused))
made_each is xs made number are results =
    (as_many, λ i unused inside. at i unused inside (results.each i (Ok unused) inside))
  where
    as_many : length xs ≡ number
    as_many = sym (length-map xs Ok) ∙ ap length are ∙ results.long

    at : (i : ℕ) (unused : _) → i < number → IfOk (get_or made i (Ok unused)) (is i) → is i (get_or xs i unused)
    at i unused inside holds =
        let here : get_or made i (Ok unused) ≡ Ok (get_or xs i unused) = ap (λ ms. get_or ms i (Ok unused)) (sym are)
        ∙ get_or-map Ok xs i unused (Ok unused) (omega (arith, inside, as_many)) in
        rw here at holds
