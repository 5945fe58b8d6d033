-- Laws of the bottom-up walk.
use Rattle.std.proofs.Common.{◌≡◌, ℕ, zero, suc, ◌+◌, ◌*◌, ◌-◌, ◌<◌, ◌≤◌, List, [], ◌∷◌, ◌++◌, Bool, true, false}
use Rattle.std.proofs.Common.{refl, sym, ap, ◌∙◌, subst, arith, inl, inr, length, get_or, take, drop, map, filter, replicate, ◌⊎◌}
use Rattle.std.specs.Prelude.{All, Contains, ℤ, if◌then◌else◌}
use Rattle.std.specs.Cmp.Lexicographic.{slice_cmp}
use Rattle.std.specs.List.Sorted.{IsPermutation, IsStrictlySortedBy}
use Rattle.std.specs.Ordering.{nat_cmp, is_lt}
use Rattle.std.proofs.lemmas.Map.Lookups.{exact_bytes}
use Rattle.std.specs.declared.cmp.Ordering.{Ordering}
use Rattle.std.specs.declared.cmp.Ordering.TheVariants.{Less}
use Rattle.std.proofs.Math.Nat.{add-mul, mul-add}
use Rattle.std.proofs.Math.Seq.{take-add}
use Rattle.std.proofs.lemmas.Bool.{lt-ltb, cases_lt, cases_order, both_ways, cond-true, cond-false}
use Rattle.std.proofs.lemmas.List.{get_or-drop, get_or-take, length-drop, length-take, take-append-drop}
use Rattle.std.proofs.lemmas.List.Folds.{drop_split}
use Rattle.std.proofs.lemmas.List.{take_more, take_more_set, same_from_push, get_or-map, length-map}
use Rattle.std.proofs.lemmas.List.Kept.{IsStrictlySortedBy-filter}
use Rattle.std.proofs.lemmas.Map.Keys.{Less-from_sorted}
use Rattle.std.proofs.lemmas.Cmp.{nat_cmp_total, nat_list_cmp_total, tied_itself}
use Rattle.std.proofs.lemmas.List.Elements.{All-head, All-tail, All-nil, All-cons, All-append}
use Rattle.std.proofs.lemmas.List.Elements.{All-contains, All-drop, All-filter, All-map, All-take, filter-append}
use Rattle.std.proofs.lemmas.List.Elements.{Contains-append_left, Contains-push}
use Rattle.std.proofs.lemmas.List.Sorted.{All-permutation, Contains-permutation, IsPermutation-map, IsPermutation-sym}
use Rattle.std.proofs.lemmas.List.Sorted.{sum_by-IsPermutation}
use Rattle.std.proofs.lemmas.List.{get_or-set_other, length-replicate, length-set, map-append}
use Rattle.std.proofs.lemmas.List.Elements.{All-from_recursion, recursion_from_All}
use Rattle.std.proofs.lemmas.List.Sums.{sum_by-append, sum_by-cons}
use Rattle.cube_cells.specs.BottomUp.{AreRaised, AreRunsOf, BeginsRun, HavePrefix, IsFree, IsItem, IsPart, IsRun}
use Rattle.cube_cells.specs.BottomUp.{CanWalk, IsWalkOf, IsWalkable, TakesAll, TakesRuns, TakesWalk}
use Rattle.cube_cells.specs.BottomUp.{cells_of_items, cells_of_lent, is_kept_by}
use Rattle.cube_cells.specs.declared.cube.bottom_up.Item.{Item}
use Rattle.cube_cells.specs.declared.cube.bottom_up.Lent.{Lent}
use Rattle.std.specs.Prelude.{slice_range}
use Rattle.std.proofs.lemmas.List.{drop-map, get_or_default, take-map, take_all}
use Rattle.std.specs.List.Sorted.{IsSortedBy}
use Rattle.std.proofs.lemmas.List.Sorted.{ranks_by, sorted_far}
use Rattle.cube_cells.specs.BottomUp.{all_at, codes_cmp, column_of, only, raise, run_of, spread, weigh}
use Rattle.cube_cells.specs.BottomUp.{AreUnited, JoinsLast}
use Rattle.cube_cells.specs.Codes.{all_code}
use Rattle.cube_cells.specs.Coded.{CodedCells, same_codes}
use Rattle.cube_cells.specs.Tally.{Tally, PlusTally, SameTally, bag_at}
use Rattle.cube_values.specs.Bag.{Bag, held_of}
use Rattle.cube_cells.specs.declared.cube.codes.Codes.{Codes}
use Rattle.cube_cells.proofs.Cells.TakenLaws.{TakesAll-append}
use Rattle.cube_cells.proofs.Cells.WalkLaws.{same_codes-IsEquivalence}
use Rattle.cube_cells.proofs.Codes.RankLaws.{Less-from_is_lt}

-- no cell
pub no_cell : Codes × Tally
no_cell = (record { codes = [] }, record { facts = 0; bags = [] })

-- ---- weighing
-- one cell more
weigh-cons : (weight : Codes → ℕ) (part : Tally → ℕ) (cell : Codes × Tally) (cells : CodedCells)
    → weigh weight part (cell ∷ cells) ≡ weight cell.0 * part cell.1 + weigh weight part cells
weigh-cons weight part cell cells = sum_by-cons (λ (c : Codes × Tally). weight c.0 * part c.1) cell cells

pub weigh-append : (weight : Codes → ℕ) (part : Tally → ℕ) (a b : CodedCells)
    → weigh weight part (a ++ b) ≡ weigh weight part a + weigh weight part b
weigh-append weight part a b = sum_by-append (λ (c : Codes × Tally). weight c.0 * part c.1) a b

-- by two weights together
pub weigh-both : (f g : Codes → ℕ) (part : Tally → ℕ) (cells : CodedCells)
    → weigh (λ codes. f codes + g codes) part cells ≡ weigh f part cells + weigh g part cells
weigh-both f g part [] = refl
weigh-both f g part (cell ∷ cells) = omega (
  arith,
  weigh-cons (λ codes. f codes + g codes) part cell cells,
  weigh-cons f part cell cells,
  weigh-cons g part cell cells,
  weigh-both f g part cells,
  add-mul (f cell.0) (g cell.0) (part cell.1),
)

-- ---- order
-- lists whose first numbers are the same compare as the next do
pub Less-at : (from : ℕ) (a b : List ℕ) → take from a ≡ take from b → from < length a → from < length b
    → get_or a from 0 < get_or b from 0 → slice_cmp nat_cmp a b ≡ Less
Less-at from [] b same in_a in_b below = absurd (omega (arith, in_a))
Less-at from (x ∷ a) [] same in_a in_b below = absurd (omega (arith, in_b))
Less-at zero (x ∷ a) (y ∷ b) same in_a in_b below = rw (lt-ltb x y below) refl
Less-at (suc from) (x ∷ a) (y ∷ b) same in_a in_b below =
    let head : x ≡ y = cc same in
    let tail : take from a ≡ take from b = cc same in
    let rest : slice_cmp nat_cmp a b ≡ Less =
    Less-at from a b tail (omega (arith, in_a)) (omega (arith, in_b)) below in
    rw (head, tied_itself nat_cmp_total y) rest

-- two lists in order, where each of the first is below each of the second
pub sorted-append : {K : Type 0} (R : K → K → Ordering) (a b : List K) → IsStrictlySortedBy R a
    → IsStrictlySortedBy R b → All (λ x. All (λ y. R x y ≡ Less) b) a → IsStrictlySortedBy R (a ++ b)
unfolding IsStrictlySortedBy
sorted-append R [] b first second below = second
sorted-append {K} R (x ∷ a) b first second below =
    let P : K → Type 0 = λ z. All (λ y. R z y ≡ Less) b in (
      recursion_from_All (λ y. R x y ≡ Less) (a ++ b) (All-append (λ y. R x y ≡ Less) a b
          (All-from_recursion (λ y. R x y ≡ Less) a first.0) (All-head P x a below)),
      sorted-append R a b first.1 second (All-tail P x a below),
    )

pub All-parts : {X : Type 0} (P : X → Type 0) (a b : List X) → All P (a ++ b) → All P a × All P b
All-parts P [] b all = (All-nil P, all)
All-parts P (x ∷ a) b all =
    let rest = All-parts P a b (All-tail P x (a ++ b) all) in
    (All-cons P x a (All-head P x (a ++ b) all) rest.0, rest.1)

sorted-parts : {K : Type 0} (R : K → K → Ordering) (a b : List K) → IsStrictlySortedBy R (a ++ b)
    → IsStrictlySortedBy R a × IsStrictlySortedBy R b × All (λ x. All (λ y. R x y ≡ Less) b) a
unfolding IsStrictlySortedBy
sorted-parts {K} R [] b both = (tt, both, All-nil (λ (x : K). All (λ y. R x y ≡ Less) b))
sorted-parts {K} R (x ∷ a) b both =
    let rest = sorted-parts R a b both.1 in
    let parts = All-parts (λ y. R x y ≡ Less) a b (All-from_recursion (λ y. R x y ≡ Less) (a ++ b) both.0) in (
      (recursion_from_All (λ y. R x y ≡ Less) a parts.0, rest.0),
      rest.1,
      All-cons (λ (z : K). All (λ y. R z y ≡ Less) b) x a parts.1 rest.2,
    )

-- ---- prefixes
-- one dimension more
HavePrefix-more : (from : ℕ) (prefix : List ℕ) (code : ℕ) (cells : CodedCells) → from < 8
    → All (λ cell. length cell.0.codes ≡ 8) cells → HavePrefix from prefix cells
    → All (λ cell. get_or cell.0.codes from 0 ≡ code) cells → HavePrefix (from + 1) (prefix ++ code ∷ []) cells
HavePrefix-more from prefix code cells small eight under same = λ k d inside.
    let cell : Codes × Tally = get_or cells k d in
    let long : from < length cell.0.codes = omega (arith, eight k d inside, small) in
    let more : take (from + 1) cell.0.codes ≡ take from cell.0.codes ++ get_or cell.0.codes from 0 ∷ [] =
    take_more cell.0.codes from 0 long in
    more ∙ ap (λ (p : List ℕ). p ++ get_or cell.0.codes from 0 ∷ []) (under k d inside)
    ∙ ap (λ (c : ℕ). prefix ++ c ∷ []) (same k d inside)

HavePrefix-parts : (from : ℕ) (prefix : List ℕ) (code : ℕ) (cells : CodedCells) → from < 8
    → All (λ cell. length cell.0.codes ≡ 8) cells → HavePrefix (from + 1) (prefix ++ code ∷ []) cells
    → HavePrefix from prefix cells × All (λ cell. get_or cell.0.codes from 0 ≡ code) cells
HavePrefix-parts from prefix code cells small eight under = (λ k d inside. (at k d inside).0, λ k d inside. (at k d inside).1)
  where
    at : (k : ℕ) (d : Codes × Tally) → k < length cells → (take from (get_or cells k d).0.codes ≡ prefix)
        × (get_or (get_or cells k d).0.codes from 0 ≡ code)
    at k d inside =
        let codes : List ℕ = (get_or cells k d).0.codes in
        let long : from < length codes = omega (arith, eight k d inside, small) in
        same_from_push (take from codes) prefix (get_or codes from 0) code
        (sym (take_more codes from 0 long) ∙ under k d inside)

eight_of : (measures : ℕ) (cells : CodedCells) → All (IsItem measures) cells → All (λ cell. length cell.0.codes ≡ 8) cells
eight_of measures cells each = λ k d inside. (each k d inside).eight

-- cells under one prefix, where the codes of some in the next dimension are below those of others
All-Less : (from : ℕ) (prefix : List ℕ) (code : ℕ) (a b : CodedCells) → from < 8
    → All (λ cell. length cell.0.codes ≡ 8) a → All (λ cell. length cell.0.codes ≡ 8) b → HavePrefix from prefix a
    → HavePrefix from prefix b → All (λ cell. get_or cell.0.codes from 0 < code) a
    → All (λ cell. code ≤ get_or cell.0.codes from 0) b → All (λ x. All (λ y. codes_cmp x y ≡ Less) b) a
All-Less from prefix code a b small eight_a eight_b under_a under_b below at = λ k d inside j e within.
    let x : Codes × Tally = get_or a k d in
    let y : Codes × Tally = get_or b j e in
    let above : code ≤ get_or y.0.codes from 0 = at j e within in
    let under : get_or x.0.codes from 0 < code = below k d inside in
    Less-at from x.0.codes y.0.codes (under_a k d inside ∙ sym (under_b j e within))
    (omega (arith, eight_a k d inside, small)) (omega (arith, eight_b j e within, small))
    (omega (arith, above, under))

-- ---- the walk
-- the kept ones weigh what all weigh where no other weighs anything
weigh-filter : (is_kept : Codes → Bool) (part : Tally → ℕ) (weight : Codes → ℕ) (cells : CodedCells)
    → weigh weight part (filter (λ item. is_kept item.0) cells) ≡ weigh (only is_kept weight) part cells
weigh-filter is_kept part weight [] = refl
weigh-filter is_kept part weight (cell ∷ cells) =
    by_test (is_kept cell.0) refl (weigh-filter is_kept part weight cells)
  where
    by_test : (b : Bool) → is_kept cell.0 ≡ b
        → weigh weight part (filter (λ item. is_kept item.0) cells) ≡ weigh (only is_kept weight) part cells
        → weigh weight part (filter (λ item. is_kept item.0) (cell ∷ cells))
        ≡ weigh (only is_kept weight) part (cell ∷ cells)
    by_test true is rest =
        let here : only is_kept weight cell.0 ≡ weight cell.0 = ap (λ (b : Bool). if b then weight cell.0 else 0) is in
        let kept : filter (λ item. is_kept item.0) (cell ∷ cells) ≡ cell ∷ filter (λ item. is_kept item.0) cells =
        cond-true (is_kept cell.0) (cell ∷ filter (λ item. is_kept item.0) cells)
        (filter (λ item. is_kept item.0) cells) is in
        ap (weigh weight part) kept ∙ weigh-cons weight part cell (filter (λ item. is_kept item.0) cells)
        ∙ ap (λ (n : ℕ). weight cell.0 * part cell.1 + n) rest
        ∙ ap (λ (n : ℕ). n * part cell.1 + weigh (only is_kept weight) part cells) (sym here)
        ∙ sym (weigh-cons (only is_kept weight) part cell cells)
    by_test false is rest =
        let here : only is_kept weight cell.0 ≡ 0 = ap (λ (b : Bool). if b then weight cell.0 else 0) is in
        let left : filter (λ item. is_kept item.0) (cell ∷ cells) ≡ filter (λ item. is_kept item.0) cells =
        cond-false (is_kept cell.0) (cell ∷ filter (λ item. is_kept item.0) cells)
        (filter (λ item. is_kept item.0) cells) is in
        let none : weigh (only is_kept weight) part (cell ∷ cells) ≡ weigh (only is_kept weight) part cells =
        omega (arith, weigh-cons (only is_kept weight) part cell cells, ap (λ (n : ℕ). n * part cell.1) here) in
        ap (weigh weight part) left ∙ rest ∙ sym none

-- where no dimension is left, the kept items
pub IsWalkOf-filter : (is_kept : Codes → Bool) (from : ℕ) (items : CodedCells) → IsStrictlySortedBy codes_cmp items
    → IsWalkOf is_kept 0 from items (filter (λ item. is_kept item.0) items)
IsWalkOf-filter is_kept from items in_order = record {
  in_order = IsStrictlySortedBy-filter codes_cmp (λ item. is_kept item.0) items in_order;
  weighs = λ part is weight. weigh-filter is_kept part weight items;
  under = λ prefix under. All-filter (λ (item : Codes × Tally). is_kept item.0)
      (λ (cell : Codes × Tally). take from cell.0.codes ≡ prefix) items under;
  each = λ measures each. All-filter (λ (item : Codes × Tally). is_kept item.0) (IsItem measures) items each;
}

-- no run
pub AreRunsOf-nil : (is_kept : Codes → Bool) (left from : ℕ) → AreRunsOf is_kept left from [] []
unfolding IsStrictlySortedBy
AreRunsOf-nil is_kept left from = record {
  in_order = tt;
  weighs = λ part is weight. refl;
  under = λ prefix under. under;
  each = λ measures each. each;
  before = λ bound below. All-nil (λ (cell : Codes × Tally). get_or cell.0.codes from 0 < bound);
  after = λ bound above. All-nil (λ (cell : Codes × Tally). bound ≤ get_or cell.0.codes from 0);
}

-- one run
AreRunsOf-same : (is_kept : Codes → Bool) (measures left from code : ℕ) (prefix : List ℕ) (run more : CodedCells)
    → from < 8 → All (IsItem measures) run → HavePrefix from prefix run → All (λ item. get_or item.0.codes from 0 ≡ code) run → 0 < length run
    → IsWalkOf is_kept left (from + 1) run more → AreRunsOf is_kept left from run more
AreRunsOf-same is_kept measures left from code prefix run more small of_run under_run at some walk = record {
  in_order = walk.in_order;
  weighs = walk.weighs;
  under = λ other under. (at_more other under).0;
  each = walk.each;
  before = λ bound below k d inside. omega (arith, code_of k d inside, below 0 no_cell some, at 0 no_cell some);
  after = λ bound above k d inside. omega (arith, code_of k d inside, above 0 no_cell some, at 0 no_cell some);
} where
  at_more : (other : List ℕ) → HavePrefix from other run
      → HavePrefix from other more × All (λ cell. get_or cell.0.codes from 0 ≡ code) more
  at_more other under = HavePrefix-parts from other code more small (eight_of measures more (walk.each measures of_run))
      (walk.under (other ++ code ∷ [])
      (HavePrefix-more from other code run small (eight_of measures run of_run) under at))

  code_of : All (λ cell. get_or cell.0.codes from 0 ≡ code) more
  code_of = (at_more prefix under_run).1

-- runs behind runs of lower codes
AreRunsOf-append : (is_kept : Codes → Bool) (measures left from code : ℕ) (prefix : List ℕ)
    (items run done more : CodedCells) → from < 8 → All (IsItem measures) items → All (IsItem measures) run
    → HavePrefix from prefix items → HavePrefix from prefix run → All (λ item. get_or item.0.codes from 0 < code) items
    → All (λ item. code ≤ get_or item.0.codes from 0) run → AreRunsOf is_kept left from items done
    → AreRunsOf is_kept left from run more → AreRunsOf is_kept left from (items ++ run) (done ++ more)
AreRunsOf-append is_kept measures left from code prefix items run done more small of_items of_run under_items under_run
    below above first second = record {
      in_order = sorted-append codes_cmp done more first.in_order second.in_order
          (All-Less from prefix code done more small (eight_of measures done (first.each measures of_items))
          (eight_of measures more (second.each measures of_run)) (first.under prefix under_items)
          (second.under prefix under_run) (first.before code below) (second.after code above));
      weighs = λ part is weight. omega (
        arith,
        weigh-append weight part done more,
        first.weighs part is weight,
        second.weighs part is weight,
        weigh-append (spread (only is_kept weight) left (from + 1)) part items run,
      );
      under = λ other. both (λ cell. take from cell.0.codes ≡ other) (first.under other) (second.under other);
      each = λ bags. both (IsItem bags) (first.each bags) (second.each bags);
      before = λ bound. both (λ cell. get_or cell.0.codes from 0 < bound) (first.before bound) (second.before bound);
      after = λ bound. both (λ cell. bound ≤ get_or cell.0.codes from 0) (first.after bound) (second.after bound);
    } where
      both : (P : Codes × Tally → Type 0) → (All P items → All P done) → (All P run → All P more)
          → All P (items ++ run) → All P (done ++ more)
      both P f g all =
          let parts = All-parts P items run all in
          All-append P done more (f parts.0) (g parts.1)

-- the items with ALL in a dimension
HavePrefix-AreRaised : (from : ℕ) (prefix : List ℕ) (items raised : CodedCells) → from < 8
    → All (λ item. length item.0.codes ≡ 8) items → HavePrefix from prefix items → AreRaised from items raised
    → HavePrefix (from + 1) (prefix ++ all_code ∷ []) raised
HavePrefix-AreRaised from prefix items raised small eight under is_raised = λ k d inside.
    All-contains (λ (codes : Codes). take (from + 1) codes.codes ≡ prefix ++ all_code ∷ [])
    (map (λ item. all_at from item.0) items) (get_or raised k d).0
    (All-map (λ (codes : Codes). take (from + 1) codes.codes ≡ prefix ++ all_code ∷ [])
    (λ (item : Codes × Tally). all_at from item.0) items
    (λ j e within. take_more_set (get_or items j e).0.codes from all_code (omega (arith, eight j e within, small))
    ∙ ap (λ (p : List ℕ). p ++ all_code ∷ []) (under j e within)))
    (is_raised.among k d inside)

-- all runs, and the items with ALL in their place
pub IsWalkOf-AreRaised : (is_kept : Codes → Bool) (measures left from : ℕ) (items raised done more : CodedCells)
    → IsWalkable measures (suc left) from items → AreRunsOf is_kept left from items done → AreRaised from items raised
    → IsWalkOf is_kept left (from + 1) raised more → IsWalkOf is_kept (suc left) from items (done ++ more)
IsWalkOf-AreRaised is_kept measures left from items raised done more walkable runs is_raised walk = record {
  in_order = sorted-append codes_cmp done more runs.in_order walk.in_order
      (All-Less from walkable.prefix all_code done more small
      (eight_of measures done (runs.each measures walkable.each)) (eight_of measures more of_more)
      (runs.under walkable.prefix walkable.under) (at_more walkable.prefix walkable.under).0
      (runs.before all_code (λ k d inside. walkable.free k d inside from (omega arith) (omega arith)))
      (λ k d inside. omega (arith, (at_more walkable.prefix walkable.under).1 k d inside)));
  weighs = λ part is weight.
      let f : Codes → ℕ = spread (only is_kept weight) left (from + 1) in
      omega (
        arith,
        weigh-append weight part done more,
        runs.weighs part is weight,
        walk.weighs part is weight,
        is_raised.weighs part is f,
        weigh-both f (λ codes. f (all_at from codes)) part items,
      );
  under = λ other under. All-append (λ (cell : Codes × Tally). take from cell.0.codes ≡ other) done more
      (runs.under other under) (at_more other under).0;
  each = λ bags each. All-append (IsItem bags) done more (runs.each bags each) (walk.each bags (is_raised.each bags each));
} where
  small : from < 8
  small = omega (arith, walkable.within)

  of_more : All (IsItem measures) more
  of_more = walk.each measures (is_raised.each measures walkable.each)

  at_more : (other : List ℕ) → HavePrefix from other items
      → HavePrefix from other more × All (λ cell. get_or cell.0.codes from 0 ≡ all_code) more
  at_more other under = HavePrefix-parts from other all_code more small (eight_of measures more of_more)
      (walk.under (other ++ all_code ∷ []) (HavePrefix-AreRaised from other items raised small
      (eight_of measures items walkable.each) under is_raised))

-- ---- runs
-- the codes of items under one prefix do not fall in the next dimension
column_of-rises : (measures left from : ℕ) (items : CodedCells) (i j : ℕ) → IsWalkable measures (suc left) from items
    → i ≤ j → j < length items → get_or (column_of from items) i 0 ≤ get_or (column_of from items) j 0
column_of-rises measures left from items i j walkable up inside = by_place (cases_lt i j) where
  code_at : (k : ℕ) → k < length items → get_or (column_of from items) k 0 ≡ get_or (get_or items k no_cell).0.codes from 0
  code_at k within = get_or-map (λ (item : Codes × Tally). get_or item.0.codes from 0) items k no_cell 0 within

  long : (k : ℕ) → k < length items → from < length (get_or items k no_cell).0.codes
  long k within = omega (arith, (walkable.each k no_cell within).eight, walkable.within)

  by_place : (i < j) ⊎ (j ≤ i) → get_or (column_of from items) i 0 ≤ get_or (column_of from items) j 0
  by_place (inr back) =
      let one : i ≡ j = omega (arith, up, back) in
      omega (arith, ap (λ (k : ℕ). get_or (column_of from items) k 0) one)
  by_place (inl below) = by_code (cases_lt (get_or (column_of from items) j 0) (get_or (column_of from items) i 0)) where
    by_code : (get_or (column_of from items) j 0 < get_or (column_of from items) i 0)
        ⊎ (get_or (column_of from items) i 0 ≤ get_or (column_of from items) j 0)
        → get_or (column_of from items) i 0 ≤ get_or (column_of from items) j 0
    by_code (inr rises) = rises
    by_code (inl falls) =
        let small : i < length items = omega (arith, below, inside) in
        let x : Codes × Tally = get_or items i no_cell in
        let y : Codes × Tally = get_or items j no_cell in
        let at_x = code_at i small in
        let at_y = code_at j inside in
        let in_x = long i small in
        let in_y = long j inside in
        let first : codes_cmp x y ≡ Less = Less-from_sorted codes_cmp items i j no_cell walkable.in_order below inside in
        let second : codes_cmp y x ≡ Less = Less-at from y.0.codes x.0.codes
        (walkable.under j no_cell inside ∙ sym (walkable.under i no_cell small)) in_y in_x
        (omega (arith, falls, at_x, at_y)) in
        cc (nat_list_cmp_total.antisymm x.0.codes y.0.codes, first, second)

-- items before a run, in it and behind it
run_of-split : (items : CodedCells) (start end : ℕ) → start ≤ end
    → items ≡ take start items ++ (run_of items start end ++ drop end items)
run_of-split items start end up = sym (take-append-drop start items)
    ∙ ap (λ (rest : CodedCells). take start items ++ rest) (drop_split items start end up)

-- the codes of a run in its dimension
run_of-same : (from : ℕ) (items : CodedCells) (start end : ℕ) → IsRun (column_of from items) start end
    → All (λ item. get_or item.0.codes from 0 ≡ get_or (column_of from items) start 0) (run_of items start end)
run_of-same from items start end is k d inside =
    let short : k < end - start = omega (arith, inside, length-take (end - start) (drop start items)) in
    let within : start + k < length items = omega (
      arith,
      short,
      is.within,
      length-map items (λ (item : Codes × Tally).
          get_or item.0.codes from 0),
    ) in
    let at : get_or (run_of items start end) k d ≡ get_or items (start + k) d =
    get_or-take (end - start) (drop start items) k d short ∙ get_or-drop start items k d in
    ap (λ (item : Codes × Tally). get_or item.0.codes from 0) at
    ∙ sym (get_or-map (λ (item : Codes × Tally). get_or item.0.codes from 0) items (start + k) d 0 within)
    ∙ is.same (start + k) (omega arith) (omega (arith, short, is.after))

-- what is true of items is true of those between two places
pub All-range : (P : Codes × Tally → Type 0) (items : CodedCells) (start end : ℕ) → All P items
    → All P (run_of items start end)
All-range P items start end all = All-take P (end - start) (drop start items) (All-drop P start items all)

-- they can be walked over
pub IsWalkable-range : (measures left from : ℕ) (items : CodedCells) (start end : ℕ) → start ≤ end
    → IsWalkable measures left from items → IsWalkable measures left from (run_of items start end)
IsWalkable-range measures left from items start end up walkable = record {
  in_order =
      let all = subst (IsStrictlySortedBy codes_cmp) (run_of-split items start end up) walkable.in_order in
      let rest = (sorted-parts codes_cmp (take start items) (run_of items start end ++ drop end items) all).1 in
      (sorted-parts codes_cmp (run_of items start end) (drop end items) rest).0;
  prefix = walkable.prefix;
  under = All-range (λ (cell : Codes × Tally). take from cell.0.codes ≡ walkable.prefix) items start end walkable.under;
  each = All-range (IsItem measures) items start end walkable.each;
  free = All-range (IsFree left from) items start end walkable.free;
  within = walkable.within;
}

-- a run can be walked over from the next dimension on
pub IsWalkable-run : (measures left from : ℕ) (items : CodedCells) (start end : ℕ)
    → IsWalkable measures (suc left) from items → IsRun (column_of from items) start end
    → IsWalkable measures left (from + 1) (run_of items start end)
IsWalkable-run measures left from items start end walkable is =
    let all = IsWalkable-range measures (suc left) from items start end (omega (arith, is.after)) walkable in
    record {
      in_order = all.in_order;
      prefix = all.prefix ++ get_or (column_of from items) start 0 ∷ [];
      under = HavePrefix-more from all.prefix (get_or (column_of from items) start 0) (run_of items start end)
          (omega (arith, walkable.within)) (eight_of measures (run_of items start end) all.each) all.under
          (run_of-same from items start end is);
      each = all.each;
      free = λ k d inside i after below. all.free k d inside i (omega (arith, after)) (omega (arith, below));
      within = omega (arith, walkable.within);
    }

-- a range of items that begins where a run does, and the runs before it
pub AreRunsOf-range : (is_kept : Codes → Bool) (measures left from : ℕ) (items : CodedCells) (start end : ℕ)
    (done more : CodedCells) → IsWalkable measures (suc left) from items → BeginsRun (column_of from items) start
    → start < end → end ≤ length items → AreRunsOf is_kept left from (take start items) done
    → AreRunsOf is_kept left from (run_of items start end) more
    → AreRunsOf is_kept left from (take end items) (done ++ more)
AreRunsOf-range is_kept measures left from items start end done more walkable begins up room first second =
    subst (λ (cells : CodedCells). AreRunsOf is_kept left from cells (done ++ more)) all
    (AreRunsOf-append is_kept measures left from code walkable.prefix (take start items) (run_of items start end) done
    more (omega (arith, walkable.within)) (All-take (IsItem measures) start items walkable.each)
    (All-range (IsItem measures) items start end walkable.each) (All-take P start items walkable.under)
    (All-range P items start end walkable.under) below above first second)
  where
    P : Codes × Tally → Type 0
    P cell = take from cell.0.codes ≡ walkable.prefix

    code : ℕ
    code = get_or (column_of from items) start 0

    all : take start items ++ run_of items start end ≡ take end items
    all =
        let places : start + (end - start) ≡ end = omega (arith, up) in
        sym (take-add start (end - start) items) ∙ ap (λ (n : ℕ). take n items) places

    code_at : (k : ℕ) (d : Codes × Tally) → k < length items
        → get_or (column_of from items) k 0 ≡ get_or (get_or items k d).0.codes from 0
    code_at k d within = get_or-map (λ (item : Codes × Tally). get_or item.0.codes from 0) items k d 0 within

    below : All (λ item. get_or item.0.codes from 0 < code) (take start items)
    below k d inside =
        let before : k < start = omega (arith, inside, length-take start items) in
        let within : k < length items = omega (arith, inside, length-take start items) in
        let at = ap (λ (item : Codes × Tally). get_or item.0.codes from 0) (get_or-take start items k d before) in
        omega (
          arith,
          at,
          code_at k d within,
          begins k before (omega (
            arith,
            up,
            room,
            length-map items (λ (item : Codes × Tally).
                get_or item.0.codes from 0),
          )),
        )

    above : All (λ item. code ≤ get_or item.0.codes from 0) (run_of items start end)
    above k d inside =
        let short : k < end - start = omega (arith, inside, length-take (end - start) (drop start items)) in
        let within : start + k < length items = omega (arith, short, room) in
        let at = ap (λ (item : Codes × Tally). get_or item.0.codes from 0)
        (get_or-take (end - start) (drop start items) k d short ∙ get_or-drop start items k d) in
        omega (
          arith,
          at,
          code_at (start + k) d within,
          column_of-rises measures left from items start (start + k) walkable (omega arith) within,
        )

-- a run is a run more
pub AreRunsOf-run : (is_kept : Codes → Bool) (measures left from : ℕ) (items : CodedCells) (start end : ℕ)
    (done more : CodedCells) → IsWalkable measures (suc left) from items → BeginsRun (column_of from items) start
    → IsRun (column_of from items) start end → AreRunsOf is_kept left from (take start items) done
    → IsWalkOf is_kept left (from + 1) (run_of items start end) more
    → AreRunsOf is_kept left from (take end items) (done ++ more)
AreRunsOf-run is_kept measures left from items start end done more walkable begins is runs walk =
    let long : length (column_of from items) ≡ length items =
    length-map items (λ (item : Codes × Tally). get_or item.0.codes from 0) in
    let some : 0 < length (run_of items start end) = omega (
      arith,
      length-take (end - start) (drop start items),
      length-drop start items,
      is.after,
      is.within,
      long,
    ) in
    AreRunsOf-range is_kept measures left from items start end done more walkable begins is.after
    (omega (arith, is.within, long)) runs
    (AreRunsOf-same is_kept measures left from (get_or (column_of from items) start 0) walkable.prefix
    (run_of items start end) more (omega (arith, walkable.within))
    (All-range (IsItem measures) items start end walkable.each)
    (All-range (λ (cell : Codes × Tally). take from cell.0.codes ≡ walkable.prefix) items start end walkable.under)
    (run_of-same from items start end is) some walk)

-- the next run begins behind it
pub BeginsRun-next : (measures left from : ℕ) (items : CodedCells) (start end : ℕ)
    → IsWalkable measures (suc left) from items → IsRun (column_of from items) start end
    → BeginsRun (column_of from items) end
BeginsRun-next measures left from items start end walkable is k before within =
    omega (arith, up_to (cases_lt k start), above)
  where
    column : List ℕ
    column = column_of from items

    long : length column ≡ length items
    long = length-map items (λ (item : Codes × Tally). get_or item.0.codes from 0)

    rises : get_or column start 0 ≤ get_or column end 0
    rises = column_of-rises measures left from items start end walkable (omega (arith, is.after))
        (omega (arith, within, long))

    above : get_or column start 0 < get_or column end 0
    above = by_code (cases_order (get_or column end 0) (get_or column start 0)) where
      by_code : (get_or column end 0 ≡ get_or column start 0)
          ⊎ ((get_or column end 0 < get_or column start 0) ⊎ (get_or column start 0 < get_or column end 0))
          → get_or column start 0 < get_or column end 0
      by_code (inl same) = absurd (is.other within same)
      by_code (inr (inl down)) = absurd (omega (arith, down, rises))
      by_code (inr (inr up)) = up

    up_to : (k < start) ⊎ (start ≤ k) → get_or column k 0 ≤ get_or column start 0
    up_to (inl earlier) = column_of-rises measures left from items k start walkable (omega (arith, earlier))
        (omega (arith, within, is.after, long))
    up_to (inr later) = omega (arith, is.same k later before)

-- ---- items with ALL in a dimension
weigh-raise : (from : ℕ) (part : Tally → ℕ) (weight : Codes → ℕ) (items : CodedCells)
    → weigh weight part (raise from items) ≡ weigh (λ codes. weight (all_at from codes)) part items
weigh-raise from part weight [] = refl
weigh-raise from part weight (item ∷ items) = omega (
  arith,
  weigh-cons weight part (all_at from item.0, item.1) (raise from items),
  weigh-cons (λ codes. weight (all_at from codes)) part item items,
  weigh-raise from part weight items,
)

codes-raise : (from : ℕ) (items : CodedCells)
    → map (λ cell. cell.0) (raise from items) ≡ map (λ item. all_at from item.0) items
codes-raise from [] = refl
codes-raise from (item ∷ items) = ap (λ (rest : List Codes). all_at from item.0 ∷ rest) (codes-raise from items)

-- no cell is joined
pub AreUnited-nil : AreUnited [] []
unfolding IsStrictlySortedBy
AreUnited-nil = record {
  weighs = λ part is weight. refl;
  in_order = tt;
  among = All-nil (λ (cell : Codes × Tally). Contains [] cell.0);
  each = λ measures each. each;
}

-- a list is empty or has a last element
last_cases : {X : Type 0} (xs : List X) → (xs ≡ []) ⊎ ((front : List X) × (last : X) × (xs ≡ front ++ last ∷ []))
last_cases [] = inl refl
last_cases {X} (x ∷ xs) = inr (last_of x xs) where
  last_of : (y : X) (ys : List X) → (front : List X) × (last : X) × (y ∷ ys ≡ front ++ last ∷ [])
  last_of y [] = ([], y, refl)
  last_of y (z ∷ zs) = let rest = last_of z zs in (y ∷ rest.0, rest.1, ap (λ (l : List X). y ∷ l) rest.2)

-- codes that are the last and not these are below them, and so are all before
All-Less_last : (cell : Codes × Tally) (joined : CodedCells) → IsStrictlySortedBy codes_cmp joined
    → All (λ c. is_lt (codes_cmp cell c) ≡ false) joined
    → ((front : CodedCells) (last : Codes × Tally) → joined ≡ front ++ last ∷ [] → last.0 ≡ cell.0 → ⊥)
    → All (λ c. codes_cmp c cell ≡ Less) joined
All-Less_last cell joined in_order upper other = by_last (last_cases joined) where
  below : Codes × Tally → Type 0
  below c = codes_cmp c cell ≡ Less

  by_last : (joined ≡ []) ⊎ ((front : CodedCells) × (last : Codes × Tally) × (joined ≡ front ++ last ∷ []))
      → All (λ c. codes_cmp c cell ≡ Less) joined
  by_last (inl none) = subst (All below) (sym none) (All-nil below)
  by_last (inr found) =
      let front : CodedCells = found.0 in
      let last : Codes × Tally = found.1 in
      let parts = sorted-parts codes_cmp front (last ∷ []) (subst (IsStrictlySortedBy codes_cmp) found.2 in_order) in
      let up : is_lt (codes_cmp cell last) ≡ false = All-head (λ (c : Codes × Tally). is_lt (codes_cmp cell c) ≡ false)
      last [] (All-parts (λ (c : Codes × Tally). is_lt (codes_cmp cell c) ≡ false) front (last ∷ [])
      (subst (All (λ (c : Codes × Tally). is_lt (codes_cmp cell c) ≡ false)) found.2 upper)).1 in
      let make : List ℕ → Codes = λ xs. record { codes = xs } in
      let here : codes_cmp last cell ≡ Less = Less-from_is_lt nat_list_cmp_total exact_bytes last.0.codes cell.0.codes up
      (λ same. other front last found.2 (ap make same)) in
      subst (All below) (sym found.2) (All-append below front (last ∷ []) (λ k d inside.
      nat_list_cmp_total.trans (get_or front k d).0.codes last.0.codes cell.0.codes
      (All-head (λ (y : Codes × Tally). codes_cmp (get_or front k d) y ≡ Less) last [] (parts.2 k d inside)) here)
      (All-cons below last [] here (All-nil below)))

-- codes that were among some are among more
All-among-more : (cells joined : CodedCells) (cell : Codes × Tally)
    → All (λ c. Contains (map (λ other. other.0) cells) c.0) joined
    → All (λ c. Contains (map (λ other. other.0) (cells ++ cell ∷ [])) c.0) joined
All-among-more cells joined cell among k d inside =
    let codes : Codes = (get_or joined k d).0 in
    subst (λ (l : List Codes). Contains l codes) (sym (map-append (λ (other : Codes × Tally). other.0) cells (cell ∷ [])))
    (Contains-append_left (map (λ other. other.0) cells) (cell.0 ∷ []) codes (among k d inside))

among-last : (cells : CodedCells) (cell : Codes × Tally) → Contains (map (λ other. other.0) (cells ++ cell ∷ [])) cell.0
among-last cells cell =
    subst (λ (l : List Codes). Contains l cell.0) (sym (map-append (λ (other : Codes × Tally). other.0) cells (cell ∷ [])))
    (Contains-push (map (λ other. other.0) cells) cell.0)

-- parts of tallies that count the same
part-SameTally : (part : Tally → ℕ) (a b : Tally) → IsPart part → SameTally a b → part b ≡ part a
part-SameTally part a b is same =
    let none : Tally = record { facts = 0; bags = replicate (length a.bags) [] } in
    let empty : (m : ℕ) (x : ℤ) → held_of (bag_at none.bags m) x ≡ 0 =
    λ m x. ap (λ (bag : Bag). held_of bag x) (bag_at-none (length a.bags) m) in
    let of_none : part none ≡ part none + part none = is.adds none none none (record {
      facts = refl;
      bags = record {
        same_length = refl;
        each = λ m. record { held = λ x. omega (arith, empty m x) };
      };
    }) in
    let of_a : part a ≡ part none + part a = is.adds none a a (record {
      facts = omega arith;
      bags = record {
        same_length = sym (length-replicate (length a.bags) []);
        each = λ m. record { held = λ x. omega (arith, empty m x) };
      };
    }) in
    let of_b : part b ≡ part none + part a = is.adds none b a (record {
      facts = omega (arith, same.facts);
      bags = record {
        same_length = sym same.bags.same_length ∙ sym (length-replicate (length a.bags) []);
        each = λ m. record { held = λ x. omega (arith, empty m x, (same.bags.bags m).held x) };
      };
    }) in
    omega (arith, of_none, of_b)
  where
    bag_at-none : (n m : ℕ) → bag_at (replicate n []) m ≡ []
    bag_at-none zero m = refl
    bag_at-none (suc n) zero = refl
    bag_at-none (suc n) (suc m) = bag_at-none n m

-- one cell is in order
sorted-one : (x : Codes × Tally) → IsStrictlySortedBy codes_cmp (x ∷ [])
unfolding IsStrictlySortedBy
sorted-one x = (tt, tt)

-- one cell more
pub AreUnited-more : (cells joined new : CodedCells) (cell : Codes × Tally) → AreUnited cells joined
    → All (λ c. is_lt (codes_cmp cell c) ≡ false) cells → JoinsLast cell joined new → AreUnited (cells ++ cell ∷ []) new
AreUnited-more cells joined new cell are up (inl merges) = record {
  weighs = λ part is weight. omega (
    arith,
    ap (weigh weight part) merges.is,
    weigh-append weight part merges.front ((cell.0, merges.sum) ∷ []),
    ap (weigh weight part) merges.was,
    weigh-append weight part merges.front ((cell.0, merges.last) ∷ []),
    are.weighs part is weight,
    weigh-append weight part cells (cell ∷ []),
    ap (λ (n : ℕ). weight cell.0 * n) (is.adds merges.last merges.sum cell.1 merges.plus),
    mul-add (weight cell.0) (part merges.last) (part cell.1),
  );
  in_order =
      let parts = sorted-parts codes_cmp merges.front ((cell.0, merges.last) ∷ [])
      (subst (IsStrictlySortedBy codes_cmp) merges.was are.in_order) in
      subst (IsStrictlySortedBy codes_cmp) (sym merges.is)
      (sorted-append codes_cmp merges.front ((cell.0, merges.sum) ∷ []) parts.0 (sorted-one (cell.0, merges.sum))
      (λ k d inside j e within. at_last (get_or merges.front k d) j e within (parts.2 k d inside)));
  among =
      let P : Codes × Tally → Type 0 = λ c. Contains (map (λ other. other.0) (cells ++ cell ∷ [])) c.0 in
      let before = All-parts P merges.front ((cell.0, merges.last) ∷ [])
      (subst (All P) merges.was (All-among-more cells joined cell are.among)) in
      subst (All P) (sym merges.is) (All-append P merges.front ((cell.0, merges.sum) ∷ []) before.0
      (All-cons P (cell.0, merges.sum) [] (among-last cells cell) (All-nil P)));
  each = λ measures each.
      let parts = All-parts (IsItem measures) cells (cell ∷ []) each in
      let before = All-parts (IsItem measures) merges.front ((cell.0, merges.last) ∷ [])
      (subst (All (IsItem measures)) merges.was (are.each measures parts.0)) in
      let last : IsItem measures (cell.0, merges.last) =
      All-head (IsItem measures) (cell.0, merges.last) [] before.1 in
      let sum : IsItem measures (cell.0, merges.sum) = record {
        eight = last.eight;
        width = merges.plus.bags.same_length ∙ last.width;
        some = omega (arith, merges.plus.facts, last.some);
      } in
      subst (All (IsItem measures)) (sym merges.is) (All-append (IsItem measures) merges.front
      ((cell.0, merges.sum) ∷ []) before.0 (All-cons (IsItem measures) (cell.0, merges.sum) [] sum
      (All-nil (IsItem measures))));
} where
  at_last : (x : Codes × Tally) (j : ℕ) (e : Codes × Tally) → j < 1
      → All (λ y. codes_cmp x y ≡ Less) ((cell.0, merges.last) ∷ [])
      → codes_cmp x (get_or ((cell.0, merges.sum) ∷ []) j e) ≡ Less
  at_last x zero e within below = below 0 e (omega arith)
  at_last x (suc j) e within below = absurd (omega (arith, within))
AreUnited-more cells joined new cell are up (inr puts) = record {
  weighs = λ part is weight. omega (
    arith,
    ap (weigh weight part) puts.is,
    weigh-append weight part joined ((cell.0, puts.copy) ∷ []),
    are.weighs part is weight,
    weigh-append weight part cells (cell ∷ []),
    ap (λ (n : ℕ). weight cell.0 * n) (part-SameTally part cell.1 puts.copy is puts.same),
  );
  in_order = subst (IsStrictlySortedBy codes_cmp) (sym puts.is)
      (sorted-append codes_cmp joined ((cell.0, puts.copy) ∷ []) are.in_order (sorted-one (cell.0, puts.copy))
      (λ k d inside j e within. at_last (get_or joined k d) j e within
      (All-Less_last cell joined are.in_order upper puts.other k d inside)));
  among =
      let P : Codes × Tally → Type 0 = λ c. Contains (map (λ other. other.0) (cells ++ cell ∷ [])) c.0 in
      subst (All P) (sym puts.is) (All-append P joined ((cell.0, puts.copy) ∷ [])
      (All-among-more cells joined cell are.among)
      (All-cons P (cell.0, puts.copy) [] (among-last cells cell) (All-nil P)));
  each = λ measures each.
      let parts = All-parts (IsItem measures) cells (cell ∷ []) each in
      let last : IsItem measures cell = All-head (IsItem measures) cell [] parts.1 in
      let copy : IsItem measures (cell.0, puts.copy) = record {
        eight = last.eight;
        width = sym puts.same.bags.same_length ∙ last.width;
        some = omega (arith, puts.same.facts, last.some);
      } in
      subst (All (IsItem measures)) (sym puts.is) (All-append (IsItem measures) joined ((cell.0, puts.copy) ∷ [])
      (are.each measures parts.0) (All-cons (IsItem measures) (cell.0, puts.copy) [] copy (All-nil (IsItem measures))));
} where
  upper : All (λ c. is_lt (codes_cmp cell c) ≡ false) joined
  upper k d inside = All-contains (λ (codes : Codes). is_lt (slice_cmp nat_cmp cell.0.codes codes.codes) ≡ false)
      (map (λ other. other.0) cells) (get_or joined k d).0
      (All-map (λ (codes : Codes). is_lt (slice_cmp nat_cmp cell.0.codes codes.codes) ≡ false)
      (λ (other : Codes × Tally). other.0) cells up) (are.among k d inside)

  at_last : (x : Codes × Tally) (j : ℕ) (e : Codes × Tally) → j < 1 → codes_cmp x cell ≡ Less
      → codes_cmp x (get_or ((cell.0, puts.copy) ∷ []) j e) ≡ Less
  at_last x zero e within below = below
  at_last x (suc j) e within below = absurd (omega (arith, within))

-- they are items
pub All-raise : (measures from : ℕ) (items : CodedCells) → All (IsItem measures) items
    → All (IsItem measures) (raise from items)
All-raise measures from items each =
    All-map (IsItem measures) (λ (item : Codes × Tally). (all_at from item.0, item.1)) items (λ k d inside. record {
      eight = length-set (get_or items k d).0.codes from all_code ∙ (each k d inside).eight;
      width = (each k d inside).width;
      some = (each k d inside).some;
    })

-- cells that are put in order first
pub AreUnited-permutation : (cells sorted joined : CodedCells) → IsPermutation cells sorted → AreUnited sorted joined
    → AreUnited cells joined
AreUnited-permutation cells sorted joined moved are = record {
  weighs = λ part is weight. are.weighs part is weight
      ∙ sum_by-IsPermutation (λ (cell : Codes × Tally). weight cell.0 * part cell.1) cells sorted moved;
  in_order = are.in_order;
  among = λ k d inside. Contains-permutation (map (λ cell. cell.0) sorted) (map (λ cell. cell.0) cells)
      (get_or joined k d).0 (IsPermutation-sym (map (λ cell. cell.0) cells) (map (λ cell. cell.0) sorted)
      (IsPermutation-map (λ (cell : Codes × Tally). cell.0) cells sorted moved)) (are.among k d inside);
  each = λ measures each. are.each measures (All-permutation (IsItem measures) cells sorted moved each);
}

-- the items with ALL, joined
pub AreRaised-AreUnited : (from : ℕ) (items raised : CodedCells) → AreUnited (raise from items) raised
    → AreRaised from items raised
AreRaised-AreUnited from items raised are = record {
  weighs = λ part is weight. are.weighs part is weight ∙ weigh-raise from part weight items;
  in_order = are.in_order;
  among = λ k d inside. subst (λ (l : List Codes). Contains l (get_or raised k d).0) (codes-raise from items)
      (are.among k d inside);
  each = λ measures each. are.each measures (All-raise measures from items each);
}

-- they can be walked over
pub IsWalkable-AreRaised : (measures left from : ℕ) (items raised : CodedCells)
    → IsWalkable measures (suc left) from items → AreRaised from items raised
    → IsWalkable measures left (from + 1) raised
IsWalkable-AreRaised measures left from items raised walkable is = record {
  in_order = is.in_order;
  prefix = walkable.prefix ++ all_code ∷ [];
  under = HavePrefix-AreRaised from walkable.prefix items raised (omega (arith, walkable.within))
      (eight_of measures items walkable.each) walkable.under is;
  each = is.each measures walkable.each;
  free = λ k d inside. All-contains P (map (λ item. all_at from item.0) items) (get_or raised k d).0
      (All-map P (λ (item : Codes × Tally). all_at from item.0) items (λ j e within i after below.
      let other : i ≡ from → ⊥ = λ same. absurd (omega (arith, same, after)) in
      let free : get_or (get_or items j e).0.codes i 0 < all_code =
      walkable.free j e within i (omega (arith, after)) (omega (arith, below)) in
      omega (arith, get_or-set_other (get_or items j e).0.codes from i all_code 0 other, free)))
      (is.among k d inside);
  within = omega (arith, walkable.within);
} where
  P : Codes → Type 0
  P codes = (i : ℕ) → from + 1 ≤ i → i < from + 1 + left → get_or codes.codes i 0 < all_code

-- ---- one item
IsRun-one : (from : ℕ) (item : Codes × Tally) → IsRun (column_of from (item ∷ [])) 0 1
IsRun-one from item = record {
  after = omega arith;
  within = omega arith;
  same = λ k after before. ap (λ (j : ℕ). get_or (column_of from (item ∷ [])) j 0) (none k before);
  other = λ inside same. absurd (omega (arith, inside));
} where
  none : (k : ℕ) → k < 1 → k ≡ 0
  none k before = omega arith

pub IsWalkable-one : (measures left from : ℕ) (item : Codes × Tally) → IsWalkable measures (suc left) from (item ∷ [])
    → IsWalkable measures left (from + 1) (item ∷ [])
IsWalkable-one measures left from item walkable =
    IsWalkable-run measures left from (item ∷ []) 0 1 walkable (IsRun-one from item)

pub AreRaised-one : (from : ℕ) (item : Codes × Tally) → AreRaised from (item ∷ []) ((all_at from item.0, item.1) ∷ [])
unfolding IsStrictlySortedBy
AreRaised-one from item = record {
  weighs = λ part is weight. refl;
  in_order = (tt, tt);
  among = All-cons (λ (cell : Codes × Tally). Contains (all_at from item.0 ∷ []) cell.0) (all_at from item.0, item.1) []
      (Contains-push [] (all_at from item.0)) (All-nil (λ (cell : Codes × Tally). Contains (all_at from item.0 ∷ []) cell.0));
  each = λ measures each. All-cons (IsItem measures) (all_at from item.0, item.1) [] (record {
    eight = length-set item.0.codes from all_code ∙ (All-head (IsItem measures) item [] each).eight;
    width = (All-head (IsItem measures) item [] each).width;
    some = (All-head (IsItem measures) item [] each).some;
  }) (All-nil (IsItem measures));
}

-- ---- the cells of items, as they lie
-- the code of an item in a dimension
pub column_of-item : {N : Type 0} (from : ℕ) (items : List (Item N)) (k : ℕ) (unused : Item N) → k < length items
    → get_or (column_of from (cells_of_items items)) k 0 ≡ get_or (get_or items k unused).codes.codes from 0
column_of-item {N} from items k unused inside =
    get_or-map (λ (cell : Codes × Tally). get_or cell.0.codes from 0) (cells_of_items items) k no_cell 0
    (omega (arith, inside, length-map {B = Codes × Tally} items (λ (item : Item N). (item.codes, item.cell))))
    ∙ ap (λ (cell : Codes × Tally). get_or cell.0.codes from 0)
    (get_or-map {Y = Codes × Tally} (λ (item : Item N). (item.codes, item.cell)) items k unused no_cell inside)

pub length-column_of : {N : Type 0} (from : ℕ) (items : List (Item N))
    → length (column_of from (cells_of_items items)) ≡ length items
length-column_of {N} from items = length-map (cells_of_items items) (λ (cell : Codes × Tally). get_or cell.0.codes from 0)
    ∙ length-map {B = Codes × Tally} items (λ (item : Item N). (item.codes, item.cell))

pub length-cells_of_items : {N : Type 0} (items : List (Item N)) → length (cells_of_items items) ≡ length items
length-cells_of_items {N} items = length-map {B = Codes × Tally} items (λ (item : Item N). (item.codes, item.cell))

-- the items between two places
pub cells_of_items-range : {N : Type 0} (items : List (Item N)) (start end : ℕ)
    → cells_of_items (slice_range items start end) ≡ run_of (cells_of_items items) start end
cells_of_items-range {N} items start end =
    sym (take-map {Y = Codes × Tally} (λ (item : Item N). (item.codes, item.cell)) (end - start) (drop start items))
    ∙ ap (λ (cells : CodedCells). take (end - start) cells)
    (sym (drop-map {Y = Codes × Tally} (λ (item : Item N). (item.codes, item.cell)) start items))

-- what is sorted is no lower than what stands before it
pub All-upper : {N : Type 0} (lent : List (Lent N)) (i : ℕ) (unused : Lent N)
    → IsSortedBy (λ a b. is_lt (slice_cmp nat_cmp a.codes.codes b.codes.codes)) lent → i < length lent
    → All (λ c. is_lt (codes_cmp ((get_or lent i unused).codes, (get_or lent i unused).cell.now) c) ≡ false)
    (cells_of_lent (take i lent))
All-upper {N} lent i unused sorted inside =
    All-map (λ (c : Codes × Tally). is_lt (slice_cmp nat_cmp (get_or lent i unused).codes.codes c.0.codes) ≡ false)
    (λ (one : Lent N). (one.codes, one.cell.now)) (take i lent) (λ k d within.
    let before : k < i = omega (arith, within, length-take i lent) in
    let far : is_lt (slice_cmp nat_cmp (get_or lent i d).codes.codes (get_or lent k d).codes.codes) ≡ false =
    sorted_far (λ a b. is_lt (slice_cmp nat_cmp a.codes.codes b.codes.codes))
    (ranks_by nat_list_cmp_total (λ (one : Lent N). one.codes.codes)) lent sorted k i d (omega (arith, before)) inside in
    let P : Lent N → Lent N → Type 0 =
    λ x y. is_lt (slice_cmp nat_cmp x.codes.codes y.codes.codes) ≡ false in
    subst (λ (y : Lent N). P (get_or lent i unused) y) (sym (get_or-take i lent k d before))
    (subst (λ (x : Lent N). P x (get_or lent k d)) (get_or_default lent i d unused inside) far))

-- an item more
pub cells_of_items-push : {N : Type 0} (items : List (Item N)) (item : Item N)
    → cells_of_items (items ++ item ∷ []) ≡ cells_of_items items ++ (item.codes, item.cell) ∷ []
cells_of_items-push {N} items item =
    map-append {B = Codes × Tally} (λ (one : Item N). (one.codes, one.cell)) items (item ∷ [])

pub cells_of_items-more : {N : Type 0} (items : List (Item N)) (i : ℕ) (item : Item N) → item ≡ get_or items i item
    → i < length items
    → cells_of_items (take (i + 1) items) ≡ cells_of_items (take i items) ++ (item.codes, item.cell) ∷ []
cells_of_items-more {N} items i item is inside = ap cells_of_items (take_more items i item inside)
    ∙ cells_of_items-push (take i items) (get_or items i item)
    ∙ ap (λ (one : Item N). cells_of_items (take i items) ++ (one.codes, one.cell) ∷ []) (sym is)

cells_of_lent-more : {N : Type 0} (lent : List (Lent N)) (i : ℕ) (one : Lent N) → one ≡ get_or lent i one
    → i < length lent
    → cells_of_lent (take (i + 1) lent) ≡ cells_of_lent (take i lent) ++ (one.codes, one.cell.now) ∷ []
cells_of_lent-more {N} lent i one is inside = ap cells_of_lent (take_more lent i one inside)
    ∙ map-append {B = Codes × Tally} (λ (a : Lent N). (a.codes, a.cell.now)) (take i lent) (get_or lent i one ∷ [])
    ∙ ap (λ (a : Lent N). cells_of_lent (take i lent) ++ (a.codes, a.cell.now) ∷ []) (sym is)

-- codes that are not the same
pub apart-same_codes : (a b : Codes) → same_codes a b ≡ false → a ≡ b → ⊥
apart-same_codes a b other same = both_ways (same_codes a b) other
    (subst (λ (c : Codes). same_codes a c ≡ true) same (same_codes-IsEquivalence.refl a))

-- ---- joining to the last item
-- both have a bag for each measure
pub last-width : {N : Type 0} (measures : ℕ) (old rest : List (Item N)) (last : Item N) (cell : Codes × Tally)
    → All (IsItem measures) (cell ∷ cells_of_items old) → old ≡ rest ++ last ∷ []
    → length last.cell.bags ≡ length cell.1.bags
last-width measures old rest last cell each was =
    let others = All-tail (IsItem measures) cell (cells_of_items old) each in
    let shown : All (IsItem measures) (cells_of_items rest ++ (last.codes, last.cell) ∷ []) =
    subst (All (IsItem measures)) (ap cells_of_items was ∙ cells_of_items-push rest last) others in
    let at = All-head (IsItem measures) (last.codes, last.cell) []
    (All-parts (IsItem measures) (cells_of_items rest) ((last.codes, last.cell) ∷ []) shown).1 in
    at.width ∙ sym (All-head (IsItem measures) cell (cells_of_items old) each).width

-- the last item has the same codes
pub JoinsLast-merged : {N : Type 0} (old rest new : List (Item N)) (last : Item N) (cell : Codes × Tally)
    → old ≡ rest ++ last ∷ [] → last.codes ≡ cell.0 → ((sum : Tally) × PlusTally last.cell sum cell.1
    × (cells_of_items new ≡ cells_of_items rest ++ (last.codes, sum) ∷ []))
    → JoinsLast cell (cells_of_items old) (cells_of_items new)
JoinsLast-merged old rest new last cell was same made = inl (record {
  front = cells_of_items rest;
  last = last.cell;
  sum = made.0;
  was = ap cells_of_items was ∙ cells_of_items-push rest last
      ∙ ap (λ (codes : Codes). cells_of_items rest ++ (codes, last.cell) ∷ []) same;
  is = made.2 ∙ ap (λ (codes : Codes). cells_of_items rest ++ (codes, made.0) ∷ []) same;
  plus = made.1;
})

-- it has other codes
pub JoinsLast-put : {N : Type 0} (old rest now new : List (Item N)) (last : Item N) (cell : Codes × Tally)
    → old ≡ rest ++ last ∷ [] → now ≡ rest ++ last ∷ [] → (last.codes ≡ cell.0 → ⊥)
    → ((copy : Tally) × SameTally cell.1 copy × (cells_of_items new ≡ cells_of_items now ++ (cell.0, copy) ∷ []))
    → JoinsLast cell (cells_of_items old) (cells_of_items new)
JoinsLast-put old rest now new last cell was is apart made = inr (record {
  copy = made.0;
  is = made.2 ∙ ap (λ (items : List (Item _)). cells_of_items items ++ (cell.0, made.0) ∷ []) (is ∙ sym was);
  same = made.1;
  other = λ front one at same.
      let shown : cells_of_items rest ++ (last.codes, last.cell) ∷ [] ≡ front ++ one ∷ [] =
      sym (ap cells_of_items was ∙ cells_of_items-push rest last) ∙ at in
      let one_is = (same_from_push (cells_of_items rest) front (last.codes, last.cell) one shown).1 in
      apart (ap (λ (c : Codes × Tally). c.0) one_is ∙ same);
})

-- what the next one asks
pub joined-requires : {N : Type 0} (measures : ℕ) (lent : List (Lent N)) (i : ℕ) (one : Lent N) (joined : CodedCells)
    → one ≡ get_or lent i one → i < length lent → All (IsItem measures) (cells_of_lent lent)
    → AreUnited (cells_of_lent (take i lent)) joined → All (IsItem measures) ((one.codes, one.cell.now) ∷ joined)
joined-requires {N} measures lent i one joined is inside each are =
    let P : Codes × Tally → Type 0 = IsItem measures in
    let f : Lent N → Codes × Tally = λ a. (a.codes, a.cell.now) in
    let at : get_or (cells_of_lent lent) i no_cell ≡ f one =
    get_or-map f lent i one no_cell inside ∙ ap f (sym is) in
    let long : i < length (cells_of_lent lent) = omega (arith, inside, length-map lent f) in
    All-cons P (f one) joined (subst P at (each i no_cell long))
    (are.each measures (subst (All P) (take-map f i lent) (All-take P i (cells_of_lent lent) each)))

-- and it joined
pub joined-more : {N : Type 0} (lent : List (Lent N)) (i : ℕ) (one : Lent N) (joined new : CodedCells)
    → one ≡ get_or lent i one → i < length lent
    → IsSortedBy (λ a b. is_lt (slice_cmp nat_cmp a.codes.codes b.codes.codes)) lent
    → AreUnited (cells_of_lent (take i lent)) joined → JoinsLast (one.codes, one.cell.now) joined new
    → AreUnited (cells_of_lent (take (i + 1) lent)) new
joined-more {N} lent i one joined new is inside sorted are joins =
    let f : Lent N → Codes × Tally = λ a. (a.codes, a.cell.now) in
    let upper : All (λ c. is_lt (codes_cmp (f one) c) ≡ false) (cells_of_lent (take i lent)) =
    subst (λ (a : Lent N). All (λ c. is_lt (codes_cmp (f a) c) ≡ false) (cells_of_lent (take i lent))) (sym is)
    (All-upper lent i one sorted inside) in
    subst (λ (l : CodedCells). AreUnited l new) (sym (cells_of_lent-more lent i one is inside))
    (AreUnited-more (cells_of_lent (take i lent)) joined new (f one) are upper joins)

-- items that are lent and put in order
pub lent-IsPermutation : {N : Type 0} (lent sorted : List (Lent N)) → IsPermutation lent sorted
    → IsPermutation (cells_of_lent lent) (cells_of_lent sorted)
lent-IsPermutation {N} lent sorted moved =
    IsPermutation-map {X = Codes × Tally} (λ (a : Lent N). (a.codes, a.cell.now)) lent sorted moved

-- ---- while items are walked over
-- the runs before a place are walked over
pub record IsWalking {S : Type 0} (takes : S → Codes → Tally → S → Type 0) (kept : List Bool) (dimensions from : ℕ)
    (items : CodedCells) (start : ℕ) (old now : S) : Type 0 where
  pub measures : ℕ
  pub walkable : IsWalkable measures (suc (dimensions - (from + 1))) from items
  pub within : start ≤ length items
  pub begins : BeginsRun (column_of from items) start
  pub cells : CodedCells
  pub runs : AreRunsOf (is_kept_by kept) (dimensions - (from + 1)) from (take start items) cells
  pub taken : TakesAll takes old cells now

-- a dimension less is left
pub CanWalk-left : (dimensions from : ℕ) (items : CodedCells) → (can : CanWalk dimensions from items)
    → from < dimensions → IsWalkable can.0 (suc (dimensions - (from + 1))) from items
CanWalk-left dimensions from items can below =
    let left : dimensions - from ≡ suc (dimensions - (from + 1)) = omega (arith, below) in
    subst (λ (n : ℕ). IsWalkable can.0 n from items) left can.1

pub IsWalking-start : {S : Type 0} (takes : S → Codes → Tally → S → Type 0) (kept : List Bool) (dimensions from : ℕ)
    (items : CodedCells) (sink : S) → CanWalk dimensions from items → from < dimensions
    → IsWalking takes kept dimensions from items 0 sink sink
IsWalking-start takes kept dimensions from items sink can below =
    record {
      measures = can.0;
      walkable = CanWalk-left dimensions from items can below;
      within = omega arith;
      begins = λ k before inside. absurd (omega (arith, before));
      cells = [];
      runs = AreRunsOf-nil (is_kept_by kept) (dimensions - (from + 1)) from;
      taken = refl;
    }

pub CanWalk-run : {S : Type 0} (takes : S → Codes → Tally → S → Type 0) (kept : List Bool) (dimensions from : ℕ)
    (items : CodedCells) (start end : ℕ) (old now : S) → IsWalking takes kept dimensions from items start old now
    → IsRun (column_of from items) start end → CanWalk dimensions (from + 1) (run_of items start end)
CanWalk-run takes kept dimensions from items start end old now walking is = (
  walking.measures,
  IsWalkable-run walking.measures (dimensions - (from + 1)) from items start end walking.walkable is,
)

pub IsWalking-run : {S : Type 0} (takes : S → Codes → Tally → S → Type 0) (kept : List Bool) (dimensions from : ℕ)
    (items : CodedCells) (start end : ℕ) (old now new : S) → IsWalking takes kept dimensions from items start old now
    → IsRun (column_of from items) start end
    → TakesWalk takes kept dimensions (from + 1) (run_of items start end) now new
    → IsWalking takes kept dimensions from items end old new
IsWalking-run takes kept dimensions from items start end old now new walking is walk = record {
  measures = walking.measures;
  walkable = walking.walkable;
  within = omega (arith, is.within, length-map items (λ (item : Codes × Tally). get_or item.0.codes from 0));
  begins = BeginsRun-next walking.measures (dimensions - (from + 1)) from items start end walking.walkable is;
  cells = walking.cells ++ walk.cells;
  runs = AreRunsOf-run (is_kept_by kept) walking.measures (dimensions - (from + 1)) from items start end
      walking.cells walk.cells walking.walkable walking.begins is walking.runs walk.are;
  taken = TakesAll-append takes walking.cells walk.cells old now new walking.taken walk.taken;
}

-- all runs are walked over
pub TakesRuns-IsWalking : {S : Type 0} (takes : S → Codes → Tally → S → Type 0) (kept : List Bool) (dimensions from : ℕ)
    (items : CodedCells) (start : ℕ) (old now : S) → IsWalking takes kept dimensions from items start old now
    → length items ≤ start → TakesRuns takes kept dimensions from items old now
TakesRuns-IsWalking takes kept dimensions from items start old now walking past = record {
  cells = walking.cells;
  are = subst (λ (l : CodedCells). AreRunsOf (is_kept_by kept) (dimensions - (from + 1)) from l walking.cells)
      (take_all start items past) walking.runs;
  taken = walking.taken;
}

pub CanWalk-raised : (dimensions from : ℕ) (items raised : CodedCells) → CanWalk dimensions from items
    → from < dimensions → AreRaised from items raised → CanWalk dimensions (from + 1) raised
CanWalk-raised dimensions from items raised can below is = (
  can.0,
  IsWalkable-AreRaised can.0 (dimensions - (from + 1)) from items raised (CanWalk-left dimensions from items can below) is,
)

-- all runs, and the items with ALL
pub IsWalkOf-raised : (is_kept : Codes → Bool) (dimensions from : ℕ) (items raised done more : CodedCells)
    → CanWalk dimensions from items → from < dimensions
    → AreRunsOf is_kept (dimensions - (from + 1)) from items done → AreRaised from items raised
    → IsWalkOf is_kept (dimensions - (from + 1)) (from + 1) raised more
    → IsWalkOf is_kept (dimensions - from) from items (done ++ more)
IsWalkOf-raised is_kept dimensions from items raised done more can below runs is walk =
    let left : suc (dimensions - (from + 1)) ≡ dimensions - from = omega (arith, below) in
    subst (λ (n : ℕ). IsWalkOf is_kept n from items (done ++ more)) left
    (IsWalkOf-AreRaised is_kept can.0 (dimensions - (from + 1)) from items raised done more
    (CanWalk-left dimensions from items can below) runs is walk)

pub TakesWalk-raised : {S : Type 0} (takes : S → Codes → Tally → S → Type 0) (kept : List Bool) (dimensions from : ℕ)
    (items raised : CodedCells) (old now new : S) → CanWalk dimensions from items → from < dimensions
    → TakesRuns takes kept dimensions from items old now → AreRaised from items raised
    → TakesWalk takes kept dimensions (from + 1) raised now new → TakesWalk takes kept dimensions from items old new
TakesWalk-raised takes kept dimensions from items raised old now new can below runs is walk = record {
  cells = runs.cells ++ walk.cells;
  are = IsWalkOf-raised (is_kept_by kept) dimensions from items raised runs.cells walk.cells can below runs.are is walk.are;
  taken = TakesAll-append takes runs.cells walk.cells old now new runs.taken walk.taken;
}

-- where no dimension is left
pub TakesWalk-kept : {S : Type 0} (takes : S → Codes → Tally → S → Type 0) (kept : List Bool) (dimensions from : ℕ)
    (items : CodedCells) (old new : S) → from ≡ dimensions → CanWalk dimensions from items
    → TakesAll takes old (filter (λ item. is_kept_by kept item.0) items) new
    → TakesWalk takes kept dimensions from items old new
TakesWalk-kept takes kept dimensions from items old new all can taken = record {
  cells = filter (λ item. is_kept_by kept item.0) items;
  are =
      let left : 0 ≡ dimensions - from = omega (arith, all) in
      subst (λ (n : ℕ). IsWalkOf (is_kept_by kept) n from items (filter (λ item. is_kept_by kept item.0) items)) left
      (IsWalkOf-filter (is_kept_by kept) from items can.1.in_order);
  taken = taken;
}

-- an item more where no dimension is left
pub take_kept-more : {S N : Type 0} (takes : S → Codes → Tally → S → Type 0) (kept : List Bool) (items : List (Item N))
    (i : ℕ) (item : Item N) (old mid new : S) → item ≡ get_or items i item → i < length items
    → TakesAll takes old (filter (λ one. is_kept_by kept one.0) (cells_of_items (take i items))) mid
    → TakesAll takes mid (if is_kept_by kept item.codes then (item.codes, item.cell) ∷ [] else []) new
    → TakesAll takes old (filter (λ one. is_kept_by kept one.0) (cells_of_items (take (i + 1) items))) new
take_kept-more takes kept items i item old mid new is inside before here =
    let P : Codes × Tally → Bool = λ one. is_kept_by kept one.0 in
    let cells : CodedCells = cells_of_items (take i items) in
    let all : filter P (cells_of_items (take (i + 1) items))
    ≡ filter P cells ++ filter P ((item.codes, item.cell) ∷ []) =
    ap (filter P) (cells_of_items-more items i item is inside) ∙ filter-append P cells ((item.codes, item.cell) ∷ []) in
    subst (λ (l : CodedCells). TakesAll takes old l new) (sym all)
    (TakesAll-append takes (filter P cells) (filter P ((item.codes, item.cell) ∷ [])) old mid new before here)

-- ---- one item

pub CanWalk-one : (dimensions from : ℕ) (item : Codes × Tally) → CanWalk dimensions from (item ∷ [])
    → from < dimensions → CanWalk dimensions (from + 1) (item ∷ [])
CanWalk-one dimensions from item can below = (
  can.0,
  IsWalkable-one can.0 (dimensions - (from + 1)) from item (CanWalk-left dimensions from (item ∷ []) can below),
)

pub CanWalk-one_raised : (dimensions from : ℕ) (item : Codes × Tally) → CanWalk dimensions from (item ∷ [])
    → from < dimensions → CanWalk dimensions (from + 1) ((all_at from item.0, item.1) ∷ [])
CanWalk-one_raised dimensions from item can below = CanWalk-raised dimensions from (item ∷ [])
    ((all_at from item.0, item.1) ∷ []) can below (AreRaised-one from item)

pub TakesWalk-one : {S : Type 0} (takes : S → Codes → Tally → S → Type 0) (kept : List Bool) (dimensions from : ℕ)
    (item : Codes × Tally) (old mid new : S) → CanWalk dimensions from (item ∷ []) → from < dimensions
    → TakesWalk takes kept dimensions (from + 1) (item ∷ []) old mid
    → TakesWalk takes kept dimensions (from + 1) ((all_at from item.0, item.1) ∷ []) mid new
    → TakesWalk takes kept dimensions from (item ∷ []) old new
TakesWalk-one takes kept dimensions from item old mid new can below first second =
    TakesWalk-raised takes kept dimensions from (item ∷ []) ((all_at from item.0, item.1) ∷ []) old mid new can below
    (TakesRuns-IsWalking takes kept dimensions from (item ∷ []) 1 old mid
    (IsWalking-run takes kept dimensions from (item ∷ []) 0 1 old old mid
    (IsWalking-start takes kept dimensions from (item ∷ []) old can below) (IsRun-one from item) first) (omega arith))
    (AreRaised-one from item) second

-- where no dimension is left
pub TakesWalk-one_kept : {S : Type 0} (takes : S → Codes → Tally → S → Type 0) (kept : List Bool)
    (dimensions from : ℕ) (item : Codes × Tally) (old new : S) → from ≡ dimensions
    → CanWalk dimensions from (item ∷ [])
    → TakesAll takes old (if is_kept_by kept item.0 then item ∷ [] else []) new
    → TakesWalk takes kept dimensions from (item ∷ []) old new
TakesWalk-one_kept takes kept dimensions from item old new all can taken =
    TakesWalk-kept takes kept dimensions from (item ∷ []) old new all can taken
