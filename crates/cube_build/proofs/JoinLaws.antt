-- The rows of the parts of a cube, one part's after the other's and put in key order, are the rows of the cube.
use Rattle.std.proofs.Common.{◌≡◌, ◌<◌, ◌≤◌, ◌+◌, ◌==◌, ◌&&◌, ◌||◌, ◌↔◌, ◌⊎◌, inl, inr, ℕ, Bool, true, false, List, []}
use Rattle.std.proofs.Common.{◌∷◌, ◌++◌, length, map, get_or, refl, sym, ap, subst, ◌∙◌, arith, Contains, IsPermutation}
use Rattle.std.proofs.Common.{length-append}
use Rattle.std.specs.Prelude.{IsTrue, Some}
use Rattle.std.specs.Cmp.{IsEquivalence}
use Rattle.std.specs.List.{AllByRecursion, IsDistinct}
use Rattle.std.specs.List.Sorted.{IsSortedBy, IsStrictlySortedBy}
use Rattle.std.specs.Ordering.{eq_by_cmp, is_lt}
use Rattle.std.proofs.lemmas.Bool.{and_parts, and_from, both_ways, cases_Bool, cases_lt, eqb-true, eq-eqb}
use Rattle.std.proofs.lemmas.Cmp.{eq_by_cmp_equiv}
use Rattle.std.proofs.lemmas.List.{get_or-map, length-map, map-append}
use Rattle.std.proofs.lemmas.List.Elements.{Contains-append_left, Contains-append_right, Contains-append_cases}
use Rattle.std.proofs.lemmas.List.Sorted.{IsPermutation-sym, IsPermutation-map, Contains-permutation}
use Rattle.std.proofs.lemmas.Map.Keys.{sorted_from_all_adjacent, IsDistinct-IsPermutation, IsDistinct-from_sorted}
use Rattle.std.proofs.lemmas.Map.Keys.{IsDistinct-head, IsDistinct-tail, IsDistinct-cons, apart_from_distinct}
use Rattle.std.proofs.lemmas.Map.Views.{tells_apart}
use Rattle.cube_core.specs.Cube.{is_cell, key_of, HasAnswers, AreRowsOver}
use Rattle.cube_core.proofs.SetLaws.{part_of-below}
use Rattle.cube_core.specs.GroupingSet.{mask_of, is_among, part_of, sets_of_part}
use Rattle.cube_core.specs.Order.{key_cmp}
use Rattle.cube_core.specs.Query.{AreRowsWhere}
use Rattle.cube_core.specs.declared.aggregate.Agg.{Agg}
use Rattle.cube_core.specs.declared.fact.Fact.{Fact}
use Rattle.cube_core.specs.declared.key.Key.{Key}
use Rattle.cube_core.specs.declared.key.Row.{Row}
use Rattle.cube_core.proofs.ListLaws.{AllByRecursion-Contains, Contains-AllByRecursion, Contains-head, Contains-tail}
use Rattle.cube_core.proofs.KeyOrderLaws.{key_cmp-exact, key_cmp-IsTotalOrder}
use Rattle.cube_cells.specs.Count.{HasCellsOver}
use Rattle.cube_cells.specs.Rows.{IsRowOver}
use Rattle.cube_cells.proofs.Codes.RankLaws.{Less-from_is_lt}

-- ---- the sets of a part
-- a set is in a part exactly where it is in the list and leaves the part
among-part : (part parts : ℕ) (sets : List ℕ) (set : ℕ)
    → is_among set (sets_of_part part parts sets) ≡ (part_of parts set == part) && is_among set sets
among-part part parts [] set = no (part_of parts set == part) where
  no : (b : Bool) → false ≡ b && false
  no true = refl
  no false = refl
among-part part parts (first ∷ sets) set = elim (cases_Bool (part_of parts first == part)) [
  | inl kept ↦ rw kept (head (cases_Bool (first == set)) kept (among-part part parts sets set))
  | inr left ↦ rw left (among-part part parts sets set ∙ other (cases_Bool (first == set)) left)
] where
  head : (first == set ≡ true) ⊎ (first == set ≡ false) → part_of parts first == part ≡ true
      → is_among set (sets_of_part part parts sets) ≡ (part_of parts set == part) && is_among set sets →
      (first == set || is_among set (sets_of_part part parts sets))
      ≡ (part_of parts set == part) && (first == set || is_among set sets)
  head (inl same) kept rest = let is : first ≡ set = eqb-true first set same in rw (same, ← is, kept) refl
  head (inr apart) kept rest = rw apart rest

  other : (first == set ≡ true) ⊎ (first == set ≡ false) → part_of parts first == part ≡ false
      → (part_of parts set == part) && is_among set sets
      ≡ (part_of parts set == part) && (first == set || is_among set sets)
  other (inl same) left = let is : first ≡ set = eqb-true first set same in rw (← is, left) refl
  other (inr apart) left = rw apart refl

-- ---- rows in any order
abbrev pub same_key : Key → Key → Bool
same_key = eq_by_cmp key_cmp

same_key-IsEquivalence : IsEquivalence same_key
same_key-IsEquivalence = eq_by_cmp_equiv key_cmp-IsTotalOrder

-- these rows have these keys, each once, with the answers of the facts; nothing speaks of their order
pub record AreRowsAt (IsKey : Key → Type 0) (aggregates : List Agg) (facts : List Fact) (rows : List Row) : Type 0 where
  pub keys : (key : Key) → Contains (map key_of rows) key ↔ IsKey key
  pub once : IsDistinct same_key (map key_of rows)
  pub answers : AllByRecursion (HasAnswers aggregates facts) rows

-- the same keys by another test
rows-by : (P Q : Key → Type 0) (aggregates : List Agg) (facts : List Fact) (rows : List Row)
    → ((key : Key) → P key ↔ Q key) → AreRowsAt P aggregates facts rows → AreRowsAt Q aggregates facts rows
rows-by P Q aggregates facts rows same are = record {
  keys = λ key. (λ inside. (same key).0 ((are.keys key).0 inside), λ is. (are.keys key).1 ((same key).1 is));
  once = are.once;
  answers = are.answers;
}

-- keys that differ, and others that differ, none of which is among the first
apart-append : (xs ys : List Key) → IsDistinct same_key xs → IsDistinct same_key ys
    → ((key : Key) → Contains xs key → Contains ys key → ⊥) → IsDistinct same_key (xs ++ ys)
apart-append [] ys once_x once_y apart = once_y
apart-append (x ∷ xs) ys once_x once_y apart =
    IsDistinct-cons same_key x (xs ++ ys)
    (Contains-AllByRecursion (λ y. same_key x y ≡ false)
    (xs ++ ys) (λ y inside. elim (Contains-append_cases xs ys y inside) [
      | inl left ↦ AllByRecursion-Contains (λ y. same_key x y ≡ false) xs y (IsDistinct-head same_key x xs once_x) left
      | inr right ↦ elim (cases_Bool (same_key x y)) [
        | inl same ↦ let is : x ≡ y = tells_apart key_cmp-exact x y same in
            absurd (apart x (Contains-head x xs) (subst (Contains ys) (sym is) right))
        | inr differs ↦ differs
      ]
    ]))
    (apart-append xs ys (IsDistinct-tail same_key x xs once_x) once_y
    (λ key left right. apart key (Contains-tail x xs key left) right))

answers-append : (aggregates : List Agg) (facts : List Fact) (xs ys : List Row)
    → AllByRecursion (HasAnswers aggregates facts) xs → AllByRecursion (HasAnswers aggregates facts) ys
    → AllByRecursion (HasAnswers aggregates facts) (xs ++ ys)
answers-append aggregates facts [] ys of_x of_y = of_y
answers-append aggregates facts (x ∷ xs) ys of_x of_y = (of_x.0, answers-append aggregates facts xs ys of_x.1 of_y)

-- rows, and others with other keys
rows-append : (P Q : Key → Type 0) (aggregates : List Agg) (facts : List Fact) (xs ys : List Row)
    → ((key : Key) → P key → Q key → ⊥) → AreRowsAt P aggregates facts xs → AreRowsAt Q aggregates facts ys →
    AreRowsAt (λ key. P key ⊎ Q key) aggregates facts (xs ++ ys)
rows-append P Q aggregates facts xs ys apart of_x of_y = record {
  keys = λ key.
      rw (map-append key_of xs ys) (
        λ inside. elim (Contains-append_cases (map key_of xs) (map key_of ys) key inside) [
          | inl left ↦ inl ((of_x.keys key).0 left)
          | inr right ↦ inr ((of_y.keys key).0 right)
        ],
        λ is. elim is [
          | inl p ↦ Contains-append_left (map key_of xs) (map key_of ys) key ((of_x.keys key).1 p)
          | inr q ↦ Contains-append_right (map key_of xs) (map key_of ys) key ((of_y.keys key).1 q)
        ],
      );
  once = rw (map-append key_of xs ys) (apart-append (map key_of xs) (map key_of ys) of_x.once of_y.once
      (λ key left right. apart key ((of_x.keys key).0 left) ((of_y.keys key).0 right)));
  answers = answers-append aggregates facts xs ys of_x.answers of_y.answers;
}

-- rows put in key order
rows-sorted : (P : Key → Type 0) (aggregates : List Agg) (facts : List Fact) (rows sorted : List Row)
    → IsPermutation rows sorted → IsSortedBy (λ a b. is_lt (key_cmp a.key b.key)) sorted
    → AreRowsAt P aggregates facts rows →
    AreRowsAt P aggregates facts sorted × IsStrictlySortedBy key_cmp (map key_of sorted)
rows-sorted P aggregates facts rows sorted moved order are = (
  record {
    keys = λ key. (
      λ inside. (are.keys key).0
          (Contains-permutation (map key_of sorted) (map key_of rows) key (IsPermutation-sym _ _ keys_moved) inside),
      λ is. Contains-permutation (map key_of rows) (map key_of sorted) key keys_moved ((are.keys key).1 is),
    );
    once = once;
    answers = Contains-AllByRecursion (HasAnswers aggregates facts) sorted
        (λ row inside. AllByRecursion-Contains (HasAnswers aggregates facts) rows row are.answers
        (Contains-permutation sorted rows row (IsPermutation-sym rows sorted moved) inside));
  },
  ascending,
) where
  keys_moved : IsPermutation (map key_of rows) (map key_of sorted)
  keys_moved = IsPermutation-map key_of rows sorted moved

  once : IsDistinct same_key (map key_of sorted)
  once = IsDistinct-IsPermutation same_key same_key-IsEquivalence.symm (map key_of rows)
      (map key_of sorted) keys_moved are.once

  no_key : Key
  no_key = record { coords = [] }

  no_row : Row
  no_row = record { key = no_key; answers = [] }

  key_there : (k : ℕ) → k < length sorted → get_or (map key_of sorted) k no_key ≡ (get_or sorted k no_row).key
  key_there k inside = get_or-map key_of sorted k no_row no_key inside

  long : length (map key_of sorted) ≡ length sorted
  long = length-map sorted key_of

  ascending : IsStrictlySortedBy key_cmp (map key_of sorted)
  ascending = sorted_from_all_adjacent key_cmp-IsTotalOrder (map key_of sorted) no_key (λ k inside.
      let near : k + 1 < length sorted = omega (arith, inside, long) in
      let here = get_or (map key_of sorted) k no_key in
      let next = get_or (map key_of sorted) (k + 1) no_key in
      let upward : is_lt (key_cmp next here) ≡ false =
      rw (key_there (k + 1) near, key_there k (omega (arith, near))) (order k no_row (omega arith) near) in
      Less-from_is_lt key_cmp-IsTotalOrder key_cmp-exact here next upward (λ same.
      let tied : same_key here next ≡ true = ap (same_key here) (sym same) ∙ same_key-IsEquivalence.refl here in
      both_ways _ (apart_from_distinct same_key (map key_of sorted) k (k + 1) no_key once (omega arith) inside) tied))

-- ---- rows of parts
-- a key is a cell of the cube of some facts over some sets, passes a test, and is of one of the first so many parts
pub record IsKeyBelow (count parts : ℕ) (test : Key → Bool) (sets : List ℕ) (dimensions : ℕ) (facts : List Fact)
    (key : Key) : Type 0 where
  pub cell : is_cell sets dimensions facts key ≡ true
  pub passes : test key ≡ true
  pub below : part_of parts (mask_of key) < count

-- these are the rows of the first so many parts of a cube, in any order, whose keys pass a test
abbrev pub AreRowsBelow : ℕ → ℕ → (Key → Bool) → List ℕ → ℕ → List Agg → List Fact → List Row → Type 0
AreRowsBelow count parts test sets dimensions aggregates facts rows =
    AreRowsAt (IsKeyBelow count parts test sets dimensions facts) aggregates facts rows

abbrev IsKeyOf : (part parts : ℕ) (test : Key → Bool) (sets : List ℕ) (dimensions : ℕ) (facts : List Fact) → Key
    → Type 0
IsKeyOf part parts test sets dimensions facts key =
    IsTrue (is_cell (sets_of_part part parts sets) dimensions facts key) × IsTrue (test key)

-- rows of a query are such rows
rows-where : (test : Key → Bool) (sets : List ℕ) (dimensions : ℕ) (aggregates : List Agg) (facts : List Fact)
    (rows : List Row) → AreRowsWhere test sets dimensions aggregates facts rows →
    AreRowsAt (λ key. IsTrue (is_cell sets dimensions facts key) × IsTrue (test key)) aggregates facts rows
rows-where test sets dimensions aggregates facts rows are = record {
  keys = are.cells;
  once = IsDistinct-from_sorted key_cmp (map key_of rows) are.ordered;
  answers = are.answers;
}

-- a cell of a part is a cell whose mask leaves the part
cell-part : (part parts : ℕ) (sets : List ℕ) (dimensions : ℕ) (facts : List Fact) (key : Key)
    → is_cell (sets_of_part part parts sets) dimensions facts key
    ≡ (part_of parts (mask_of key) == part) && is_cell sets dimensions facts key
cell-part part parts sets dimensions facts key = rw (among-part part parts sets (mask_of key))
    (grouped (part_of parts (mask_of key) == part) (is_among (mask_of key) sets) _)
  where
    grouped : (a b c : Bool) → (a && b) && c ≡ a && (b && c)
    grouped true b c = refl
    grouped false b c = refl

of-part : (part parts : ℕ) (test : Key → Bool) (sets : List ℕ) (dimensions : ℕ) (facts : List Fact) (key : Key)
    → IsKeyOf part parts test sets dimensions facts key
    → (part_of parts (mask_of key) ≡ part) × (is_cell sets dimensions facts key ≡ true)
of-part part parts test sets dimensions facts key is =
    let both = and_parts (part_of parts (mask_of key) == part) (is_cell sets dimensions facts key)
    (sym (cell-part part parts sets dimensions facts key) ∙ is.0) in
    (eqb-true (part_of parts (mask_of key)) part both.0, both.1)

to-part : (part parts : ℕ) (test : Key → Bool) (sets : List ℕ) (dimensions : ℕ) (facts : List Fact) (key : Key)
    → part_of parts (mask_of key) ≡ part → is_cell sets dimensions facts key ≡ true → test key ≡ true
    → IsKeyOf part parts test sets dimensions facts key
to-part part parts test sets dimensions facts key at cell passes = (
  cell-part part parts sets dimensions facts key ∙ and_from (part_of parts (mask_of key) == part)
      (is_cell sets dimensions facts key) (eq-eqb (part_of parts (mask_of key)) part at) cell,
  passes,
)

-- the rows of part 0
pub rows-first : (parts : ℕ) (test : Key → Bool) (sets : List ℕ) (dimensions : ℕ)
    (aggregates : List Agg) (facts : List Fact) (rows : List Row)
    → AreRowsWhere test (sets_of_part 0 parts sets) dimensions aggregates facts rows →
    AreRowsBelow 1 parts test sets dimensions aggregates facts rows
rows-first parts test sets dimensions aggregates facts rows are =
    rows-by (IsKeyOf 0 parts test sets dimensions facts)
    (IsKeyBelow 1 parts test sets dimensions facts) aggregates facts rows (λ key. (
      λ is. let o = of-part 0 parts test sets dimensions facts key is in
          let at = o.0 in
          record { cell = o.1; passes = is.1; below = omega arith },
      λ is. let below = is.below in to-part 0 parts test sets dimensions facts key (omega arith) is.cell is.passes,
    )) (rows-where test (sets_of_part 0 parts sets) dimensions aggregates facts rows are)

-- those of one part more
rows-added : (part parts : ℕ) (test : Key → Bool) (sets : List ℕ) (dimensions : ℕ) (aggregates : List Agg)
    (facts : List Fact) (rows more : List Row) → AreRowsBelow part parts test sets dimensions aggregates facts rows →
    AreRowsAt (IsKeyOf part parts test sets dimensions facts) aggregates facts more
    → AreRowsBelow (part + 1) parts test sets dimensions aggregates facts (rows ++ more)
rows-added part parts test sets dimensions aggregates facts rows more are add =
    let P = IsKeyBelow part parts test sets dimensions facts in
    let Q = IsKeyOf part parts test sets dimensions facts in
    rows-by (λ key. P key ⊎ Q key) (IsKeyBelow (part + 1) parts test sets dimensions facts) aggregates facts
    (rows ++ more) (λ key. (
      λ is. elim is [
        | inl p ↦ let below = p.below in record { cell = p.cell; passes = p.passes; below = omega arith }
        | inr q ↦ let o = of-part part parts test sets dimensions facts key q in
            let at = o.0 in
            record { cell = o.1; passes = q.1; below = omega arith }
      ],
      λ is. elim (cases_lt (part_of parts (mask_of key)) part) [
        | inl less ↦ inl (record { cell = is.cell; passes = is.passes; below = less })
        | inr past ↦
            let below = is.below in
            inr (to-part part parts test sets dimensions facts key (omega (arith, past, below)) is.cell is.passes)
      ],
    ))
    (rows-append P Q aggregates facts rows more
    (λ key p q. let o = of-part part parts test sets dimensions facts key q in let at = o.0 in let below = p.below in
    omega arith) are add)

pub rows-more : (part parts : ℕ) (test : Key → Bool) (sets : List ℕ) (dimensions : ℕ) (aggregates : List Agg)
    (facts : List Fact) (rows more : List Row) → AreRowsBelow part parts test sets dimensions aggregates facts rows →
    AreRowsWhere test (sets_of_part part parts sets) dimensions aggregates facts more
    → AreRowsBelow (part + 1) parts test sets dimensions aggregates facts (rows ++ more)
rows-more part parts test sets dimensions aggregates facts rows more are add =
    rows-added part parts test sets dimensions aggregates facts rows more are
    (rows-where test (sets_of_part part parts sets) dimensions aggregates facts more add)

-- ---- how many cells the first so many parts have
-- rows of keys alone, which answer nothing
bare : List Key → List Row
bare keys = map (λ key. record { key = key; answers = [] }) keys

keys-bare : (keys : List Key) → map key_of (bare keys) ≡ keys
unfolding bare
keys-bare [] = refl
keys-bare (key ∷ keys) = ap (λ (rest : List Key). key ∷ rest) (keys-bare keys)

answers-bare : (facts : List Fact) (keys : List Key) → AllByRecursion (HasAnswers [] facts) (bare keys)
unfolding bare
answers-bare facts [] = tt
answers-bare facts (key ∷ keys) = (tt, answers-bare facts keys)

-- the first so many parts of a cube have so many cells
pub record HaveCellsBelow (count parts : ℕ) (sets : List ℕ) (dimensions : ℕ) (facts : List Fact) (number : ℕ)
    : Type 0 where
  pub rows : List Row
  pub are : AreRowsBelow count parts (λ key. true) sets dimensions [] facts rows
  pub many : number ≡ length rows

pub cells-none : (parts : ℕ) (sets : List ℕ) (dimensions : ℕ) (facts : List Fact)
    → HaveCellsBelow 0 parts sets dimensions facts 0
unfolding IsDistinct
cells-none parts sets dimensions facts = record {
  rows = [];
  are = record {
    keys = λ key. (λ inside. absurd (omega (arith, inside.1)), λ is. let below = is.below in absurd (omega (arith, below)));
    once = tt;
    answers = tt;
  };
  many = refl;
}

-- those of one part more
pub cells-added : (part parts : ℕ) (sets : List ℕ) (dimensions : ℕ) (facts : List Fact) (number more : ℕ)
    → HaveCellsBelow part parts sets dimensions facts number
    → HasCellsOver (sets_of_part part parts sets) dimensions facts more
    → HaveCellsBelow (part + 1) parts sets dimensions facts (number + more)
cells-added part parts sets dimensions facts number more so_far has = record {
  rows = so_far.rows ++ bare has.keys;
  are = rows-added part parts (λ key. true) sets dimensions [] facts so_far.rows (bare has.keys) so_far.are (record {
    keys = λ key. rw (keys-bare has.keys)
        (λ inside. ((has.are.cells key).0 inside, refl), λ is. (has.are.cells key).1 is.0);
    once = rw (keys-bare has.keys) has.are.once;
    answers = answers-bare facts has.keys;
  });
  many = omega (
    arith,
    so_far.many,
    has.many,
    length-append so_far.rows (bare has.keys),
    ap (λ (keys : List Key). length keys) (keys-bare has.keys),
    length-map (bare has.keys) key_of,
  );
}

-- all parts
pub cells-all-below : (parts : ℕ) (sets : List ℕ) (dimensions : ℕ) (facts : List Fact) (number : ℕ) → 1 ≤ parts
    → HaveCellsBelow parts parts sets dimensions facts number → HasCellsOver sets dimensions facts number
cells-all-below parts sets dimensions facts number some has = record {
  keys = map key_of has.rows;
  are = record {
    cells = λ key. (
      λ inside. ((has.are.keys key).0 inside).cell,
      λ is. (has.are.keys key).1 (record { cell = is; passes = refl; below = part_of-below parts (mask_of key) some }),
    );
    once = has.are.once;
  };
  many = has.many ∙ sym (length-map has.rows key_of);
}

-- all parts
below-all : (parts : ℕ) (test : Key → Bool) (sets : List ℕ) (dimensions : ℕ) (aggregates : List Agg) (facts : List Fact)
    (rows : List Row) → 1 ≤ parts → AreRowsBelow parts parts test sets dimensions aggregates facts rows
    → IsStrictlySortedBy key_cmp (map key_of rows) →
    AreRowsWhere test sets dimensions aggregates facts rows
below-all parts test sets dimensions aggregates facts rows some are ordered = record {
  cells = λ key. (
    λ inside. let is = (are.keys key).0 inside in (is.cell, is.passes),
    λ is. (are.keys key).1 (record { cell = is.0; passes = is.1; below = part_of-below parts (mask_of key) some }),
  );
  ordered = ordered;
  answers = are.answers;
}

-- the rows of all parts, put in key order
pub rows-all : (parts : ℕ) (test : Key → Bool) (sets : List ℕ) (dimensions : ℕ) (aggregates : List Agg)
    (facts : List Fact) (rows sorted : List Row) → 1 ≤ parts
    → AreRowsBelow parts parts test sets dimensions aggregates facts rows →
    IsPermutation rows sorted → IsSortedBy (λ a b. is_lt (key_cmp a.key b.key)) sorted
    → AreRowsWhere test sets dimensions aggregates facts sorted
rows-all parts test sets dimensions aggregates facts rows sorted some are moved order =
    let s =
    rows-sorted (IsKeyBelow parts parts test sets dimensions facts) aggregates facts rows sorted moved order are in
    below-all parts test sets dimensions aggregates facts sorted some s.0 s.1

-- and of one part alone
pub rows-one : (test : Key → Bool) (sets : List ℕ) (dimensions : ℕ) (aggregates : List Agg) (facts : List Fact)
    (rows : List Row) → AreRowsWhere test (sets_of_part 0 1 sets) dimensions aggregates facts rows →
    AreRowsWhere test sets dimensions aggregates facts rows
rows-one test sets dimensions aggregates facts rows are = below-all 1 test sets dimensions aggregates facts rows
    (omega arith) (rows-first 1 test sets dimensions aggregates facts rows are) are.ordered

-- rows of all keys
pub rows-over : (sets : List ℕ) (dimensions : ℕ) (aggregates : List Agg) (facts : List Fact) (rows : List Row)
    → AreRowsWhere (λ key. true) sets dimensions aggregates facts rows
    → AreRowsOver sets dimensions aggregates facts rows
rows-over sets dimensions aggregates facts rows are = record {
  cells = λ key. (λ inside. ((are.cells key).0 inside).0, λ is. (are.cells key).1 (is, refl));
  ordered = are.ordered;
  answers = are.answers;
}

pub over-rows : (sets : List ℕ) (dimensions : ℕ) (aggregates : List Agg) (facts : List Fact) (rows : List Row)
    → AreRowsOver sets dimensions aggregates facts rows
    → AreRowsWhere (λ key. true) sets dimensions aggregates facts rows
over-rows sets dimensions aggregates facts rows are = record {
  cells = λ key. (λ inside. ((are.cells key).0 inside, refl), λ is. (are.cells key).1 is.0);
  ordered = are.ordered;
  answers = are.answers;
}

-- ---- the row of a key
-- a row of a part is a row of the cube
pub row-of-part : (part parts : ℕ) (sets : List ℕ) (dimensions : ℕ) (aggregates : List Agg) (facts : List Fact)
    (key : Key) (row : Row) → IsRowOver (sets_of_part part parts sets) dimensions aggregates facts key (Some row) →
    IsRowOver sets dimensions aggregates facts key (Some row)
row-of-part part parts sets dimensions aggregates facts key row is =
    let both = and_parts (part_of parts (mask_of key) == part) (is_cell sets dimensions facts key)
    (sym (cell-part part parts sets dimensions facts key) ∙ is.0) in
    (both.1, is.1, is.2)

-- a key that is a cell is of none of the first so many parts
abbrev pub IsNotBelow : ℕ → ℕ → List ℕ → ℕ → List Fact → Key → Type 0
IsNotBelow count parts sets dimensions facts key =
    is_cell sets dimensions facts key ≡ true → count ≤ part_of parts (mask_of key)

-- nor of one part more, where it is no cell of that
pub not-below-more : (part parts : ℕ) (sets : List ℕ) (dimensions : ℕ) (facts : List Fact) (key : Key)
    → IsNotBelow part parts sets dimensions facts key
    → is_cell (sets_of_part part parts sets) dimensions facts key ≡ false →
    IsNotBelow (part + 1) parts sets dimensions facts key
not-below-more part parts sets dimensions facts key none other cell =
    let above = none cell in
    elim (cases_lt part (part_of parts (mask_of key))) [
      | inl less ↦ omega arith
      | inr past ↦
          let at : part ≡ part_of parts (mask_of key) = omega (arith, above, past) in
          let there : is_cell (sets_of_part part parts sets) dimensions facts key ≡ true =
          cell-part part parts sets dimensions facts key ∙ and_from (part_of parts (mask_of key) == part)
          (is_cell sets dimensions facts key) (eq-eqb (part_of parts (mask_of key)) part (sym at)) cell in
          absurd (both_ways _ other there)
    ]

-- and of no part, it is no cell
pub not-below-all : (parts : ℕ) (sets : List ℕ) (dimensions : ℕ) (facts : List Fact) (key : Key) → 1 ≤ parts
    → IsNotBelow parts parts sets dimensions facts key → is_cell sets dimensions facts key ≡ false
not-below-all parts sets dimensions facts key some none = elim (cases_Bool (is_cell sets dimensions facts key)) [
  | inl cell ↦ let above = none cell in
      let below = part_of-below parts (mask_of key) some in
      absurd (omega (arith, above, below))
  | inr not_cell ↦ not_cell
]
