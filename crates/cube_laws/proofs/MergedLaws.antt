-- The merged rows of the cubes of parts of the facts are the rows of the cube of all facts.
use Rattle.std.proofs.Common.{◌≡◌, ℕ, ◌≤◌, ◌||◌, Bool, true, false, filter, List, [], ◌∷◌, ◌++◌, length, map, flat_map}
use Rattle.std.proofs.Common.{Contains, IsTrue, ◌↔◌, IsPermutation, is_eq, Less, Equal, refl, sym}
use Rattle.std.proofs.Common.{ap, ap₂, ◌∙◌, subst, inl, inr, arith}
use Rattle.std.specs.List.{AllByRecursion, AllZip, list_any}
use Rattle.std.specs.List.Sorted.{IsStrictlySortedBy}
use Rattle.std.specs.Ordering.{ordering_reverse}
use Rattle.std.proofs.lemmas.Bool.{cases_Bool, and_parts, and_from, or_cases, or_left, or_right, false_from_ne_true}
use Rattle.std.proofs.lemmas.Bool.{both_ways}
use Rattle.std.proofs.lemmas.List.{map-append, append-nil, length-map}
use Rattle.std.proofs.lemmas.List.Elements.{Contains-append_left, Contains-append_right, Contains-append_cases}
use Rattle.std.proofs.lemmas.List.Elements.{filter-append}
use Rattle.std.proofs.lemmas.List.Folds.{list_any-append}
use Rattle.std.proofs.lemmas.List.Sorted.{IsPermutation-map, IsPermutation-refl, IsPermutation-sym}
use Rattle.std.proofs.lemmas.List.Sorted.{Contains-permutation}
use Rattle.std.proofs.lemmas.Map.Keys.{sorted_tail}
use Rattle.std.proofs.lemmas.Grind.{flat_map-append}
use Rattle.cube_core.specs.Answer.{AreAnswers}
use Rattle.cube_core.specs.Covers.{covers}
use Rattle.cube_core.specs.Layout.{Layout, number_of_dimensions}
use Rattle.cube_core.specs.TextPlaces.{counted}
use Rattle.cube_laws.specs.Cells.{all_counted}
use Rattle.cube_core.specs.Cube.{AreRowsOver, HasAnswers, is_cell, is_total, key_of}
use Rattle.cube_core.specs.Group.{group_of}
use Rattle.cube_core.specs.GroupingSet.{is_among, mask_of}
use Rattle.cube_core.specs.Merged.{HasMergedAnswers, IsMerged, rows_at}
use Rattle.cube_core.specs.Order.{key_cmp}
use Rattle.cube_core.specs.declared.aggregate.Agg.{Agg}
use Rattle.cube_core.specs.declared.fact.Fact.{Fact}
use Rattle.cube_core.specs.declared.key.Key.{Key}
use Rattle.cube_core.specs.declared.key.Row.{Row}
use Rattle.cube_core.proofs.KeyOrderLaws.{key_cmp-IsTotalOrder, key_cmp-exact}
use Rattle.cube_core.proofs.ListLaws.{AllByRecursion-Contains, Contains-AllByRecursion, Contains-cases, Contains-head}
use Rattle.cube_core.proofs.ListLaws.{Contains-tail, Contains-nil, Contains-map, map-Contains, filter-passed}
use Rattle.cube_core.proofs.ListLaws.{filter-failed}
use Rattle.cube_merge.proofs.MergedLaws.{AllByRecursion-append, is_eq-Equal, key_cmp-refl}
use Rattle.cube_laws.specs.Merging.{joined, AreMergedOf, CanBeMadeOf}
use Rattle.cube_laws.proofs.SortedLaws.{IsStrictlySortedBy-above}
use Rattle.cube_core.proofs.ReorderedLaws.{IsPermutation-Reordered, Reordered-IsPermutation, filter-Reordered}
use Rattle.cube_laws.proofs.SharesLaws.{Share, facts_in, row_in, Answers, AreMerged-shares, AreAnswers-shares}
use Rattle.cube_laws.proofs.SharesLaws.{AreMerged-IsPermutation}

-- ---- the rows with a key among rows in key order
-- of rows without the key none
rows_at-none : (key : Key) (rows : List Row) → (Contains (map key_of rows) key → ⊥) → rows_at key rows ≡ []
rows_at-none key [] none = refl
rows_at-none key (row ∷ rows) none =
    let other : is_eq (key_cmp key row.key) ≡ false = false_from_ne_true _ (λ same.
    none (subst (Contains (map key_of (row ∷ rows)))
    (sym (key_cmp-exact key row.key (is_eq-Equal (key_cmp key row.key) same)))
    (Contains-head row.key (map key_of rows)))) in
    filter-failed (λ (r : Row). is_eq (key_cmp key r.key)) row rows other
    ∙ rows_at-none key rows (λ among. none (Contains-tail row.key (map key_of rows) key among))

-- after a row in key order none has its key
rows_at-after : (row : Row) (rows : List Row) → IsStrictlySortedBy key_cmp (map key_of (row ∷ rows))
    → rows_at row.key rows ≡ []
rows_at-after row rows sorted =
    rows_at-none row.key rows (λ among.
    let below : key_cmp row.key row.key ≡ Less =
    IsStrictlySortedBy-above key_cmp row.key (map key_of rows) row.key sorted among in
    let clash : Less ≡ Equal = sym below ∙ key_cmp-refl row.key in
    cc)

-- of rows in key order the row with its key
rows_at-one : (row : Row) (rows : List Row) → IsStrictlySortedBy key_cmp (map key_of rows) → Contains rows row
    → rows_at row.key rows ≡ row ∷ []
rows_at-one row [] sorted among = absurd (Contains-nil row among)
rows_at-one row (first ∷ rows) sorted among = elim (Contains-cases first rows row among) [
  | inl here ↦
      subst (λ (r : Row). rows_at r.key (first ∷ rows) ≡ r ∷ []) here
      (filter-passed (λ (r : Row). is_eq (key_cmp first.key r.key)) first rows (ap is_eq (key_cmp-refl first.key))
      ∙ ap (λ rest. first ∷ rest) (rows_at-after first rows sorted))
  | inr after ↦
      let below : key_cmp first.key row.key ≡ Less = IsStrictlySortedBy-above key_cmp first.key
      (map key_of rows) row.key sorted (map-Contains key_of rows row after) in
      let above : is_eq (key_cmp row.key first.key) ≡ false =
      ap is_eq (key_cmp-IsTotalOrder.antisymm row.key first.key ∙ ap ordering_reverse below) in
      filter-failed (λ (r : Row). is_eq (key_cmp row.key r.key)) first rows above
      ∙ rows_at-one row rows (sorted_tail key_cmp first.key (map key_of rows) sorted) after
]

-- ---- shares
-- facts and rows parted into shares, each of which answers for itself
record AreShared (given : List Agg) (facts : List Fact) (rows : List Row) : Type 0 where
  shares : List Share
  each : AllByRecursion (Answers given) shares
  facts_are : flat_map facts_in shares ≡ facts
  rows_are : map row_in shares ≡ rows

AreShared-append : (given : List Agg) (facts others : List Fact) (rows others_rows : List Row)
    → AreShared given facts rows → AreShared given others others_rows
    → AreShared given (facts ++ others) (rows ++ others_rows)
AreShared-append given facts others rows others_rows a b = record {
  shares = a.shares ++ b.shares;
  each = AllByRecursion-append (Answers given) a.shares b.shares a.each b.each;
  facts_are =
      flat_map-append facts_in a.shares b.shares ∙ ap₂ (λ (xs ys : List Fact). xs ++ ys) a.facts_are b.facts_are;
  rows_are = map-append row_in a.shares b.shares ∙ ap₂ (λ (xs ys : List Row). xs ++ ys) a.rows_are b.rows_are;
}

-- where no element passes, a filter keeps none
pub filter-none : {X : Type 0} (p : X → Bool) (xs : List X) → list_any p xs ≡ false → filter p xs ≡ []
filter-none p [] none = refl
filter-none p (x ∷ xs) none = elim (cases_Bool (p x)) [
  | inl passes ↦ absurd (both_ways _ none (or_left (p x) (list_any p xs) passes))
  | inr fails ↦ filter-failed p x xs fails ∙ filter-none p xs (subst (λ b. (b || list_any p xs) ≡ false) fails none)
]

module _ (sets : List ℕ) (dimensions : ℕ) (given : List Agg) where
  -- the group of a key and the row with it: one share, or none where there is no such row
  AreShared-cube : (facts : List Fact) (rows : List Row) (key : Key) → AreRowsOver sets dimensions given facts rows
      → is_among (mask_of key) sets ≡ true
      → AreShared given (group_of key facts) (rows_at key rows)
  AreShared-cube facts rows key are kept = elim (cases_Bool (is_total dimensions key || list_any (covers key) facts)) [
    | inl cell ↦
        let found = Contains-map key_of rows key ((are.cells key).1 (and_from _ _ kept cell)) in
        subst (λ k. AreShared given (group_of k facts) (rows_at k rows)) found.2 (record {
          shares = (group_of found.0.key facts, found.0) ∷ [];
          each = (AllByRecursion-Contains (HasAnswers given facts) rows found.0 are.answers found.1, tt);
          facts_are = append-nil (group_of found.0.key facts);
          rows_are = sym (rows_at-one found.0 rows are.ordered found.1);
        })
    | inr none ↦ record {
      shares = [];
      each = tt;
      facts_are = sym (filter-none (covers key) facts
          (false_from_ne_true _ (λ some. both_ways _ none (or_right (is_total dimensions key) _ some))));
      rows_are = sym (rows_at-none key rows (λ among. both_ways _ none (and_parts _ _ ((are.cells key).0 among)).1));
    }
  ]

  -- the same of all parts
  AreShared-joined : (parts : List (List Fact)) (cubes : List (List Row)) (key : Key)
      → AllZip (AreRowsOver sets dimensions given) parts cubes → is_among (mask_of key) sets ≡ true
      → AreShared given (group_of key (joined parts)) (rows_at key (joined cubes))
  AreShared-joined [] [] key are kept = record { shares = []; each = tt; facts_are = refl; rows_are = refl }
  AreShared-joined [] (rows ∷ cubes) key are kept = absurd are
  AreShared-joined (facts ∷ parts) [] key are kept = absurd are
  AreShared-joined (facts ∷ parts) (rows ∷ cubes) key are kept =
      subst (λ group. AreShared given group (rows_at key (joined (rows ∷ cubes))))
      (sym (filter-append (covers key) facts (joined parts)))
      (subst (AreShared given (group_of key facts ++ group_of key (joined parts)))
      (sym (filter-append (λ (row : Row). is_eq (key_cmp key row.key)) rows (joined cubes)))
      (AreShared-append given (group_of key facts) (group_of key (joined parts)) (rows_at key rows)
      (rows_at key (joined cubes))
      (AreShared-cube facts rows key are.0 kept) (AreShared-joined parts cubes key are.1 kept)))

  -- ---- cells
  -- a cell of a part is one of the whole
  is_cell-joined : (parts : List (List Fact)) (cubes : List (List Row)) (key : Key)
      → AllZip (AreRowsOver sets dimensions given) parts cubes
      → Contains (map key_of (joined cubes)) key → is_cell sets dimensions (joined parts) key ≡ true
  is_cell-joined [] [] key are among = absurd (Contains-nil key among)
  is_cell-joined [] (rows ∷ cubes) key are among = absurd are
  is_cell-joined (facts ∷ parts) [] key are among = absurd are
  is_cell-joined (facts ∷ parts) (rows ∷ cubes) key are among =
      let keys = subst (λ ks. Contains ks key) (map-append key_of rows (joined cubes)) among in
      let joins = list_any-append (covers key) facts (joined parts) in
      elim (Contains-append_cases (map key_of rows) (map key_of (joined cubes)) key keys) [
        | inl here ↦
            let cell = and_parts _ _ ((are.0.cells key).0 here) in
            and_from _ _ cell.0 (elim (or_cases (is_total dimensions key) (list_any (covers key) facts) cell.1) [
              | inl total ↦ or_left _ _ total
              | inr some ↦
                  or_right (is_total dimensions key) _ (joins ∙ or_left _ (list_any (covers key) (joined parts)) some)
            ])
        | inr after ↦
            let cell = and_parts _ _ (is_cell-joined parts cubes key are.1 after) in
            and_from _ _
            cell.0 (elim (or_cases (is_total dimensions key) (list_any (covers key) (joined parts)) cell.1) [
              | inl total ↦ or_left _ _ total
              | inr some ↦ or_right (is_total dimensions key) _ (joins ∙ or_right (list_any (covers key) facts) _ some)
            ])
      ]

  -- what covers a fact of all is a cell of a part
  Contains-covers : (parts : List (List Fact)) (cubes : List (List Row)) (key : Key)
      → AllZip (AreRowsOver sets dimensions given) parts cubes
      → is_among (mask_of key) sets ≡ true → list_any (covers key) (joined parts) ≡ true
      → Contains (map key_of (joined cubes)) key
  Contains-covers [] [] key are kept some = cc
  Contains-covers [] (rows ∷ cubes) key are kept some = absurd are
  Contains-covers (facts ∷ parts) [] key are kept some = absurd are
  Contains-covers (facts ∷ parts) (rows ∷ cubes) key are kept some =
      subst (λ ks. Contains ks key) (sym (map-append key_of rows (joined cubes)))
      (elim (or_cases (list_any (covers key) facts) (list_any (covers key) (joined parts))
      (sym (list_any-append (covers key) facts (joined parts)) ∙ some)) [
        | inl here ↦ Contains-append_left (map key_of rows) (map key_of (joined cubes)) key
            ((are.0.cells key).1 (and_from _ _ kept (or_right (is_total dimensions key) _ here)))
        | inr after ↦ Contains-append_right (map key_of rows) (map key_of (joined cubes)) key
            (Contains-covers parts cubes key are.1 kept after)
      ])

  -- the grand total is a cell of the first part
  Contains-total : (parts : List (List Fact)) (cubes : List (List Row)) (key : Key) → 1 ≤ length parts
      → AllZip (AreRowsOver sets dimensions given) parts cubes
      → is_among (mask_of key) sets ≡ true → is_total dimensions key ≡ true → Contains (map key_of (joined cubes)) key
  Contains-total [] cubes key some are kept total = absurd (omega (arith, some))
  Contains-total (facts ∷ parts) [] key some are kept total = absurd are
  Contains-total (facts ∷ parts) (rows ∷ cubes) key some are kept total =
      subst (λ ks. Contains ks key) (sym (map-append key_of rows (joined cubes)))
      (Contains-append_left (map key_of rows) (map key_of (joined cubes)) key
      ((are.0.cells key).1 (and_from _ _ kept (or_left _ _ total))))

  -- the keys of all parts' rows are the cells of the whole
  pub cells-joined : (parts : List (List Fact)) (cubes : List (List Row)) (key : Key) → 1 ≤ length parts
      → AllZip (AreRowsOver sets dimensions given) parts cubes
      → Contains (map key_of (joined cubes)) key ↔ IsTrue (is_cell sets dimensions (joined parts) key)
  cells-joined parts cubes key some are = (
    (λ among. is_cell-joined parts cubes key are among),
    (λ cell.
        let halves = and_parts _ _ cell in
        elim (or_cases (is_total dimensions key) (list_any (covers key) (joined parts)) halves.1) [
          | inl total ↦ Contains-total parts cubes key some are halves.0 total
          | inr covered ↦ Contains-covers parts cubes key are halves.0 covered
        ]),
  )

  -- ---- the merged rows
  -- rows drawn in another order have the same keys
  Contains-drawn : (rows drawn : List Row) (key : Key) → IsPermutation rows drawn
      → Contains (map key_of drawn) key ↔ Contains (map key_of rows) key
  Contains-drawn rows drawn key h =
      let keys = IsPermutation-map key_of rows drawn h in (
        Contains-permutation (map key_of drawn) (map key_of rows) key
            (IsPermutation-sym (map key_of rows) (map key_of drawn) keys),
        Contains-permutation (map key_of rows) (map key_of drawn) key keys,
      )

  -- the merged answers to a cell are those over its group
  HasAnswers-merged : (wanted : List Agg) (parts : List (List Fact)) (cubes : List (List Row)) (drawn : List Row)
      (row : Row) → AllZip (AreRowsOver sets dimensions given) parts cubes
      → IsPermutation (joined cubes) drawn → is_among (mask_of row.key) sets ≡ true
      → HasMergedAnswers given wanted drawn row → HasAnswers wanted (joined parts) row
  HasAnswers-merged wanted parts cubes drawn row are order kept has =
      let shared = AreShared-joined parts cubes row.key are kept in
      let back : IsPermutation (rows_at row.key drawn) (rows_at row.key (joined cubes))
      = IsPermutation-sym (rows_at row.key (joined cubes)) (rows_at row.key drawn)
      (Reordered-IsPermutation (filter-Reordered (λ (r : Row). is_eq (key_cmp row.key r.key))
      (IsPermutation-Reordered (joined cubes) drawn order))) in
      subst (λ group. AreAnswers group wanted row.answers) shared.facts_are
      (AreMerged-shares given shared.shares shared.each wanted row.answers
      (AreMerged-IsPermutation given (rows_at row.key drawn) (map row_in shared.shares) wanted row.answers
      (subst (IsPermutation (rows_at row.key drawn)) (sym shared.rows_are) back) has))

  -- merged rows of the rows of parts are the rows of the whole
  pub AreRowsOver-AreMergedOf : (wanted : List Agg) (parts : List (List Fact)) (cubes : List (List Row))
      (rows : List Row) → 1 ≤ length parts
      → AllZip (AreRowsOver sets dimensions given) parts cubes → AreMergedOf given wanted cubes rows
      → AreRowsOver sets dimensions wanted (joined parts) rows
  AreRowsOver-AreMergedOf wanted parts cubes rows some are merge =
      let drawn = merge.parts in
      let cell : (key : Key) → Contains (map key_of rows) key ↔ IsTrue (is_cell sets dimensions (joined parts) key)
      = λ key. (
        (λ among. (cells-joined parts cubes key some are).0
            ((Contains-drawn (joined cubes) drawn key merge.drawn).0 ((merge.merged.cells key).0 among))),
        (λ is. (merge.merged.cells key).1
            ((Contains-drawn (joined cubes) drawn key merge.drawn).1 ((cells-joined parts cubes key some are).1 is))),
      ) in
      record {
        cells = cell;
        ordered = merge.merged.ordered;
        answers = Contains-AllByRecursion (HasAnswers wanted (joined parts)) rows (λ row among.
            HasAnswers-merged wanted parts cubes drawn row are merge.drawn
            (and_parts _ _ ((cell row.key).0 (map-Contains key_of rows row among))).0
            (AllByRecursion-Contains (HasMergedAnswers given wanted drawn) rows row merge.merged.answers among));
      }

  -- the rows of the whole are merged rows of the parts' rows
  pub AreMergedOf-AreRowsOver : (wanted : List Agg) (parts : List (List Fact)) (cubes : List (List Row))
      (rows : List Row) → AllByRecursion (CanBeMadeOf given) wanted → 1 ≤ length parts
      → AllZip (AreRowsOver sets dimensions given) parts cubes → AreRowsOver sets dimensions wanted (joined parts) rows
      → AreMergedOf given wanted cubes rows
  AreMergedOf-AreRowsOver wanted parts cubes rows made some are whole =
      let cell : (key : Key) → Contains (map key_of rows) key ↔ Contains (map key_of (joined cubes)) key
      = λ key. (
        (λ among. (cells-joined parts cubes key some are).1 ((whole.cells key).0 among)),
        (λ among. (whole.cells key).1 ((cells-joined parts cubes key some are).0 among)),
      ) in
      let answers : (row : Row) → Contains rows row → HasMergedAnswers given wanted (joined cubes) row
      = λ row among.
      let shared = AreShared-joined parts cubes row.key are
      (and_parts _ _ ((whole.cells row.key).0 (map-Contains key_of rows row among))).0 in
      subst (λ used. AllZip (IsMerged given used) wanted row.answers) shared.rows_are
      (AreAnswers-shares given shared.shares shared.each wanted row.answers made
      (subst (λ group. AreAnswers group wanted row.answers) (sym shared.facts_are)
      (AllByRecursion-Contains (HasAnswers wanted (joined parts)) rows row whole.answers among))) in
      record {
        parts = joined cubes;
        drawn = IsPermutation-refl (joined cubes);
        merged = record {
          cells = cell;
          ordered = whole.ordered;
          answers = Contains-AllByRecursion (HasMergedAnswers given wanted (joined cubes)) rows answers;
        };
      }

-- ---- facts as a schema's cube counts them
-- parts counted one by one are what is counted of them all
all_counted-joined : (s : Layout) (parts : List (List Fact))
    → joined (map (all_counted s) parts) ≡ all_counted s (joined parts)
all_counted-joined s [] = refl
all_counted-joined s (part ∷ parts) =
    ap (λ others. all_counted s part ++ others) (all_counted-joined s parts)
    ∙ sym (map-append (counted s) part (joined parts))

all_counted-AllZip : (s : Layout) (given : List Agg) (parts : List (List Fact)) (cubes : List (List Row))
    → AllZip (λ facts. AreRowsOver s.grouping_sets (number_of_dimensions s) given (all_counted s facts)) parts cubes
    → AllZip (AreRowsOver s.grouping_sets (number_of_dimensions s) given) (map (all_counted s) parts) cubes
all_counted-AllZip s given [] [] are = tt
all_counted-AllZip s given [] (cube ∷ cubes) are = are
all_counted-AllZip s given (part ∷ parts) [] are = are
all_counted-AllZip s given (part ∷ parts) (cube ∷ cubes) are =
    (are.0, all_counted-AllZip s given parts cubes are.1)

-- so the merged rows of the cubes of parts are the rows of the cube of all facts
pub AreMergedOf-AreRows : (s : Layout) (given wanted : List Agg) (parts : List (List Fact)) (cubes : List (List Row))
    (rows : List Row) → 1 ≤ length parts
    → AllZip (λ facts. AreRowsOver s.grouping_sets (number_of_dimensions s) given (all_counted s facts)) parts cubes
    → AreMergedOf given wanted cubes rows
    → AreRowsOver s.grouping_sets (number_of_dimensions s) wanted (all_counted s (joined parts)) rows
AreMergedOf-AreRows s given wanted parts cubes rows some are merge =
    subst (λ facts. AreRowsOver s.grouping_sets (number_of_dimensions s) wanted facts rows) (all_counted-joined s parts)
    (AreRowsOver-AreMergedOf s.grouping_sets (number_of_dimensions s) given wanted (map (all_counted s) parts) cubes rows
    (omega (arith, some, length-map parts (all_counted s))) (all_counted-AllZip s given parts cubes are) merge)

-- and the rows of that are merged rows
pub AreRows-AreMergedOf : (s : Layout) (given wanted : List Agg) (parts : List (List Fact)) (cubes : List (List Row))
    (rows : List Row) → AllByRecursion (CanBeMadeOf given) wanted → 1 ≤ length parts
    → AllZip (λ facts. AreRowsOver s.grouping_sets (number_of_dimensions s) given (all_counted s facts)) parts cubes
    → AreRowsOver s.grouping_sets (number_of_dimensions s) wanted (all_counted s (joined parts)) rows
    → AreMergedOf given wanted cubes rows
AreRows-AreMergedOf s given wanted parts cubes rows made some are whole =
    AreMergedOf-AreRowsOver s.grouping_sets (number_of_dimensions s) given wanted (map (all_counted s) parts) cubes rows
    made (omega (arith, some, length-map parts (all_counted s))) (all_counted-AllZip s given parts cubes are)
    (subst (λ facts. AreRowsOver s.grouping_sets (number_of_dimensions s) wanted facts rows)
    (sym (all_counted-joined s parts)) whole)
