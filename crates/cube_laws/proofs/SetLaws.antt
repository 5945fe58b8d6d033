-- Filters of lists, of grouping sets and of the rows of a cube.
use Rattle.std.specs.Prelude.{◌≡◌, ◌==◌, ◌≤◌, ℕ, Bool, true, List, [], ◌∷◌, map, filter, ◌<◌, ◌^◌}
use Rattle.std.proofs.Common.{refl, sym, ap, ◌∙◌, inl, inr}
use Rattle.std.proofs.lemmas.List.Elements.{All-from_recursion, recursion_from_All, All-filter}
use Rattle.std.proofs.lemmas.List.Kept.{IsStrictlySortedBy-filter}
use Rattle.std.proofs.lemmas.Bool.{cases_Bool, or_cases, or_left, or_right, and_parts, and_from, eqb-true, eq-eqb}
use Rattle.std.specs.List.{AllByRecursion}
use Rattle.cube_core.specs.Layout.{Layout, IsSchema, number_of_dimensions}
use Rattle.cube_core.proofs.GroupingLaws.{list_any-all_sets}
use Rattle.cube_core.specs.Cube.{is_cell, key_of, HasAnswers, AreRowsOver}
use Rattle.cube_core.specs.Order.{key_cmp}
use Rattle.cube_core.proofs.SetLaws.{part_of-below}
use Rattle.cube_core.specs.GroupingSet.{mask_of, all_sets, is_among, part_of, sets_of_part}
use Rattle.cube_core.specs.GroupingSet.{AreAmong}
use Rattle.cube_laws.specs.Sets.{rows_in, IsTrueOfOne}
use Rattle.cube_core.specs.declared.aggregate.Agg.{Agg}
use Rattle.cube_core.specs.declared.fact.Fact.{Fact}
use Rattle.cube_core.specs.declared.key.Key.{Key}
use Rattle.cube_core.specs.declared.key.Row.{Row}
use Rattle.cube_core.proofs.ListLaws.{Contains-filter, filter-Contains, map-filter}

-- a set that is among sets that are among others is among these
is_among-AreAmong : (others sets : List ℕ) (set : ℕ) → AreAmong sets others → is_among set sets ≡ true
    → is_among set others ≡ true
is_among-AreAmong others [] set are among = cc among
is_among-AreAmong others (first ∷ sets) set are among = elim (or_cases (first == set) (is_among set sets) among) [
  | inl same ↦ ap (λ (n : ℕ). is_among n others) (sym (eqb-true first set same)) ∙ are.0
  | inr later ↦ is_among-AreAmong others sets set are.1 later
]

-- the rows of a cube in some of its grouping sets are those of the cube over these
pub AreRowsOver-AreAmong : (dimensions : ℕ) (aggregates : List Agg) (facts : List Fact) (rows : List Row)
    (others sets : List ℕ)
    → AreAmong sets others
    → AreRowsOver others dimensions aggregates facts rows
    → AreRowsOver sets dimensions aggregates facts (rows_in sets rows)
AreRowsOver-AreAmong dimensions aggregates facts rows others sets are whole =
    let in_sets : Key → Bool = λ key. is_among (mask_of key) sets in
    let keys : map key_of (rows_in sets rows) ≡ filter in_sets (map key_of rows) = map-filter key_of in_sets rows in
    record {
      cells = λ key. (
        (λ here.
            let kept = Contains-filter in_sets (map key_of rows) key (rw keys at here) in
            let cell = and_parts _ _ ((whole.cells key).0 kept.0) in
            and_from (in_sets key) _ kept.1 cell.1),
        (λ cell.
            let parts = and_parts _ _ cell in
            let among = is_among-AreAmong others sets (mask_of key) are parts.0 in
            rw keys
            (filter-Contains in_sets (map key_of rows) key ((whole.cells key).1 (and_from _ _ among parts.1)) parts.0)),
      );
      ordered = rw keys (IsStrictlySortedBy-filter key_cmp in_sets (map key_of rows) whole.ordered);
      answers = recursion_from_All _ _ (All-filter (λ (row : Row). in_sets row.key) (HasAnswers aggregates facts) rows
          (All-from_recursion (HasAnswers aggregates facts) rows whole.answers));
    }

-- a schema's sets are among all
pub AreAmong-all_sets : (dimensions : ℕ) (sets : List ℕ) → AllByRecursion (λ set. set < 2 ^ dimensions) sets
    → AreAmong sets (all_sets dimensions)
AreAmong-all_sets dimensions [] below = tt
AreAmong-all_sets dimensions (set ∷ sets) below = (
  list_any-all_sets set dimensions (λ other. other == set) below.0 (eq-eqb set set refl),
  AreAmong-all_sets dimensions sets below.1,
)

pub IsSchema-AreAmong : (s : Layout) → IsSchema s → AreAmong s.grouping_sets (all_sets (number_of_dimensions s))
IsSchema-AreAmong s is =
    AreAmong-all_sets (number_of_dimensions s) s.grouping_sets
    (recursion_from_All (λ set. set < 2 ^ number_of_dimensions s) s.grouping_sets is.sets_are_of_dimensions)

-- a set that passes is among those that a filter keeps
is_among-filter : (p : ℕ → Bool) (sets : List ℕ) (set : ℕ) → is_among set sets ≡ true → p set ≡ true
    → is_among set (filter p sets) ≡ true
is_among-filter p [] set among passes = among
is_among-filter p (first ∷ sets) set among passes = elim (or_cases (first == set) (is_among set sets) among) [
  | inl same ↦ let first_passes = ap p (eqb-true first set same) ∙ passes in
      rw first_passes (or_left (first == set) _ same)
  | inr later ↦ elim (cases_Bool (p first)) [
    | inl kept ↦ rw kept (or_right (first == set) _ (is_among-filter p sets set later passes))
    | inr left ↦ rw left (is_among-filter p sets set later passes)
  ]
]

-- a set among those that a filter keeps passes, and was among them
filter-is_among : (p : ℕ → Bool) (sets : List ℕ) (set : ℕ) → is_among set (filter p sets) ≡ true
    → (is_among set sets ≡ true) × (p set ≡ true)
filter-is_among p [] set among = cc among
filter-is_among p (first ∷ sets) set among = elim (cases_Bool (p first)) [
  | inl kept ↦ elim (or_cases (first == set) (is_among set (filter p sets)) (rw kept at among)) [
    | inl same ↦ (or_left (first == set) _ same, ap p (sym (eqb-true first set same)) ∙ kept)
    | inr later ↦ let rest = filter-is_among p sets set later in (or_right (first == set) _ rest.0, rest.1)
  ]
  | inr left ↦ let rest = filter-is_among p sets set (rw left at among) in (or_right (first == set) _ rest.0, rest.1)
]

-- a part has no set that isn't in the list
pub is_among-sets_of_part : (parts j : ℕ) (sets : List ℕ) (set : ℕ) → is_among set (sets_of_part j parts sets) ≡ true
    → is_among set sets ≡ true
is_among-sets_of_part parts j sets set among = (filter-is_among (λ other. part_of parts other == j) sets set among).0

-- a set that is in part k of so many leaves k
sets_of_part-mod : (parts : ℕ) (sets : List ℕ) (set k : ℕ) → is_among set (sets_of_part k parts sets) ≡ true
    → k ≡ part_of parts set
sets_of_part-mod parts sets set k among =
    sym (eqb-true (part_of parts set) k (filter-is_among (λ other. part_of parts other == k) sets set among).1)

-- a set is in the part that it leaves
sets_of_part-own : (parts : ℕ) (sets : List ℕ) (set : ℕ) → is_among set sets ≡ true
    → is_among set (sets_of_part (part_of parts set) parts sets) ≡ true
sets_of_part-own parts sets set among = is_among-filter (λ other. part_of parts other == part_of parts set)
    sets set among (eq-eqb (part_of parts set) (part_of parts set) refl)

-- each set is in one part
pub sets_of_part-unique : (parts : ℕ) (sets : List ℕ) (set : ℕ) → 1 ≤ parts → is_among set sets ≡ true
    → IsTrueOfOne parts (λ j. is_among set (sets_of_part j parts sets))
sets_of_part-unique parts sets set some among = (
  part_of parts set,
  part_of-below parts set some,
  sets_of_part-own parts sets set among,
  λ k here. sets_of_part-mod parts sets set k here,
)

-- each cell is in one part
pub is_cell-sets_of_part : (parts dimensions : ℕ) (sets : List ℕ) (facts : List Fact) (key : Key) → 1 ≤ parts
    → is_cell sets dimensions facts key ≡ true
    → IsTrueOfOne parts (λ j. is_cell (sets_of_part j parts sets) dimensions facts key)
is_cell-sets_of_part parts dimensions sets facts key some cell =
    let halves = and_parts _ _ cell in (
      part_of parts (mask_of key),
      part_of-below parts (mask_of key) some,
      and_from _ _ (sets_of_part-own parts sets (mask_of key) halves.0) halves.1,
      λ k here. sets_of_part-mod parts sets (mask_of key) k (and_parts _ _ here).0,
    )
