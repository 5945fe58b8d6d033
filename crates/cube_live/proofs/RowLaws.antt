-- The rows of one key.
use Rattle.std.proofs.Common.{◌≡◌, ◌∙◌, ℕ, Bool, true, false, List, [], ◌∷◌, refl, sym, ap, subst, inl, inr, length}
use Rattle.std.proofs.Common.{map}
use Rattle.std.specs.Prelude.{◌&&◌, Contains, IsTrue, IfSome, Option, Some, None, is_some, Ok}
use Rattle.std.specs.Cmp.Lexicographic.{slice_cmp}
use Rattle.std.specs.List.{filter_map, list_all}
use Rattle.std.specs.List.Sorted.{IsStrictlySortedBy}
use Rattle.std.specs.Ordering.{is_eq, ordering_then}
use Rattle.std.specs.declared.cmp.Ordering.{Ordering}
use Rattle.std.specs.declared.cmp.Ordering.TheVariants.{Less, Equal, Greater}
use Rattle.std.proofs.lemmas.Cmp.{eq_by_cmp_equiv}
use Rattle.std.proofs.lemmas.List.Sums.{list_all-from_AllPass}
use Rattle.std.proofs.lemmas.Map.Views.{tells_apart}
use Rattle.cube_core.specs.Answer.{AreAnswers}
use Rattle.cube_core.specs.Cube.{AreRows, AreRowsOver, key_of, is_cell, HasAnswers}
use Rattle.cube_core.specs.Group.{group_of}
use Rattle.cube_core.specs.Layout.{Layout, cube_schema, number_of_dimensions}
use Rattle.cube_core.specs.Order.{coord_cmp}
use Rattle.cube_core.specs.Query.{AreRowsWhere, Wanted, all_wanted, cell_of, matches}
use Rattle.cube_core.specs.Takes.{fits}
use Rattle.cube_core.specs.TextPlaces.{counted_by}
use Rattle.cube_core.specs.declared.aggregate.Agg.{Agg}
use Rattle.cube_core.specs.declared.fact.Fact.{Fact}
use Rattle.cube_core.specs.declared.key.Coord.{Coord}
use Rattle.cube_core.specs.declared.key.Key.{Key}
use Rattle.cube_core.specs.declared.key.Row.{Row}
use Rattle.cube_core.proofs.CubeSchemaLaws.{cube_schema-aggregates, cube_schema-dimensions}
use Rattle.cube_core.proofs.KeyOrderLaws.{key_cmp-exact, key_cmp-IsTotalOrder}
use Rattle.cube_core.proofs.ListLaws.{Contains-nil, Contains-head, Contains-cases}
use Rattle.cube_core.proofs.TextRowLaws.{are_rows-numbered}
use Rattle.cube_build.specs.Builder.{HasFacts}
use Rattle.cube_cells.specs.Cube.{Lattice, IsCubeOf, cell_at}
use Rattle.cube_cells.specs.Rows.{IsRowOf, IsRowOver}
use Rattle.cube_cells.specs.Tally.{Tally, IsTallyOf}
use Rattle.cube_live.specs.Shows.{is_key}

-- a key is itself, and no other
is_key-same : (key other : Key) → is_key key other ≡ true → key ≡ other
is_key-same key other same = tells_apart key_cmp-exact key other same

is_key-itself : (key : Key) → is_key key key ≡ true
is_key-itself key = (eq_by_cmp_equiv key_cmp-IsTotalOrder).refl key

-- where the key is no cell, it has no row
pub AreRowsWhere-none : (sets : List ℕ) (dimensions : ℕ) (aggregates : List Agg) (facts : List Fact) (key : Key)
    → is_cell sets dimensions facts key ≡ false
    → AreRowsWhere (is_key key) sets dimensions aggregates facts []
unfolding IsStrictlySortedBy
AreRowsWhere-none sets dimensions aggregates facts key none = record {
  cells = λ other. (
    λ among. absurd (Contains-nil other among),
    λ there. let same = is_key-same key other there.1 in let bad = sym (rw (← same) at there.0) ∙ none in cc bad,
  );
  ordered = tt;
  answers = tt;
}

-- where it is one, that row alone
pub AreRowsWhere-one : (sets : List ℕ) (dimensions : ℕ) (aggregates : List Agg) (facts : List Fact) (key : Key)
    (row : Row) → is_cell sets dimensions facts key ≡ true
    → row.key ≡ key → HasAnswers aggregates facts row
    → AreRowsWhere (is_key key) sets dimensions aggregates facts (row ∷ [])
unfolding IsStrictlySortedBy
AreRowsWhere-one sets dimensions aggregates facts key row cell is answers = record {
  cells = λ other. (there other, back other);
  ordered = (tt, tt);
  answers = (answers, tt);
} where
  there : (other : Key) → Contains (row.key ∷ []) other
      → IsTrue (is_cell sets dimensions facts other) × IsTrue (is_key key other)
  there other among = elim (Contains-cases row.key [] other among) [
    | inl same ↦
        let P : Key → Type 0 = λ k. IsTrue (is_cell sets dimensions facts k) × IsTrue (is_key key k) in
        subst P (sym is ∙ same) (cell, is_key-itself key)
    | inr later ↦ absurd (Contains-nil other later)
  ]

  back : (other : Key) → IsTrue (is_cell sets dimensions facts other) × IsTrue (is_key key other)
      → Contains (row.key ∷ []) other
  back other passes =
      let same : row.key ≡ other = is ∙ is_key-same key other passes.1 in
      subst (λ (k : Key). Contains (row.key ∷ []) k) same (Contains-head row.key [])

-- the rows of a test are those of any that answers the same
pub AreRowsWhere-alike : (test other : Key → Bool) (sets : List ℕ) (dimensions : ℕ) (aggregates : List Agg)
    (facts : List Fact) (rows : List Row) → ((key : Key) → other key ≡ test key)
    → AreRowsWhere test sets dimensions aggregates facts rows → AreRowsWhere other sets dimensions aggregates facts rows
AreRowsWhere-alike test other sets dimensions aggregates facts rows alike are = record {
  cells = λ key.
      let P : Bool → Type 0 =
      λ b. (Contains (map key_of rows) key → IsTrue (is_cell sets dimensions facts key) × IsTrue b)
      × (IsTrue (is_cell sets dimensions facts key) × IsTrue b → Contains (map key_of rows) key) in
      subst P (sym (alike key)) (are.cells key);
  ordered = are.ordered;
  answers = are.answers;
}

-- two comparisons are both equal where the two together are
is_eq-then : (a b : Ordering) → is_eq (ordering_then a b) ≡ (is_eq a && is_eq b)
is_eq-then Less b = refl
is_eq-then Equal b = refl
is_eq-then Greater b = refl

-- a pattern that leaves no dimension open matches the coordinates that it wants
all_wanted-coords : (pattern : Wanted) (coords : List Coord) → list_all is_some pattern ≡ true
    → all_wanted pattern coords ≡ is_eq (slice_cmp coord_cmp (filter_map (λ wanted. wanted) pattern) coords)
all_wanted-coords [] [] some = refl
all_wanted-coords [] (c ∷ coords) some = refl
all_wanted-coords (None ∷ pattern) coords some = cc some
all_wanted-coords (Some wanted ∷ pattern) [] some = refl
all_wanted-coords (Some wanted ∷ pattern) (c ∷ coords) some =
    ap (λ b. is_eq (coord_cmp wanted c) && b) (all_wanted-coords pattern coords some)
    ∙ sym (is_eq-then (coord_cmp wanted c) (slice_cmp coord_cmp (filter_map (λ wanted. wanted) pattern) coords))

-- so it matches the key that it is, and no other
pub matches-cell : (pattern : Wanted) (key other : Key)
    → Ok key ≡ cell_of pattern → matches pattern other ≡ is_key key other
matches-cell pattern key other is = by (list_all is_some pattern) refl
  where
    by : (b : Bool) → list_all is_some pattern ≡ b → matches pattern other ≡ is_key key other
    by true all =
        let same : Ok key ≡ Ok (record { coords = filter_map (λ wanted. wanted) pattern }) = rw all at is in
        let coords : key.coords ≡ filter_map (λ wanted. wanted) pattern = cc same in
        rw coords (all_wanted-coords pattern other.coords all)
    by false all = let bad = rw all at is in cc bad

-- the rows of a cube that has the facts of a schema's feeds, over its grouping sets, are the rows of the schema
pub AreRows-HasFacts : (s : Layout) (cube : Lattice) (facts : List Fact) (rows : List Row) → cube.schema ≡ cube_schema s
    → cube.sets ≡ s.grouping_sets → (has : HasFacts s facts cube)
    → AreRowsOver cube.sets (length cube.schema.dimensions) cube.schema.aggregates
    (map (counted_by has.number (length s.text_places)) facts) rows
    → AreRows s facts rows
AreRows-HasFacts s cube facts rows schema sets has are =
    let counted = map (counted_by has.number (length s.text_places)) facts in
    let dimensions : length cube.schema.dimensions ≡ number_of_dimensions s =
    ap (λ (l : Layout). length l.dimensions) schema ∙ cube_schema-dimensions s in
    let aggregates : cube.schema.aggregates ≡ s.aggregates =
    ap (λ (l : Layout). l.aggregates) schema ∙ cube_schema-aggregates s in
    are_rows-numbered s has.schema has.number facts rows (list_all-from_AllPass (fits s) facts has.fit) has.tells_apart
    (rw (sets, dimensions, aggregates) at are)

-- the row of a key, or none, is the list of its rows
pub AreRowsWhere-IsRowOver : (sets : List ℕ) (dimensions : ℕ) (aggregates : List Agg) (facts : List Fact) (key : Key)
    (row : Row)
    → IsRowOver sets dimensions aggregates facts key (Some row)
    → AreRowsWhere (is_key key) sets dimensions aggregates facts (row ∷ [])
AreRowsWhere-IsRowOver sets dimensions aggregates facts key row is =
    AreRowsWhere-one sets dimensions aggregates facts key row is.0 is.1 is.2

-- the cell of a key is one of the cube of its facts, and its row has the answers of the key's group
pub cell-HasAnswers : (cube : Lattice) (facts : List Fact) (aggregates : List Agg) (key : Key) (tally : Tally)
    (row : Row) → IsCubeOf cube facts → cell_at cube.cells key ≡ Some tally
    → IsRowOf aggregates (key, tally) row → (is_cell cube.sets (length cube.schema.dimensions) facts key ≡ true)
    × (row.key ≡ key) × HasAnswers aggregates facts row
cell-HasAnswers cube facts aggregates key tally row of found is = (
  sym (of.keys key) ∙ ap is_some found,
  is.key,
  subst (λ (k : Key). AreAnswers (group_of k facts) aggregates row.answers) (sym is.key)
      (is.answers (group_of key facts)
      (subst (λ (o : Option Tally). IfSome o (IsTallyOf (group_of key facts))) found (of.tallies key))),
)

-- where a key has no cell it is none
pub no_cell : (cube : Lattice) (facts : List Fact) (key : Key) → IsCubeOf cube facts → cell_at cube.cells key ≡ None
    → is_cell cube.sets (length cube.schema.dimensions) facts key ≡ false
no_cell cube facts key of none = sym (of.keys key) ∙ ap is_some none

-- the row of a key's cell is the list of its rows
pub rows-one : (cube : Lattice) (facts : List Fact) (key : Key) (tally : Tally) (row : Row) → IsCubeOf cube facts
    → Some tally ≡ cell_at cube.cells key → IsRowOf cube.schema.aggregates (key, tally) row
    → AreRowsWhere (is_key key) cube.sets (length cube.schema.dimensions) cube.schema.aggregates facts (row ∷ [])
rows-one cube facts key tally row of found is =
    let has = cell-HasAnswers cube facts cube.schema.aggregates key tally row of (sym found) is in
    AreRowsWhere-one cube.sets (length cube.schema.dimensions) cube.schema.aggregates facts key row has.0 has.1 has.2

-- and of a key that has none there is no row
pub rows-none : (cube : Lattice) (facts : List Fact) (key : Key) → IsCubeOf cube facts
    → None ≡ cell_at cube.cells key
    → AreRowsWhere (is_key key) cube.sets (length cube.schema.dimensions) cube.schema.aggregates facts []
rows-none cube facts key of none =
    AreRowsWhere-none cube.sets (length cube.schema.dimensions) cube.schema.aggregates facts key
    (no_cell cube facts key of (sym none))
