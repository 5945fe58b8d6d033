-- Laws of finest cells whose codes become the ranks of their texts: they are cells of the same facts.
use Rattle.std.proofs.Common.{◌≡◌, ℕ, ◌^◌, ◌<◌, List, [], ◌∷◌, false, refl, sym, ap, ◌∙◌}
use Rattle.std.proofs.Common.{subst, arith, inl, inr, length, map, nat_lt}
use Rattle.std.specs.Prelude.{All, IfSome, is_some}
use Rattle.std.specs.List.{AllByRecursion, IsDistinct}
use Rattle.std.specs.List.Sorted.{IsPermutation, IsSortedBy}
use Rattle.std.specs.Map.{keys_of}
use Rattle.std.specs.Cmp.Lexicographic.{slice_cmp}
use Rattle.std.specs.Ordering.{is_lt, nat_cmp}
use Rattle.std.proofs.lemmas.Bool.{both_ways, cases_Bool, lt-ltb, ne_eqb, or_right}
use Rattle.std.proofs.lemmas.List.Elements.{All-cons, All-head, All-nil, All-tail, All-weaker}
use Rattle.std.proofs.lemmas.List.Sorted.{IsPermutation-refl}
use Rattle.std.proofs.lemmas.Map.Keys.{IsDistinct-cons, IsDistinct-head, IsDistinct-tail}
use Rattle.cube_core.specs.Group.{group_of}
use Rattle.cube_core.specs.GroupingSet.{is_among}
use Rattle.cube_core.specs.Layout.{Layout}
use Rattle.cube_core.specs.declared.fact.Fact.{Fact}
use Rattle.cube_core.specs.declared.key.Coord.{Coord}
use Rattle.cube_core.specs.declared.key.Key.{Key}
use Rattle.cube_cells.specs.BottomUp.{AreInTextOrder, AreSortedTexts, AreToWalk, IsItem, cells_of_items}
use Rattle.cube_cells.specs.Codes.{Dictionaries, IsDictionary, key_at}
use Rattle.cube_cells.specs.Coded.{CodedCells, IsCoded, IsCodedCell, decoded, is_total_code, lattice_of, same_codes}
use Rattle.cube_cells.specs.Cube.{Cells, cell_at, count_in}
use Rattle.cube_cells.specs.Fill.{IsCubeOfAll, finest_set}
use Rattle.cube_cells.specs.Ranking.{AreRankings, ranked_cells, ranked_codes, ranked_dictionaries}
use Rattle.cube_cells.specs.Tally.{Tally, IsTallyOf}
use Rattle.cube_cells.specs.declared.cube.bottom_up.Item.{Item}
use Rattle.cube_cells.specs.declared.cube.codes.Codes.{Codes}
use Rattle.cube_cells.specs.declared.cube.ranks.RankedTexts.{RankedTexts}
use Rattle.cube_cells.proofs.Cells.SchemaLaws.{few_dimensions}
use Rattle.cube_cells.proofs.Cells.CodedLaws.{IsCoded-width}
use Rattle.cube_cells.proofs.Cells.NewLaws.{IsStrictlySortedBy-one}
use Rattle.cube_cells.proofs.Cells.WalkLaws.{same_codes-exact}
use Rattle.cube_cells.proofs.Codes.RankingLaws.{All-AreSortedTexts, SameCoords-AreRankings, length-ranked_dictionaries}
use Rattle.cube_cells.proofs.Codes.RankingLaws.{length-ranks_of}
use Rattle.cube_cells.proofs.Filling.BottomUpCubeLaws.{AreFinest, AreFinest-IsPermutation, All-IsItem}
use Rattle.cube_cells.proofs.Filling.BottomUpCubeLaws.{pow-positive, some_finest, sorted_items, strictly_sorted}
use Rattle.cube_cells.proofs.Filling.MovedLaws.{HaveAll-IsPermutation}
use Rattle.cube_cells.proofs.Rows.RowLaws.{IsDistinct-decoded, same_key_as, same_key_as-IsEquivalence}

-- ---- keys
-- cells by the ranks of their codes have the same keys
decoded-ranked_cells : (old : Dictionaries) (ranked : List RankedTexts) (measures : ℕ) (cells : CodedCells)
    → All IsDictionary old → AreRankings old ranked → All (IsCodedCell old measures) cells
    → decoded (ranked_dictionaries ranked) (ranked_cells ranked cells) ≡ decoded old cells
decoded-ranked_cells old ranked measures [] texts are each = refl
decoded-ranked_cells old ranked measures (cell ∷ cells) texts are each =
    let P : Codes × Tally → Type 0 = IsCodedCell old measures in
    let same = SameCoords-AreRankings old ranked cell.0.codes texts are (All-head P cell cells each).codes in
    let make : List Coord → Key × Tally = λ coords. (record { coords = coords }, cell.1) in
    ap (λ (coords : List Coord). make coords ∷ decoded (ranked_dictionaries ranked) (ranked_cells ranked cells))
    same.coords
    ∙ ap (λ (rest : Cells). (key_at old cell.0.codes, cell.1) ∷ rest)
    (decoded-ranked_cells old ranked measures cells texts are (All-tail P cell cells each))

-- cells whose keys differ have codes that differ
IsDistinct-from_decoded : (dictionaries : Dictionaries) (cells : CodedCells)
    → IsDistinct same_key_as (keys_of (decoded dictionaries cells)) → IsDistinct same_codes (keys_of cells)
unfolding IsDistinct
IsDistinct-from_decoded dictionaries [] distinct = distinct
IsDistinct-from_decoded dictionaries (cell ∷ cells) distinct =
    IsDistinct-cons same_codes cell.0 (keys_of cells)
    (head cells (IsDistinct-head same_key_as (key_at dictionaries cell.0.codes) (keys_of (decoded dictionaries cells))
    distinct))
    (IsDistinct-from_decoded dictionaries cells (IsDistinct-tail same_key_as (key_at dictionaries cell.0.codes)
    (keys_of (decoded dictionaries cells)) distinct))
  where
    key : Codes → Key
    key codes = key_at dictionaries codes.codes

    two : (other : Codes) → same_key_as (key cell.0) (key other) ≡ false → same_codes cell.0 other ≡ false
    two other apart = elim (cases_Bool (same_codes cell.0 other)) [
      | inl same ↦ absurd (both_ways (same_key_as (key cell.0) (key other)) apart
          (ap (λ (codes : Codes). same_key_as (key cell.0) (key codes)) (sym (same_codes-exact cell.0 other same))
          ∙ same_key_as-IsEquivalence.refl (key cell.0)))
      | inr other_codes ↦ other_codes
    ]

    head : (rest : CodedCells)
        → AllByRecursion (λ y. same_key_as (key cell.0) y ≡ false) (keys_of (decoded dictionaries rest))
        → AllByRecursion (λ y. same_codes cell.0 y ≡ false) (keys_of rest)
    head [] apart = tt
    head (next ∷ rest) apart = (two next.0 apart.0, head rest apart.1)

-- ---- cells
-- each is a cell by its ranks too
All-ranked_cells : (old : Dictionaries) (ranked : List RankedTexts) (measures : ℕ) (cells : CodedCells)
    → All IsDictionary old → AreRankings old ranked → All (IsCodedCell old measures) cells
    → All (IsItem measures) cells
    → All (IsCodedCell (ranked_dictionaries ranked) measures) (ranked_cells ranked cells)
All-ranked_cells old ranked measures [] texts are each items =
    All-nil (IsCodedCell (ranked_dictionaries ranked) measures)
All-ranked_cells old ranked measures (cell ∷ cells) texts are each items =
    let P : Codes × Tally → Type 0 = IsCodedCell old measures in
    let is = All-head P cell cells each in
    let item = All-head (IsItem measures) cell cells items in
    let same = SameCoords-AreRankings old ranked cell.0.codes texts are is.codes in
    All-cons (IsCodedCell (ranked_dictionaries ranked) measures) (ranked_codes ranked cell.0, cell.1)
    (ranked_cells ranked cells) (record {
      codes = same.valid;
      eight = length-ranks_of (map (λ one. one.ranks) ranked) cell.0.codes ∙ is.eight;
      width = is.width;
      some = or_right (is_total_code (ranked_codes ranked cell.0)) (nat_lt 0 cell.1.facts)
          (lt-ltb 0 cell.1.facts item.some);
    }) (All-ranked_cells old ranked measures cells texts are (All-tail P cell cells each)
    (All-tail (IsItem measures) cell cells items))

-- they are the finest cells of the same facts
pub AreFinest-ranked : (schema : Layout) (old : Dictionaries) (ranked : List RankedTexts) (facts : List Fact)
    (cells : CodedCells) → AreRankings old ranked → AreFinest schema old facts cells
    → AreFinest schema (ranked_dictionaries ranked) facts (ranked_cells ranked cells)
AreFinest-ranked schema old ranked facts cells are finest = record {
  base = record {
    is_schema = finest.base.is_schema;
    width = length-ranked_dictionaries old ranked are ∙ finest.base.width;
    texts = texts;
    fit = finest.base.fit;
  };
  all = record {
    distinct = IsDistinct-from_decoded new (ranked_cells ranked cells)
        (subst (λ (keyed : Cells). IsDistinct same_key_as (keys_of keyed)) (sym same) keys_differ);
    each = All-ranked_cells old ranked measures cells finest.base.texts are finest.all.each
        (All-IsItem schema old facts cells finest);
    total = λ among. absurd (both_ways (is_among 0 (finest_set n ∷ [])) none among);
    counts = λ set among. ap (count_in set) same ∙ finest.all.counts set among;
    keys = λ key. ap (λ (keyed : Cells). is_some (cell_at keyed key)) same ∙ finest.all.keys key;
    tallies = λ key. subst (λ (keyed : Cells). IfSome (cell_at keyed key) (IsTallyOf (group_of key facts))) (sym same)
        (finest.all.tallies key);
  };
} where
  n : ℕ
  n = length schema.dimensions

  measures : ℕ
  measures = length schema.measures

  new : Dictionaries
  new = ranked_dictionaries ranked

  texts : All IsDictionary new
  texts = All-weaker AreSortedTexts IsDictionary (λ one sorted. sorted.dictionary) new
      (All-AreSortedTexts old ranked are)

  same : decoded new (ranked_cells ranked cells) ≡ decoded old cells
  same = decoded-ranked_cells old ranked measures cells finest.base.texts are finest.all.each

  keys_differ : IsDistinct same_key_as (keys_of (decoded old cells))
  keys_differ = IsDistinct-decoded old measures cells finest.base.texts
      (omega (arith, finest.base.width, few_dimensions finest.base.is_schema)) finest.all.each finest.all.distinct

  none : is_among 0 (finest_set n ∷ []) ≡ false
  none = rw (ne_eqb (finest_set n) 0 (λ is. absurd (omega (arith, is, some_finest schema old facts cells finest)))) refl

-- ---- what is true of them
IsCoded-AreFinest : (schema : Layout) (dictionaries : Dictionaries) (facts : List Fact) (items : CodedCells)
    → AreFinest schema dictionaries facts items
    → IsCoded schema (finest_set (length schema.dimensions) ∷ []) (length facts) dictionaries items
IsCoded-AreFinest schema dictionaries facts items are = record {
  lattice = record {
    schema = are.base.is_schema.is;
    no_texts = are.base.is_schema.no_texts;
    sets = All-cons (λ set. set < 2 ^ n) (finest_set n) []
        (omega (arith, pow-positive n)) (All-nil (λ set. set < 2 ^ n));
    ascending = IsStrictlySortedBy-one (finest_set n);
    dictionaries = are.base.width;
  };
  texts = are.base.texts;
  distinct = are.all.distinct;
  each = are.all.each;
  total = are.all.total;
  counts = are.all.counts;
} where
  n : ℕ
  n = length schema.dimensions

pub IsCubeOfAll-AreFinest : (schema : Layout) (dictionaries : Dictionaries) (facts : List Fact) (number : ℕ)
    (items : CodedCells) → AreFinest schema dictionaries facts items → number ≡ length facts
    → IsCubeOfAll facts (lattice_of schema (finest_set (length schema.dimensions) ∷ []) number dictionaries items)
IsCubeOfAll-AreFinest schema dictionaries facts number items are same = record {
  fit = are.base.fit;
  cells = record {
    keys = are.all.keys;
    tallies = are.all.tallies;
    widths = IsCoded-width schema (finest_set (length schema.dimensions) ∷ []) (length facts) dictionaries items
        (IsCoded-AreFinest schema dictionaries facts items are);
  };
  facts_are = same;
}

-- the cells of a cube by the ranks of their codes, in another order
AreFinest-from_ranked : (schema : Layout) (number : ℕ) (old : Dictionaries) (found items : CodedCells)
    (ranked : List RankedTexts) (facts : List Fact)
    → IsCoded schema (finest_set (length schema.dimensions) ∷ []) number old found
    → IsCubeOfAll facts (lattice_of schema (finest_set (length schema.dimensions) ∷ []) number old found)
    → AreRankings old ranked → IsPermutation (ranked_cells ranked found) items
    → AreFinest schema (ranked_dictionaries ranked) facts items
AreFinest-from_ranked schema number old found items ranked facts coded of are moved =
    let finest : AreFinest schema (ranked_dictionaries ranked) facts (ranked_cells ranked found) =
    AreFinest-ranked schema old ranked facts found are
    (AreFinest-IsPermutation schema old facts number found found coded of (IsPermutation-refl found)) in
    record {
      base = finest.base;
      all = HaveAll-IsPermutation schema (ranked_dictionaries ranked) facts (finest_set (length schema.dimensions) ∷ [])
          (ranked_cells ranked found) items finest.base moved finest.all;
    }

pub IsCubeOfAll-ranked : (schema : Layout) (number : ℕ) (old : Dictionaries) (found items : CodedCells)
    (ranked : List RankedTexts) (facts : List Fact)
    → IsCoded schema (finest_set (length schema.dimensions) ∷ []) number old found
    → IsCubeOfAll facts (lattice_of schema (finest_set (length schema.dimensions) ∷ []) number old found)
    → AreRankings old ranked → IsPermutation (ranked_cells ranked found) items
    → IsCubeOfAll facts
    (lattice_of schema (finest_set (length schema.dimensions) ∷ []) number (ranked_dictionaries ranked) items)
IsCubeOfAll-ranked schema number old found items ranked facts coded of are moved =
    IsCubeOfAll-AreFinest schema (ranked_dictionaries ranked) facts number items
    (AreFinest-from_ranked schema number old found items ranked facts coded of are moved) of.facts_are

-- in the order of their codes they can be walked over
pub AreToWalk-ranked : {N : Type 0} (schema : Layout) (number : ℕ) (old : Dictionaries) (found : CodedCells)
    (items : List (Item N)) (ranked : List RankedTexts) (facts : List Fact)
    → IsCoded schema (finest_set (length schema.dimensions) ∷ []) number old found
    → IsCubeOfAll facts (lattice_of schema (finest_set (length schema.dimensions) ∷ []) number old found)
    → AreRankings old ranked → IsPermutation (ranked_cells ranked found) (cells_of_items items)
    → IsSortedBy (λ a b. is_lt (slice_cmp nat_cmp a.codes.codes b.codes.codes)) items
    → AreToWalk schema number (ranked_dictionaries ranked) (cells_of_items items)
AreToWalk-ranked schema number old found items ranked facts coded of are moved sorted =
    let new : Dictionaries = ranked_dictionaries ranked in
    let cells : CodedCells = cells_of_items items in
    let finest : AreFinest schema new facts cells =
    AreFinest-from_ranked schema number old found cells ranked facts coded of are moved in
    record {
      facts = facts;
      cube = IsCubeOfAll-AreFinest schema new facts number cells finest of.facts_are;
      coded = subst (λ (count : ℕ). IsCoded schema (finest_set (length schema.dimensions) ∷ []) count new cells)
          (sym of.facts_are) (IsCoded-AreFinest schema new facts cells finest);
      in_order = strictly_sorted cells (sorted_items items sorted) finest.all.distinct;
      texts = All-weaker AreSortedTexts AreInTextOrder (λ one is. is.in_order) new (All-AreSortedTexts old ranked are);
    }
