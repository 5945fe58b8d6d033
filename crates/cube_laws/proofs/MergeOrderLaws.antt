-- Neither the order nor the nesting of merges changes the merged rows.
use Rattle.std.proofs.Common.{◌≡◌, ◌≤◌, List, length, IsPermutation, sym, subst}
use Rattle.std.specs.List.{AllZip}
use Rattle.std.proofs.lemmas.List.Sorted.{IsPermutation-sym, IsPermutation-trans}
use Rattle.cube_core.specs.Layout.{Layout}
use Rattle.cube_core.specs.Cube.{AreRows}
use Rattle.cube_core.specs.PartialForm.{partial_aggregates, partial_form}
use Rattle.cube_core.specs.declared.aggregate.Agg.{Agg}
use Rattle.cube_core.specs.declared.fact.Fact.{Fact}
use Rattle.cube_core.specs.declared.key.Row.{Row}
use Rattle.cube_laws.specs.Merging.{joined, AreMergedOf, IsMergeTree, cube, merge, AreMergeTrees, none, more}
use Rattle.cube_laws.proofs.GroupCountLaws.{flat_map-Reordered}
use Rattle.cube_laws.proofs.MergedLaws.{AreMergedOf-AreRows}
use Rattle.cube_laws.proofs.RowLaws.{AreRows-unique}
use Rattle.cube_core.proofs.ReorderedLaws.{IsPermutation-Reordered, Reordered-IsPermutation}
use Rattle.cube_laws.proofs.RowOrderLaws.{AreRows-IsPermutation}

-- lists in another order, joined, are joined in another order
pub joined-IsPermutation : {X : Type 0} (lists others : List (List X)) → IsPermutation lists others
    → IsPermutation (joined lists) (joined others)
joined-IsPermutation {X} lists others h =
    Reordered-IsPermutation (flat_map-Reordered (λ (list : List X). list) (IsPermutation-Reordered lists others h))

-- cubes in another order have the same merged rows
pub AreMergedOf-IsPermutation : (given wanted : List Agg) (cubes others : List (List Row)) (rows : List Row)
    → IsPermutation cubes others
    → AreMergedOf given wanted cubes rows → AreMergedOf given wanted others rows
AreMergedOf-IsPermutation given wanted cubes others rows h are = record {
  parts = are.parts;
  drawn = IsPermutation-trans (joined others) (joined cubes) are.parts
      (joined-IsPermutation others cubes (IsPermutation-sym cubes others h)) are.drawn;
  merged = are.merged;
}

-- however facts are parted, the merged rows are the same
pub AreMergedOf-parts : (s : Layout) (parts others : List (List Fact)) (cubes other_cubes : List (List Row))
    (rows other_rows : List Row) → 1 ≤ length parts → 1 ≤ length others
    → IsPermutation (joined parts) (joined others) → AllZip (AreRows (partial_form s)) parts cubes
    → AllZip (AreRows (partial_form s)) others other_cubes
    → AreMergedOf (partial_aggregates s.aggregates) s.aggregates cubes rows
    → AreMergedOf (partial_aggregates s.aggregates) s.aggregates other_cubes other_rows → rows ≡ other_rows
AreMergedOf-parts s parts others cubes other_cubes rows other_rows some some_others order are are_others merged
    merged_others =
    AreRows-unique s (joined others) rows other_rows
    (AreRows-IsPermutation s (joined parts) (joined others) rows order
    (AreMergedOf-AreRows s (partial_aggregates s.aggregates) s.aggregates parts cubes rows some are merged))
    (AreMergedOf-AreRows s (partial_aggregates s.aggregates) s.aggregates others other_cubes other_rows some_others
    are_others merged_others)

mutual
  -- what is merged in any nesting are the rows of the cube of all facts
  pub IsMergeTree-AreRows : (s : Layout) {facts : List Fact} {rows : List Row} → IsMergeTree s facts rows
      → AreRows s facts rows
  IsMergeTree-AreRows s (cube are) = are
  IsMergeTree-AreRows s (merge {parts} {cubes} {facts} {rows} some same trees merged) =
      subst (λ all. AreRows s all rows) (sym same)
      (AreMergedOf-AreRows s s.aggregates s.aggregates parts cubes rows some (AreMergeTrees-AllZip s trees) merged)

  -- so each part's are the rows of its cube
  pub AreMergeTrees-AllZip : (s : Layout) {parts : List (List Fact)} {cubes : List (List Row)}
      → AreMergeTrees s parts cubes → AllZip (AreRows s) parts cubes
  AreMergeTrees-AllZip s none = tt
  AreMergeTrees-AllZip s (more tree trees) = (IsMergeTree-AreRows s tree, AreMergeTrees-AllZip s trees)

-- the last merge gives the rows that are wanted
pub AreMergeTrees-AreRows : (s : Layout) (parts : List (List Fact)) (cubes : List (List Row)) (rows : List Row)
    → 1 ≤ length parts → AreMergeTrees (partial_form s) parts cubes
    → AreMergedOf (partial_aggregates s.aggregates) s.aggregates cubes rows → AreRows s (joined parts) rows
AreMergeTrees-AreRows s parts cubes rows some trees merged =
    AreMergedOf-AreRows s (partial_aggregates s.aggregates) s.aggregates parts cubes rows some
    (AreMergeTrees-AllZip (partial_form s) trees) merged

-- two merges in any nesting, of the same facts in any order, give the same rows
pub IsMergeTree-unique : (s : Layout) (facts others : List Fact) (rows other_rows : List Row)
    → IsPermutation facts others → IsMergeTree s facts rows → IsMergeTree s others other_rows
    → rows ≡ other_rows
IsMergeTree-unique s facts others rows other_rows order tree other_tree =
    AreRows-unique s others rows other_rows
    (AreRows-IsPermutation s facts others rows order (IsMergeTree-AreRows s tree))
    (IsMergeTree-AreRows s other_tree)
