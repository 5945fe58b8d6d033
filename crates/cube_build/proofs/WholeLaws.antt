-- The answers of the parts of a cube, part by part, and of all as the whole cube's.
use Rattle.std.proofs.Common.{◌≡◌, ◌<◌, ◌+◌, ℕ, Bool, true, List, length, map, get_or, ◌++◌, arith, IsPermutation, ap, sym}
use Rattle.std.proofs.Common.{subst, ◌∙◌}
use Rattle.std.specs.Prelude.{Option, Some, None, Result, Ok, Err, IfOk}
use Rattle.std.specs.List.{AllZip}
use Rattle.std.specs.List.Sorted.{IsSortedBy}
use Rattle.std.specs.Ordering.{is_lt}
use Rattle.cube_core.specs.GroupingSet.{sets_of_part}
use Rattle.cube_core.specs.Layout.{Layout, cube_schema, number_of_dimensions}
use Rattle.cube_core.specs.Order.{key_cmp}
use Rattle.cube_core.specs.Query.{AreRowsWhere}
use Rattle.cube_core.specs.TextPlaces.{counted}
use Rattle.cube_core.specs.declared.aggregate.Agg.{Agg}
use Rattle.cube_core.specs.declared.fact.Fact.{Fact}
use Rattle.cube_core.specs.declared.key.Key.{Key}
use Rattle.cube_core.specs.declared.key.Row.{Row}
use Rattle.cube_core.proofs.CubeSchemaLaws.{cube_schema-aggregates, cube_schema-dimensions, cube_schema-grouping_sets}
use Rattle.cube_cells.specs.Count.{HasCellsOver}
use Rattle.cube_cells.specs.Cube.{Cells, Lattice, IsCubeOf}
use Rattle.cube_cells.specs.Rows.{AreRowsInOrder, CellsInOrder, IsRowOf, IsRowOver}
use Rattle.cube_build.specs.Joined.{AnswersIn, AnswersInWhole, AreRowsOfWhole, HasCellsOfWhole, IsRowOfWhole}
use Rattle.cube_build.specs.Joined.{OrdersCells}
use Rattle.cube_build.specs.Parted.{ArePartsOf, IsPartWith}
use Rattle.cube_build.proofs.CarriedLaws.{AreRowsWhere-carried, HasCellsOver-carried, IsRowOver-carried}
use Rattle.cube_build.proofs.CarriedLaws.{numbered_facts}
use Rattle.cube_build.proofs.JoinLaws.{AreRowsBelow, IsNotBelow, rows-first, rows-more, rows-all, rows-one, rows-over}
use Rattle.cube_build.proofs.JoinLaws.{HaveCellsBelow, cells-added, cells-all-below}
use Rattle.cube_build.proofs.JoinLaws.{over-rows, row-of-part, not-below-more, not-below-all}
use Rattle.cube_build.proofs.OrderLaws.{AllZip-IsPermutation, AllZip-split, IsSortedBy-IsRowOf}

-- ---- the cube of a part
part-at : {T : Type 0} (cube_of : T → Lattice) (s : Layout) (facts : List Fact) (parts : List T) (part : ℕ) (d : T)
    (cube : Lattice) → ArePartsOf cube_of s facts parts → part < length parts → cube ≡ cube_of (get_or parts part d)
    → IsPartWith s facts (length parts) part cube
part-at cube_of s facts parts part d cube are below is =
    subst (IsPartWith s facts (length parts) part) (sym is) (are.each part d below)

-- its schema
pub schema-at : {T : Type 0} (cube_of : T → Lattice) (s : Layout) (facts : List Fact) (parts : List T) (part : ℕ)
    (d : T) (cube : Lattice) → ArePartsOf cube_of s facts parts → part < length parts
    → cube ≡ cube_of (get_or parts part d) → cube.schema ≡ cube_schema s
schema-at cube_of s facts parts part d cube are below is =
    (part-at cube_of s facts parts part d cube are below is).over.schema

-- what holds of its sets and its schema's dimensions and aggregates holds of those of the part
at-schema : (s : Layout) (cube : Lattice) (sets : List ℕ) (P : List ℕ → ℕ → List Agg → Type 0)
    → cube.schema ≡ cube_schema s → cube.sets ≡ sets
    → P cube.sets (length cube.schema.dimensions) cube.schema.aggregates
    → P sets (number_of_dimensions s) s.aggregates
at-schema s cube sets P same are holds =
    rw (are, same, cube_schema-dimensions s, cube_schema-aggregates s) at holds

-- its answer
of-part : {T : Type 0} (cube_of : T → Lattice) (test : Key → Bool) (s : Layout) (facts : List Fact) (parts : List T)
    (part : ℕ) (d : T) (cube : Lattice) (rows : List Row) → ArePartsOf cube_of s facts parts → part < length parts
    → cube ≡ cube_of (get_or parts part d) → AnswersIn test cube rows
    → AreRowsWhere test (sets_of_part part (length parts) s.grouping_sets) (number_of_dimensions s) s.aggregates
    (map (counted s) facts) rows
of-part cube_of test s facts parts part d cube rows are below is answers =
    let at = part-at cube_of s facts parts part d cube are below is in
    let numbered = numbered_facts s facts cube at.has in
    AreRowsWhere-carried s facts cube at.has test _ _ rows
    (at-schema s cube _ (λ sets dimensions aggregates. AreRowsWhere test sets dimensions aggregates numbered rows)
    at.over.schema at.over.sets (answers numbered at.has.counts.cells))

-- ---- the rows of all parts
-- these are the rows of the first so many parts, in any order, whose keys pass a test
abbrev pub AreRowsOfFirst : {T : Type 0} → (T → Lattice) → (Key → Bool) → ℕ → List T → List Row → Type 0
AreRowsOfFirst cube_of test count parts rows = (s : Layout) (facts : List Fact) → ArePartsOf cube_of s facts parts
    → AreRowsBelow count (length parts) test s.grouping_sets (number_of_dimensions s) s.aggregates
    (map (counted s) facts) rows

-- of part 0
pub parts-first : {T : Type 0} (cube_of : T → Lattice) (test : Key → Bool) (parts : List T) (d : T) (cube : Lattice)
    (rows : List Row) → cube ≡ cube_of (get_or parts 0 d) → AnswersIn test cube rows
    → AreRowsOfFirst cube_of test 1 parts rows
parts-first cube_of test parts d cube rows is answers = λ s facts are.
    let some = are.some in
    rows-first (length parts) test _ _ _ _ rows
    (of-part cube_of test s facts parts 0 d cube rows are (omega arith) is answers)

-- of one part more
pub parts-more : {T : Type 0} (cube_of : T → Lattice) (test : Key → Bool) (parts : List T) (part : ℕ) (d : T)
    (cube : Lattice) (rows more : List Row) → part < length parts → cube ≡ cube_of (get_or parts part d)
    → AnswersIn test cube more
    → AreRowsOfFirst cube_of test part parts rows → AreRowsOfFirst cube_of test (part + 1) parts (rows ++ more)
parts-more cube_of test parts part d cube rows more below is answers so_far = λ s facts are.
    rows-more part (length parts) test _ _ _ _ rows more (so_far s facts are)
    (of-part cube_of test s facts parts part d cube more are below is answers)

-- the rows of all, put in key order
whole : {T : Type 0} (cube_of : T → Lattice) (test : Key → Bool) (parts : List T) (count : ℕ) (rows sorted : List Row)
    → count ≡ length parts → IsPermutation rows sorted → IsSortedBy (λ a b. is_lt (key_cmp a.key b.key)) sorted
    → AreRowsOfFirst cube_of test count parts rows → AnswersInWhole cube_of test parts sorted
whole cube_of test parts count rows sorted all same order first = λ s facts are.
    rows-all (length parts) test s.grouping_sets (number_of_dimensions s) s.aggregates (map (counted s) facts) rows
    sorted are.some
    (subst (λ (n : ℕ). AreRowsBelow n (length parts) test s.grouping_sets (number_of_dimensions s) s.aggregates
    (map (counted s) facts) rows) all (first s facts are)) same order

pub parts-all : {T V E : Type 0} (cube_of : T → Lattice) (items : V → List Row) (r : Result V E) (test : Key → Bool)
    (parts : List T) (count : ℕ) (rows : List Row) → count ≡ length parts
    → IfOk r (λ sorted. IsPermutation rows (items sorted))
    → IfOk r (λ sorted. IsSortedBy (λ a b. is_lt (key_cmp a.key b.key)) (items sorted))
    → AreRowsOfFirst cube_of test count parts rows
    → IfOk r (λ sorted. AnswersInWhole cube_of test parts (items sorted))
parts-all cube_of items (Ok sorted) test parts count rows all same order first =
    whole cube_of test parts count rows (items sorted) all same order first
parts-all cube_of items (Err e) test parts count rows all same order first = tt

-- the answer of a part that is alone
pub parts-alone : {T : Type 0} (cube_of : T → Lattice) (test : Key → Bool) (parts : List T) (d : T) (cube : Lattice)
    (rows : List Row) → length parts ≡ 1 → cube ≡ cube_of (get_or parts 0 d) → AnswersIn test cube rows
    → AnswersInWhole cube_of test parts rows
parts-alone cube_of test parts d cube rows one is answers = λ s facts are.
    rows-one test _ _ _ _ rows
    (subst (λ (n : ℕ). AreRowsWhere test (sets_of_part 0 n s.grouping_sets) (number_of_dimensions s) s.aggregates
    (map (counted s) facts) rows) one (of-part cube_of test s facts parts 0 d cube rows are (omega (arith, one)) is answers))

-- ---- the cells of all parts
-- the rows of a cube are those of all its keys
rows-of-cells : (cube : Lattice) (o : CellsInOrder) (rows : List Row) → OrdersCells cube o → AreRowsInOrder o rows
    → AnswersIn (λ key. true) cube rows
rows-of-cells cube o rows orders in_order = λ facts of.
    over-rows cube.sets (length cube.schema.dimensions) cube.schema.aggregates facts rows
    (orders rows in_order facts of)

-- the rows of these cells are those of the first so many parts, in any order, and answer the whole cube's aggregates
pub record AreCellsOfFirst {T : Type 0} (cube_of : T → Lattice) (count : ℕ) (parts : List T) (o : CellsInOrder)
    : Type 0 where
  pub aggregates : (s : Layout) (facts : List Fact) → ArePartsOf cube_of s facts parts → o.aggregates ≡ s.aggregates
  pub cells : (rows : List Row) → AreRowsInOrder o rows → AreRowsOfFirst cube_of (λ key. true) count parts rows

-- the aggregates of a part's cells are the whole cube's
pub aggregates-at : {T : Type 0} (cube_of : T → Lattice) (s : Layout) (facts : List Fact) (parts : List T) (part : ℕ)
    (d : T) (cube : Lattice) (o : CellsInOrder) → o.aggregates ≡ cube.schema.aggregates
    → ArePartsOf cube_of s facts parts → part < length parts → cube ≡ cube_of (get_or parts part d)
    → o.aggregates ≡ s.aggregates
aggregates-at cube_of s facts parts part d cube o same are below is =
    same ∙ ap (λ (l : Layout). l.aggregates) (schema-at cube_of s facts parts part d cube are below is)
    ∙ cube_schema-aggregates s

-- the cells of part 0
pub cells-first : {T : Type 0} (cube_of : T → Lattice) (parts : List T) (d : T) (cube : Lattice) (o : CellsInOrder)
    → cube ≡ cube_of (get_or parts 0 d) → OrdersCells cube o → o.aggregates ≡ cube.schema.aggregates
    → AreCellsOfFirst cube_of 1 parts o
cells-first cube_of parts d cube o is orders same = record {
  aggregates = λ s facts are.
      let some = are.some in aggregates-at cube_of s facts parts 0 d cube o same are (omega arith) is;
  cells = λ rows in_order.
      parts-first cube_of (λ key. true) parts d cube rows is (rows-of-cells cube o rows orders in_order);
}

-- and those of one part more after them
pub cells-more : {T : Type 0} (cube_of : T → Lattice) (parts : List T) (part : ℕ) (d : T) (cube : Lattice)
    (o more joined : CellsInOrder) → part < length parts → cube ≡ cube_of (get_or parts part d)
    → OrdersCells cube more → more.aggregates ≡ o.aggregates → joined.aggregates ≡ o.aggregates
    → joined.cells ≡ o.cells ++ more.cells
    → AreCellsOfFirst cube_of part parts o → AreCellsOfFirst cube_of (part + 1) parts joined
cells-more cube_of parts part d cube o more joined below is orders same kept appended first = record {
  aggregates = λ s facts are. kept ∙ first.aggregates s facts are;
  cells = λ rows in_order.
      let zipped : AllZip (IsRowOf o.aggregates) (o.cells ++ more.cells) rows =
      subst (λ (a : List Agg). AllZip (IsRowOf a) (o.cells ++ more.cells) rows) kept
      (subst (λ (c : Cells). AllZip (IsRowOf joined.aggregates) c rows) appended in_order) in
      let split = AllZip-split (IsRowOf o.aggregates) o.cells more.cells rows zipped in
      let back : AreRowsInOrder more split.1 =
      subst (λ (a : List Agg). AllZip (IsRowOf a) more.cells split.1) (sym same) split.4 in
      subst (λ (both : List Row). AreRowsOfFirst cube_of (λ key. true) (part + 1) parts both) (sym split.2)
      (parts-more cube_of (λ key. true) parts part d cube split.0 split.1 below is
      (rows-of-cells cube more split.1 orders back) (first.cells split.0 split.3));
}

-- the rows of all keys of the whole cube are its rows
over-whole : {T : Type 0} (cube_of : T → Lattice) (parts : List T) (rows : List Row)
    → AnswersInWhole cube_of (λ key. true) parts rows → AreRowsOfWhole cube_of parts rows
over-whole cube_of parts rows answers = λ s facts are. rows-over _ _ _ _ rows (answers s facts are)

-- the cells of all, put in key order
pub cells-all : {T : Type 0} (cube_of : T → Lattice) (parts : List T) (count : ℕ) (o sorted : CellsInOrder)
    → count ≡ length parts → sorted.aggregates ≡ o.aggregates → IsPermutation o.cells sorted.cells
    → IsSortedBy (λ a b. is_lt (key_cmp a.0 b.0)) sorted.cells → AreCellsOfFirst cube_of count parts o
    → (rows : List Row) → AreRowsInOrder sorted rows → AreRowsOfWhole cube_of parts rows
cells-all cube_of parts count o sorted all kept moved order first rows in_order =
    let zipped : AllZip (IsRowOf o.aggregates) sorted.cells rows =
    subst (λ (a : List Agg). AllZip (IsRowOf a) sorted.cells rows) kept in_order in
    let before = AllZip-IsPermutation (IsRowOf o.aggregates) o.cells sorted.cells rows moved zipped in
    over-whole cube_of parts rows (whole cube_of (λ key. true) parts count before.0 rows all before.2
    (IsSortedBy-IsRowOf o.aggregates sorted.cells rows order zipped) (first.cells before.0 before.1))

-- the cells of a part that is alone
pub cells-alone : {T : Type 0} (cube_of : T → Lattice) (parts : List T) (d : T) (cube : Lattice) (o : CellsInOrder)
    → length parts ≡ 1 → cube ≡ cube_of (get_or parts 0 d) → OrdersCells cube o → (rows : List Row)
    → AreRowsInOrder o rows → AreRowsOfWhole cube_of parts rows
cells-alone cube_of parts d cube o one is orders rows in_order = over-whole cube_of parts rows
    (parts-alone cube_of (λ key. true) parts d cube rows one is (rows-of-cells cube o rows orders in_order))

-- ---- how many cells there are
-- the first so many parts have so many cells
abbrev pub HaveCellsOfFirst : {T : Type 0} → (T → Lattice) → ℕ → List T → ℕ → Type 0
HaveCellsOfFirst cube_of count parts number = (s : Layout) (facts : List Fact) → ArePartsOf cube_of s facts parts
    → HaveCellsBelow count (length parts) s.grouping_sets (number_of_dimensions s) (map (counted s) facts) number

-- what counting the cells of a cube promises
abbrev pub CountsCells : Lattice → ℕ → Type 0
CountsCells cube number =
    (facts : List Fact) → IsCubeOf cube facts → HasCellsOver cube.sets (length cube.schema.dimensions) facts number

-- one part more has more of them
pub number-more : {T : Type 0} (cube_of : T → Lattice) (parts : List T) (part : ℕ) (d : T) (cube : Lattice)
    (number more : ℕ) → part < length parts → cube ≡ cube_of (get_or parts part d) → CountsCells cube more
    → HaveCellsOfFirst cube_of part parts number → HaveCellsOfFirst cube_of (part + 1) parts (number + more)
number-more cube_of parts part d cube number more below is counts so_far = λ s facts are.
    let at = part-at cube_of s facts parts part d cube are below is in
    let numbered = numbered_facts s facts cube at.has in
    cells-added part (length parts) s.grouping_sets (number_of_dimensions s) (map (counted s) facts) number more
    (so_far s facts are)
    (HasCellsOver-carried s facts cube at.has _ _ more
    (at-schema s cube _ (λ sets dimensions aggregates. HasCellsOver sets dimensions numbered more)
    at.over.schema at.over.sets (counts numbered at.has.counts.cells)))

-- all of them are the whole cube's
pub number-all : {T : Type 0} (cube_of : T → Lattice) (parts : List T) (count number : ℕ) → count ≡ length parts
    → HaveCellsOfFirst cube_of count parts number → HasCellsOfWhole cube_of parts number
number-all cube_of parts count number all first = λ s facts are.
    rw (cube_schema-grouping_sets s, cube_schema-dimensions s)
    (cells-all-below (length parts) s.grouping_sets (number_of_dimensions s) (map (counted s) facts) number are.some
    (subst (λ (n : ℕ). HaveCellsBelow n (length parts) s.grouping_sets (number_of_dimensions s)
    (map (counted s) facts) number) all (first s facts are)))

-- ---- the row of a key
-- what a look-up of a key in a cube promises
abbrev pub FindsRow : Lattice → Key → Option Row → Type 0
FindsRow cube key row = (facts : List Fact) → IsCubeOf cube facts
    → IsRowOver cube.sets (length cube.schema.dimensions) cube.schema.aggregates facts key row

-- a key has no row in any of the first so many parts
abbrev pub HasNoRowBelow : {T : Type 0} → (T → Lattice) → ℕ → Key → List T → Type 0
HasNoRowBelow cube_of count key parts = (s : Layout) (facts : List Fact) → ArePartsOf cube_of s facts parts
    → IsNotBelow count (length parts) s.grouping_sets (number_of_dimensions s) (map (counted s) facts) key

-- what a look-up in a part finds
finds-part : {T : Type 0} (cube_of : T → Lattice) (s : Layout) (facts : List Fact) (parts : List T) (part : ℕ) (d : T)
    (cube : Lattice) (key : Key) (row : Option Row) → ArePartsOf cube_of s facts parts → part < length parts
    → cube ≡ cube_of (get_or parts part d) → FindsRow cube key row
    → IsRowOver (sets_of_part part (length parts) s.grouping_sets) (number_of_dimensions s) s.aggregates
    (map (counted s) facts) key row
finds-part cube_of s facts parts part d cube key row are below is finds =
    let at = part-at cube_of s facts parts part d cube are below is in
    let numbered = numbered_facts s facts cube at.has in
    IsRowOver-carried s facts cube at.has _ _ key row
    (at-schema s cube _ (λ sets dimensions aggregates. IsRowOver sets dimensions aggregates numbered key row)
    at.over.schema at.over.sets (finds numbered at.has.counts.cells))

-- a row that is found in a part
pub row-found : {T : Type 0} (cube_of : T → Lattice) (parts : List T) (part : ℕ) (d : T) (cube : Lattice) (key : Key)
    (row : Row) → part < length parts → cube ≡ cube_of (get_or parts part d) → FindsRow cube key (Some row)
    → IsRowOfWhole cube_of key parts (Some row)
row-found cube_of parts part d cube key row below is finds = λ s facts are.
    row-of-part part (length parts) _ _ s.aggregates _ key row
    (finds-part cube_of s facts parts part d cube key (Some row) are below is finds)

-- none in one part more
pub no-row-more : {T : Type 0} (cube_of : T → Lattice) (parts : List T) (part : ℕ) (d : T) (cube : Lattice) (key : Key)
    → part < length parts → cube ≡ cube_of (get_or parts part d) → FindsRow cube key None
    → HasNoRowBelow cube_of part key parts → HasNoRowBelow cube_of (part + 1) key parts
no-row-more cube_of parts part d cube key below is finds none = λ s facts are.
    not-below-more part (length parts) _ _ _ key (none s facts are)
    (finds-part cube_of s facts parts part d cube key None are below is finds)

-- none in any part
pub no-row : {T : Type 0} (cube_of : T → Lattice) (parts : List T) (count : ℕ) (key : Key) → count ≡ length parts
    → HasNoRowBelow cube_of count key parts → IsRowOfWhole cube_of key parts None
no-row cube_of parts count key all none = λ s facts are.
    not-below-all (length parts) _ _ _ key are.some
    (subst (λ (n : ℕ). IsNotBelow n (length parts) s.grouping_sets (number_of_dimensions s) (map (counted s) facts) key)
    all (none s facts are))
