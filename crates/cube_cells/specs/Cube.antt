-- The cube that is kept up to date: its cells by key, and what adding and removing a fact does to them (Gray et al.
-- 1997; grouping sets as in SQL:1999).
use Rattle.std.specs.Prelude.{◌≡◌, ◌<◌, ◌==◌, ◌&&◌, ◌||◌, ◌+◌, ◌^◌, ◌⊎◌, ℕ, ℤ, Bool, false, nat_lt, List, [], length}
use Rattle.std.specs.Prelude.{get_or, replicate, sum_by, Option, Some, None, is_some, if◌then◌else◌, IsTrue, IfSome}
use Rattle.std.specs.Prelude.{All}
use Rattle.std.specs.List.Sorted.{IsStrictlySortedBy}
use Rattle.std.specs.Map.{lookup}
use Rattle.std.specs.Ordering.{eq_by_cmp, nat_cmp}
use Rattle.cube_core.specs.Covers.{covers}
use Rattle.cube_core.specs.Cube.{is_cell, is_total}
use Rattle.cube_core.specs.Group.{group_of}
use Rattle.cube_core.specs.GroupingSet.{mask_of, is_among}
use Rattle.cube_core.specs.Layout.{Layout, IsSchema, cube_schema}
use Rattle.cube_core.specs.Order.{key_cmp}
use Rattle.cube_core.specs.Takes.{fits}
use Rattle.cube_core.specs.declared.fact.Fact.{Fact}
use Rattle.cube_core.specs.declared.key.Key.{Key}
use Rattle.cube_cells.specs.Codes.{Dictionaries, texts_with}
use Rattle.cube_cells.specs.Tally.{Tally, IsTallyOf, PlusFact, SameTally, holds_fact}

-- cells, each by its key; nothing speaks of their order
abbrev pub Cells : Type 0
Cells = List (Key × Tally)

-- the cells of the lattice of grouping sets:
-- the schema, the kept sets, the number of facts, the texts with codes, and the tally of each cell
pub record Lattice : Type 0 where
  pub schema : Layout
  pub sets : List ℕ
  pub facts : ℕ
  pub dictionaries : Dictionaries
  pub cells : Cells

-- the tally of the cell of a key
abbrev pub cell_at : Cells → Key → Option Tally
cell_at cells key = lookup (eq_by_cmp key_cmp key) cells

-- how many facts the cells of a grouping set count
abbrev pub count_in : ℕ → Cells → ℕ
count_in set cells = sum_by (λ cell. if mask_of cell.0 == set then cell.1.facts else 0) cells

-- whether a key covers a fact in a kept set
abbrev pub is_kept_for : List ℕ → Fact → Key → Bool
is_kept_for sets fact key = covers key fact && is_among (mask_of key) sets

-- what is true of every cube:
-- a schema's of which no text is counted, over some of its grouping sets in ascending order, with texts for each dimension
pub record IsLattice (l : Lattice) : Type 0 where
  pub schema : IsSchema l.schema
  pub no_texts : l.schema.text_places ≡ []
  pub sets : All (λ set. set < 2 ^ length l.schema.dimensions) l.sets
  pub ascending : IsStrictlySortedBy nat_cmp l.sets
  pub dictionaries : length l.dictionaries ≡ length l.schema.dimensions

-- the cells are the cube of these facts over the kept sets:
-- a cell at each of its keys and at no other, with the tally of the key's group, of each measure
pub record IsCubeOf (l : Lattice) (facts : List Fact) : Type 0 where
  pub keys : (key : Key) → is_some (cell_at l.cells key) ≡ is_cell l.sets (length l.schema.dimensions) facts key
  pub tallies : (key : Key) → IfSome (cell_at l.cells key) (IsTallyOf (group_of key facts))
  pub widths : (key : Key) → IfSome (cell_at l.cells key) (λ t. length t.bags ≡ length l.schema.measures)

-- a cube of the feeds of this schema over these sets, to which no fact was added
pub record IsNewLattice (schema : Layout) (sets : List ℕ) (l : Lattice) : Type 0 where
  pub schema_is : l.schema ≡ cube_schema schema
  pub sets_are : l.sets ≡ sets
  pub no_facts : l.facts ≡ 0
  pub no_texts : (d : ℕ) → get_or l.dictionaries d [] ≡ []

-- the tally of no fact
abbrev pub empty_tally : ℕ → Tally
empty_tally measures = record { facts = 0; bags = replicate measures [] }

-- the tally of a cell, or of no fact where there is no cell
abbrev pub tally_or_empty : ℕ → Option Tally → Tally
tally_or_empty measures None = empty_tally measures
tally_or_empty measures (Some t) = t

-- the key is a cell that has these values of one fact more, and was no cell or one with a fact less
pub record AddsAt (values : List (Option ℤ)) (old new : Option Tally) : Type 0 where
  pub tally : Tally
  pub is_cell : new ≡ Some tally
  pub plus : PlusFact values (tally_or_empty (length values) old) tally

-- the key was a cell, and has these values of one fact less;
-- it is no cell where no fact is left, unless it is the grand total
pub record TakesAt (is_grand_total : Bool) (values : List (Option ℤ)) (old new : Option Tally) : Type 0 where
  pub tally : Tally
  pub left : Tally
  pub was_cell : old ≡ Some tally
  pub minus : PlusFact values left tally
  pub is_left : new ≡ (if is_grand_total || nat_lt 0 left.facts then Some left else None)

-- both are no cell, or cells that count the same
abbrev pub SameCell : Option Tally → Option Tally → Type 0
SameCell None None = Unit {0}
SameCell None (Some b) = ⊥
SameCell (Some a) None = ⊥
SameCell (Some a) (Some b) = SameTally a b

-- whether a cell holds values of a fact
abbrev pub cell_holds : List (Option ℤ) → Option Tally → Bool
cell_holds values None = false
cell_holds values (Some t) = holds_fact t values

-- the cube holds a fact:
-- it fits, there is a fact, and each key that covers it in a kept set is a cell that holds its measures
pub record HoldsFact (l : Lattice) (fact : Fact) : Type 0 where
  pub fits : IsTrue (fits l.schema fact)
  pub some : 0 < l.facts
  pub held : (key : Key) → IsTrue (is_kept_for l.sets fact key)
      → IsTrue (cell_holds fact.measures (cell_at l.cells key))

-- schema and kept sets stay
pub record SameSets (old new : Lattice) : Type 0 where
  pub schema : new.schema ≡ old.schema
  pub sets : new.sets ≡ old.sets

-- the new cube has one fact more: each key that covers it in a kept set has its measures too,
-- and every other key stays as it was
pub record AddsFact (fact : Fact) (old new : Lattice) : Type 0 where
  pub same : SameSets old new
  pub facts : new.facts ≡ old.facts + 1
  pub covering : (key : Key) → IsTrue (is_kept_for old.sets fact key)
      → AddsAt fact.measures (cell_at old.cells key) (cell_at new.cells key)
  pub others : (key : Key) → is_kept_for old.sets fact key ≡ false → cell_at new.cells key ≡ cell_at old.cells key

-- the new cube has one fact less: its measures are taken from each key that covers it in a kept set,
-- and every other key stays as it was
pub record TakesFact (fact : Fact) (old new : Lattice) : Type 0 where
  pub same : SameSets old new
  pub texts : new.dictionaries ≡ old.dictionaries
  pub facts : old.facts ≡ new.facts + 1
  pub covering : (key : Key) → IsTrue (is_kept_for old.sets fact key)
      → TakesAt (is_total (length old.schema.dimensions) key) fact.measures (cell_at old.cells key)
      (cell_at new.cells key)
  pub others : (key : Key) → is_kept_for old.sets fact key ≡ false → cell_at new.cells key ≡ cell_at old.cells key

-- the cells of the two cubes count the same
pub record SameCells (old new : Lattice) : Type 0 where
  pub same : SameSets old new
  pub facts : new.facts ≡ old.facts
  pub cells : (key : Key) → SameCell (cell_at old.cells key) (cell_at new.cells key)

-- each text of a fact that wasn't there has the next code of its dimension; the others keep theirs
abbrev pub AddsTexts : List (Option (List ℕ)) → Dictionaries → Dictionaries → Type 0
AddsTexts values old new = (d : ℕ) → get_or new d [] ≡ texts_with (get_or values d None) (get_or old d [])

-- some texts of a fact that weren't there may have codes; the others keep theirs
abbrev pub MayAddTexts : List (Option (List ℕ)) → Dictionaries → Dictionaries → Type 0
MayAddTexts values old new = (d : ℕ)
    → (get_or new d [] ≡ get_or old d []) ⊎ (get_or new d [] ≡ texts_with (get_or values d None) (get_or old d []))
