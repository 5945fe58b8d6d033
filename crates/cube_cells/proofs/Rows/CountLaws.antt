-- Laws of how many cells a cube has.
use Rattle.std.proofs.Common.{◌≡◌, ◌∙◌, ◌+◌, List, [], ◌∷◌, length, refl, sym, ap, subst, arith}
use Rattle.std.specs.Prelude.{Contains, IsTrue, is_some}
use Rattle.std.specs.List.{IsDistinct}
use Rattle.std.specs.Map.{keys_of}
use Rattle.std.proofs.lemmas.List.{length-map}
use Rattle.cube_core.specs.Cube.{is_cell}
use Rattle.cube_core.specs.declared.fact.Fact.{Fact}
use Rattle.cube_core.specs.declared.key.Key.{Key}
use Rattle.cube_core.proofs.ListLaws.{map-Contains, Contains-map}
use Rattle.cube_cells.specs.BottomUp.{TakesAll, under_keys}
use Rattle.cube_cells.specs.Codes.{Dictionaries, key_at}
use Rattle.cube_cells.specs.Coded.{CodedCells, decoded}
use Rattle.cube_cells.specs.Count.{AreKeysOver}
use Rattle.cube_cells.specs.Cube.{Lattice, IsCubeOf, cell_at}
use Rattle.cube_cells.specs.Tally.{Tally}
use Rattle.cube_cells.specs.declared.cube.cell_count.CellCount.{CellCount}
use Rattle.cube_cells.specs.declared.cube.codes.Codes.{Codes}
use Rattle.cube_cells.proofs.Rows.RowLaws.{Contains-from_cell_at, IsSome-Some, cell_at-from_Contains, same_key_as}

-- the keys of cells that are the cube of facts, where they differ
pub AreKeysOver-IsCubeOf : (l : Lattice) (facts : List Fact) → IsDistinct same_key_as (keys_of l.cells)
    → IsCubeOf l facts → AreKeysOver l.sets (length l.schema.dimensions) facts (keys_of l.cells)
AreKeysOver-IsCubeOf l facts distinct cube = record { cells = λ key. (there key, back key); once = distinct } where
  there : (key : Key) → Contains (keys_of l.cells) key → IsTrue (is_cell l.sets (length l.schema.dimensions) facts key)
  there key inside =
      let c = Contains-map (λ (e : Key × Tally). e.0) l.cells key inside in
      let P : Key → Type 0 = λ k. IsTrue (is_cell l.sets (length l.schema.dimensions) facts k) in
      subst P c.2 (sym (cube.keys c.0.0) ∙ ap is_some (cell_at-from_Contains l.cells c.0.0 c.0.1 distinct c.1))

  back : (key : Key) → IsTrue (is_cell l.sets (length l.schema.dimensions) facts key) → Contains (keys_of l.cells) key
  back key is =
      let t = IsSome-Some (cell_at l.cells key) (cube.keys key ∙ is) in
      map-Contains (λ (e : Key × Tally). e.0) l.cells (key, t.0) (Contains-from_cell_at l.cells key t.0 t.1)

-- there are as many keys as cells
pub length-keys_of-decoded : (dictionaries : Dictionaries) (cells : CodedCells)
    → length (keys_of (decoded dictionaries cells)) ≡ length cells
length-keys_of-decoded dictionaries cells = length-map (decoded dictionaries cells) (λ (e : Key × Tally). e.0)
    ∙ length-map cells (λ (e : Codes × Tally). (key_at dictionaries e.0.codes, e.1))

-- counts of as many cells are the same
count-same : (a b : CellCount) → a.cells ≡ b.cells → a ≡ b
count-same a b same = λ i. record { cells = same i }

-- a count of cells that are taken is so many more
pub cells-TakesAll : (old new : CellCount) (cells : CodedCells)
    → TakesAll (λ (old : CellCount) codes cell new. new.cells ≡ old.cells + 1) old cells new
    → new.cells ≡ old.cells + length cells
cells-TakesAll old new [] taken = omega (arith, ap (λ (c : CellCount). c.cells) taken)
cells-TakesAll old new (cell ∷ cells) taken =
    omega (arith, taken.1, cells-TakesAll taken.0 new cells taken.2)

-- a count that is more by the number of keys took a cell under each of them
pub TakesAll-cells : (cell : Tally) (keys : List Codes) (old new : CellCount) → new.cells ≡ old.cells + length keys
    → TakesAll (λ (old : CellCount) codes cell new. new.cells ≡ old.cells + 1) old (under_keys cell keys) new
TakesAll-cells cell [] old new more = count-same new old (omega (arith, more))
TakesAll-cells cell (codes ∷ keys) old new more =
    let mid : CellCount = record { cells = old.cells + 1 } in
    (mid, refl, TakesAll-cells cell keys mid new (omega (arith, more)))
