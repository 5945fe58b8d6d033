-- Laws of cells in another order.
use Rattle.std.proofs.Common.{◌≡◌, ◌*◌, ◌<◌, ◌∙◌, ◌∷◌, [], ℕ, List, Option, Some, None, ap, arith, inl, inr, length, refl}
use Rattle.std.proofs.Common.{get_or, set, suc, sym, zero}
use Rattle.std.specs.List.{AllZip}
use Rattle.std.specs.Prelude.{All, is_some}
use Rattle.std.specs.Map.{keys_of}
use Rattle.std.specs.List.Sorted.{IsPermutation}
use Rattle.std.proofs.lemmas.Bool.{cases_eq}
use Rattle.std.proofs.lemmas.List.Sorted.{All-permutation, Contains-permutation, IsPermutation-map}
use Rattle.std.proofs.lemmas.List.Elements.{All-cons, All-head, All-tail}
use Rattle.std.proofs.lemmas.List.Sorted.{IsPermutation-append, IsPermutation-refl, IsPermutation-sym}
use Rattle.std.proofs.lemmas.List.Sorted.{IsPermutation-trans, sum_by-IsPermutation}
use Rattle.std.proofs.lemmas.Map.Keys.{IsDistinct-IsPermutation}
use Rattle.std.proofs.lemmas.Map.Views.{Contains-from_lookup, lookup-from_Contains}
use Rattle.cube_core.specs.Layout.{Layout}
use Rattle.cube_core.specs.declared.fact.Fact.{Fact}
use Rattle.cube_core.specs.declared.key.Key.{Key}
use Rattle.cube_cells.specs.Codes.{Dictionaries}
use Rattle.cube_cells.specs.Coded.{CodedCells, IsCodedCell, coded_at, decoded, lattice_of, same_codes, total_codes}
use Rattle.cube_cells.specs.Cube.{SameCells, cell_at}
use Rattle.cube_cells.specs.Levels.{IsLeveled, IsOfOneSet, IsReordered, cells_of, mask_of_codes, sets_of}
use Rattle.cube_cells.specs.Tally.{Tally}
use Rattle.cube_cells.specs.Walk.{AreApart, SameCoded}
use Rattle.cube_cells.specs.declared.cube.codes.Codes.{Codes}
use Rattle.cube_cells.specs.declared.cube.levels.Level.{Level}
use Rattle.cube_cells.proofs.Cells.SchemaLaws.{few_dimensions}
use Rattle.cube_cells.proofs.Filling.FilledLaws.{HaveAll, IsBase}
use Rattle.cube_cells.proofs.Codes.GrowthLaws.{AreGrown-refl, count_in-weight_of_cells, set_weight}
use Rattle.cube_cells.proofs.Codes.KeyLaws.{key-HasCodes, look_up-coded, no_cell-width}
use Rattle.cube_cells.proofs.Cells.StepLaws.{IsCoded-SameCells}
use Rattle.cube_cells.proofs.Cells.WalkLaws.{SameCell-refl, same_codes-IsEquivalence, same_codes-exact, weigh}

-- codes differ in any order
AreApart-IsPermutation : (xs ys : CodedCells) → IsPermutation xs ys → AreApart xs → AreApart ys
AreApart-IsPermutation xs ys moved apart = IsDistinct-IsPermutation same_codes same_codes-IsEquivalence.symm
    (keys_of xs) (keys_of ys) (IsPermutation-map (λ (e : Codes × Tally). e.0) xs ys moved) apart

coded_at-IsPermutation : (a b : CodedCells) (k : Codes) → IsPermutation a b → AreApart a → coded_at b k ≡ coded_at a k
coded_at-IsPermutation a b k moved apart = by_found (coded_at a k) refl (coded_at b k) refl where
  in_b : (t : Tally) → coded_at a k ≡ Some t → coded_at b k ≡ Some t
  in_b t found = lookup-from_Contains same_codes-IsEquivalence k t b (AreApart-IsPermutation a b moved apart)
      (Contains-permutation a b (k, t) moved (Contains-from_lookup same_codes-exact k t a found))

  in_a : (t : Tally) → coded_at b k ≡ Some t → coded_at a k ≡ Some t
  in_a t found = lookup-from_Contains same_codes-IsEquivalence k t a apart (Contains-permutation b a (k, t)
      (IsPermutation-sym a b moved) (Contains-from_lookup same_codes-exact k t b found))

  by_found : (o : Option Tally) → coded_at a k ≡ o → (p : Option Tally) → coded_at b k ≡ p → coded_at b k ≡ coded_at a k
  by_found (Some t) of_a p of_b = in_b t of_a ∙ sym of_a
  by_found None of_a None of_b = of_b ∙ sym of_a
  by_found None of_a (Some t) of_b = cc (sym of_a ∙ in_a t of_b)

cell_at-IsPermutation : (schema : Layout) (dictionaries : Dictionaries) (facts : List Fact) (a b : CodedCells)
    (key : Key) → IsBase schema dictionaries facts → IsPermutation a b
    → AreApart a → All (IsCodedCell dictionaries (length schema.measures)) a
    → cell_at (decoded dictionaries b) key ≡ cell_at (decoded dictionaries a) key
cell_at-IsPermutation schema dictionaries facts a b key base moved apart each =
    elim (cases_eq (length key.coords) (length dictionaries)) [
      | inl same ↦
          let found = key-HasCodes dictionaries key base.texts same
          (omega (arith, base.width, few_dimensions base.is_schema)) in
          look_up-coded dictionaries (length schema.measures) b key found.0 found.1
          (All-permutation (IsCodedCell dictionaries (length schema.measures)) a b moved each)
          ∙ coded_at-IsPermutation a b found.0 moved apart
          ∙ sym (look_up-coded dictionaries (length schema.measures) a key found.0 found.1 each)
      | inr other ↦ no_cell-width dictionaries b key other ∙ sym (no_cell-width dictionaries a key other)
    ]

-- cells in another order are the cells of the same facts
pub HaveAll-IsPermutation : (schema : Layout) (dictionaries : Dictionaries) (facts : List Fact) (sets : List ℕ)
    (a b : CodedCells) → IsBase schema dictionaries facts → IsPermutation a b → HaveAll schema dictionaries facts sets a
    → HaveAll schema dictionaries facts sets b
HaveAll-IsPermutation schema dictionaries facts sets a b base moved of_a = record {
  distinct = AreApart-IsPermutation a b moved of_a.distinct;
  each = All-permutation (IsCodedCell dictionaries (length schema.measures)) a b moved of_a.each;
  total = λ among. rw (coded_at-IsPermutation a b total_codes moved of_a.distinct) (of_a.total among);
  counts = λ set among.
      omega (
        arith,
        count_in-weight_of_cells dictionaries set b,
        count_in-weight_of_cells dictionaries set a,
        of_a.counts set among,
        sum_by-IsPermutation (λ (cell : Codes × Tally). set_weight dictionaries set cell.0 * cell.1.facts) a b moved,
      );
  keys = λ key. ap is_some (same key) ∙ of_a.keys key;
  tallies = λ key. rw (same key) (of_a.tallies key);
} where
  same : (key : Key) → cell_at (decoded dictionaries b) key ≡ cell_at (decoded dictionaries a) key
  same key = cell_at-IsPermutation schema dictionaries facts a b key base moved of_a.distinct of_a.each

-- ---- levels in another order
IsReordered-refl : {N : Type 0} (level : Level N) → IsReordered level level
IsReordered-refl level = record { same_set = refl; moved = IsPermutation-refl level.cells.entries }

pub AllZip-IsReordered_refl : {N : Type 0} (levels : List (Level N)) → AllZip IsReordered levels levels
AllZip-IsReordered_refl [] = tt
AllZip-IsReordered_refl (level ∷ levels) = (IsReordered-refl level, AllZip-IsReordered_refl levels)

-- one level more of which the cells were moved
pub AllZip-IsReordered_set : {N : Type 0} (old now : List (Level N)) (i : ℕ) (unused next : Level N)
    → AllZip IsReordered old now → i < length old → IsReordered (get_or now i unused) next
    → AllZip IsReordered old (set now i next)
AllZip-IsReordered_set [] now i unused next are inside moves = absurd (omega (arith, inside))
AllZip-IsReordered_set (a ∷ old) [] i unused next are inside moves = absurd are
AllZip-IsReordered_set (a ∷ old) (b ∷ now) zero unused next are inside moves = (
  record {
    same_set = moves.same_set ∙ are.0.same_set;
    moved = IsPermutation-trans a.cells.entries b.cells.entries next.cells.entries are.0.moved moves.moved;
  },
  are.1,
)
AllZip-IsReordered_set (a ∷ old) (b ∷ now) (suc i) unused next are inside moves =
    (are.0, AllZip-IsReordered_set old now i unused next are.1 (omega (arith, inside)) moves)

sets_of-IsReordered : {N : Type 0} (old new : List (Level N)) → AllZip IsReordered old new → sets_of new ≡ sets_of old
sets_of-IsReordered [] [] are = refl
sets_of-IsReordered [] (b ∷ new) are = absurd are
sets_of-IsReordered (a ∷ old) [] are = absurd are
sets_of-IsReordered (a ∷ old) (b ∷ new) are =
    ap (λ (set : ℕ). set ∷ sets_of new) are.0.same_set
    ∙ ap (λ (sets : List ℕ). a.set ∷ sets) (sets_of-IsReordered old new are.1)

cells_of-IsReordered : {N : Type 0} (old new : List (Level N)) → AllZip IsReordered old new
    → IsPermutation (cells_of old) (cells_of new)
cells_of-IsReordered [] [] are = IsPermutation-refl []
cells_of-IsReordered [] (b ∷ new) are = absurd are
cells_of-IsReordered (a ∷ old) [] are = absurd are
cells_of-IsReordered (a ∷ old) (b ∷ new) are = IsPermutation-append a.cells.entries b.cells.entries (cells_of old)
    (cells_of new) are.0.moved (cells_of-IsReordered old new are.1)

IsOfOneSet-IsReordered : {N : Type 0} (old new : List (Level N)) → AllZip IsReordered old new → All IsOfOneSet old
    → All IsOfOneSet new
IsOfOneSet-IsReordered [] [] are each = each
IsOfOneSet-IsReordered [] (b ∷ new) are each = absurd are
IsOfOneSet-IsReordered (a ∷ old) [] are each = absurd are
IsOfOneSet-IsReordered (a ∷ old) (b ∷ new) are each =
    All-cons IsOfOneSet b new (rw are.0.same_set
    (All-permutation (λ cell. mask_of_codes cell.0.codes ≡ a.set) a.cells.entries b.cells.entries are.0.moved
    (All-head IsOfOneSet a old each))) (IsOfOneSet-IsReordered old new are.1 (All-tail IsOfOneSet a old each))

-- they are levels of the same cells
pub IsLeveled-IsReordered : {N : Type 0} → {schema : Layout} {sets : List ℕ} {facts : ℕ} {dictionaries : Dictionaries}
    {levels : List (Level N)} (others : List (Level N)) → IsLeveled schema sets facts dictionaries levels
    → AllZip IsReordered levels others
    → IsLeveled schema sets facts dictionaries others
    × SameCells (lattice_of schema sets facts dictionaries (cells_of levels))
    (lattice_of schema sets facts dictionaries (cells_of others))
IsLeveled-IsReordered {dictionaries = dictionaries} {levels = levels} others is are =
    let old : CodedCells = cells_of levels in
    let new : CodedCells = cells_of others in
    let moved : IsPermutation old new = cells_of-IsReordered levels others are in
    let at : (codes : Codes) → coded_at new codes ≡ coded_at old codes =
    λ codes. coded_at-IsPermutation old new codes moved is.coded.distinct in
    let same : SameCoded [] old new = record {
      cells = λ codes. rw (at codes) (SameCell-refl (coded_at old codes));
      others = λ codes outside. at codes;
      counts_same = λ weight. omega (arith, sum_by-IsPermutation (weigh weight) old new moved);
    } in
    let coded = IsCoded-SameCells dictionaries new is.coded (AreGrown-refl dictionaries) is.coded.texts
    (AreApart-IsPermutation old new moved is.coded.distinct) same in (
      record {
        coded = coded.0;
        tables = record {
          sets_are = sets_of-IsReordered levels others are ∙ is.tables.sets_are;
          each = IsOfOneSet-IsReordered levels others are is.tables.each;
        };
      },
      coded.1,
    )
