-- Laws of cells into which others are merged: what one merge says of each look-up and of each count,
-- and how sets are filled one after another.
use Rattle.std.proofs.Common.{◌≡◌, ℕ, ◌+◌, ◌==◌, List, [], ◌∷◌, ◌++◌, Bool, true, false, cond, take, get_or, reverse}
use Rattle.std.proofs.Common.{refl, sym, ap, ◌∙◌, subst, arith, inl, inr, length, Option, Some, None}
use Rattle.std.specs.Prelude.{◌<◌, All, IfSome, IsSome}
use Rattle.std.specs.List.{IsDistinct}
use Rattle.std.specs.List.Sorted.{IsPermutation}
use Rattle.std.specs.Map.{set_value}
use Rattle.std.proofs.lemmas.Bool.{cases_Bool, cond-true, cond-false}
use Rattle.std.proofs.lemmas.List.{length-replicate, reverse-append, take_more}
use Rattle.std.proofs.lemmas.List.Elements.{All-head, All-tail, All-push}
use Rattle.cube_values.specs.Bag.{Bag, held_of}
use Rattle.cube_cells.specs.Coded.{CodedCells, AreNewCells, same_codes, coded_at, total_codes}
use Rattle.cube_cells.specs.Cube.{empty_tally, tally_or_empty}
use Rattle.cube_cells.specs.Fill.{AreMadeFrom, FillsSet, IsFiner, IsMadeLevel, MakesLevels, MergesIn}
use Rattle.cube_cells.specs.Tally.{Tally, PlusTally, SameTally}
use Rattle.cube_cells.specs.Walk.{AreApart, CountMore, key_in}
use Rattle.cube_cells.specs.declared.cube.codes.Codes.{Codes}
use Rattle.cube_cells.specs.declared.cube.levels.Level.{Level}
use Rattle.cube_cells.proofs.Cells.KeptLaws.{All-coded_at}
use Rattle.cube_cells.proofs.Cells.WalkLaws.{same_codes-exact, same_codes-IsEquivalence, coded_at-set, bag_at-replicate}
use Rattle.cube_cells.proofs.Cells.WalkLaws.{CountMore-new, CountMore-set_value}

-- ---- one merge
-- told by its look-ups and counts
MergesIn-coded_at : (k : Codes) (old new : CodedCells) (t more : Tally)
    → ((q : Codes) → coded_at new q ≡ cond (same_codes k q) (Some t) (coded_at old q))
    → PlusTally (tally_or_empty (length more.bags) (coded_at old k)) t more
    → CountMore more.facts (k ∷ []) old new → MergesIn k old new more
MergesIn-coded_at k old new t more look plus counts = record {
  merged = record {
    tally = t;
    is_cell = look k ∙ cond-true (same_codes k k) (Some t) (coded_at old k) (same_codes-IsEquivalence.refl k);
    plus = plus;
  };
  others = λ q other. look q ∙ cond-false (same_codes k q) (Some t) (coded_at old q) other;
  counts_more = counts;
}

-- into a cell that is there
pub MergesIn-set_value : (k : Codes) (old new : CodedCells) (t sum more : Tally) → coded_at old k ≡ Some t
    → new ≡ set_value (same_codes k) old sum → PlusTally t sum more → MergesIn k old new more
MergesIn-set_value k old new t sum more there is plus =
    let some : IsSome (coded_at old k) = rw there refl in
    MergesIn-coded_at k old new sum more
    (λ q. ap (λ (cells : CodedCells). coded_at cells q) is ∙ coded_at-set k q sum old some)
    (rw there plus) (CountMore-set_value more.facts k old new t sum there is plus.facts)

-- a copy is what is merged into nothing
PlusTally-empty_tally : (more t : Tally) → SameTally more t → PlusTally (empty_tally (length more.bags)) t more
PlusTally-empty_tally more t same = record {
  facts = omega (arith, same.facts);
  bags = record {
    same_length = omega (arith, same.bags.same_length, length-replicate {A = Bag} (length more.bags) []);
    each = λ m. record {
      held = λ x. omega (
        arith,
        (same.bags.bags m).held x,
        ap (λ (bag : Bag). held_of bag x) (bag_at-replicate (length more.bags) m),
      );
    };
  };
}

-- into a new cell
pub MergesIn-new : (k : Codes) (old new : CodedCells) (t more : Tally) → coded_at old k ≡ None
    → ((q : Codes) → coded_at new q ≡ cond (same_codes k q) (Some t) (coded_at old q))
    → IsPermutation ((k, t) ∷ old) new → SameTally more t → MergesIn k old new more
MergesIn-new k old new t more none look moved same =
    MergesIn-coded_at k old new t more look (rw none (PlusTally-empty_tally more t same))
    (CountMore-new more.facts k old new t moved (sym same.facts))

-- ---- one set
-- while the cells of a set are filled: these are left
pub record IsFillingSet (set : ℕ) (all left old now : CodedCells) : Type 0 where
  pub measures : ℕ
  pub of_all : All (λ cell. length cell.1.bags ≡ measures) all
  pub of_left : All (λ cell. length cell.1.bags ≡ measures) left
  pub found : (codes : Codes) → IfSome (coded_at now codes) (λ t. length t.bags ≡ measures)
  pub fills : (end : CodedCells) → FillsSet set left now end → FillsSet set all old end

-- what a merge leaves is as wide
MergesIn-width : (measures : ℕ) (k : Codes) (old new : CodedCells) (more : Tally) → length more.bags ≡ measures
    → ((codes : Codes) → IfSome (coded_at old codes) (λ t. length t.bags ≡ measures)) → MergesIn k old new more
    → (codes : Codes) → IfSome (coded_at new codes) (λ t. length t.bags ≡ measures)
MergesIn-width measures k old new more width found merges codes = elim (cases_Bool (same_codes k codes)) [
  | inl same ↦
      let P : Codes → Type 0 = λ q. IfSome (coded_at new q) (λ t. length t.bags ≡ measures) in
      subst P (same_codes-exact k codes same)
      (rw merges.merged.is_cell (merges.merged.plus.bags.same_length ∙ before (coded_at old k) (found k)))
  | inr other ↦ rw (merges.others codes other) (found codes)
] where
  before : (o : Option Tally) → IfSome o (λ t. length t.bags ≡ measures)
      → length (tally_or_empty (length more.bags) o).bags ≡ measures
  before None is = length-replicate {A = Bag} (length more.bags) [] ∙ width
  before (Some t) is = is

pub IsFillingSet-more : (set : ℕ) (all left old now new : CodedCells) (cell : Codes × Tally)
    → IsFillingSet set all (cell ∷ left) old now → MergesIn (key_in cell.0 set) now new cell.1
    → (AreApart now → AreApart new) → IsFillingSet set all left old new
IsFillingSet-more set all left old now new cell filling merges apart = record {
  measures = filling.measures;
  of_all = filling.of_all;
  of_left = All-tail (λ (c : Codes × Tally). length c.1.bags ≡ filling.measures) cell left filling.of_left;
  found = MergesIn-width filling.measures (key_in cell.0 set) now new cell.1
      (All-head (λ (c : Codes × Tally). length c.1.bags ≡ filling.measures) cell left filling.of_left)
      filling.found merges;
  fills = λ end rest. filling.fills end (new, merges, apart, rest);
}

-- what is filled is as wide
FillsSet-width : (set measures : ℕ) (cells old new : CodedCells) → All (λ cell. length cell.1.bags ≡ measures) cells
    → FillsSet set cells old new → AreApart old
    → ((codes : Codes) → IfSome (coded_at old codes) (λ t. length t.bags ≡ measures))
    → AreApart new × ((codes : Codes) → IfSome (coded_at new codes) (λ t. length t.bags ≡ measures))
FillsSet-width set measures [] old new each fills apart found =
    (subst AreApart (sym fills) apart, λ codes. rw fills (found codes))
FillsSet-width set measures (cell ∷ cells) old new each fills apart found =
    let P : Codes × Tally → Type 0 = λ c. length c.1.bags ≡ measures in
    FillsSet-width set measures cells fills.0 new (All-tail P cell cells each) fills.3 (fills.2 apart)
    (MergesIn-width measures (key_in cell.0 set) old fills.0 cell.1 (All-head P cell cells each) found fills.1)

-- the cells of no fact differ and are as wide as there are measures
AreApart-AreNewCells : (has_total : Bool) (measures : ℕ) (cells : CodedCells) → AreNewCells has_total measures cells
    → AreApart cells
unfolding IsDistinct
AreApart-AreNewCells true measures cells new = subst AreApart (sym (new.total refl).1) (tt, tt)
AreApart-AreNewCells false measures cells new = subst AreApart (sym (new.none refl)) tt

pub AreNewCells-width : (has_total : Bool) (measures : ℕ) (cells : CodedCells) → AreNewCells has_total measures cells
    → (codes : Codes) → IfSome (coded_at cells codes) (λ t. length t.bags ≡ measures)
AreNewCells-width true measures cells new codes = let one = new.total refl in rw one.1 (one_found one.0 one.3) where
  one_found : (t : Tally) → length t.bags ≡ measures
      → IfSome (coded_at ((total_codes, t) ∷ []) codes) (λ s. length s.bags ≡ measures)
  one_found t width = elim (cases_Bool (same_codes codes total_codes)) [
    | inl same ↦ rw same width
    | inr other ↦ rw other tt
  ]
AreNewCells-width false measures cells new codes = rw (new.none refl) tt

-- the cells of a set are as wide as those that they are made from
pub AreMadeFrom-width : (measures set : ℕ) (finer cells : CodedCells)
    → All (λ cell. length cell.1.bags ≡ measures) finer → AreMadeFrom finer set measures cells
    → All (λ cell. length cell.1.bags ≡ measures) cells
AreMadeFrom-width measures set finer cells each made =
    let filled = FillsSet-width set measures finer made.start cells each made.fills
    (AreApart-AreNewCells (set == 0) measures made.start made.new)
    (AreNewCells-width (set == 0) measures made.start made.new) in
    All-coded_at (λ cell. length cell.1.bags ≡ measures) cells filled.0
    (λ codes t found. at codes t found (filled.1 codes)) where
      at : (codes : Codes) (t : Tally) → coded_at cells codes ≡ Some t
          → IfSome (coded_at cells codes) (λ s. length s.bags ≡ measures) → length t.bags ≡ measures
      at codes t found width = rw found at width

-- ---- one level after another
-- while levels are made in an order: these sets are left
pub record IsMakingLevels {N : Type 0} (measures : ℕ) (finest : Level N) (order left : List ℕ)
    (now : List (Level N)) : Type 0 where
  pub finer : All (IsFiner finest.set) left
  pub first : All (λ cell. length cell.1.bags ≡ measures) finest.cells.entries
  pub widths : All (λ level. All (λ cell. length cell.1.bags ≡ measures) level.cells.entries) now
  pub makes : (end : List (Level N)) → MakesLevels measures finest left now end → MakesLevels measures finest order
      [] end

-- a level more, of the last set of those that are left in their reverse order
pub IsMakingLevels-more : {N : Type 0} (measures : ℕ) (finest : Level N) (order sets : List ℕ) (now : List (Level N))
    (i unused : ℕ) (level : Level N) → i < length sets
    → IsMakingLevels measures finest order (reverse (take (i + 1) sets)) now
    → IsMadeLevel measures finest now (get_or sets i unused) level
    → IsMakingLevels measures finest order (reverse (take i sets)) (now ++ level ∷ [])
IsMakingLevels-more {N} measures finest order sets now i unused level inside before is =
    let set = get_or sets i unused in
    let left = reverse (take i sets) in
    let first : reverse (take (i + 1) sets) ≡ set ∷ left =
    ap (λ (xs : List ℕ). reverse xs) (take_more sets i unused inside) ∙ reverse-append (take i sets) (set ∷ []) in
    let making = rw first at before in
    record {
      finer = All-tail (IsFiner finest.set) set left making.finer;
      first = making.first;
      widths = All-push (λ (level : Level N). All (λ cell. length cell.1.bags ≡ measures) level.cells.entries)
          now level making.widths is.width;
      makes = λ end rest. making.makes end (is.finer, level, is.there, is.is_finer, is.set_is, is.made, rest);
    }
