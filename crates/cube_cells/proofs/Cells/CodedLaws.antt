-- Laws that join cells kept by codes to the cube:
-- what the walk did to them is what the cube promises, and what is true of each cube stays so.
use Rattle.std.proofs.Common.{◌≡◌, ℕ, ◌+◌, ◌^◌, ◌<◌, ◌≤◌, ◌==◌, List, [], ◌∷◌, Bool, true, false, refl, sym, ap, ◌∙◌}
use Rattle.std.proofs.Common.{subst, arith, inl, inr, length, Option, Some, None}
use Rattle.std.specs.Prelude.{All, IfSome, ◌↔◌}
use Rattle.std.specs.List.{list_all}
use Rattle.std.proofs.lemmas.Bool.{cases_eq, or_cases, or_left, or_right, and_parts, and_from, eq-eqb, eqb-true}
use Rattle.cube_core.specs.Covers.{covers}
use Rattle.cube_core.specs.Cube.{is_total}
use Rattle.cube_core.specs.GroupingSet.{mask_of, is_among}
use Rattle.cube_core.specs.Layout.{Layout}
use Rattle.cube_core.specs.Takes.{fits}
use Rattle.cube_core.specs.declared.fact.Fact.{Fact}
use Rattle.cube_core.specs.declared.key.Key.{Key}
use Rattle.cube_core.proofs.CellKeyLaws.{fits-length}
use Rattle.cube_core.proofs.AncestorLaws.{all_stand_for-ancestor_of, mask_of_coords-ancestor_of, all_stand_for-length}
use Rattle.cube_cells.specs.Codes.{Dictionaries, IsDictionary, are_codes}
use Rattle.cube_cells.specs.Coded.{CodedCells, IsCodedCell, IsCoded, coded_at, decoded, lattice_of, is_total_code}
use Rattle.cube_cells.specs.Cube.{Cells, HoldsFact, AddsFact, TakesFact, SameCells, cell_at, cell_holds, is_kept_for}
use Rattle.cube_cells.specs.Tally.{Tally}
use Rattle.cube_cells.specs.Walk.{key_in, codes_in, is_in, AddsIn, TakesIn, SameCoded}
use Rattle.cube_cells.specs.declared.cube.codes.Codes.{Codes}
use Rattle.cube_cells.proofs.Cells.SchemaLaws.{few_dimensions, its_schema}
use Rattle.cube_cells.proofs.Codes.GrowthLaws.{AreGrown, IsCodedCell-AreGrown, AreGrown-length, All-is_among}
use Rattle.cube_cells.proofs.Codes.KeyLaws.{HasCodes, HasFactCodes, covering_key, HasCodes-covering_key}
use Rattle.cube_cells.proofs.Codes.KeyLaws.{HasCodes-is_kept_for}
use Rattle.cube_cells.proofs.Codes.KeyLaws.{is_in-is_kept_for, look_up-coded, no_cell-width, key-HasCodes, is_in-set}
use Rattle.cube_cells.proofs.Codes.KeyLaws.{set_of-is_in, IsCodedCell-coded_at, coded_at-width}
use Rattle.cube_cells.proofs.Codes.KeyLaws.{is_all_coord-is_total_code}

-- ---- a fact and its codes
-- the codes of a fact under dictionaries and kept sets
pub record IsCodedFact (sets : List ℕ) (dictionaries : Dictionaries) (fact : Fact) (codes : Codes) : Type 0 where
  pub all : All IsDictionary dictionaries
  pub has : HasFactCodes dictionaries fact codes
  pub width : length fact.dims ≡ length dictionaries
  pub room : length dictionaries ≤ 8
  pub below : (set : ℕ) → is_among set sets ≡ true → set < 2 ^ length fact.dims

-- its codes in each kept set are codes of the dimensions
abbrev pub AreValidIn : List ℕ → Dictionaries → Codes → Type 0
AreValidIn sets dictionaries codes =
    (set : ℕ) → is_among set sets ≡ true → are_codes dictionaries (key_in codes set).codes ≡ true

pub IsCodedFact-IsCoded : (schema : Layout) (sets : List ℕ) (facts : ℕ) (old new : Dictionaries) (cells : CodedCells)
    (fact : Fact) (codes : Codes) → IsCoded schema sets facts old cells → fits schema fact ≡ true
    → length new ≡ length old → All IsDictionary new → HasFactCodes new fact codes → IsCodedFact sets new fact codes
IsCodedFact-IsCoded schema sets facts old new cells fact codes is fit lengths all has = record {
  all = all;
  has = has;
  width = fits-length schema fact fit ∙ sym is.lattice.dictionaries ∙ sym lengths;
  room = omega (arith, is.lattice.dictionaries, few_dimensions (its_schema is.lattice), lengths);
  below = λ set among. subst (λ (n : ℕ). set < 2 ^ n) (sym (fits-length schema fact fit))
      (All-is_among (λ s. s < 2 ^ length schema.dimensions) sets set is.lattice.sets among);
}

-- the key that covers the fact in a kept set is kept for it
is_kept_for-covering_key : (sets : List ℕ) (dictionaries : Dictionaries) (fact : Fact) (codes : Codes) (set : ℕ)
    → IsCodedFact sets dictionaries fact codes → is_among set sets ≡ true
    → is_kept_for sets fact (covering_key fact set) ≡ true
is_kept_for-covering_key sets dictionaries fact codes set of among = and_from (covers (covering_key fact set) fact)
    (is_among (mask_of (covering_key fact set)) sets) (all_stand_for-ancestor_of fact.dims set)
    (ap (λ (s : ℕ). is_among s sets) (mask_of_coords-ancestor_of fact.dims set (of.below set among)) ∙ among)

-- the kept set of a key that is kept
is_among-is_kept_for : (sets : List ℕ) (fact : Fact) (key : Key) → is_kept_for sets fact key ≡ true
    → is_among (mask_of key) sets ≡ true
is_among-is_kept_for sets fact key kept = (and_parts (covers key fact) (is_among (mask_of key) sets) kept).1

-- ---- a fact that is held

list_all-is_among : (p : ℕ → Bool) (sets : List ℕ) (set : ℕ) → list_all p sets ≡ true → is_among set sets ≡ true
    → p set ≡ true
list_all-is_among p [] set all among = cc among
list_all-is_among p (first ∷ sets) set all among =
    let parts = and_parts (p first) (list_all p sets) all in
    elim (or_cases (first == set) (is_among set sets) among) [
      | inl same ↦ ap p (sym (eqb-true first set same)) ∙ parts.0
      | inr later ↦ list_all-is_among p sets set parts.1 later
    ]

is_among-list_all : (p : ℕ → Bool) (sets : List ℕ) → ((set : ℕ) → is_among set sets ≡ true → p set ≡ true)
    → list_all p sets ≡ true
is_among-list_all p [] each = refl
is_among-list_all p (first ∷ sets) each = and_from (p first) (list_all p sets)
    (each first (or_left (first == first) (is_among first sets) (eq-eqb first first refl)))
    (is_among-list_all p sets (λ set among. each set (or_right (first == set) (is_among set sets) among)))

-- the cell of a key that is kept for a fact, by codes
pub cell_at-key_in : (sets : List ℕ) (dictionaries : Dictionaries) (measures : ℕ) (cells : CodedCells) (fact : Fact)
    (codes : Codes) (key : Key) → IsCodedFact sets dictionaries fact codes
    → All (IsCodedCell dictionaries measures) cells → is_kept_for sets fact key ≡ true
    → cell_at (decoded dictionaries cells) key ≡ coded_at cells (key_in codes (mask_of key))
cell_at-key_in sets dictionaries measures cells fact codes key of each kept =
    look_up-coded dictionaries measures cells key (key_in codes (mask_of key))
    (HasCodes-is_kept_for dictionaries sets fact codes key of.all of.has kept) each

cell_at-covering_key : (sets : List ℕ) (dictionaries : Dictionaries) (measures : ℕ) (cells : CodedCells) (fact : Fact)
    (codes : Codes) (set : ℕ) → IsCodedFact sets dictionaries fact codes → All (IsCodedCell dictionaries measures) cells
    → cell_at (decoded dictionaries cells) (covering_key fact set) ≡ coded_at cells (key_in codes set)
cell_at-covering_key sets dictionaries measures cells fact codes set of each = look_up-coded dictionaries measures cells
    (covering_key fact set) (key_in codes set) (HasCodes-covering_key dictionaries fact codes set of.all of.has) each

-- whether each cell holds the measures is whether the cube holds the fact
pub cell_holds-HoldsFact : (schema : Layout) (sets : List ℕ) (facts : ℕ) (dictionaries : Dictionaries)
    (cells : CodedCells) (fact : Fact) (codes : Codes) → IsCoded schema sets facts dictionaries cells
    → fits schema fact ≡ true → 0 < facts → IsCodedFact sets dictionaries fact codes
    → (list_all (λ set. cell_holds fact.measures (coded_at cells (key_in codes set))) sets ≡ true)
    ↔ HoldsFact (lattice_of schema sets facts dictionaries cells) fact
cell_holds-HoldsFact schema sets facts dictionaries cells fact codes is fit some of = (
  λ all. record {
    fits = fit;
    some = some;
    held =
        λ key kept. rw (cell_at-key_in sets dictionaries (length schema.measures) cells fact codes key of is.each kept)
        (list_all-is_among (λ set. cell_holds fact.measures (coded_at cells (key_in codes set))) sets (mask_of key) all
        (is_among-is_kept_for sets fact key kept));
  },
  λ holds. is_among-list_all (λ set. cell_holds fact.measures (coded_at cells (key_in codes set))) sets (λ set among.
      ap (cell_holds fact.measures)
      (sym (cell_at-covering_key sets dictionaries (length schema.measures) cells fact codes set of is.each))
      ∙ holds.held (covering_key fact set) (is_kept_for-covering_key sets dictionaries fact codes set of among)),
)

-- each cell has a bag for each measure
pub IsCoded-width : (schema : Layout) (sets : List ℕ) (facts : ℕ) (dictionaries : Dictionaries) (cells : CodedCells)
    → IsCoded schema sets facts dictionaries cells → (key : Key)
    → IfSome (cell_at (decoded dictionaries cells) key) (λ t. length t.bags ≡ length schema.measures)
IsCoded-width schema sets facts dictionaries cells is key = elim (cases_eq (length key.coords) (length dictionaries)) [
  | inl same ↦
      let found = key-HasCodes dictionaries key is.texts same
      (omega (arith, is.lattice.dictionaries, few_dimensions (its_schema is.lattice))) in
      rw (look_up-coded dictionaries (length schema.measures) cells key found.0 found.1 is.each)
      (coded_at-width dictionaries (length schema.measures) cells found.0 is.each)
  | inr other ↦ rw (no_cell-width dictionaries cells key other) tt
]

-- a fact that is held has codes of the dimensions in each kept set
pub AreValidIn-HoldsFact : (schema : Layout) (sets : List ℕ) (facts : ℕ) (dictionaries : Dictionaries)
    (cells : CodedCells) (fact : Fact) (codes : Codes) → IsCoded schema sets facts dictionaries cells
    → IsCodedFact sets dictionaries fact codes → HoldsFact (lattice_of schema sets facts dictionaries cells) fact
    → AreValidIn sets dictionaries codes
AreValidIn-HoldsFact schema sets facts dictionaries cells fact codes is of holds set among =
    by_cell (coded_at cells (key_in codes set)) refl
  where
    held : cell_holds fact.measures (coded_at cells (key_in codes set)) ≡ true
    held = ap (cell_holds fact.measures)
        (sym (cell_at-covering_key sets dictionaries (length schema.measures) cells fact codes set of is.each))
        ∙ holds.held (covering_key fact set) (is_kept_for-covering_key sets dictionaries fact codes set of among)

    by_cell : (o : Option Tally) → coded_at cells (key_in codes set) ≡ o
        → are_codes dictionaries (key_in codes set).codes ≡ true
    by_cell None none = cc (ap (cell_holds fact.measures) (sym none) ∙ held)
    by_cell (Some t) found =
        (IsCodedCell-coded_at dictionaries (length schema.measures) cells (key_in codes set) t is.each found).codes

-- its cells can be taken from
pub cell_holds-is_in : (schema : Layout) (sets : List ℕ) (facts : ℕ) (dictionaries : Dictionaries) (cells : CodedCells)
    (fact : Fact) (codes : Codes) → IsCoded schema sets facts dictionaries cells
    → IsCodedFact sets dictionaries fact codes → HoldsFact (lattice_of schema sets facts dictionaries cells) fact
    → (key : Codes) → is_in (codes_in sets codes) key ≡ true → cell_holds fact.measures (coded_at cells key) ≡ true
cell_holds-is_in schema sets facts dictionaries cells fact codes is of holds key inside =
    let found = set_of-is_in sets codes key inside in
    rw found.2 (ap (cell_holds fact.measures)
    (sym (cell_at-covering_key sets dictionaries (length schema.measures) cells fact codes found.0 of is.each))
    ∙ holds.held (covering_key fact found.0) (is_kept_for-covering_key sets dictionaries fact codes found.0 of found.1))

-- ---- other keys
-- where look-ups by other codes give the same, so do those by other keys
pub cell_at-other : (sets : List ℕ) (dictionaries : Dictionaries) (measures : ℕ) (old new : CodedCells)
    (fact : Fact) (codes : Codes) → IsCodedFact sets dictionaries fact codes → AreValidIn sets dictionaries codes
    → All (IsCodedCell dictionaries measures) old → All (IsCodedCell dictionaries measures) new
    → ((key : Codes) → is_in (codes_in sets codes) key ≡ false → coded_at new key ≡ coded_at old key) → (key : Key)
    → is_kept_for sets fact key ≡ false
    → cell_at (decoded dictionaries new) key ≡ cell_at (decoded dictionaries old) key
cell_at-other sets dictionaries measures old new fact codes of valid each_old each_new others key unkept =
    elim (cases_eq (length key.coords) (length dictionaries)) [
      | inl same ↦
          let found = key-HasCodes dictionaries key of.all same of.room in
          look_up-coded dictionaries measures new key found.0 found.1 each_new
          ∙ others found.0
          (is_in-is_kept_for dictionaries sets fact codes key found.0 of.all of.has valid of.below found.1 unkept)
          ∙ sym (look_up-coded dictionaries measures old key found.0 found.1 each_old)
      | inr other ↦ no_cell-width dictionaries new key other ∙ sym (no_cell-width dictionaries old key other)
    ]

-- ---- what the walk promises, by keys
pub AddsFact-AddsIn : (schema : Layout) (sets : List ℕ) (facts : ℕ) (old new : Dictionaries) (cells more : CodedCells)
    (fact : Fact) (codes : Codes) → IsCoded schema sets facts old cells → AreGrown old new
    → IsCodedFact sets new fact codes → AreValidIn sets new codes
    → AddsIn (codes_in sets codes) fact.measures cells more → All (IsCodedCell new (length schema.measures)) more
    → AddsFact fact (lattice_of schema sets facts old cells) (lattice_of schema sets (facts + 1) new more)
AddsFact-AddsIn schema sets facts old new cells more fact codes is grown of valid adds each =
    let same = IsCodedCell-AreGrown old new (length schema.measures) cells grown of.all is.each in
    record {
      same = record { schema = refl; sets = refl };
      facts = refl;
      covering = λ key kept.
          let here = cell_at-key_in sets new (length schema.measures) more fact codes key of each kept in
          let before = ap (λ (cs : Cells). cell_at cs key) (sym same.1)
          ∙ cell_at-key_in sets new (length schema.measures) cells fact codes key of same.0 kept in
          rw (here, before) (adds.added (key_in codes (mask_of key))
          (is_in-set sets codes (mask_of key) (is_among-is_kept_for sets fact key kept)));
      others = λ key unkept. cell_at-other sets new (length schema.measures) cells more fact codes of valid same.0 each
          adds.others key unkept ∙ ap (λ (cs : Cells). cell_at cs key) same.1;
    }

pub TakesFact-TakesIn : (schema : Layout) (sets : List ℕ) (facts less : ℕ) (dictionaries : Dictionaries)
    (cells left : CodedCells) (fact : Fact) (codes : Codes) → IsCoded schema sets facts dictionaries cells
    → facts ≡ less + 1 → IsCodedFact sets dictionaries fact codes
    → AreValidIn sets dictionaries codes → TakesIn (codes_in sets codes) fact.measures cells left
    → All (IsCodedCell dictionaries (length schema.measures)) left
    → TakesFact fact (lattice_of schema sets facts dictionaries cells) (lattice_of schema sets less dictionaries left)
TakesFact-TakesIn schema sets facts less dictionaries cells left fact codes is count of valid takes each = record {
  same = record { schema = refl; sets = refl };
  texts = refl;
  facts = count;
  covering = λ key kept.
      let key_codes = HasCodes-is_kept_for dictionaries sets fact codes key of.all of.has kept in
      let among = is_among-is_kept_for sets fact key kept in
      let total : is_total (length schema.dimensions) key ≡ is_total_code (key_in codes (mask_of key)) =
      total_of key kept key_codes (valid (mask_of key) among) in
      rw (
        cell_at-key_in sets dictionaries (length schema.measures) left fact codes key of each kept,
        cell_at-key_in sets dictionaries (length schema.measures) cells fact codes key of is.each kept,
        total,
      ) (takes.taken (key_in codes (mask_of key)) (is_in-set sets codes (mask_of key) among));
  others = λ key unkept. cell_at-other sets dictionaries
      (length schema.measures) cells left fact codes of valid is.each each takes.others key unkept;
} where
  total_of : (key : Key) → is_kept_for sets fact key ≡ true → HasCodes dictionaries key (key_in codes (mask_of key))
      → are_codes dictionaries (key_in codes (mask_of key)).codes ≡ true
      → is_total (length schema.dimensions) key ≡ is_total_code (key_in codes (mask_of key))
  total_of key kept has valid_here =
      let stands = (and_parts (covers key fact) (is_among (mask_of key) sets) kept).0 in
      let width : length key.coords ≡ length schema.dimensions =
      all_stand_for-length key.coords fact.dims stands ∙ of.width ∙ is.lattice.dictionaries in
      rw (eq-eqb (length key.coords) (length schema.dimensions) width)
      (is_all_coord-is_total_code dictionaries key (key_in codes (mask_of key)) of.all has valid_here)

-- where the walk changed no count
pub SameCells-SameCoded : (schema : Layout) (sets : List ℕ) (facts : ℕ) (old new : Dictionaries)
    (cells others : CodedCells) (keys : List Codes) → IsCoded schema sets facts old cells → AreGrown old new
    → All IsDictionary new → SameCoded keys cells others → All (IsCodedCell new (length schema.measures)) others
    → SameCells (lattice_of schema sets facts old cells) (lattice_of schema sets facts new others)
SameCells-SameCoded schema sets facts old new cells others keys is grown all same each =
    let grown_cells = IsCodedCell-AreGrown old new (length schema.measures) cells grown all is.each in
    record {
      same = record { schema = refl; sets = refl };
      facts = refl;
      cells = λ key. elim (cases_eq (length key.coords) (length new)) [
        | inl width ↦
            let found = key-HasCodes new key all width (omega (
              arith,
              AreGrown-length old new grown,
              is.lattice.dictionaries,
              few_dimensions (its_schema is.lattice),
            )) in
            let before = ap (λ (cs : Cells). cell_at cs key) (sym grown_cells.1)
            ∙ look_up-coded new (length schema.measures) cells key found.0 found.1 grown_cells.0 in
            rw (before, look_up-coded new (length schema.measures) others key found.0 found.1 each) (same.cells found.0)
        | inr other ↦
            let before = ap (λ (cs : Cells). cell_at cs key) (sym grown_cells.1) ∙ no_cell-width new cells key other in
            rw (before, no_cell-width new others key other) tt
      ];
    }
