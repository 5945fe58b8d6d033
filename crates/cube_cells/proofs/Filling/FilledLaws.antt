-- Laws of a grouping set that is filled: the cells of a finer set, merged into those of a coarser one,
-- are the cube of the same facts.
use Rattle.std.proofs.Common.{◌≡◌, ℕ, zero, suc, ◌*◌, ◌^◌, ◌<◌, ◌==◌, List, [], ◌∷◌, ◌++◌, Bool, true, false, ◌||◌}
use Rattle.std.proofs.Common.{refl, sym, ap, ◌∙◌, subst, arith, inl, inr, length, map, get_or, replicate, Option, Some}
use Rattle.std.proofs.Common.{None, if◌then◌else◌, nat_lt}
use Rattle.std.specs.Prelude.{All, IfSome, IsSome, IsTrue, is_some, bit_and}
use Rattle.std.specs.List.{list_any}
use Rattle.std.specs.List.Sorted.{IsPermutation, IsStrictlySortedBy}
use Rattle.std.specs.Ordering.{nat_cmp, eq_by_cmp}
use Rattle.std.proofs.lemmas.Bool.{cases_Bool, and_parts, and_from, or_cases, or_left, or_right, both_ways, eqb-true}
use Rattle.std.proofs.lemmas.Bool.{eq-eqb, false_from_ne_true, lt-ltb}
use Rattle.std.proofs.lemmas.List.{append-nil, length-append, length-map, length-replicate}
use Rattle.std.proofs.lemmas.List.Elements.{All-append, All-head, All-tail, All-nil, All-cons, All-filter}
use Rattle.std.proofs.lemmas.List.Elements.{filter-append}
use Rattle.std.proofs.lemmas.List.Folds.{list_any-append}
use Rattle.std.proofs.lemmas.List.Sorted.{All-permutation, IsPermutation-sym, length_permutation}
use Rattle.std.proofs.lemmas.Map.Keys.{sorted_from_strictly_increasing}
use Rattle.cube_core.specs.Covers.{covers}
use Rattle.cube_core.specs.Cube.{is_cell, is_total}
use Rattle.cube_core.specs.Group.{group_of}
use Rattle.cube_core.specs.GroupingSet.{mask_of, is_among}
use Rattle.cube_core.specs.Layout.{Layout}
use Rattle.cube_core.specs.Order.{key_cmp}
use Rattle.cube_core.specs.Takes.{fits}
use Rattle.cube_core.specs.declared.fact.Fact.{Fact}
use Rattle.cube_core.specs.declared.key.Key.{Key}
use Rattle.cube_core.proofs.ListLaws.{filter-passed, filter-failed}
use Rattle.cube_core.proofs.CellKeyLaws.{fits-length}
use Rattle.cube_core.proofs.AncestorLaws.{ancestor_of, all_stand_for-ancestor_of, mask_of_coords-ancestor_of}
use Rattle.cube_values.specs.Bag.{Bag}
use Rattle.cube_cells.specs.Codes.{Dictionaries, IsDictionary, are_codes, coord_of_value, key_at, kept_codes}
use Rattle.cube_cells.specs.Coded.{CodedCells, IsCoded, IsCodedCell, AreNewCells, same_codes, coded_at, decoded}
use Rattle.cube_cells.specs.Coded.{is_total_code, lattice_of, total_codes}
use Rattle.cube_cells.specs.Cube.{IsCubeOf, Lattice, cell_at, count_in, empty_tally, is_kept_for, tally_or_empty}
use Rattle.cube_cells.specs.Fill.{AreMadeFrom, FillsSet, IsCubeOfAll, IsFiner, MergesIn}
use Rattle.cube_cells.specs.Tally.{Tally, IsTallyOf}
use Rattle.cube_cells.specs.Walk.{AreApart, key_in}
use Rattle.cube_cells.specs.declared.cube.codes.Codes.{Codes}
use Rattle.cube_cells.proofs.Cells.SchemaLaws.{IsCubeSchema, few_dimensions}
use Rattle.cube_cells.proofs.Cells.CodedLaws.{AreValidIn, IsCodedFact, cell_at-key_in, IsCoded-width, cell_at-other}
use Rattle.cube_cells.proofs.Cells.CubeLaws.{IsCubeOf-permutation, IsCubeOf-SameCells, IsTallyOf-empty_tally}
use Rattle.cube_cells.proofs.Cells.CubeLaws.{group_of-is_cell}
use Rattle.cube_cells.proofs.Filling.FinerLaws.{ancestor_of-within, kept_codes-within}
use Rattle.cube_cells.proofs.Tallies.GroupLaws.{IsOfSet, cell_key, AreCodesOf-coords_at, cell_key-covering_key}
use Rattle.cube_cells.proofs.Tallies.GroupLaws.{gathered}
use Rattle.cube_cells.proofs.Tallies.GroupLaws.{gathered-IsPermutation_from_HasGroupsOf, one_covers, IsTallyOf-append}
use Rattle.cube_cells.proofs.Codes.GrowthLaws.{AreGrown, All-is_among, count_in-weight_of_cells, set_weight-key_in}
use Rattle.cube_cells.proofs.Codes.GrowthLaws.{set_weight}
use Rattle.cube_cells.proofs.Cells.KeptLaws.{IsCodedCell-coded_at_same, All-coded_at}
use Rattle.cube_cells.proofs.Codes.KeyLaws.{HasCodes, HasFactCodes, AreCodesOf-alone, HasCodes-covering_key}
use Rattle.cube_cells.proofs.Codes.KeyLaws.{covering_key-mask_of, covering_key, IsCodedCell-coded_at}
use Rattle.cube_cells.proofs.Codes.KeyLaws.{are_codes-kept_codes}
use Rattle.cube_cells.proofs.Codes.KeyLaws.{look_up-coded, key-HasCodes}
use Rattle.cube_core.proofs.CellKeyLaws.{Key-coords, key_cmp-Decides}
use Rattle.cube_cells.proofs.Cells.NewLaws.{IsCoded-AreNewCells, IsCubeOf-AreNewCells, mask_of-is_total}
use Rattle.cube_cells.proofs.Cells.StepLaws.{IsCoded-SameCells_from_AreGrown}
use Rattle.cube_cells.proofs.Cells.WalkLaws.{same_codes-exact, is_in-other}

-- ---- groups of one cell
-- the facts of a cell, for a coarser set:
-- there is a first, which has these codes and fits, and a key of the set covers all or none
pub record HasGroup (schema : Layout) (dictionaries : Dictionaries) (set : ℕ) (cell : Codes × Tally) (group : List Fact)
    : Type 0 where
  pub first : Fact
  pub others : List Fact
  pub is : group ≡ first ∷ others
  pub alike : (key : Key) → mask_of key ≡ set → All (λ fact. covers key fact ≡ covers key first) group
  pub has : HasFactCodes dictionaries first cell.0
  pub fit : fits schema first ≡ true
  pub tally : IsTallyOf group cell.1
  pub valid : are_codes dictionaries (key_in cell.0 set).codes ≡ true
  pub width : length cell.1.bags ≡ length schema.measures

pub group_of-all : (key : Key) (first : Fact) (group : List Fact) → All (λ fact. covers key fact ≡ covers key first) group
    → covers key first ≡ true → group_of key group ≡ group
group_of-all key first [] alike stands = refl
group_of-all key first (fact ∷ group) alike stands =
    filter-passed (covers key) fact group
    (All-head (λ (f : Fact). covers key f ≡ covers key first) fact group alike ∙ stands)
    ∙ ap (λ (g : List Fact). fact ∷ g)
    (group_of-all key first group (All-tail (λ (f : Fact). covers key f ≡ covers key first) fact group alike) stands)

pub group_of-none : (key : Key) (first : Fact) (group : List Fact) → All (λ fact. covers key fact ≡ covers key first) group
    → covers key first ≡ false → (group_of key group ≡ []) × (list_any (covers key) group ≡ false)
group_of-none key first [] alike apart = (refl, refl)
group_of-none key first (fact ∷ group) alike apart =
    let here : covers key fact ≡ false =
    All-head (λ (f : Fact). covers key f ≡ covers key first) fact group alike ∙ apart in
    let rest =
    group_of-none key first group (All-tail (λ (f : Fact). covers key f ≡ covers key first) fact group alike) apart in
    (filter-failed (covers key) fact group here ∙ rest.0, rw here rest.1)

-- ---- cells that are filled
-- what the cells of a schema stand under
pub record IsFrame (schema : Layout) (sets : List ℕ) (dictionaries : Dictionaries) : Type 0 where
  pub is_schema : IsCubeSchema schema
  pub within : All (λ set. set < 2 ^ length schema.dimensions) sets
  pub width : length dictionaries ≡ length schema.dimensions
  pub texts : All IsDictionary dictionaries

-- in each kept set the cells are those of some facts
pub record IsFilled (schema : Layout) (sets : List ℕ) (dictionaries : Dictionaries) (done : ℕ → List Fact)
    (cells : CodedCells) : Type 0 where
  pub distinct : AreApart cells
  pub each : All (IsCodedCell dictionaries (length schema.measures)) cells
  pub total : IsTrue (is_among 0 sets) → IsSome (coded_at cells total_codes)
  pub counts : (set : ℕ) → IsTrue (is_among set sets) → count_in set (decoded dictionaries cells) ≡ length (done set)
  pub keys : (key : Key) → is_some (cell_at (decoded dictionaries cells) key)
      ≡ is_cell sets (length schema.dimensions) (done (mask_of key)) key
  pub tallies : (key : Key)
      → IfSome (cell_at (decoded dictionaries cells) key) (IsTallyOf (group_of key (done (mask_of key))))

-- the group of a cell is merged in a set
pub record IsMerge (schema : Layout) (sets : List ℕ) (dictionaries : Dictionaries) (set : ℕ) (cell : Codes × Tally)
    (group : List Fact) (old new : CodedCells) : Type 0 where
  pub frame : IsFrame schema sets dictionaries
  pub has : HasGroup schema dictionaries set cell group
  pub among : is_among set sets ≡ true
  pub apart : AreApart new
  pub merges : MergesIn (key_in cell.0 set) old new cell.1

-- its facts besides those that were there
abbrev pub joined : ℕ → List Fact → (ℕ → List Fact) → ℕ → List Fact
joined set group done s = if set == s then group ++ done s else done s

-- the codes of its first fact
IsCodedFact-IsMerge : (schema : Layout) (sets : List ℕ) (dictionaries : Dictionaries) (set : ℕ) (cell : Codes × Tally)
    (group : List Fact) (old new : CodedCells) → (m : IsMerge schema sets dictionaries set cell group old new)
    → IsCodedFact (set ∷ []) dictionaries m.has.first cell.0
IsCodedFact-IsMerge schema sets dictionaries set cell group old new m = record {
  all = m.frame.texts;
  has = m.has.has;
  width = width ∙ sym m.frame.width;
  room = omega (arith, m.frame.width, few_dimensions m.frame.is_schema);
  below = λ other among. elim (or_cases (set == other) false among) [
    | inl same ↦ subst (λ (s : ℕ). s < 2 ^ length m.has.first.dims) (eqb-true set other same) small
    | inr never ↦ cc never
  ];
} where
  width : length m.has.first.dims ≡ length schema.dimensions
  width = fits-length schema m.has.first m.has.fit

  small : set < 2 ^ length m.has.first.dims
  small = subst (λ (n : ℕ). set < 2 ^ n) (sym width)
      (All-is_among (λ s. s < 2 ^ length schema.dimensions) sets set m.frame.within m.among)

AreValidIn-are_codes : (dictionaries : Dictionaries) (codes : Codes) (set : ℕ)
    → are_codes dictionaries (key_in codes set).codes ≡ true → AreValidIn (set ∷ []) dictionaries codes
AreValidIn-are_codes dictionaries codes set valid other among = elim (or_cases (set == other) false among) [
  | inl same ↦ subst (λ (s : ℕ). are_codes dictionaries (key_in codes s).codes ≡ true) (eqb-true set other same) valid
  | inr never ↦ cc never
]

-- the cell that is there after it
IsCodedCell-MergesAt : (schema : Layout) (sets : List ℕ) (dictionaries : Dictionaries) (set : ℕ) (cell : Codes × Tally)
    (group : List Fact) (old new : CodedCells) → All (IsCodedCell dictionaries (length schema.measures)) old
    → (m : IsMerge schema sets dictionaries set cell group old new)
    → IsCodedCell dictionaries (length schema.measures) (key_in cell.0 set, m.merges.merged.tally)
IsCodedCell-MergesAt schema sets dictionaries set cell group old new each m = record {
  codes = m.has.valid;
  eight = (HasCodes-covering_key dictionaries m.has.first cell.0 set m.frame.texts m.has.has).eight;
  width = m.merges.merged.plus.bags.same_length ∙ before (coded_at old (key_in cell.0 set)) refl;
  some = or_right (is_total_code (key_in cell.0 set)) (nat_lt 0 m.merges.merged.tally.facts)
      (lt-ltb 0 m.merges.merged.tally.facts
      (omega (arith, m.merges.merged.plus.facts, m.has.tally.count, ap length m.has.is)));
} where
  before : (o : Option Tally) → coded_at old (key_in cell.0 set) ≡ o
      → length (tally_or_empty (length cell.1.bags) (coded_at old (key_in cell.0 set))).bags ≡ length schema.measures
  before None is = rw is (length-replicate {A = Bag} (length cell.1.bags) [] ∙ m.has.width)
  before (Some t) is =
      rw is (IsCodedCell-coded_at dictionaries (length schema.measures) old (key_in cell.0 set) t each is).width

IsCodedCell-IsMerge : (schema : Layout) (sets : List ℕ) (dictionaries : Dictionaries) (set : ℕ) (cell : Codes × Tally)
    (group : List Fact) (old new : CodedCells) → All (IsCodedCell dictionaries (length schema.measures)) old
    → IsMerge schema sets dictionaries set cell group old new
    → All (IsCodedCell dictionaries (length schema.measures)) new
IsCodedCell-IsMerge schema sets dictionaries set cell group old new each m =
    All-coded_at (IsCodedCell dictionaries (length schema.measures))
    new m.apart (λ key t is. elim (cases_Bool (same_codes k key)) [
      | inl same ↦
          let here : k ≡ key = same_codes-exact k key same in
          let at : coded_at new k ≡ Some t = subst (λ (q : Codes). coded_at new q ≡ Some t) (sym here) is in
          let tally : m.merges.merged.tally ≡ t = cc (sym m.merges.merged.is_cell ∙ at) in
          let reached : IsCodedCell dictionaries (length schema.measures) (k, t) =
          subst (λ (x : Tally). IsCodedCell dictionaries (length schema.measures) (k, x)) tally
          (IsCodedCell-MergesAt schema sets dictionaries set cell group old new each m) in
          subst (λ (q : Codes). IsCodedCell dictionaries (length schema.measures) (q, t)) here reached
      | inr other ↦ IsCodedCell-coded_at_same dictionaries (length schema.measures) old new key t each
          (m.merges.others key other) is
    ]) where
      k : Codes
      k = key_in cell.0 set

total_codes-MergesIn : (k : Codes) (old new : CodedCells) (more : Tally) → MergesIn k old new more
    → IsSome (coded_at old total_codes) → IsSome (coded_at new total_codes)
total_codes-MergesIn k old new more merges some = elim (cases_Bool (same_codes k total_codes)) [
  | inl same ↦
      let at : coded_at new total_codes ≡ Some merges.merged.tally =
      subst (λ (q : Codes). coded_at new q ≡ Some merges.merged.tally)
      (same_codes-exact k total_codes same) merges.merged.is_cell in
      rw at refl
  | inr other ↦ rw (merges.others total_codes other) some
]

count_in-IsMerge : (schema : Layout) (sets : List ℕ) (dictionaries : Dictionaries) (set : ℕ) (cell : Codes × Tally)
    (group : List Fact) (old new : CodedCells) (done : ℕ → List Fact) (s : ℕ)
    → IsMerge schema sets dictionaries set cell group old new → count_in s (decoded dictionaries old) ≡ length (done s)
    → count_in s (decoded dictionaries new) ≡ length (joined set group done s)
count_in-IsMerge schema sets dictionaries set cell group old new done s m count = by_set (set == s) refl where
  of : IsCodedFact (set ∷ []) dictionaries m.has.first cell.0
  of = IsCodedFact-IsMerge schema sets dictionaries set cell group old new m

  weight : set_weight dictionaries s (key_in cell.0 set) ≡ (if set == s then 1 else 0)
  weight = set_weight-key_in dictionaries m.has.first cell.0 s set of.all of.has m.has.valid
      (of.below set (or_left (set == set) false (eq-eqb set set refl)))

  by_set : (b : Bool) → (set == s) ≡ b
      → count_in s (decoded dictionaries new) ≡ length (if set == s then group ++ done s else done s)
  by_set true same =
      let one : set_weight dictionaries s (key_in cell.0 set) ≡ 1 =
      weight ∙ ap (λ (b : Bool). if b then 1 else 0) same in
      rw same (omega (
        arith,
        count_in-weight_of_cells dictionaries s new,
        m.merges.counts_more (set_weight dictionaries s),
        ap (λ (n : ℕ). n * cell.1.facts) one,
        count_in-weight_of_cells dictionaries s old,
        count,
        m.has.tally.count,
        length-append group (done s),
      ))
  by_set false other =
      let none : set_weight dictionaries s (key_in cell.0 set) ≡ 0 =
      weight ∙ ap (λ (b : Bool). if b then 1 else 0) other in
      rw other (omega (
        arith,
        count_in-weight_of_cells dictionaries s new,
        m.merges.counts_more (set_weight dictionaries s),
        ap (λ (n : ℕ). n * cell.1.facts) none,
        count_in-weight_of_cells dictionaries s old,
        count,
      ))

-- ---- by keys
-- a key of the set that covers the group is a cell of the facts of both
cell_at-IsMerge : (schema : Layout) (sets : List ℕ) (dictionaries : Dictionaries) (set : ℕ) (cell : Codes × Tally)
    (group : List Fact) (old new : CodedCells) (done : ℕ → List Fact) (key : Key)
    → (m : IsMerge schema sets dictionaries set cell group old new) → IsFilled schema sets dictionaries done old
    → is_kept_for (set ∷ []) m.has.first key ≡ true → (is_some (cell_at (decoded dictionaries new) key)
    ≡ is_cell sets (length schema.dimensions) (joined set group done (mask_of key)) key)
    × IfSome (cell_at (decoded dictionaries new) key) (IsTallyOf (group_of key (joined set group done (mask_of key))))
cell_at-IsMerge schema sets dictionaries set cell group old new done key m filled kept = (
  rw (at_new, here, among_sets, any) (sym (or_right (is_total (length schema.dimensions) key) true refl)),
  rw (at_new, here, both) (with_old (coded_at old (key_in cell.0 set)) refl),
) where
  of : IsCodedFact (set ∷ []) dictionaries m.has.first cell.0
  of = IsCodedFact-IsMerge schema sets dictionaries set cell group old new m

  parts : (covers key m.has.first ≡ true) × (is_among (mask_of key) (set ∷ []) ≡ true)
  parts = and_parts (covers key m.has.first) (is_among (mask_of key) (set ∷ [])) kept

  here : (set == mask_of key) ≡ true
  here = elim (or_cases (set == mask_of key) false parts.1) [ inl same ↦ same | inr never ↦ cc never ]

  mask : mask_of key ≡ set
  mask = sym (eqb-true set (mask_of key) here)

  among_sets : is_among (mask_of key) sets ≡ true
  among_sets = ap (λ (s : ℕ). is_among s sets) mask ∙ m.among

  at : (cells : CodedCells) → All (IsCodedCell dictionaries (length schema.measures)) cells
      → cell_at (decoded dictionaries cells) key ≡ coded_at cells (key_in cell.0 set)
  at cells each =
      cell_at-key_in (set ∷ []) dictionaries (length schema.measures) cells m.has.first cell.0 key of each kept
      ∙ ap (λ (s : ℕ). coded_at cells (key_in cell.0 s)) mask

  at_new : cell_at (decoded dictionaries new) key ≡ Some m.merges.merged.tally
  at_new = at new (IsCodedCell-IsMerge schema sets dictionaries set cell group old new filled.each m)
      ∙ m.merges.merged.is_cell

  at_old : cell_at (decoded dictionaries old) key ≡ coded_at old (key_in cell.0 set)
  at_old = at old filled.each

  any : list_any (covers key) (group ++ done (mask_of key)) ≡ true
  any = list_any-append (covers key) group (done (mask_of key))
      ∙ or_left (list_any (covers key) group) (list_any (covers key) (done (mask_of key)))
      (ap (list_any (covers key)) m.has.is
      ∙ or_left (covers key m.has.first) (list_any (covers key) m.has.others) parts.0)

  both : group_of key (group ++ done (mask_of key)) ≡ group ++ group_of key (done (mask_of key))
  both = filter-append (covers key) group (done (mask_of key))
      ∙ ap (λ (g : List Fact). g ++ group_of key (done (mask_of key)))
      (group_of-all key m.has.first group (m.has.alike key mask) parts.0)

  with_old : (o : Option Tally) → coded_at old (key_in cell.0 set) ≡ o
      → IsTallyOf (group ++ group_of key (done (mask_of key))) m.merges.merged.tally
  with_old None is =
      let unkept : is_cell sets (length schema.dimensions) (done (mask_of key)) key ≡ false =
      sym (filled.keys key) ∙ ap is_some (at_old ∙ is) in
      let none : group_of key (done (mask_of key)) ≡ [] =
      group_of-is_cell sets (length schema.dimensions) m.has.first (done (mask_of key)) key
      (and_from (covers key m.has.first) (is_among (mask_of key) sets) parts.0 among_sets) unkept in
      rw none (IsTallyOf-append group [] cell.1 (empty_tally (length cell.1.bags)) m.merges.merged.tally
      (sym (length-replicate {A = Bag} (length cell.1.bags) [])) m.has.tally
      (IsTallyOf-empty_tally (length cell.1.bags)) (rw is at m.merges.merged.plus))
  with_old (Some t) is =
      let width : length t.bags ≡ length schema.measures =
      (IsCodedCell-coded_at dictionaries (length schema.measures) old (key_in cell.0 set) t filled.each is).width in
      let was : IsTallyOf (group_of key (done (mask_of key))) t = rw (at_old ∙ is) at (filled.tallies key) in
      IsTallyOf-append group (group_of key (done (mask_of key))) cell.1 t m.merges.merged.tally
      (m.has.width ∙ sym width) m.has.tally was (rw is at m.merges.merged.plus)

-- every other key is as it was
cell_at-IsMerge_other : (schema : Layout) (sets : List ℕ) (dictionaries : Dictionaries) (set : ℕ) (cell : Codes × Tally)
    (group : List Fact) (old new : CodedCells) (done : ℕ → List Fact) (key : Key)
    → (m : IsMerge schema sets dictionaries set cell group old new) → IsFilled schema sets dictionaries done old
    → is_kept_for (set ∷ []) m.has.first key ≡ false → (is_some (cell_at (decoded dictionaries new) key)
    ≡ is_cell sets (length schema.dimensions) (joined set group done (mask_of key)) key)
    × IfSome (cell_at (decoded dictionaries new) key) (IsTallyOf (group_of key (joined set group done (mask_of key))))
cell_at-IsMerge_other schema sets dictionaries set cell group old new done key m filled unkept =
    by_set (set == mask_of key) refl
  where
    same : cell_at (decoded dictionaries new) key ≡ cell_at (decoded dictionaries old) key
    same = cell_at-other (set ∷ []) dictionaries (length schema.measures) old new m.has.first cell.0
        (IsCodedFact-IsMerge schema sets dictionaries set cell group old new m)
        (AreValidIn-are_codes dictionaries cell.0 set m.has.valid) filled.each
        (IsCodedCell-IsMerge schema sets dictionaries set cell group old new filled.each m)
        (λ codes outside. m.merges.others codes (is_in-other (key_in cell.0 set) codes outside)) key unkept

    by_set : (b : Bool) → (set == mask_of key) ≡ b → (is_some (cell_at (decoded dictionaries new) key)
        ≡ is_cell sets (length schema.dimensions) (joined set group done (mask_of key)) key)
        × IfSome (cell_at (decoded dictionaries new) key)
        (IsTallyOf (group_of key (joined set group done (mask_of key))))
    by_set false other = (rw (other, same) (filled.keys key), rw (other, same) (filled.tallies key))
    by_set true here =
        let apart : covers key m.has.first ≡ false = false_from_ne_true (covers key m.has.first) (λ stands.
        both_ways (is_kept_for (set ∷ []) m.has.first key) unkept (and_from (covers key m.has.first)
        (is_among (mask_of key) (set ∷ [])) stands (or_left (set == mask_of key) false here))) in
        let none =
        group_of-none key m.has.first group (m.has.alike key (sym (eqb-true set (mask_of key) here))) apart in
        let any : list_any (covers key) (group ++ done (mask_of key)) ≡ list_any (covers key) (done (mask_of key)) =
        list_any-append (covers key) group (done (mask_of key))
        ∙ ap (λ (b : Bool). b || list_any (covers key) (done (mask_of key))) none.1 in
        let both : group_of key (group ++ done (mask_of key)) ≡ group_of key (done (mask_of key)) =
        filter-append (covers key) group (done (mask_of key))
        ∙ ap (λ (g : List Fact). g ++ group_of key (done (mask_of key))) none.0 in
        (rw (here, same, any) (filled.keys key), rw (here, same, both) (filled.tallies key))

-- ---- one merge, one set, all sets
IsFilled-IsMerge : (schema : Layout) (sets : List ℕ) (dictionaries : Dictionaries) (set : ℕ) (cell : Codes × Tally)
    (group : List Fact) (old new : CodedCells) (done : ℕ → List Fact)
    → IsMerge schema sets dictionaries set cell group old new → IsFilled schema sets dictionaries done old
    → IsFilled schema sets dictionaries (joined set group done) new
IsFilled-IsMerge schema sets dictionaries set cell group old new done m filled = record {
  distinct = m.apart;
  each = IsCodedCell-IsMerge schema sets dictionaries set cell group old new filled.each m;
  total = λ kept. total_codes-MergesIn (key_in cell.0 set) old new cell.1 m.merges (filled.total kept);
  counts = λ s among. count_in-IsMerge schema sets dictionaries set cell group old new done s m (filled.counts s among);
  keys = λ key. (at key).0;
  tallies = λ key. (at key).1;
} where
  at : (key : Key) → (is_some (cell_at (decoded dictionaries new) key)
      ≡ is_cell sets (length schema.dimensions) (joined set group done (mask_of key)) key)
      × IfSome (cell_at (decoded dictionaries new) key) (IsTallyOf (group_of key (joined set group done (mask_of key))))
  at key = elim (cases_Bool (is_kept_for (set ∷ []) m.has.first key)) [
    | inl kept ↦ cell_at-IsMerge schema sets dictionaries set cell group old new done key m filled kept
    | inr unkept ↦ cell_at-IsMerge_other schema sets dictionaries set cell group old new done key m filled unkept
  ]

-- facts that are the same in each set
IsFilled-same : (schema : Layout) (sets : List ℕ) (dictionaries : Dictionaries) (f g : ℕ → List Fact)
    (cells : CodedCells) → ((s : ℕ) → f s ≡ g s) → IsFilled schema sets dictionaries f cells
    → IsFilled schema sets dictionaries g cells
IsFilled-same schema sets dictionaries f g cells same filled =
    let P : (ℕ → List Fact) → Type 0 = λ h. IsFilled schema sets dictionaries h cells in
    let all : f ≡ g = λ i s. same s i in
    subst P all filled

-- the groups of cells in a set, besides what was there
abbrev gathered_in : Dictionaries → List Fact → CodedCells → ℕ → (ℕ → List Fact) → ℕ → List Fact
gathered_in dictionaries facts cells set done s =
    if set == s then gathered dictionaries facts cells (done s) else done s

-- a cell has a group of facts for a coarser set, of the same codes there
pub record HasFinerGroup (schema : Layout) (dictionaries : Dictionaries) (facts : List Fact) (set : ℕ)
    (cell : Codes × Tally) : Type 0 where
  pub codes : Codes
  pub same : key_in cell.0 set ≡ key_in codes set
  pub group : HasGroup schema dictionaries set (codes, cell.1) (group_of (cell_key dictionaries cell) facts)

-- so do these cells
abbrev pub HaveGroups : Layout → Dictionaries → List Fact → ℕ → CodedCells → Type 0
HaveGroups schema dictionaries facts set cells = All (HasFinerGroup schema dictionaries facts set) cells

IsFilled-FillsSet : (schema : Layout) (sets : List ℕ) (dictionaries : Dictionaries) (facts : List Fact) (set : ℕ)
    (cells old new : CodedCells) (done : ℕ → List Fact) → IsFrame schema sets dictionaries → is_among set sets ≡ true
    → HaveGroups schema dictionaries facts set cells → FillsSet set cells old new
    → IsFilled schema sets dictionaries done old
    → IsFilled schema sets dictionaries (gathered_in dictionaries facts cells set done) new
IsFilled-FillsSet schema sets dictionaries facts set [] old new done frame among groups fills filled =
    let now : IsFilled schema sets dictionaries done new =
    subst (IsFilled schema sets dictionaries done) (sym fills) filled in
    IsFilled-same schema sets dictionaries done (gathered_in dictionaries facts [] set done) new
    (λ s. same s (set == s)) now where
      same : (s : ℕ) (b : Bool) → done s ≡ (if b then done s else done s)
      same s true = refl
      same s false = refl
IsFilled-FillsSet schema sets dictionaries facts set (cell ∷ cells) old new done frame among groups fills filled =
    let group : List Fact = group_of (cell_key dictionaries cell) facts in
    let P : Codes × Tally → Type 0 = HasFinerGroup schema dictionaries facts set in
    let finer : HasFinerGroup schema dictionaries facts set cell = All-head P cell cells groups in
    let apart : AreApart fills.0 = fills.2 filled.distinct in
    let merges : MergesIn (key_in finer.codes set) old fills.0 cell.1 =
    subst (λ (k : Codes). MergesIn k old fills.0 cell.1) finer.same fills.1 in
    let merge : IsMerge schema sets dictionaries set (finer.codes, cell.1) group old fills.0 =
    record { frame = frame; has = finer.group; among = among; apart = apart; merges = merges } in
    let first : IsFilled schema sets dictionaries (joined set group done) fills.0 =
    IsFilled-IsMerge schema sets dictionaries set (finer.codes, cell.1) group old fills.0 done merge filled in
    let rest = IsFilled-FillsSet schema sets dictionaries facts set cells fills.0 new
    (joined set group done) frame among (All-tail P cell cells groups) fills.3 first in
    IsFilled-same schema sets dictionaries (gathered_in dictionaries facts cells set (joined set group done))
    (gathered_in dictionaries facts (cell ∷ cells) set done) new (λ s. same s group (set == s)) rest where
      same : (s : ℕ) (group : List Fact) (b : Bool) →
          (if b then gathered dictionaries facts cells (if b then group ++ done s else done s)
          else (if b then group ++ done s else done s))
          ≡ (if b then gathered dictionaries facts cells (group ++ done s) else done s)
      same s group true = refl
      same s group false = refl

-- ---- the start
AreGrown-replicate : (dictionaries : Dictionaries) → AreGrown (replicate (length dictionaries) []) dictionaries
AreGrown-replicate [] = tt
AreGrown-replicate (texts ∷ dictionaries) = ((texts, refl), AreGrown-replicate dictionaries)

-- the cells of no fact
pub IsFilled-AreNewCells : (schema : Layout) (sets : List ℕ) (dictionaries : Dictionaries) (start : CodedCells)
    → IsFrame schema sets dictionaries → IsStrictlySortedBy nat_cmp sets
    → AreNewCells (is_among 0 sets) (length schema.measures) start → IsFilled schema sets dictionaries (λ _. []) start
IsFilled-AreNewCells schema sets dictionaries start frame ascending new =
    let n : ℕ = length schema.dimensions in
    let grown : AreGrown (replicate n []) dictionaries =
    subst (λ (k : ℕ). AreGrown (replicate k []) dictionaries) frame.width (AreGrown-replicate dictionaries) in
    let coded : IsCoded schema sets 0 (replicate n []) start =
    IsCoded-AreNewCells schema sets start frame.is_schema frame.within ascending new in
    let moved = IsCoded-SameCells_from_AreGrown dictionaries coded grown frame.texts in
    let cube : IsCubeOf (lattice_of schema sets 0 dictionaries start) [] =
    IsCubeOf-SameCells (lattice_of schema sets 0 (replicate n []) start) (lattice_of schema sets 0 dictionaries start)
    [] moved.1 (IsCubeOf-AreNewCells schema sets start (few_dimensions frame.is_schema) new) in
    record {
      distinct = moved.0.distinct;
      each = moved.0.each;
      total = moved.0.total;
      counts = moved.0.counts;
      keys = cube.keys;
      tallies = cube.tallies;
    }

-- ---- facts that fit
-- the schema and the texts of facts that fit
pub record IsBase (schema : Layout) (dictionaries : Dictionaries) (facts : List Fact) : Type 0 where
  pub is_schema : IsCubeSchema schema
  pub width : length dictionaries ≡ length schema.dimensions
  pub texts : All IsDictionary dictionaries
  pub fit : All (λ fact. fits schema fact ≡ true) facts

-- in each of the sets the cells are those of all facts
abbrev pub HaveAll : Layout → Dictionaries → List Fact → List ℕ → CodedCells → Type 0
HaveAll schema dictionaries facts sets cells = IsFilled schema sets dictionaries (λ _. facts) cells

-- ---- cells of a grouping set
-- what the key of one is, and whom it covers
pub record IsSetCell (schema : Layout) (dictionaries : Dictionaries) (facts : List Fact) (set : ℕ)
    (cell : Codes × Tally) : Type 0 where
  pub of_set : IsOfSet dictionaries set cell
  pub covers_one : 0 < set → list_any (covers (cell_key dictionaries cell)) facts ≡ true
  pub tally : IsTallyOf (group_of (cell_key dictionaries cell) facts) cell.1
  pub bags : length cell.1.bags ≡ length schema.measures

-- the set of a cell that is found is kept
pub cell_at-key_at : (schema : Layout) (sets : List ℕ)
    (dictionaries : Dictionaries) (done : ℕ → List Fact) (cells : CodedCells) (codes : Codes) (t : Tally)
    → All IsDictionary dictionaries → IsFilled schema sets dictionaries done cells → coded_at cells codes ≡ Some t
    → (cell_at (decoded dictionaries cells) (key_at dictionaries codes.codes) ≡ Some t)
    × (is_cell sets (length schema.dimensions) (done (mask_of (key_at dictionaries codes.codes)))
    (key_at dictionaries codes.codes) ≡ true)
cell_at-key_at schema sets dictionaries done cells codes t texts filled found =
    (look, sym (filled.keys key) ∙ ap is_some look)
  where
    key : Key
    key = key_at dictionaries codes.codes

    cell : IsCodedCell dictionaries (length schema.measures) (codes, t)
    cell = IsCodedCell-coded_at dictionaries (length schema.measures) cells codes t filled.each found

    look : cell_at (decoded dictionaries cells) key ≡ Some t
    look = look_up-coded dictionaries (length schema.measures) cells key codes
        (record {
          are = AreCodesOf-coords_at dictionaries codes.codes texts cell.codes;
          eight = cell.eight;
        }) filled.each ∙ found

IsSetCell-coded_at : (schema : Layout) (dictionaries : Dictionaries) (facts : List Fact) (set : ℕ) (cells : CodedCells)
    (codes : Codes) (t : Tally) → IsBase schema dictionaries facts → HaveAll schema dictionaries facts (set ∷ []) cells
    → coded_at cells codes ≡ Some t → IsSetCell schema dictionaries facts set (codes, t)
IsSetCell-coded_at schema dictionaries facts set cells codes t base filled found = record {
  of_set = record { valid = coded.codes; eight = coded.eight; in_set = mask };
  covers_one = λ some. elim (or_cases (is_total n key) (list_any (covers key) facts) parts.1) [
    | inl total ↦ absurd (omega (arith, mask_of-is_total n key total, mask, some))
    | inr one ↦ one
  ];
  tally = rw at.0 at (filled.tallies key);
  bags = coded.width;
} where
  n : ℕ
  n = length schema.dimensions

  key : Key
  key = key_at dictionaries codes.codes

  coded : IsCodedCell dictionaries (length schema.measures) (codes, t)
  coded = IsCodedCell-coded_at dictionaries (length schema.measures) cells codes t filled.each found

  at : (cell_at (decoded dictionaries cells) key ≡ Some t) × (is_cell (set ∷ []) n facts key ≡ true)
  at = cell_at-key_at schema (set ∷ []) dictionaries (λ _. facts) cells codes t base.texts filled found

  parts : (is_among (mask_of key) (set ∷ []) ≡ true) × ((is_total n key || list_any (covers key) facts) ≡ true)
  parts = and_parts (is_among (mask_of key) (set ∷ [])) (is_total n key || list_any (covers key) facts) at.1

  mask : mask_of key ≡ set
  mask = elim (or_cases (set == mask_of key) false parts.0) [
    | inl same ↦ sym (eqb-true set (mask_of key) same)
    | inr never ↦ cc never
  ]

-- each cell is so
pub IsSetCell-HaveAll : (schema : Layout) (dictionaries : Dictionaries) (facts : List Fact) (set : ℕ) (cells : CodedCells)
    → IsBase schema dictionaries facts → HaveAll schema dictionaries facts (set ∷ []) cells
    → All (IsSetCell schema dictionaries facts set) cells
IsSetCell-HaveAll schema dictionaries facts set cells base filled =
    All-coded_at (IsSetCell schema dictionaries facts set) cells filled.distinct
    (λ codes t found. IsSetCell-coded_at schema dictionaries facts set cells codes t base filled found)

-- the first fact of a group
group_of-first : (key : Key) (facts : List Fact) → list_any (covers key) facts ≡ true
    → (first : Fact) × (others : List Fact) × (group_of key facts ≡ first ∷ others)
group_of-first key [] some = cc some
group_of-first key (fact ∷ facts) some = elim (cases_Bool (covers key fact)) [
  | inl stands ↦ (fact, group_of key facts, filter-passed (covers key) fact facts stands)
  | inr apart ↦ let rest = group_of-first key facts (rw apart at some) in
      (rest.0, rest.1, filter-failed (covers key) fact facts apart ∙ rest.2)
]

-- the facts of a group are covered
covers-group_of : (key : Key) (facts : List Fact) → All (λ fact. covers key fact ≡ true) (group_of key facts)
covers-group_of key [] = All-nil (λ (fact : Fact). covers key fact ≡ true)
covers-group_of key (fact ∷ facts) = elim (cases_Bool (covers key fact)) [
  | inl stands ↦ rw (filter-passed (covers key) fact facts stands)
      (All-cons (λ (f : Fact). covers key f ≡ true) fact (group_of key facts) stands (covers-group_of key facts))
  | inr apart ↦ rw (filter-failed (covers key) fact facts apart) (covers-group_of key facts)
]

-- a coarser key covers both of two facts of a finer cell or neither
covers-covering_key : (key : Key) (finer : ℕ) (a b : Fact) → covering_key a finer ≡ covering_key b finer
    → bit_and finer (mask_of key) ≡ mask_of key → covers key a ≡ true → covers key b ≡ true
covers-covering_key key finer a b same within stands =
    let coords : ancestor_of a.dims (mask_of key) ≡ ancestor_of b.dims (mask_of key) =
    ancestor_of-within a.dims b.dims finer (mask_of key) within (ap (λ (k : Key). k.coords) same) in
    let is : key ≡ covering_key b (mask_of key) = covering_key-mask_of a key stands
    ∙ Key-coords (covering_key a (mask_of key)) (covering_key b (mask_of key)) coords in
    ap (λ (k : Key). covers k b) is ∙ all_stand_for-ancestor_of b.dims (mask_of key)

-- the group of a cell, for a coarser set
pub HasFinerGroup-IsSetCell : (schema : Layout) (dictionaries : Dictionaries) (facts : List Fact) (finer set : ℕ)
    (cell : Codes × Tally) → IsBase schema dictionaries facts → 0 < finer → bit_and finer set ≡ set
    → IsSetCell schema dictionaries facts finer cell → HasFinerGroup schema dictionaries facts set cell
HasFinerGroup-IsSetCell schema dictionaries facts finer set cell base some within is = record {
  codes = codes.0;
  same = same;
  group = record {
    first = found.0;
    others = found.1;
    is = found.2;
    alike = λ key mask k d inside. alike key mask (get_or group k d) (covered k d inside);
    has = codes.1;
    fit = All-head (λ (f : Fact). fits schema f ≡ true) found.0 found.1
        (subst (All (λ (f : Fact). fits schema f ≡ true)) found.2
        (All-filter (covers (cell_key dictionaries cell)) (λ (f : Fact). fits schema f ≡ true) facts base.fit));
    tally = is.tally;
    valid = subst (λ (k : Codes). are_codes dictionaries k.codes ≡ true) same
        (are_codes-kept_codes dictionaries cell.0.codes set is.of_set.valid);
    width = is.bags;
  };
} where
  group : List Fact
  group = group_of (cell_key dictionaries cell) facts

  found : (first : Fact) × (others : List Fact) × (group_of (cell_key dictionaries cell) facts ≡ first ∷ others)
  found = group_of-first (cell_key dictionaries cell) facts (is.covers_one some)

  covered : All (λ fact. covers (cell_key dictionaries cell) fact ≡ true) group
  covered = covers-group_of (cell_key dictionaries cell) facts

  first_covered : covers (cell_key dictionaries cell) found.0 ≡ true
  first_covered = All-head (λ (f : Fact). covers (cell_key dictionaries cell) f ≡ true) found.0 found.1
      (subst (All (λ (f : Fact). covers (cell_key dictionaries cell) f ≡ true)) found.2 covered)

  first_fits : fits schema found.0 ≡ true
  first_fits = All-head (λ (f : Fact). fits schema f ≡ true) found.0 found.1
      (subst (All (λ (f : Fact). fits schema f ≡ true)) found.2
      (All-filter (covers (cell_key dictionaries cell)) (λ (f : Fact). fits schema f ≡ true) facts base.fit))

  at_key : (fact : Fact) → covers (cell_key dictionaries cell) fact ≡ true
      → cell_key dictionaries cell ≡ covering_key fact finer
  at_key fact stands = cell_key-covering_key dictionaries finer cell fact is.of_set stands

  codes : (codes : Codes) × HasFactCodes dictionaries found.0 codes
  codes =
      let some = key-HasCodes dictionaries (record { coords = map coord_of_value found.0.dims }) base.texts
      (omega (
        arith,
        length-map found.0.dims coord_of_value,
        fits-length schema found.0 first_fits,
        base.width,
      )) (omega (arith, base.width, few_dimensions base.is_schema)) in
      (some.0, record { are = some.1.are; eight = some.1.eight })

  here : HasCodes dictionaries (covering_key found.0 finer) (key_in codes.0 finer)
  here = HasCodes-covering_key dictionaries found.0 codes.0 finer base.texts codes.1

  lists : cell.0.codes ≡ (key_in codes.0 finer).codes
  lists = AreCodesOf-alone dictionaries (covering_key found.0 finer).coords
      (key_in codes.0 finer).codes cell.0.codes here.are is.of_set.valid (omega (arith, is.of_set.eight, here.eight))
      (ap (λ (k : Key). k.coords) (at_key found.0 first_covered))

  same : key_in cell.0 set ≡ key_in codes.0 set
  same =
      let make : List ℕ → Codes = λ xs. record { codes = xs } in
      ap (λ (xs : List ℕ). make (kept_codes set xs)) lists
      ∙ ap make (kept_codes-within codes.0.codes finer set within)

  alike : (key : Key) → mask_of key ≡ set → (fact : Fact) → covers (cell_key dictionaries cell) fact ≡ true
      → covers key fact ≡ covers key found.0
  alike key mask fact stands =
      let both : covering_key fact finer ≡ covering_key found.0 finer =
      sym (at_key fact stands) ∙ at_key found.0 first_covered in
      let inside : bit_and finer (mask_of key) ≡ mask_of key =
      subst (λ (s : ℕ). bit_and finer s ≡ s) (sym mask) within in
      elim (cases_Bool (covers key fact)) [
        | inl stands_also ↦ stands_also ∙ sym (covers-covering_key key finer fact found.0 both inside stands_also)
        | inr apart ↦ apart ∙ sym (false_from_ne_true (covers key found.0) (λ also.
            both_ways (covers key fact) apart (covers-covering_key key finer found.0 fact (sym both) inside also)))
      ]

-- each fact is covered by the key of a cell
one_covers-cell_at : (dictionaries : Dictionaries) (cells : CodedCells) (key : Key) (fact : Fact)
    → covers key fact ≡ true → is_some (cell_at (decoded dictionaries cells) key) ≡ true
    → one_covers dictionaries cells fact ≡ true
one_covers-cell_at dictionaries [] key fact stands some = cc some
one_covers-cell_at dictionaries (cell ∷ cells) key fact stands some =
    elim (cases_Bool (eq_by_cmp key_cmp key (cell_key dictionaries cell))) [
      | inl same ↦
          let is : key ≡ cell_key dictionaries cell = (key_cmp-Decides key (cell_key dictionaries cell)).0 same in
          or_left (covers (cell_key dictionaries cell) fact) (one_covers dictionaries cells fact)
          (ap (λ (k : Key). covers k fact) (sym is) ∙ stands)
      | inr apart ↦ or_right (covers (cell_key dictionaries cell) fact) (one_covers dictionaries cells fact)
          (one_covers-cell_at dictionaries cells key fact stands (rw apart at some))
    ]

list_any-get_or : (p : Fact → Bool) (facts : List Fact) (k : ℕ) (d : Fact) → k < length facts
    → p (get_or facts k d) ≡ true → list_any p facts ≡ true
list_any-get_or p [] k d inside passes = absurd (omega (arith, inside))
list_any-get_or p (fact ∷ facts) zero d inside passes = or_left (p fact) (list_any p facts) passes
list_any-get_or p (fact ∷ facts) (suc k) d inside passes =
    or_right (p fact) (list_any p facts) (list_any-get_or p facts k d (omega (arith, inside)) passes)

pub one_covers-HaveAll : (schema : Layout) (dictionaries : Dictionaries) (facts : List Fact) (set : ℕ) (cells : CodedCells)
    → set < 2 ^ length schema.dimensions → IsBase schema dictionaries facts
    → HaveAll schema dictionaries facts (set ∷ []) cells → All (λ fact. one_covers dictionaries cells fact ≡ true) facts
one_covers-HaveAll schema dictionaries facts set cells below base filled =
    λ k d inside. found (get_or facts k d) (λ p passes. list_any-get_or p facts k d inside passes) (base.fit k d inside)
  where
    n : ℕ
    n = length schema.dimensions

    found : (fact : Fact) → ((p : Fact → Bool) → p fact ≡ true → list_any p facts ≡ true) → fits schema fact ≡ true
        → one_covers dictionaries cells fact ≡ true
    found fact any_of fit =
        let key : Key = covering_key fact set in
        let small : set < 2 ^ length fact.dims =
        subst (λ (k : ℕ). set < 2 ^ k) (sym (fits-length schema fact fit)) below in
        let stands : covers key fact ≡ true = all_stand_for-ancestor_of fact.dims set in
        let mask : mask_of key ≡ set = mask_of_coords-ancestor_of fact.dims set small in
        let among : is_among (mask_of key) (set ∷ []) ≡ true =
        or_left (set == mask_of key) false (eq-eqb set (mask_of key) (sym mask)) in
        let any : list_any (covers key) facts ≡ true = any_of (covers key) stands in
        let cell : is_cell (set ∷ []) n facts key ≡ true =
        and_from (is_among (mask_of key) (set ∷ [])) (is_total n key || list_any (covers key) facts) among
        (or_right (is_total n key) (list_any (covers key) facts) any) in
        one_covers-cell_at dictionaries cells key fact stands (filled.keys key ∙ cell)

-- ---- cells of one set
-- those that have all facts are a cube
pub IsCubeOfAll-HaveAll : (schema : Layout) (dictionaries : Dictionaries) (facts : List Fact) (set : ℕ)
    (cells : CodedCells) → IsBase schema dictionaries facts → set < 2 ^ length schema.dimensions
    → HaveAll schema dictionaries facts (set ∷ []) cells
    → IsCoded schema (set ∷ []) (length facts) dictionaries cells
    × IsCubeOfAll facts (lattice_of schema (set ∷ []) (length facts) dictionaries cells)
IsCubeOfAll-HaveAll schema dictionaries facts set cells base below all = (
  coded,
  record {
    fit = base.fit;
    cells = record {
      keys = all.keys;
      tallies = all.tallies;
      widths = IsCoded-width schema (set ∷ []) (length facts) dictionaries cells coded;
    };
    facts_are = refl;
  },
) where
  coded : IsCoded schema (set ∷ []) (length facts) dictionaries cells
  coded = record {
    lattice = record {
      schema = base.is_schema.is;
      no_texts = base.is_schema.no_texts;
      sets = All-cons (λ (s : ℕ). s < 2 ^ length schema.dimensions) set [] below
          (All-nil (λ (s : ℕ). s < 2 ^ length schema.dimensions));
      ascending = sorted_from_strictly_increasing (set ∷ []) (λ k inside. absurd (omega (arith, inside)));
      dictionaries = base.width;
    };
    texts = base.texts;
    distinct = all.distinct;
    each = all.each;
    total = all.total;
    counts = all.counts;
  }

-- facts in another order
HaveAll-permutation : (schema : Layout) (dictionaries : Dictionaries) (facts moved : List Fact) (set : ℕ)
    (cells : CodedCells) → IsBase schema dictionaries facts → set < 2 ^ length schema.dimensions
    → IsPermutation facts moved → HaveAll schema dictionaries facts (set ∷ []) cells
    → HaveAll schema dictionaries moved (set ∷ []) cells
HaveAll-permutation schema dictionaries facts moved set cells base below change all = record {
  distinct = all.distinct;
  each = all.each;
  total = all.total;
  counts = λ s among. all.counts s among ∙ sym (length_permutation facts moved change);
  keys = cube.keys;
  tallies = cube.tallies;
} where
  lattice : Lattice
  lattice = lattice_of schema (set ∷ []) (length facts) dictionaries cells

  cube : IsCubeOf lattice moved
  cube = IsCubeOf-permutation lattice facts moved change
      (IsCubeOfAll-HaveAll schema dictionaries facts set cells base below all).1.cells

-- the cells of a set into which those of a finer one, or others of its own, are merged have the facts of both
pub HaveAll-FillsSet : (schema : Layout) (dictionaries : Dictionaries) (facts before : List Fact)
    (finer set : ℕ) (others start cells : CodedCells) → IsBase schema dictionaries facts
    → All (λ fact. fits schema fact ≡ true) before
    → finer < 2 ^ length schema.dimensions → 0 < finer → set < 2 ^ length schema.dimensions
    → bit_and finer set ≡ set → HaveAll schema dictionaries facts (finer ∷ []) others
    → HaveAll schema dictionaries before (set ∷ []) start → FillsSet set others start cells
    → HaveAll schema dictionaries (facts ++ before) (set ∷ []) cells
HaveAll-FillsSet schema dictionaries facts before finer set others start cells base fit below above small within filled
    was fills =
    HaveAll-permutation schema dictionaries all (facts ++ before) set cells
    (record { is_schema = base.is_schema; width = base.width; texts = base.texts; fit = fit_all }) small
    (IsPermutation-sym (facts ++ before) all moved) here
  where
    frame : IsFrame schema (set ∷ []) dictionaries
    frame = record {
      is_schema = base.is_schema;
      within = All-cons (λ (s : ℕ). s < 2 ^ length schema.dimensions) set [] small
          (All-nil (λ (s : ℕ). s < 2 ^ length schema.dimensions));
      width = base.width;
      texts = base.texts;
    }

    each : All (IsSetCell schema dictionaries facts finer) others
    each = IsSetCell-HaveAll schema dictionaries facts finer others base filled

    all : List Fact
    all = gathered dictionaries facts others before

    moved : IsPermutation (facts ++ before) all
    moved = gathered-IsPermutation_from_HasGroupsOf dictionaries finer facts others facts before base.texts
        (λ k d inside. (each k d inside).of_set) filled.distinct (λ k d inside. refl)
        (one_covers-HaveAll schema dictionaries facts finer others below base filled)

    fit_all : All (λ fact. fits schema fact ≡ true) all
    fit_all = All-permutation (λ fact. fits schema fact ≡ true) (facts ++ before) all moved
        (All-append (λ fact. fits schema fact ≡ true) facts before base.fit fit)

    gathered_here : ℕ → List Fact
    gathered_here = gathered_in dictionaries facts others set (λ _. before)

    done : IsFilled schema (set ∷ []) dictionaries gathered_here cells
    done = IsFilled-FillsSet schema (set ∷ []) dictionaries facts set others start cells (λ _. before) frame
        (or_left (set == set) false (eq-eqb set set refl))
        (λ k d inside. HasFinerGroup-IsSetCell schema dictionaries facts finer set (get_or others k d) base
        above within (each k d inside)) fills was

    in_set : (s : ℕ) → is_among s (set ∷ []) ≡ true → gathered_here s ≡ all
    in_set s among = elim (or_cases (set == s) false among) [ inl same ↦ rw same refl | inr never ↦ cc never ]

    here : HaveAll schema dictionaries all (set ∷ []) cells
    here = record {
      distinct = done.distinct;
      each = done.each;
      total = done.total;
      counts = λ s among. done.counts s among ∙ ap length (in_set s among);
      keys = λ key. done.keys key ∙ in_sets key (is_among (mask_of key) (set ∷ [])) refl;
      tallies = λ key. by_set key (is_among (mask_of key) (set ∷ [])) refl;
    } where
      in_sets : (key : Key) (b : Bool) → is_among (mask_of key) (set ∷ []) ≡ b
          → is_cell (set ∷ []) (length schema.dimensions) (gathered_here (mask_of key)) key
          ≡ is_cell (set ∷ []) (length schema.dimensions) all key
      in_sets key true among =
          ap (λ (fs : List Fact). is_cell (set ∷ []) (length schema.dimensions) fs key) (in_set (mask_of key) among)
      in_sets key false none = rw none refl

      by_set : (key : Key) (b : Bool) → is_among (mask_of key) (set ∷ []) ≡ b
          → IfSome (cell_at (decoded dictionaries cells) key) (IsTallyOf (group_of key all))
      by_set key true among =
          subst (λ (fs : List Fact). IfSome (cell_at (decoded dictionaries cells) key) (IsTallyOf (group_of key fs)))
          (in_set (mask_of key) among) (done.tallies key)
      by_set key false none = absent (cell_at (decoded dictionaries cells) key) (done.keys key ∙ rw none refl) where
        absent : (o : Option Tally) → is_some o ≡ false → IfSome o (IsTallyOf (group_of key all))
        absent None is_none = tt
        absent (Some t) is_none = cc is_none

-- the cells of a grouping set that are made from those of a finer one have all facts
pub HaveAll-AreMadeFrom : (schema : Layout) (dictionaries : Dictionaries) (facts : List Fact)
    (finer set : ℕ) (others cells : CodedCells) → IsBase schema dictionaries facts
    → finer < 2 ^ length schema.dimensions → IsFiner finer set → HaveAll schema dictionaries facts (finer ∷ []) others
    → AreMadeFrom others set (length schema.measures) cells → HaveAll schema dictionaries facts (set ∷ []) cells
HaveAll-AreMadeFrom schema dictionaries facts finer set others cells base below within filled made =
    rw (append-nil facts) at (HaveAll-FillsSet schema dictionaries facts [] finer set others made.start cells base
    (All-nil (λ fact. fits schema fact ≡ true)) below (omega (arith, within.0)) small within.1 filled start made.fills)
  where
    small : set < 2 ^ length schema.dimensions
    small = omega (arith, within.0, below)

    start : HaveAll schema dictionaries [] (set ∷ []) made.start
    start = IsFilled-AreNewCells schema (set ∷ []) dictionaries made.start
        (record {
          is_schema = base.is_schema;
          within = All-cons (λ (s : ℕ). s < 2 ^ length schema.dimensions) set [] small
              (All-nil (λ (s : ℕ). s < 2 ^ length schema.dimensions));
          width = base.width;
          texts = base.texts;
        })
        (sorted_from_strictly_increasing (set ∷ []) (λ k inside. absurd (omega (arith, inside))))
        (as_new (set == 0) refl made.new)
      where
        as_new : (b : Bool) → (set == 0) ≡ b → AreNewCells b (length schema.measures) made.start
            → AreNewCells (is_among 0 (set ∷ [])) (length schema.measures) made.start
        as_new true is new = rw is new
        as_new false is new = rw is new
