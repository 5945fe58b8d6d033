-- Laws of levels: each that is made has all facts, and so have the cells of all of them together.
use Rattle.std.proofs.Common.{◌≡◌, ℕ, ◌+◌, ◌*◌, ◌^◌, ◌<◌, ◌≤◌, ◌==◌, ◌⊎◌, List, [], ◌∷◌, ◌++◌, Bool, true, false, ◌&&◌}
use Rattle.std.proofs.Common.{◌||◌, refl, sym, ap, ◌∙◌, subst, arith, inl, inr, length, reverse, append_assoc, Option}
use Rattle.std.proofs.Common.{Some, None, if◌then◌else◌}
use Rattle.std.specs.Prelude.{All, IfSome, IsSome, is_some, bit_and}
use Rattle.std.specs.List.{list_any}
use Rattle.std.specs.List.Sorted.{IsStrictlySortedBy}
use Rattle.std.specs.Ordering.{nat_cmp}
use Rattle.std.proofs.lemmas.Bool.{cases_Bool, cases_lt, and_parts, or_cases, both_ways, eqb-true}
use Rattle.std.proofs.lemmas.Bool.{false_from_ne_true}
use Rattle.std.proofs.lemmas.List.{append-nil, map-append, reverse-append, reverse-reverse}
use Rattle.std.proofs.lemmas.List.Elements.{All-head, All-tail, All-nil, All-cons, All-append, All-contains, All-push}
use Rattle.std.proofs.lemmas.List.Elements.{All-weaker, Contains-push}
use Rattle.std.proofs.lemmas.List.Sorted.{All-permutation, IsPermutation-reverse}
use Rattle.std.proofs.lemmas.List.Sums.{sum_by-append, sum_by-cons}
use Rattle.std.proofs.lemmas.Nat.{and_comm, and_le_l, and_mask}
use Rattle.std.proofs.Math.Nat.{mod-eq_of_lt}
use Rattle.cube_core.specs.Cube.{is_cell, is_total}
use Rattle.cube_core.specs.Covers.{covers}
use Rattle.cube_core.specs.Group.{group_of}
use Rattle.cube_core.specs.GroupingSet.{mask_of, is_among}
use Rattle.cube_core.specs.Layout.{Layout}
use Rattle.cube_core.specs.declared.fact.Fact.{Fact}
use Rattle.cube_core.specs.declared.key.Key.{Key}
use Rattle.cube_cells.specs.Codes.{Dictionaries, key_at}
use Rattle.cube_cells.specs.Coded.{CodedCells, IsCoded, IsCodedCell, coded_at, decoded, lattice_of, total_codes}
use Rattle.cube_cells.specs.Cube.{IsCubeOf, cell_at, count_in}
use Rattle.cube_cells.specs.Fill.{AreFilled, IsCubeOfAll, IsFiner, MakesLevels, finest_set}
use Rattle.cube_cells.specs.Levels.{IsLeveled, IsOfOneSet, cells_of, mask_of_codes, sets_of}
use Rattle.cube_cells.specs.Tally.{Tally, IsTallyOf}
use Rattle.cube_cells.specs.Walk.{weight_of_cells}
use Rattle.cube_cells.specs.declared.cube.codes.Codes.{Codes}
use Rattle.cube_cells.specs.declared.cube.levels.Level.{Level}
use Rattle.cube_cells.proofs.Cells.CodedLaws.{IsCoded-width}
use Rattle.cube_cells.proofs.Filling.FilledLaws.{HaveAll, IsBase, cell_at-key_at, HaveAll-AreMadeFrom}
use Rattle.cube_cells.proofs.Codes.GrowthLaws.{is_among-below, IsStrictlySortedBy-head, IsStrictlySortedBy-tail}
use Rattle.cube_cells.proofs.Codes.GrowthLaws.{count_in-weight_of_cells, set_weight}
use Rattle.cube_cells.proofs.Cells.JoinLaws.{AreApart-append, AreApart-nil, cell_at-append, coded_at-append, either}
use Rattle.cube_cells.proofs.Cells.JoinLaws.{is_some-either}
use Rattle.cube_cells.proofs.Cells.KeptLaws.{All-coded_at}
use Rattle.cube_cells.proofs.Codes.KeyLaws.{IsCodedCell-coded_at}
use Rattle.cube_cells.proofs.Cells.SchemaLaws.{its_schema}
use Rattle.cube_cells.proofs.Cells.TableLaws.{mask_of_coords-mask_of_codes}

-- ---- cells of other sets
-- the set of a cell that is found is one of the sets
is_among-coded_at : (schema : Layout) (dictionaries : Dictionaries) (facts : List Fact) (sets : List ℕ)
    (cells : CodedCells) (codes : Codes) (t : Tally) → IsBase schema dictionaries facts
    → HaveAll schema dictionaries facts sets cells → coded_at cells codes ≡ Some t
    → is_among (mask_of (key_at dictionaries codes.codes)) sets ≡ true
is_among-coded_at schema dictionaries facts sets cells codes t base filled found =
    let key : Key = key_at dictionaries codes.codes in
    let at = cell_at-key_at schema sets dictionaries (λ _. facts) cells codes t base.texts filled found in
    (and_parts (is_among (mask_of key) sets)
    (is_total (length schema.dimensions) key || list_any (covers key) facts) at.1).0

-- the cells of other sets weigh nothing in a set
weight_of_cells-is_among : (schema : Layout) (dictionaries : Dictionaries) (facts : List Fact) (sets : List ℕ)
    (set : ℕ) (cells : CodedCells) → IsBase schema dictionaries facts → HaveAll schema dictionaries facts sets cells
    → is_among set sets ≡ false → weight_of_cells (set_weight dictionaries set) cells ≡ 0
weight_of_cells-is_among schema dictionaries facts sets set cells base filled none = sum_none cells each where
  P : Codes × Tally → Type 0
  P cell = set_weight dictionaries set cell.0 ≡ 0

  each : All P cells
  each = All-coded_at P cells filled.distinct (λ codes t found.
      let mask : ℕ = mask_of (key_at dictionaries codes.codes) in
      let other : (mask == set) ≡ false = false_from_ne_true (mask == set) (λ same.
      both_ways (is_among set sets) none (ap (λ (s : ℕ). is_among s sets) (sym (eqb-true mask set same))
      ∙ is_among-coded_at schema dictionaries facts sets cells codes t base filled found)) in
      rw other refl)

  sum_none : (cells : CodedCells) → All P cells → weight_of_cells (set_weight dictionaries set) cells ≡ 0
  sum_none [] all = refl
  sum_none (e ∷ cells) all =
      omega (
        arith,
        sum_by-cons (λ (cell : Codes × Tally). set_weight dictionaries set cell.0 * cell.1.facts) e cells,
        ap (λ (n : ℕ). n * e.1.facts) (All-head P e cells all),
        sum_none cells (All-tail P e cells all),
      )

-- ---- a set more
and-or : (x y c : Bool) → (((x || false) && c) || (y && c)) ≡ ((x || y) && c)
and-or true y true = refl
and-or true true false = refl
and-or true false false = refl
and-or false y c = refl

-- the cells of a set besides those of others
HaveAll-append : (schema : Layout) (dictionaries : Dictionaries) (facts : List Fact) (set : ℕ) (sets : List ℕ)
    (a b : CodedCells) → IsBase schema dictionaries facts → is_among set sets ≡ false
    → HaveAll schema dictionaries facts (set ∷ []) a → HaveAll schema dictionaries facts sets b
    → HaveAll schema dictionaries facts (set ∷ sets) (a ++ b)
HaveAll-append schema dictionaries facts set sets a b base other of_a of_b = record {
  distinct = AreApart-append a b of_a.distinct of_b.distinct none_in_b;
  each = All-append (IsCodedCell dictionaries (length schema.measures)) a b of_a.each of_b.each;
  total = λ among. rw (coded_at-append a b total_codes) (total among);
  counts = λ s among. counts s among;
  keys = λ key.
      let n : ℕ = length schema.dimensions in
      let c : Bool = is_total n key || list_any (covers key) facts in
      ap is_some (cell_at-append dictionaries a b key)
      ∙ is_some-either (cell_at (decoded dictionaries a) key) (cell_at (decoded dictionaries b) key)
      ∙ ap (λ (x : Bool). x || is_some (cell_at (decoded dictionaries b) key)) (of_a.keys key)
      ∙ ap (λ (y : Bool). is_cell (set ∷ []) n facts key || y) (of_b.keys key)
      ∙ and-or (set == mask_of key) (is_among (mask_of key) sets) c;
  tallies = λ key. rw (cell_at-append dictionaries a b key)
      (either_is (IsTallyOf (group_of key facts)) (cell_at (decoded dictionaries a) key)
      (cell_at (decoded dictionaries b) key) (of_a.tallies key) (of_b.tallies key));
} where
  either_is : (P : Tally → Type 0) (x y : Option Tally) → IfSome x P → IfSome y P → IfSome (either x y) P
  either_is P None y of_x of_y = of_y
  either_is P (Some t) y of_x of_y = of_x

  mine : (codes : Codes) (t : Tally) → coded_at a codes ≡ Some t → set ≡ mask_of (key_at dictionaries codes.codes)
  mine codes t found = elim (or_cases (set == mask_of (key_at dictionaries codes.codes)) false
      (is_among-coded_at schema dictionaries facts (set ∷ []) a codes t base of_a found)) [
        | inl same ↦ eqb-true set (mask_of (key_at dictionaries codes.codes)) same
        | inr never ↦ cc never
      ]

  none_in_b : All (λ cell. coded_at b cell.0 ≡ None) a
  none_in_b = All-coded_at (λ cell. coded_at b cell.0 ≡ None) a of_a.distinct
      (λ codes t found. unfound codes (mine codes t found) (coded_at b codes) refl)
    where
      unfound : (codes : Codes) → set ≡ mask_of (key_at dictionaries codes.codes) → (o : Option Tally)
          → coded_at b codes ≡ o → coded_at b codes ≡ None
      unfound codes is None at = at
      unfound codes is (Some t) at = absurd (both_ways (is_among set sets) other
          (ap (λ (s : ℕ). is_among s sets) is
          ∙ is_among-coded_at schema dictionaries facts sets b codes t base of_b at))

  total : is_among 0 (set ∷ sets) ≡ true → IsSome (either (coded_at a total_codes) (coded_at b total_codes))
  total among = elim (or_cases (set == 0) (is_among 0 sets) among) [
    | inl first ↦ some_first (coded_at a total_codes) (of_a.total (ap (λ (x : Bool). x || false) first))
    | inr later ↦ some_second (coded_at a total_codes) (of_b.total later)
  ] where
    some_first : (o : Option Tally) → IsSome o → IsSome (either o (coded_at b total_codes))
    some_first None some = cc some
    some_first (Some t) some = refl

    some_second : (o : Option Tally) → IsSome (coded_at b total_codes) → IsSome (either o (coded_at b total_codes))
    some_second None some = some
    some_second (Some t) some = refl

  counts : (s : ℕ) → is_among s (set ∷ sets) ≡ true → count_in s (decoded dictionaries (a ++ b)) ≡ length facts
  counts s among = elim (cases_Bool (set == s)) [
    | inl same ↦
        let not_b : is_among s sets ≡ false = ap (λ (x : ℕ). is_among x sets) (sym (eqb-true set s same)) ∙ other in
        omega (
          arith,
          count_in-weight_of_cells dictionaries s (a ++ b),
          both s,
          count_in-weight_of_cells dictionaries s a,
          of_a.counts s (ap (λ (x : Bool). x || false) same),
          weight_of_cells-is_among schema dictionaries facts sets s b base of_b not_b,
        )
    | inr apart ↦
        let in_b : is_among s sets ≡ true = rw apart at among in
        let not_a : is_among s (set ∷ []) ≡ false = ap (λ (x : Bool). x || false) apart in
        omega (
          arith,
          count_in-weight_of_cells dictionaries s (a ++ b),
          both s,
          count_in-weight_of_cells dictionaries s b,
          of_b.counts s in_b,
          weight_of_cells-is_among schema dictionaries facts (set ∷ []) s a base of_a not_a,
        )
  ] where
    both : (s : ℕ) → weight_of_cells (set_weight dictionaries s) (a ++ b)
        ≡ weight_of_cells (set_weight dictionaries s) a + weight_of_cells (set_weight dictionaries s) b
    both s = sum_by-append (λ (cell : Codes × Tally). set_weight dictionaries s cell.0 * cell.1.facts) a b

-- ---- one level after another
-- a level has all facts in its set
pub record IsLevel {N : Type 0} (schema : Layout) (dictionaries : Dictionaries) (facts : List Fact)
    (level : Level N) : Type 0 where
  pub below : level.set < 2 ^ length schema.dimensions
  pub all : HaveAll schema dictionaries facts (level.set ∷ []) level.cells.entries

IsLevel-MakesLevels : {N : Type 0} (schema : Layout) (dictionaries : Dictionaries) (facts : List Fact)
    (finest : Level N)
    (sets : List ℕ) (old new : List (Level N)) → IsBase schema dictionaries facts
    → IsLevel schema dictionaries facts finest
    → MakesLevels (length schema.measures) finest sets old new → All (IsLevel schema dictionaries facts) old
    → All (IsLevel schema dictionaries facts) new
IsLevel-MakesLevels {N} schema dictionaries facts finest [] old new base first makes all =
    subst (All (IsLevel schema dictionaries facts)) (sym makes) all
IsLevel-MakesLevels {N} schema dictionaries facts finest (set ∷ sets) old new base first makes all =
    let P : Level N → Type 0 = IsLevel schema dictionaries facts in
    let finer : P makes.0 = All-contains P (finest ∷ old) makes.0 (All-cons P finest old first all) makes.2 in
    let here : HaveAll schema dictionaries facts (set ∷ []) makes.1.cells.entries =
    HaveAll-AreMadeFrom schema dictionaries facts makes.0.set set makes.0.cells.entries makes.1.cells.entries base
    finer.below makes.3 finer.all makes.5 in
    let level : P makes.1 = record {
      below = omega (arith, makes.4, makes.3.0, finer.below);
      all = subst (λ (s : ℕ). HaveAll schema dictionaries facts (s ∷ []) makes.1.cells.entries) (sym makes.4) here;
    } in
    IsLevel-MakesLevels schema dictionaries facts finest sets (old ++ makes.1 ∷ []) new base first makes.6
    (All-push P old makes.1 all level)

-- the sets of the levels that are made
sets_of-MakesLevels : {N : Type 0} (measures : ℕ) (finest : Level N) (sets : List ℕ) (old new : List (Level N))
    → MakesLevels measures finest sets old new → sets_of new ≡ sets_of old ++ sets
sets_of-MakesLevels {N} measures finest [] old new makes = ap sets_of makes ∙ sym (append-nil (sets_of old))
sets_of-MakesLevels {N} measures finest (set ∷ sets) old new makes =
    sets_of-MakesLevels measures finest sets (old ++ makes.1 ∷ []) new makes.6
    ∙ ap (λ (xs : List ℕ). xs ++ sets) (map-append (λ (level : Level N). level.set) old (makes.1 ∷ []))
    ∙ append_assoc (sets_of old) (makes.1.set ∷ []) sets
    ∙ ap (λ (s : ℕ). sets_of old ++ s ∷ sets) makes.4

-- the sets of levels the other way round
sets_of-reverse : {N : Type 0} (levels : List (Level N)) → sets_of (reverse levels) ≡ reverse (sets_of levels)
sets_of-reverse [] = refl
sets_of-reverse {N} (level ∷ levels) =
    ap sets_of (reverse-append (level ∷ []) levels)
    ∙ map-append (λ (l : Level N). l.set) (reverse levels) (level ∷ [])
    ∙ ap (λ (sets : List ℕ). sets ++ level.set ∷ []) (sets_of-reverse levels)
    ∙ sym (reverse-append (level.set ∷ []) (sets_of levels))

-- the sets of all levels
sets_of-AreFilled : {N : Type 0} (finest : Level N) (sets : List ℕ) (measures : ℕ) (levels : List (Level N))
    → AreFilled finest sets measures levels → sets_of levels ≡ sets
sets_of-AreFilled {N} finest sets measures levels filled =
    ap sets_of filled.levels_are
    ∙ map-append (λ (l : Level N). l.set) filled.made (if filled.keeps_finest then finest ∷ [] else [])
    ∙ ap (λ (xs : List ℕ). xs ++ sets_of (if filled.keeps_finest then finest ∷ [] else [])) made
    ∙ ap (λ (xs : List ℕ). filled.coarser ++ xs) (kept filled.keeps_finest)
    ∙ sym filled.coarser_are
  where
    kept : (b : Bool) → sets_of (if b then finest ∷ [] else []) ≡ (if b then finest.set ∷ [] else [])
    kept true = refl
    kept false = refl

    made : sets_of filled.made ≡ filled.coarser
    made =
        sym (reverse-reverse (sets_of filled.made))
        ∙ ap (λ (xs : List ℕ). reverse xs) (sym (sets_of-reverse filled.made)
        ∙ sets_of-MakesLevels measures finest (reverse filled.coarser) [] (reverse filled.made) filled.makes)
        ∙ reverse-reverse filled.coarser

-- ---- all levels together
HaveAll-nil : (schema : Layout) (dictionaries : Dictionaries) (facts : List Fact)
    → HaveAll schema dictionaries facts [] []
HaveAll-nil schema dictionaries facts = record {
  distinct = AreApart-nil;
  each = All-nil (IsCodedCell dictionaries (length schema.measures));
  total = λ among. cc among;
  counts = λ set among. cc among;
  keys = λ key. refl;
  tallies = λ key. tt;
}

HaveAll-cells_of : {N : Type 0} (schema : Layout) (dictionaries : Dictionaries) (facts : List Fact)
    (levels : List (Level N))
    → IsBase schema dictionaries facts → All (IsLevel schema dictionaries facts) levels
    → IsStrictlySortedBy nat_cmp (sets_of levels) → HaveAll schema dictionaries facts (sets_of levels) (cells_of levels)
HaveAll-cells_of {N} schema dictionaries facts [] base all ascending = HaveAll-nil schema dictionaries facts
HaveAll-cells_of {N} schema dictionaries facts (level ∷ levels) base all ascending =
    let P : Level N → Type 0 = IsLevel schema dictionaries facts in
    HaveAll-append schema dictionaries facts level.set (sets_of levels) level.cells.entries (cells_of levels) base
    (is_among-below level.set (sets_of levels) (IsStrictlySortedBy-head level.set (sets_of levels) ascending))
    (All-head P level levels all).all
    (HaveAll-cells_of schema dictionaries facts levels base (All-tail P level levels all)
    (IsStrictlySortedBy-tail level.set (sets_of levels) ascending))

-- the codes of a level are of its set
IsOfOneSet-IsLevel : {N : Type 0} (schema : Layout) (dictionaries : Dictionaries) (facts : List Fact)
    (level : Level N)
    → IsBase schema dictionaries facts → IsLevel schema dictionaries facts level → IsOfOneSet level
IsOfOneSet-IsLevel schema dictionaries facts level base is =
    All-coded_at (λ cell. mask_of_codes cell.0.codes ≡ level.set) level.cells.entries is.all.distinct (λ codes t found.
    let mask : ℕ = mask_of (key_at dictionaries codes.codes) in
    let among : is_among mask (level.set ∷ []) ≡ true =
    is_among-coded_at schema dictionaries facts (level.set ∷ []) level.cells.entries codes t base is.all found in
    let same : level.set ≡ mask = elim (or_cases (level.set == mask) false among) [
      | inl here ↦ eqb-true level.set mask here
      | inr never ↦ cc never
    ] in
    let valid =
    (IsCodedCell-coded_at dictionaries (length schema.measures) level.cells.entries codes t is.all.each found).codes in
    sym (same ∙ mask_of_coords-mask_of_codes dictionaries codes.codes base.texts valid))

-- the cells of all sets are the cube of the facts
IsCubeOf-AreFilled : {N : Type 0} (schema : Layout) (sets : List ℕ) (number : ℕ) (dictionaries : Dictionaries)
    (finest : Level N)
    (levels : List (Level N)) (facts : List Fact) → All (λ set. set < 2 ^ length schema.dimensions) sets
    → IsStrictlySortedBy nat_cmp sets → IsBase schema dictionaries facts → IsLevel schema dictionaries facts finest
    → number ≡ length facts → AreFilled finest sets (length schema.measures) levels
    → IsLeveled schema sets number dictionaries levels
    × IsCubeOf (lattice_of schema sets number dictionaries (cells_of levels)) facts
IsCubeOf-AreFilled {N} schema sets number dictionaries finest levels facts within ascending base first count filled = (
  record { coded = coded; tables = record { sets_are = sets_are; each = each } },
  record {
    keys = all.keys;
    tallies = all.tallies;
    widths = IsCoded-width schema sets number dictionaries (cells_of levels) coded;
  },
) where
  P : Level N → Type 0
  P = IsLevel schema dictionaries facts

  kept : (b : Bool) → All P (if b then finest ∷ [] else [])
  kept true = All-cons P finest [] first (All-nil P)
  kept false = All-nil P

  made : All P filled.made
  made = All-permutation P (reverse filled.made) filled.made
      (rw (reverse-reverse filled.made) at (IsPermutation-reverse (reverse filled.made)))
      (IsLevel-MakesLevels schema dictionaries facts finest (reverse filled.coarser) [] (reverse filled.made) base first
      filled.makes (All-nil P))

  are : All P levels
  are = rw filled.levels_are
      (All-append P filled.made (if filled.keeps_finest then finest ∷ [] else []) made (kept filled.keeps_finest))

  sets_are : sets_of levels ≡ sets
  sets_are = sets_of-AreFilled finest sets (length schema.measures) levels filled

  each : All IsOfOneSet levels
  each = All-weaker P IsOfOneSet (λ level is. IsOfOneSet-IsLevel schema dictionaries facts level base is) levels are

  all : HaveAll schema dictionaries facts sets (cells_of levels)
  all =
      rw sets_are at (HaveAll-cells_of schema dictionaries facts levels base are (rw sets_are ascending))

  coded : IsCoded schema sets number dictionaries (cells_of levels)
  coded = record {
    lattice = record {
      schema = base.is_schema.is;
      no_texts = base.is_schema.no_texts;
      sets = within;
      ascending = ascending;
      dictionaries = base.width;
    };
    texts = base.texts;
    distinct = all.distinct;
    each = all.each;
    total = all.total;
    counts = λ set among. all.counts set among ∙ sym count;
  }

-- a cube over one set is its level
IsLevel-IsCubeOfAll : {N : Type 0} (schema : Layout) (number : ℕ) (dictionaries : Dictionaries) (level : Level N)
    (facts : List Fact)
    → IsCoded schema (level.set ∷ []) number dictionaries level.cells.entries
    → IsCubeOfAll facts (lattice_of schema (level.set ∷ []) number dictionaries level.cells.entries)
    → IsLevel schema dictionaries facts level
IsLevel-IsCubeOfAll schema number dictionaries level facts is all = record {
  below = All-head (λ (s : ℕ). s < 2 ^ length schema.dimensions) level.set [] is.lattice.sets;
  all = record {
    distinct = is.distinct;
    each = is.each;
    total = is.total;
    counts = λ set among. is.counts set among ∙ all.facts_are;
    keys = all.cells.keys;
    tallies = all.cells.tallies;
  };
}

-- a cube is filled from one over the finest set
pub IsCubeOfAll-AreFilled : {N : Type 0} (schema : Layout) (sets : List ℕ) (own number : ℕ)
    (texts dictionaries : Dictionaries)
    (old : CodedCells) (finest : Level N) (levels : List (Level N)) (facts : List Fact)
    → IsCoded schema sets own texts old
    → finest.set ≡ finest_set (length schema.dimensions)
    → IsCoded schema (finest.set ∷ []) number dictionaries finest.cells.entries
    → IsCubeOfAll facts (lattice_of schema (finest.set ∷ []) number dictionaries finest.cells.entries)
    → AreFilled finest sets (length schema.measures) levels → IsLeveled schema sets number dictionaries levels
    × IsCubeOfAll facts (lattice_of schema sets number dictionaries (cells_of levels))
IsCubeOfAll-AreFilled schema sets own number texts dictionaries old finest levels facts mine is_finest is all filled =
    let base : IsBase schema dictionaries facts =
    record { is_schema = its_schema is.lattice; width = is.lattice.dictionaries; texts = is.texts; fit = all.fit } in
    let first : IsLevel schema dictionaries facts finest =
    IsLevel-IsCubeOfAll schema number dictionaries finest facts is all in
    let whole = IsCubeOf-AreFilled schema sets number dictionaries finest levels facts mine.lattice.sets
    mine.lattice.ascending base first all.facts_are filled in
    (whole.0, record { fit = all.fit; cells = whole.1; facts_are = all.facts_are })

-- the table of one set alone, with the cells of all facts, is a cube
pub IsLeveled-alone : {N : Type 0} (schema : Layout) (number : ℕ) (dictionaries : Dictionaries) (level : Level N)
    (facts : List Fact)
    → IsCoded schema (level.set ∷ []) number dictionaries level.cells.entries
    → IsCubeOfAll facts (lattice_of schema (level.set ∷ []) number dictionaries level.cells.entries)
    → IsLeveled schema (level.set ∷ []) number dictionaries (level ∷ [])
IsLeveled-alone schema number dictionaries level facts is all =
    let base : IsBase schema dictionaries facts =
    record { is_schema = its_schema is.lattice; width = is.lattice.dictionaries; texts = is.texts; fit = all.fit } in
    let own : IsLevel schema dictionaries facts level =
    IsLevel-IsCubeOfAll schema number dictionaries level facts is all in
    record {
      coded = subst (IsCoded schema (level.set ∷ []) number dictionaries) (sym (append-nil level.cells.entries)) is;
      tables = record {
        sets_are = refl;
        each = All-cons IsOfOneSet level [] (IsOfOneSet-IsLevel schema dictionaries facts level base own)
            (All-nil IsOfOneSet);
      };
    }

-- ---- sets that are coarser than the finest
-- each set of so many dimensions has only dimensions of the finest one
pub bit_and-finest_set : (n : ℕ) (sets : List ℕ) → All (λ set. set < 2 ^ n) sets
    → All (λ set. bit_and (finest_set n) set ≡ set) sets
bit_and-finest_set n sets below = All-weaker (λ set. set < 2 ^ n) (λ set. bit_and (finest_set n) set ≡ set)
    (λ set small. and_comm (finest_set n) set ∙ and_mask set n ∙ mod-eq_of_lt small) sets below

IsStrictlySortedBy-last : (sets : List ℕ) (last : ℕ) → IsStrictlySortedBy nat_cmp (sets ++ last ∷ [])
    → All (λ set. set < last) sets
IsStrictlySortedBy-last [] last ascending = All-nil (λ set. set < last)
IsStrictlySortedBy-last (set ∷ sets) last ascending =
    All-cons (λ s. s < last) set sets
    (All-contains (λ s. set < s) (sets ++ last ∷ []) last (IsStrictlySortedBy-head set (sets ++ last ∷ []) ascending)
    (Contains-push sets last))
    (IsStrictlySortedBy-last sets last (IsStrictlySortedBy-tail set (sets ++ last ∷ []) ascending))

All-IsFiner : (finest : ℕ) (sets : List ℕ) → All (λ set. set < finest) sets → All (λ set. bit_and finest set ≡ set) sets
    → All (IsFiner finest) sets
All-IsFiner finest sets below within = λ k d inside. (below k d inside, within k d inside)

All-append_left : (P : ℕ → Type 0) (xs ys : List ℕ) → All P (xs ++ ys) → All P xs
All-append_left P [] ys all = All-nil P
All-append_left P (x ∷ xs) ys all =
    All-cons P x xs (All-head P x (xs ++ ys) all) (All-append_left P xs ys (All-tail P x (xs ++ ys) all))

-- those before it
pub IsFiner-before : (finest : ℕ) (sets coarser : List ℕ) → sets ≡ coarser ++ finest ∷ []
    → All (λ set. bit_and finest set ≡ set) sets → IsStrictlySortedBy nat_cmp sets → All (IsFiner finest) coarser
IsFiner-before finest sets coarser is within ascending =
    let P : ℕ → Type 0 = λ set. bit_and finest set ≡ set in
    All-IsFiner finest coarser (IsStrictlySortedBy-last coarser finest (rw is at ascending))
    (All-append_left P coarser (finest ∷ []) (rw is at within))

-- all of them where another one is the last
pub IsFiner-all : (finest last : ℕ) (sets coarser : List ℕ) → sets ≡ coarser ++ last ∷ [] → (last ≡ finest → ⊥)
    → All (λ set. bit_and finest set ≡ set) sets → IsStrictlySortedBy nat_cmp sets → All (IsFiner finest) sets
IsFiner-all finest last sets coarser is other within ascending =
    let at_last : bit_and finest last ≡ last = All-contains (λ set. bit_and finest set ≡ set)
    (coarser ++ last ∷ []) last (rw is at within) (Contains-push coarser last) in
    let above : last < finest = not_past (cases_lt last finest) at_last (and_le_l finest last) in
    All-IsFiner finest sets (rw is (All-push (λ set. set < finest) coarser last
    (All-weaker (λ set. set < last) (λ set. set < finest) (λ set less. omega (arith, less, above)) coarser
    (IsStrictlySortedBy-last coarser last (rw is at ascending))) above)) within
  where
    not_past : (last < finest) ⊎ (finest ≤ last) → bit_and finest last ≡ last → bit_and finest last ≤ finest
        → last < finest
    not_past (inl less) same least = less
    not_past (inr past) same least = absurd (other (omega (arith, past, same, least)))
