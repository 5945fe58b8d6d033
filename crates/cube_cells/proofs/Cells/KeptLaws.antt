-- What is true of cells kept by codes stays true: after the walk added a fact, took one, or was refused.
use Rattle.std.proofs.Common.{◌≡◌, ℕ, zero, suc, ◌+◌, ◌*◌, ◌^◌, ◌<◌, ◌≤◌, ◌==◌, List, [], ◌∷◌, Bool, true, false, ◌||◌}
use Rattle.std.proofs.Common.{refl, sym, ap, ◌∙◌, subst, arith, inl, inr, length, get_or, Option, Some, None}
use Rattle.std.proofs.Common.{if◌then◌else◌, nat_lt}
use Rattle.std.specs.Prelude.{ℤ, All, IsSome, IfSome, IsTrue}
use Rattle.std.specs.List.{list_all}
use Rattle.std.specs.List.Sorted.{IsStrictlySortedBy}
use Rattle.std.specs.Ordering.{nat_cmp}
use Rattle.std.proofs.lemmas.Bool.{cases_Bool, or_right, eq-eqb, lt-ltb}
use Rattle.std.proofs.lemmas.List.{length-replicate}
use Rattle.std.proofs.lemmas.List.Elements.{Contains-get_or}
use Rattle.std.proofs.lemmas.Map.Views.{lookup-from_Contains}
use Rattle.std.proofs.Math.Nat.{pow-succ'}
use Rattle.cube_core.specs.GroupingSet.{is_among}
use Rattle.cube_core.specs.Layout.{Layout}
use Rattle.cube_core.specs.declared.fact.Fact.{Fact}
use Rattle.cube_values.specs.Bag.{Bag}
use Rattle.cube_cells.specs.Codes.{Dictionaries, IsDictionary, kept_codes, all_code}
use Rattle.cube_cells.specs.Coded.{CodedCells, IsCodedCell, IsCoded, coded_at, decoded, lattice_of, is_total_code}
use Rattle.cube_cells.specs.Coded.{total_codes}
use Rattle.cube_cells.specs.Cube.{IsLattice, AddsAt, TakesAt, SameCell, count_in, tally_or_empty}
use Rattle.cube_cells.specs.Tally.{Tally, PlusFact, SameTally}
use Rattle.cube_cells.specs.Walk.{key_in, codes_in, is_in, HasRoom, AddsIn, TakesIn, SameCoded, AreApart}
use Rattle.cube_cells.specs.declared.cube.codes.Codes.{Codes}
use Rattle.cube_cells.proofs.Cells.CodedLaws.{IsCodedFact, AreValidIn}
use Rattle.cube_cells.proofs.Codes.GrowthLaws.{AreGrown, IsCodedCell-AreGrown, AreGrown-length, set_weight}
use Rattle.cube_cells.proofs.Codes.GrowthLaws.{count_in-weight_of_cells, sum_by-codes_in_one, set_weight-key_in}
use Rattle.cube_cells.proofs.Codes.GrowthLaws.{kept_codes-injective}
use Rattle.cube_cells.proofs.Codes.KeyLaws.{set_of-is_in, IsCodedCell-coded_at, all_code-length, HasCodes-covering_key}
use Rattle.cube_cells.proofs.Cells.WalkLaws.{same_codes-IsEquivalence, weight-remove}

-- ---- each cell
-- what is true of each codes that are found is true of each cell, where codes differ
pub All-coded_at : (P : Codes × Tally → Type 0) (cells : CodedCells) → AreApart cells
    → ((codes : Codes) (t : Tally) → coded_at cells codes ≡ Some t → P (codes, t)) → All P cells
All-coded_at P cells apart found = λ k d inside.
    let cell = get_or cells k d in
    found cell.0 cell.1
    (lookup-from_Contains same_codes-IsEquivalence cell.0 cell.1 cells apart (Contains-get_or cells k d inside))

-- a cell in a list where it is as it was
pub IsCodedCell-coded_at_same : (dictionaries : Dictionaries) (measures : ℕ) (old new : CodedCells) (codes : Codes)
    (t : Tally) → All (IsCodedCell dictionaries measures) old → coded_at new codes ≡ coded_at old codes
    → coded_at new codes ≡ Some t → IsCodedCell dictionaries measures (codes, t)
IsCodedCell-coded_at_same dictionaries measures old new codes t each same is =
    IsCodedCell-coded_at dictionaries measures old codes t each (sym same ∙ is)

length-key_in : (sets : List ℕ) (dictionaries : Dictionaries) (fact : Fact) (codes : Codes) (set : ℕ)
    → IsCodedFact sets dictionaries fact codes → length (key_in codes set).codes ≡ 8
length-key_in sets dictionaries fact codes set of =
    (HasCodes-covering_key dictionaries fact codes set of.all of.has).eight

-- after a fact was added
pub IsCodedCell-AddsIn : (sets : List ℕ) (dictionaries : Dictionaries) (measures : ℕ) (fact : Fact) (codes : Codes)
    (old new : CodedCells) → IsCodedFact sets dictionaries fact codes → AreValidIn sets dictionaries codes
    → length fact.measures ≡ measures → All (IsCodedCell dictionaries measures) old → AreApart new
    → AddsIn (codes_in sets codes) fact.measures old new → All (IsCodedCell dictionaries measures) new
IsCodedCell-AddsIn sets dictionaries measures fact codes old new of valid width each apart adds =
    All-coded_at (IsCodedCell dictionaries measures)
    new apart (λ key t is. elim (cases_Bool (is_in (codes_in sets codes) key)) [
      | inl inside ↦ reached key t is (set_of-is_in sets codes key inside) (adds.added key inside)
      | inr outside ↦ IsCodedCell-coded_at_same dictionaries measures old new key t each (adds.others key outside) is
    ]) where
      before_width : (key : Codes) → (o : Option Tally) → coded_at old key ≡ o
          → length (tally_or_empty (length fact.measures) (coded_at old key)).bags ≡ measures
      before_width key None is = rw is (length-replicate {A = Bag} (length fact.measures) [] ∙ width)
      before_width key (Some s) is = rw is (IsCodedCell-coded_at dictionaries measures old key s each is).width

      reached : (key : Codes) (t : Tally) → coded_at new key ≡ Some t
          → (set : ℕ) × (is_among set sets ≡ true) × (key ≡ key_in codes set)
          → AddsAt fact.measures (coded_at old key) (coded_at new key) → IsCodedCell dictionaries measures (key, t)
      reached key t is found at =
          let same : at.tally ≡ t = cc (sym at.is_cell ∙ is) in
          let plus =
          subst (λ (x : Tally). PlusFact fact.measures (tally_or_empty (length fact.measures) (coded_at old key)) x)
          same at.plus in
          record {
            codes = rw found.2 (valid found.0 found.1);
            eight = rw found.2 (length-key_in sets dictionaries fact codes found.0 of);
            width = plus.bags.same_length ∙ before_width key (coded_at old key) refl;
            some = or_right (is_total_code key) (nat_lt 0 t.facts) (lt-ltb 0 t.facts (omega (arith, plus.facts)));
          }

-- after a fact was taken
pub IsCodedCell-TakesIn : (keys : List Codes) (dictionaries : Dictionaries) (measures : ℕ) (values : List (Option ℤ))
    (old new : CodedCells) → All (IsCodedCell dictionaries measures) old → AreApart new → TakesIn keys values old new
    → All (IsCodedCell dictionaries measures) new
IsCodedCell-TakesIn keys dictionaries measures values old new each apart takes =
    All-coded_at (IsCodedCell dictionaries measures) new apart (λ key t is. elim (cases_Bool (is_in keys key)) [
      | inl inside ↦ reached key t is (takes.taken key inside)
      | inr outside ↦ IsCodedCell-coded_at_same dictionaries measures old new key t each (takes.others key outside) is
    ]) where
      stays : (b : Bool) (left t : Tally) → (if b then Some left else None) ≡ Some t → (b ≡ true) × (left ≡ t)
      stays true left t is = (refl, cc is)
      stays false left t is = cc is

      reached : (key : Codes) (t : Tally) → coded_at new key ≡ Some t
          → TakesAt (is_total_code key) values (coded_at old key) (coded_at new key)
          → IsCodedCell dictionaries measures (key, t)
      reached key t is at =
          let was = IsCodedCell-coded_at dictionaries measures old key at.tally each at.was_cell in
          let left = stays (is_total_code key || nat_lt 0 at.left.facts) at.left t (sym at.is_left ∙ is) in
          record {
            codes = was.codes;
            eight = was.eight;
            width = ap (λ (x : Tally). length x.bags) (sym left.1) ∙ sym at.minus.bags.same_length ∙ was.width;
            some = ap (λ (x : Tally). is_total_code key || nat_lt 0 x.facts) (sym left.1) ∙ left.0;
          }

-- after a refusal
pub IsCodedCell-SameCoded : (keys : List Codes) (dictionaries : Dictionaries) (measures : ℕ) (old new : CodedCells)
    → All (IsCodedCell dictionaries measures) old → AreApart new → SameCoded keys old new
    → All (IsCodedCell dictionaries measures) new
IsCodedCell-SameCoded keys dictionaries measures old new each apart same =
    All-coded_at (IsCodedCell dictionaries measures) new apart
    (λ key t is. by_old key t is (coded_at old key) refl (same.cells key))
  where
    by_old : (key : Codes) (t : Tally) → coded_at new key ≡ Some t → (o : Option Tally) → coded_at old key ≡ o
        → SameCell (coded_at old key) (coded_at new key) → IsCodedCell dictionaries measures (key, t)
    by_old key t is None none alike = absurd (rw (none, is) at alike)
    by_old key t is (Some s) found alike =
        let was = IsCodedCell-coded_at dictionaries measures old key s each found in
        let same_counts : SameTally s t = rw (found, is) at alike in
        record {
          codes = was.codes;
          eight = was.eight;
          width = sym same_counts.bags.same_length ∙ was.width;
          some = ap (λ (n : ℕ). is_total_code key || nat_lt 0 n) (sym same_counts.facts) ∙ was.some;
        }

-- ---- the grand total
pub total_codes-AddsIn : (keys : List Codes) (values : List (Option ℤ)) (old new : CodedCells)
    → AddsIn keys values old new → IsSome (coded_at old total_codes) → IsSome (coded_at new total_codes)
total_codes-AddsIn keys values old new adds some = elim (cases_Bool (is_in keys total_codes)) [
  | inl inside ↦ let at = adds.added total_codes inside in rw at.is_cell refl
  | inr outside ↦ rw (adds.others total_codes outside) some
]

pub total_codes-TakesIn : (keys : List Codes) (values : List (Option ℤ)) (old new : CodedCells)
    → TakesIn keys values old new → IsSome (coded_at old total_codes) → IsSome (coded_at new total_codes)
total_codes-TakesIn keys values old new takes some = elim (cases_Bool (is_in keys total_codes)) [
  | inl inside ↦ let at = takes.taken total_codes inside in rw at.is_left refl
  | inr outside ↦ rw (takes.others total_codes outside) some
]

pub total_codes-SameCoded : (keys : List Codes) (old new : CodedCells) → SameCoded keys old new
    → IsSome (coded_at old total_codes) → IsSome (coded_at new total_codes)
total_codes-SameCoded keys old new same some =
    by_cells (coded_at old total_codes) (coded_at new total_codes) (same.cells total_codes) some
  where
    by_cells : (a b : Option Tally) → SameCell a b → IsSome a → IsSome b
    by_cells None None alike is = is
    by_cells None (Some b) alike is = refl
    by_cells (Some a) None alike is = absurd alike
    by_cells (Some a) (Some b) alike is = refl

-- ---- counts
-- each set counts one fact more
pub count_in-AddsIn : (sets : List ℕ) (old new : Dictionaries) (measures facts : ℕ) (fact : Fact) (codes : Codes)
    (cells more : CodedCells) (set : ℕ) → IsCodedFact sets new fact codes → AreValidIn sets new codes
    → IsStrictlySortedBy nat_cmp sets → decoded new cells ≡ decoded old cells
    → AddsIn (codes_in sets codes) fact.measures cells more → is_among set sets ≡ true
    → count_in set (decoded old cells) ≡ facts → count_in set (decoded new more) ≡ facts + 1
count_in-AddsIn sets old new measures facts fact codes cells more set of valid ascending same adds among count =
    let one = sum_by-codes_in_one (set_weight new set) codes set sets
    (λ other inside. set_weight-key_in new fact codes set other of.all of.has (valid other inside)
    (of.below other inside)) ascending among in
    omega (
      arith,
      count_in-weight_of_cells new set more,
      adds.counts_more (set_weight new set),
      one,
      count_in-weight_of_cells new set cells,
      ap (count_in set) same,
      count,
    )

-- each set counts one fact less
pub count_in-TakesIn : (sets : List ℕ) (dictionaries : Dictionaries) (facts less : ℕ) (fact : Fact) (codes : Codes)
    (cells left : CodedCells) (set : ℕ) → IsCodedFact sets dictionaries fact codes → AreValidIn sets dictionaries codes
    → IsStrictlySortedBy nat_cmp sets → facts ≡ less + 1 → TakesIn (codes_in sets codes) fact.measures cells left
    → is_among set sets ≡ true → count_in set (decoded dictionaries cells) ≡ facts
    → count_in set (decoded dictionaries left) ≡ less
count_in-TakesIn sets dictionaries facts less fact codes cells left set of valid ascending fewer takes among count =
    let one = sum_by-codes_in_one (set_weight dictionaries set) codes set sets
    (λ other inside. set_weight-key_in dictionaries fact codes set other of.all of.has (valid other inside)
    (of.below other inside)) ascending among in
    omega (
      arith,
      count_in-weight_of_cells dictionaries set left,
      takes.counts_less (set_weight dictionaries set),
      one,
      count_in-weight_of_cells dictionaries set cells,
      count,
      fewer,
    )

-- each set counts as many
pub count_in-SameCoded : (old new : Dictionaries) (facts : ℕ) (keys : List Codes) (cells others : CodedCells) (set : ℕ)
    → decoded new cells ≡ decoded old cells → SameCoded keys cells others → count_in set (decoded old cells) ≡ facts
    → count_in set (decoded new others) ≡ facts
count_in-SameCoded old new facts keys cells others set same alike count =
    omega (
      arith,
      count_in-weight_of_cells new set others,
      alike.counts_same (set_weight new set),
      count_in-weight_of_cells new set cells,
      ap (count_in set) same,
      count,
    )

-- ---- room for a fact
-- a cell of a kept set counts no more facts than there are
coded_at-le-count_in : (sets : List ℕ) (old new : Dictionaries) (facts : ℕ) (fact : Fact) (codes : Codes)
    (cells : CodedCells) (set : ℕ) (t : Tally) → IsCodedFact sets new fact codes → AreValidIn sets new codes
    → decoded new cells ≡ decoded old cells → is_among set sets ≡ true → count_in set (decoded old cells) ≡ facts
    → coded_at cells (key_in codes set) ≡ Some t → t.facts ≤ facts
coded_at-le-count_in sets old new facts fact codes cells set t of valid same among count found =
    let here : set_weight new set (key_in codes set) ≡ 1 =
    set_weight-key_in new fact codes set set of.all of.has (valid set among) (of.below set among)
    ∙ ap (λ (b : Bool). if b then 1 else 0) (eq-eqb set set refl) in
    omega (
      arith,
      weight-remove (set_weight new set) (key_in codes set) t cells found,
      ap (λ (n : ℕ). n * t.facts) here,
      count_in-weight_of_cells new set cells,
      ap (count_in set) same,
      count,
    )

-- codes of a fact that are those of the grand total are in the empty set
is_total_code-key_in : (sets : List ℕ) (dictionaries : Dictionaries) (fact : Fact) (codes : Codes) (set : ℕ)
    → IsCodedFact sets dictionaries fact codes → is_among set sets ≡ true → is_total_code (key_in codes set) ≡ true
    → set ≡ 0
is_total_code-key_in sets dictionaries fact codes set of among total =
    let eight = length-key_in sets dictionaries fact codes set of in
    let zero_eight = length-key_in sets dictionaries fact codes 0 of in
    let same : kept_codes set codes.codes ≡ kept_codes 0 codes.codes = all_code-length (kept_codes set codes.codes)
    (kept_codes 0 codes.codes) total (no_dimension codes.codes) (omega (arith, eight, zero_eight)) in
    kept_codes-injective dictionaries fact.dims codes.codes set 0 of.has.are (of.below set among)
    (two_power (length fact.dims)) same where
      two_power : (n : ℕ) → 0 < 2 ^ n
      two_power zero = omega arith
      two_power (suc n) = omega (arith, pow-succ' 2 n, two_power n)

      no_dimension : (xs : List ℕ) → list_all (λ code. code == all_code) (kept_codes 0 xs) ≡ true
      no_dimension [] = refl
      no_dimension (x ∷ xs) = no_dimension xs

is_total_code-total_codes : (codes : Codes) → length codes.codes ≡ 8 → is_total_code codes ≡ true → codes ≡ total_codes
is_total_code-total_codes codes eight total =
    let make : List ℕ → Codes = λ xs. record { codes = xs } in
    ap make (all_code-length codes.codes total_codes.codes total refl eight)

pub HasRoom-IsCoded : (schema : Layout) (sets : List ℕ) (facts : ℕ) (old new : Dictionaries) (cells : CodedCells)
    (fact : Fact) (codes : Codes) → IsCoded schema sets facts old cells → AreGrown old new
    → IsCodedFact sets new fact codes → AreValidIn sets new codes → length fact.measures ≡ length schema.measures
    → facts + 1 < 2 ^ 64 → (key : Codes) → is_in (codes_in sets codes) key ≡ true
    → HasRoom fact.measures key (coded_at cells key)
HasRoom-IsCoded schema sets facts old new cells fact codes is grown of valid width room key inside =
    let found = set_of-is_in sets codes key inside in
    let set = found.0 in
    let same = IsCodedCell-AreGrown old new (length schema.measures) cells grown of.all is.each in
    rw found.2 (record {
      width = if_some (coded_at cells (key_in codes set)) (λ t. length t.bags ≡ length fact.measures) (λ t at.
          (IsCodedCell-coded_at new (length schema.measures) cells (key_in codes set) t same.0 at).width ∙ sym width);
      room = if_some (coded_at cells (key_in codes set)) (λ t. t.facts + 1 < 2 ^ 64) (λ t at. omega (
        arith,
        coded_at-le-count_in sets old new facts fact codes cells set t of valid same.1 found.1
            (is.counts set found.1) at,
        room,
      ));
      some = if_some (coded_at cells (key_in codes set))
          (λ t. IsTrue (is_total_code (key_in codes set) || nat_lt 0 t.facts))
          (λ t at. (IsCodedCell-coded_at new (length schema.measures) cells (key_in codes set) t same.0 at).some);
      total = λ total.
          let none = is_total_code-key_in sets new fact codes set of found.1 total in
          let kept : is_among 0 sets ≡ true = ap (λ (s : ℕ). is_among s sets) (sym none) ∙ found.1 in
          rw (is_total_code-total_codes (key_in codes set) (length-key_in sets new fact codes set of) total)
          (is.total kept);
    }) where
      if_some : (o : Option Tally) (P : Tally → Type 0) → ((t : Tally) → o ≡ Some t → P t) → IfSome o P
      if_some None P each = tt
      if_some (Some t) P each = each t refl

-- ---- the lattice
IsLattice-AreGrown : (schema : Layout) (sets : List ℕ) (facts more : ℕ) (old new : Dictionaries)
    (cells others : CodedCells) → AreGrown old new → IsLattice (lattice_of schema sets facts old cells)
    → IsLattice (lattice_of schema sets more new others)
IsLattice-AreGrown schema sets facts more old new cells others grown is = record {
  schema = is.schema;
  no_texts = is.no_texts;
  sets = is.sets;
  ascending = is.ascending;
  dictionaries = AreGrown-length old new grown ∙ is.dictionaries;
}

pub IsCoded-AddsIn : (schema : Layout) (sets : List ℕ) (facts : ℕ) (old new : Dictionaries) (cells more : CodedCells)
    (fact : Fact) (codes : Codes) → IsCoded schema sets facts old cells → AreGrown old new
    → IsCodedFact sets new fact codes → AreValidIn sets new codes → length fact.measures ≡ length schema.measures
    → AreApart more → AddsIn (codes_in sets codes) fact.measures cells more → IsCoded schema sets (facts + 1) new more
IsCoded-AddsIn schema sets facts old new cells more fact codes is grown of valid width apart adds =
    let same = IsCodedCell-AreGrown old new (length schema.measures) cells grown of.all is.each in
    record {
      lattice = IsLattice-AreGrown schema sets facts (facts + 1) old new cells more grown is.lattice;
      texts = of.all;
      distinct = apart;
      each =
          IsCodedCell-AddsIn sets new (length schema.measures) fact codes cells more of valid width same.0 apart adds;
      total = λ kept. total_codes-AddsIn (codes_in sets codes) fact.measures cells more adds (is.total kept);
      counts = λ set among. count_in-AddsIn sets old new (length schema.measures)
          facts fact codes cells more set of valid is.lattice.ascending same.1 adds among (is.counts set among);
    }

pub IsCoded-TakesIn : (schema : Layout) (sets : List ℕ) (facts less : ℕ) (dictionaries : Dictionaries)
    (cells left : CodedCells) (fact : Fact) (codes : Codes) → IsCoded schema sets facts dictionaries cells
    → facts ≡ less + 1 → IsCodedFact sets dictionaries fact codes → AreValidIn sets dictionaries codes → AreApart left
    → TakesIn (codes_in sets codes) fact.measures cells left → IsCoded schema sets less dictionaries left
IsCoded-TakesIn schema sets facts less dictionaries cells left fact codes is fewer of valid apart takes = record {
  lattice = record {
    schema = is.lattice.schema;
    no_texts = is.lattice.no_texts;
    sets = is.lattice.sets;
    ascending = is.lattice.ascending;
    dictionaries = is.lattice.dictionaries;
  };
  texts = is.texts;
  distinct = apart;
  each = IsCodedCell-TakesIn (codes_in sets codes) dictionaries
      (length schema.measures) fact.measures cells left is.each apart takes;
  total = λ kept. total_codes-TakesIn (codes_in sets codes) fact.measures cells left takes (is.total kept);
  counts = λ set among. count_in-TakesIn sets dictionaries facts less fact codes cells left set of valid
      is.lattice.ascending fewer takes among (is.counts set among);
}

pub IsCoded-SameCoded : (schema : Layout) (sets : List ℕ) (facts : ℕ) (old new : Dictionaries)
    (cells others : CodedCells) (keys : List Codes) → IsCoded schema sets facts old cells → AreGrown old new
    → All IsDictionary new → AreApart others → SameCoded keys cells others → IsCoded schema sets facts new others
IsCoded-SameCoded schema sets facts old new cells others keys is grown all apart alike =
    let same = IsCodedCell-AreGrown old new (length schema.measures) cells grown all is.each in
    record {
      lattice = IsLattice-AreGrown schema sets facts facts old new cells others grown is.lattice;
      texts = all;
      distinct = apart;
      each = IsCodedCell-SameCoded keys new (length schema.measures) cells others same.0 apart alike;
      total = λ kept. total_codes-SameCoded keys cells others alike (is.total kept);
      counts = λ set among. count_in-SameCoded old new facts keys cells others set same.1 alike (is.counts set among);
    }
