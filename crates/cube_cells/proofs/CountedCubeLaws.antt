-- Laws of cubes over facts of which texts are counted.
use Rattle.std.proofs.Common.{◌≡◌, ◌==◌, ◌≤◌, ◌&&◌, ◌+◌, ◌-◌, ◌∙◌, ◌++◌, ◌∷◌, [], ℕ, ℤ, zero, suc, Bool, List, Option}
use Rattle.std.proofs.Common.{true, ap, arith, length, map, refl, subst, sym, take}
use Rattle.std.specs.Prelude.{All, Contains, option_map}
use Rattle.std.specs.List.{list_all}
use Rattle.std.specs.List.Sorted.{IsPermutation}
use Rattle.std.proofs.lemmas.Bool.{and_from, and_parts, eq-eqb, eqb-true}
use Rattle.std.proofs.lemmas.List.{append-nil, drop_all, length-append, length-drop, length-map, length-take}
use Rattle.std.proofs.lemmas.List.{length-take-le, take_all}
use Rattle.std.proofs.lemmas.List.Elements.{All-append, All-cons, All-head, All-nil, All-tail, All-weaker}
use Rattle.std.proofs.lemmas.List.Sorted.{All-permutation, IsPermutation-map, length_permutation}
use Rattle.cube_core.specs.Layout.{Layout}
use Rattle.cube_core.specs.Takes.{fits, is_dimension_value}
use Rattle.cube_core.specs.declared.fact.Fact.{Fact}
use Rattle.cube_core.proofs.CellKeyLaws.{fits-length}
use Rattle.cube_core.proofs.TextRowLaws.{counted_by-none}
use Rattle.cube_cells.specs.Codes.{IsDictionary}
use Rattle.cube_cells.specs.CountedCube.{AreMadeFinest, CountedView, HasCounted, first_fact, fits_counted}
use Rattle.cube_cells.specs.Cube.{AddsFact, HoldsFact, IsCubeOf, Lattice, SameCells, TakesFact}
use Rattle.cube_cells.specs.Fill.{IsCubeOfAll, finest_set}
use Rattle.cube_cells.specs.TextNumbers.{StandFirst, number_in}
use Rattle.cube_core.specs.TextPlaces.{counted_by, last_values, texts_counted}
use Rattle.cube_cells.specs.TextNumbers.{measures_counted}
use Rattle.cube_cells.proofs.Cells.CubeLaws.{HoldsFact-IsCubeOf, IsCubeOf-AddsFact, IsCubeOf-SameCells}
use Rattle.cube_cells.proofs.Cells.CubeLaws.{IsCubeOf-TakesFact, IsCubeOf-permutation}
use Rattle.cube_cells.proofs.Filling.BottomUpLaws.{All-parts}
use Rattle.cube_cells.proofs.TextNumberLaws.{AreCountedIn-StandFirst, texts_counted-one}

-- ---- the first values
-- there are as many values as a fact of the first of them needs
pub first_fact-long : (s : Layout) (values : List (Option (List ℕ))) (measures : List (Option ℤ))
    → fits s (first_fact (length s.dimensions) values measures) ≡ true → length s.dimensions ≤ length values
first_fact-long s values measures fit = omega (
  arith,
  fits-length s (first_fact (length s.dimensions) values measures) fit,
  length-take (length s.dimensions) values,
)

-- a fact that fits has no more values than these
pub take-fits : (s : Layout) (fact : Fact) → fits s fact ≡ true → take (length s.dimensions) fact.dims ≡ fact.dims
take-fits s fact fit = take_all (length s.dimensions) fact.dims (omega (arith, fits-length s fact fit))

-- so it is that of its own values
pub first_fact-fits : (s : Layout) (fact : Fact) → fits s fact ≡ true
    → first_fact (length s.dimensions) fact.dims fact.measures ≡ fact
first_fact-fits s fact fit =
    ap (λ (values : List (Option (List ℕ))). record { dims = values; measures = fact.measures }) (take-fits s fact fit)

-- ---- a fact as it is counted
list_all-take : {X : Type 0} (p : X → Bool) (n : ℕ) (xs : List X) → list_all p xs ≡ true
    → list_all p (take n xs) ≡ true
list_all-take p zero xs all = refl
list_all-take p (suc n) [] all = refl
list_all-take p (suc n) (x ∷ xs) all =
    let parts = and_parts (p x) (list_all p xs) all in
    and_from (p x) (list_all p (take n xs)) parts.0 (list_all-take p n xs parts.1)

-- what is true of a fact that fits and of which texts are counted
record HasCountedShape (texts : ℕ) (s : Layout) (fact : Fact) : Type 0 where
  dims : length fact.dims ≡ length s.dimensions + texts
  measures : length fact.measures + texts ≡ length s.measures
  values : list_all is_dimension_value fact.dims ≡ true

shape_of : (texts : ℕ) (s : Layout) (fact : Fact) → fits_counted texts s fact ≡ true → HasCountedShape texts s fact
shape_of texts s fact fit =
    let dims = length fact.dims == length s.dimensions + texts in
    let measures = length fact.measures + texts == length s.measures in
    let both = and_parts (dims && measures) (list_all is_dimension_value fact.dims) fit in
    let each = and_parts dims measures both.0 in
    record {
      dims = eqb-true (length fact.dims) (length s.dimensions + texts) each.0;
      measures = eqb-true (length fact.measures + texts) (length s.measures) each.1;
      values = both.1;
    }

-- it has a value for each dimension of its cube, and behind them the texts that are counted
pub fits_counted-long : (texts : ℕ) (s : Layout) (fact : Fact) → fits_counted texts s fact ≡ true
    → length fact.dims ≡ length s.dimensions + texts
fits_counted-long texts s fact fit = (shape_of texts s fact fit).dims

-- with the numbers of these it has as many measures as its cube
pub fits_counted-measures : (texts : ℕ) (s : Layout) (fact : Fact) → fits_counted texts s fact ≡ true
    → length fact.measures + texts ≡ length s.measures
fits_counted-measures texts s fact fit = (shape_of texts s fact fit).measures

-- as it is counted it has its first values
pub counted_by-first_fact : (number : List ℕ → ℤ) (texts : ℕ) (s : Layout) (fact : Fact)
    → fits_counted texts s fact ≡ true
    → first_fact (length s.dimensions) fact.dims (measures_counted number texts fact) ≡ counted_by number texts fact
counted_by-first_fact number zero s fact fit =
    let long : length fact.dims ≤ length s.dimensions = omega (arith, fits_counted-long 0 s fact fit) in
    let dims = take_all (length s.dimensions) fact.dims long in
    let none : last_values 0 fact ≡ [] = drop_all (length fact.dims - 0) fact.dims (omega arith) in
    rw (dims, none, append-nil) refl
counted_by-first_fact number (suc texts) s fact fit =
    let first : length s.dimensions ≡ length fact.dims - suc texts =
    omega (arith, fits_counted-long (suc texts) s fact fit) in
    rw first refl

-- so it fits
pub fits-counted_by : (number : List ℕ → ℤ) (texts : ℕ) (s : Layout) (fact : Fact)
    → fits_counted texts s fact ≡ true → fits s (counted_by number texts fact) ≡ true
fits-counted_by number texts s fact fit =
    let shape = shape_of texts s fact fit in
    let numbers = map (option_map number) (last_values texts fact) in
    let dims : length (take (length s.dimensions) fact.dims) ≡ length s.dimensions =
    length-take-le (length s.dimensions) fact.dims (omega (arith, shape.dims)) in
    let measures : length (fact.measures ++ numbers) ≡ length s.measures = omega (
      arith,
      shape.dims,
      shape.measures,
      length-append fact.measures numbers,
      length-map (last_values texts fact) (option_map number),
      length-drop (length fact.dims - texts) fact.dims,
    ) in
    let of_first : fits s (first_fact (length s.dimensions) fact.dims (fact.measures ++ numbers)) ≡ true = and_from _ _
    (and_from _ _ (eq-eqb _ _ dims) (eq-eqb _ _ measures))
    (list_all-take is_dimension_value (length s.dimensions) fact.dims shape.values) in
    subst (λ (counted : Fact). fits s counted ≡ true) (counted_by-first_fact number texts s fact fit) of_first

-- ---- the facts of a counted cube
-- more texts have numbers, behind those that had
pub HasCounted-StandFirst : (facts : List Fact) (texts : ℕ) (old new : List (List ℕ)) (cube : Lattice)
    → StandFirst old new → HasCounted facts (record { texts = texts; numbers = old; cube = cube })
    → HasCounted facts (record { texts = texts; numbers = new; cube = cube })
HasCounted-StandFirst facts texts old new cube first has =
    let counted = AreCountedIn-StandFirst old new texts facts (map (counted_by (number_in old) texts) facts) first
    (record { listed = has.listed; are = refl }) in
    record {
      cells = subst (IsCubeOf cube) counted.are has.cells;
      listed = counted.listed;
      facts_are = has.facts_are;
    }

-- the cells count the same
pub HasCounted-SameCells : (facts : List Fact) (texts : ℕ) (numbers : List (List ℕ)) (old new : Lattice)
    → SameCells old new → HasCounted facts (record { texts = texts; numbers = numbers; cube = old })
    → HasCounted facts (record { texts = texts; numbers = numbers; cube = new })
HasCounted-SameCells facts texts numbers old new same has = record {
  cells = IsCubeOf-SameCells old new _ same has.cells;
  listed = has.listed;
  facts_are = same.facts ∙ has.facts_are;
}

-- a fact more
pub HasCounted-AddsFact : (fact : Fact) (facts : List Fact) (texts : ℕ) (numbers : List (List ℕ)) (old new : Lattice)
    → fits_counted texts old.schema fact ≡ true → All (Contains numbers) (texts_counted texts (fact ∷ []))
    → AddsFact (counted_by (number_in numbers) texts fact) old new
    → HasCounted facts (record { texts = texts; numbers = numbers; cube = old })
    → HasCounted (fact ∷ facts) (record { texts = texts; numbers = numbers; cube = new })
HasCounted-AddsFact fact facts texts numbers old new fit listed adds has = record {
  cells = IsCubeOf-AddsFact (counted_by (number_in numbers) texts fact) old new
      (map (counted_by (number_in numbers) texts) facts)
      (fits-counted_by (number_in numbers) texts old.schema fact fit) adds has.cells;
  listed = All-append (Contains numbers) _ (texts_counted texts facts)
      (subst (All (Contains numbers)) (texts_counted-one texts fact) listed) has.listed;
  facts_are = omega (arith, adds.facts, has.facts_are);
}

-- a fact less
pub HasCounted-TakesFact : (fact : Fact) (facts : List Fact) (texts : ℕ) (numbers : List (List ℕ)) (old new : Lattice)
    → TakesFact (counted_by (number_in numbers) texts fact) old new
    → HasCounted (fact ∷ facts) (record { texts = texts; numbers = numbers; cube = old })
    → HasCounted facts (record { texts = texts; numbers = numbers; cube = new })
HasCounted-TakesFact fact facts texts numbers old new takes has = record {
  cells = IsCubeOf-TakesFact (counted_by (number_in numbers) texts fact) old new
      (map (counted_by (number_in numbers) texts) facts) takes has.cells;
  listed = (All-parts (Contains numbers) _ (texts_counted texts facts) has.listed).1;
  facts_are = omega (arith, takes.facts, has.facts_are);
}

-- it holds each of its facts, and has a number for each text of theirs that is counted
pub HoldsFact-HasCounted : (fact : Fact) (facts : List Fact) (c : CountedView)
    → fits_counted c.texts c.cube.schema fact ≡ true → HasCounted (fact ∷ facts) c
    → HoldsFact c.cube (counted_by (number_in c.numbers) c.texts fact)
HoldsFact-HasCounted fact facts c fit has =
    HoldsFact-IsCubeOf (counted_by (number_in c.numbers) c.texts fact) c.cube
    (map (counted_by (number_in c.numbers) c.texts) facts)
    (fits-counted_by (number_in c.numbers) c.texts c.cube.schema fact fit) (omega (arith, has.facts_are)) has.cells

pub HasCounted-listed : (fact : Fact) (facts : List Fact) (c : CountedView) → HasCounted (fact ∷ facts) c
    → All (Contains c.numbers) (texts_counted c.texts (fact ∷ []))
HasCounted-listed fact facts c has =
    subst (All (Contains c.numbers)) (sym (texts_counted-one c.texts fact))
    (All-parts (Contains c.numbers) _ (texts_counted c.texts facts) has.listed).0

-- ---- facts in another order
-- something is true of the texts of a fact that are counted
abbrev IsOfTexts : (List ℕ → Type 0) → ℕ → Fact → Type 0
IsOfTexts P texts fact = All P (texts_counted texts (fact ∷ []))

-- what is true of the texts of some facts is true of those of each
All-each : (P : List ℕ → Type 0) (texts : ℕ) (facts : List Fact) → All P (texts_counted texts facts)
    → All (IsOfTexts P texts) facts
All-each P texts [] all = All-nil (IsOfTexts P texts)
All-each P texts (fact ∷ facts) all =
    let parts = All-parts P _ (texts_counted texts facts) all in
    All-cons (IsOfTexts P texts) fact facts (subst (All P) (sym (texts_counted-one texts fact)) parts.0) (All-each P texts facts parts.1)

-- and the other way round
All-of_each : (P : List ℕ → Type 0) (texts : ℕ) (facts : List Fact)
    → All (IsOfTexts P texts) facts → All P (texts_counted texts facts)
All-of_each P texts [] each = All-nil P
All-of_each P texts (fact ∷ facts) each =
    All-append P _ (texts_counted texts facts)
    (subst (All P) (texts_counted-one texts fact) (All-head (IsOfTexts P texts) fact facts each))
    (All-of_each P texts facts (All-tail (IsOfTexts P texts) fact facts each))

-- a cube that has facts has the same facts in another order
pub HasCounted-IsPermutation : (facts moved : List Fact) (c : CountedView) → IsPermutation facts moved
    → HasCounted facts c → HasCounted moved c
HasCounted-IsPermutation facts moved c change has = record {
  cells = IsCubeOf-permutation c.cube _ _
      (IsPermutation-map (counted_by (number_in c.numbers) c.texts) facts moved change) has.cells;
  listed = All-of_each (Contains c.numbers) c.texts moved
      (All-permutation (IsOfTexts (Contains c.numbers) c.texts) facts moved change (All-each (Contains c.numbers) c.texts facts has.listed));
  facts_are = has.facts_are ∙ sym (length_permutation facts moved change);
}

-- ---- no text is counted
pub texts_counted-none : (facts : List Fact) → texts_counted 0 facts ≡ []
texts_counted-none [] = refl
texts_counted-none (fact ∷ facts) =
    let none : last_values 0 fact ≡ [] = drop_all (length fact.dims - 0) fact.dims (omega arith) in
    rw (none, texts_counted-none facts) refl

-- such a fact is counted as it is
pub counted_by-alone : (number : List ℕ → ℤ) (texts : ℕ) (fact : Fact) → texts ≡ 0 → counted_by number texts fact ≡ fact
counted_by-alone number texts fact none = ap (λ (n : ℕ). counted_by number n fact) none

pub HasCounted-AddsFact_alone : (fact : Fact) (facts : List Fact) (texts : ℕ) (numbers : List (List ℕ))
    (old new : Lattice) → texts ≡ 0 → fits_counted texts old.schema fact ≡ true → AddsFact fact old new
    → HasCounted facts (record { texts = texts; numbers = numbers; cube = old })
    → HasCounted (fact ∷ facts) (record { texts = texts; numbers = numbers; cube = new })
HasCounted-AddsFact_alone fact facts texts numbers old new none fit adds has =
    let no_texts = ap (λ (n : ℕ). texts_counted n (fact ∷ [])) none ∙ texts_counted-none (fact ∷ []) in
    HasCounted-AddsFact fact facts texts numbers old new fit
    (subst (All (Contains numbers)) (sym no_texts) (All-nil (Contains numbers)))
    (subst (λ (f : Fact). AddsFact f old new) (sym (counted_by-alone (number_in numbers) texts fact none)) adds) has

-- the cube alone has the facts
pub AreMadeFinest-none : (texts : ℕ) (schema : Layout) (facts : List Fact) (numbers : List (List ℕ)) (finest : Lattice)
    → texts ≡ 0 → IsDictionary numbers → finest.schema ≡ schema
    → finest.sets ≡ finest_set (length finest.schema.dimensions) ∷ [] → IsCubeOfAll facts finest
    → AreMadeFinest texts schema facts numbers finest
AreMadeFinest-none texts schema facts numbers finest none dictionary schema_is sets_are all = record {
  dictionary = dictionary;
  schema_is = schema_is;
  sets_are = sets_are;
  all = subst (λ (fs : List Fact). IsCubeOfAll fs finest)
      (sym (ap (λ (n : ℕ). map (counted_by (number_in numbers) n) facts) none
      ∙ counted_by-none (number_in numbers) facts)) all;
  listed = subst (All (Contains numbers))
      (sym (ap (λ (n : ℕ). texts_counted n facts) none ∙ texts_counted-none facts)) (All-nil (Contains numbers));
}

-- ---- a cube that is filled
-- facts that fit, fit as they are counted
pub All-fits-counted_by : (number : List ℕ → ℤ) (texts : ℕ) (s : Layout) (facts : List Fact)
    → All (λ fact. fits_counted texts s fact ≡ true) facts
    → All (λ fact. fits s fact ≡ true) (map (counted_by number texts) facts)
All-fits-counted_by number texts s [] fit = All-nil (λ fact. fits s fact ≡ true)
All-fits-counted_by number texts s (fact ∷ facts) fit =
    All-cons (λ f. fits s f ≡ true) (counted_by number texts fact) (map (counted_by number texts) facts)
    (fits-counted_by number texts s fact (All-head (λ f. fits_counted texts s f ≡ true) fact facts fit))
    (All-fits-counted_by number texts s facts (All-tail (λ f. fits_counted texts s f ≡ true) fact facts fit))

pub All-fits-none : (texts : ℕ) (s : Layout) (facts : List Fact) → texts ≡ 0
    → All (λ fact. fits_counted texts s fact ≡ true) facts → All (λ fact. fits s fact ≡ true) facts
All-fits-none texts s facts none fit =
    subst (All (λ fact. fits s fact ≡ true))
    (ap (λ (n : ℕ). map (counted_by (number_in []) n) facts) none ∙ counted_by-none (number_in []) facts)
    (All-fits-counted_by (number_in []) texts s facts fit)

-- they have values for the texts that are counted
pub All-long : (texts : ℕ) (s : Layout) (facts : List Fact) → All (λ fact. fits_counted texts s fact ≡ true) facts
    → All (λ fact. texts ≤ length fact.dims) facts
All-long texts s facts fit =
    All-weaker (λ fact. fits_counted texts s fact ≡ true) (λ fact. texts ≤ length fact.dims)
    (λ fact fits. omega (arith, fits_counted-long texts s fact fits)) facts fit

-- a cube over the finest grouping set that has facts was made of them
pub AreMadeFinest-HasCounted : (facts : List Fact) (c : CountedView) → IsDictionary c.numbers
    → c.cube.sets ≡ finest_set (length c.cube.schema.dimensions) ∷ []
    → All (λ fact. fits_counted c.texts c.cube.schema fact ≡ true) facts → HasCounted facts c
    → AreMadeFinest c.texts c.cube.schema facts c.numbers c.cube
AreMadeFinest-HasCounted facts c dictionary sets_are fit has = record {
  dictionary = dictionary;
  schema_is = refl;
  sets_are = sets_are;
  all = record {
    fit = All-fits-counted_by (number_in c.numbers) c.texts c.cube.schema facts fit;
    cells = has.cells;
    facts_are = has.facts_are ∙ sym (length-map facts (counted_by (number_in c.numbers) c.texts));
  };
  listed = has.listed;
}

pub HasCounted-IsCubeOfAll : (facts : List Fact) (texts : ℕ) (numbers : List (List ℕ)) (cube : Lattice)
    → IsCubeOfAll (map (counted_by (number_in numbers) texts) facts) cube
    → All (Contains numbers) (texts_counted texts facts)
    → HasCounted facts (record { texts = texts; numbers = numbers; cube = cube })
HasCounted-IsCubeOfAll facts texts numbers cube all listed = record {
  cells = all.cells;
  listed = listed;
  facts_are = all.facts_are ∙ length-map facts (counted_by (number_in numbers) texts);
}
