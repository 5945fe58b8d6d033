-- Cubes that count facts, and those that have the facts of a schema's feeds, with numbers for the texts that are counted.
use Rattle.std.proofs.Common.{◌≡◌, ℕ, ℤ, pos, true, List, [], ◌∷◌, length, map, Contains, IsPermutation, inl, inr, sym, ap}
use Rattle.std.proofs.Common.{◌+◌, ◌∙◌, subst, arith, refl, length-append, length-drop}
use Rattle.std.specs.Prelude.{All}
use Rattle.std.proofs.lemmas.Bool.{and_from, and_parts}
use Rattle.std.proofs.lemmas.Bool.Decides.{Decides-eqb}
use Rattle.std.specs.List.{filter_map, flat_map}
use Rattle.std.proofs.lemmas.List.{length-map}
use Rattle.std.proofs.lemmas.List.Elements.{All-contains, All-map, All-nil, All-weaker, Contains-append_cases}
use Rattle.std.proofs.lemmas.List.Sorted.{All-permutation, Contains-permutation, IsPermutation-map, IsPermutation-sym}
use Rattle.std.proofs.lemmas.List.Sorted.{length_permutation}
use Rattle.cube_core.specs.Layout.{IsSchema, Layout, counted_texts, cube_schema, cube_schema_with, number_of_dimensions}
use Rattle.cube_core.specs.Takes.{fits}
use Rattle.cube_core.specs.TextPlaces.{counted_by, last_values, text_number, texts_counted}
use Rattle.cube_core.specs.declared.fact.Fact.{Fact}
use Rattle.cube_core.proofs.CellKeyLaws.{fits-length}
use Rattle.cube_core.proofs.CubeSchemaLaws.{cube_schema-dimensions, fits-cube_schema}
use Rattle.cube_core.proofs.ListLaws.{Contains-head, Contains-nil, Contains-tail, flat_map-Contains}
use Rattle.cube_core.proofs.TextNumberLaws.{text_number-TellsApart}
use Rattle.cube_core.proofs.TextRowLaws.{counted_by-none, fits-measures}
use Rattle.cube_cells.specs.CountedCube.{CountedView, HasCounted, fits_counted}
use Rattle.cube_cells.specs.Cube.{AddsFact, HoldsFact, IsCubeOf, Lattice, SameCells, SameSets, TakesFact}
use Rattle.cube_cells.specs.Fill.{IsCubeOfAll}
use Rattle.cube_cells.specs.TextNumbers.{AreCountedFacts, number_in}
use Rattle.cube_cells.proofs.Cells.CubeLaws.{IsCubeOf-permutation, SameCells-IsCubeOf, HoldsFact-IsCubeOf}
use Rattle.cube_cells.proofs.TextNumberLaws.{TellsApart-number_in}
use Rattle.cube_ledger.specs.Ledger.{AllFit}
use Rattle.cube_build.specs.Builder.{CountsFacts, HasFacts, IsCountedFor}

-- ---- facts that are counted
-- a cube counts the same facts in another order
pub CountsFacts-permutation : (facts moved : List Fact) (cube : Lattice) → IsPermutation facts moved → CountsFacts facts cube
    → CountsFacts moved cube
CountsFacts-permutation facts moved cube change counts = record {
  cells = IsCubeOf-permutation cube facts moved change counts.cells;
  facts_are = counts.facts_are ∙ sym (length_permutation facts moved change);
}

-- a fact more
pub CountsFacts-add : (fact : Fact) (facts : List Fact) (old new : Lattice) → AddsFact fact old new
    → ((before : List Fact) → IsCubeOf old before → IsCubeOf new (fact ∷ before)) → CountsFacts facts old
    → CountsFacts (fact ∷ facts) new
CountsFacts-add fact facts old new adds cells counts = record {
  cells = cells facts counts.cells;
  facts_are = omega (arith, adds.facts, counts.facts_are);
}

-- a fact less
pub CountsFacts-remove : (fact : Fact) (facts : List Fact) (old new : Lattice) → TakesFact fact old new
    → ((left : List Fact) → IsCubeOf old (fact ∷ left) → IsCubeOf new left) → CountsFacts (fact ∷ facts) old
    → CountsFacts facts new
CountsFacts-remove fact facts old new takes cells counts = record {
  cells = cells facts counts.cells;
  facts_are = omega (arith, takes.facts, counts.facts_are);
}

-- a cube holds each fact that it counts
pub HoldsFact-CountsFacts : (fact : Fact) (facts : List Fact) (cube : Lattice) → fits cube.schema fact ≡ true
    → CountsFacts (fact ∷ facts) cube → HoldsFact cube fact
HoldsFact-CountsFacts fact facts cube fit counts =
    HoldsFact-IsCubeOf fact cube facts fit (omega (arith, counts.facts_are)) counts.cells

-- cubes over the same sets that count the same facts have the same cells
pub SameCells-CountsFacts : (facts : List Fact) (old new : Lattice) → SameSets old new → CountsFacts facts old
    → CountsFacts facts new → SameCells old new
SameCells-CountsFacts facts old new same counted counts =
    SameCells-IsCubeOf old new facts same (counts.facts_are ∙ sym counted.facts_are) counted.cells counts.cells

-- ---- no texts
-- facts of a schema that counts no text are counted as they are
counted-plain : (s : Layout) (number : List ℕ → ℤ) (facts : List Fact) → s.text_places ≡ []
    → map (counted_by number (length s.text_places)) facts ≡ facts
counted-plain s number facts none = rw none (counted_by-none number facts)

-- so a cube that counts them has them
pub HasFacts-plain : (s : Layout) (facts : List Fact) (cube : Lattice) → IsSchema s → s.text_places ≡ [] → AllFit s facts
    → CountsFacts facts cube → HasFacts s facts cube
HasFacts-plain s facts cube schema none fit counts =
    let number : List ℕ → ℤ = λ text. pos (text_number text) in
    record {
      schema = schema;
      fit = fit;
      number = number;
      tells_apart = text_number-TellsApart (texts_counted (length s.text_places) facts);
      counts = subst (λ fs. CountsFacts fs cube) (sym (counted-plain s number facts none)) counts;
    }

-- and one that has them counts them
pub CountsFacts-plain : (s : Layout) (facts : List Fact) (cube : Lattice) → s.text_places ≡ [] → HasFacts s facts cube
    → CountsFacts facts cube
CountsFacts-plain s facts cube none has =
    subst (λ fs. CountsFacts fs cube) (counted-plain s has.number facts none) has.counts

-- ---- no facts
pub HasFacts-nil : (s : Layout) (cube : Lattice) → IsSchema s → CountsFacts [] cube → HasFacts s [] cube
HasFacts-nil s cube schema counts = record {
  schema = schema;
  fit = All-nil (λ fact. fits s fact ≡ true);
  number = λ text. pos (text_number text);
  tells_apart = text_number-TellsApart [];
  counts = counts;
}

-- ---- all facts
-- as many as the cube says
pub HasFacts-facts : (s : Layout) (facts : List Fact) (cube : Lattice) → HasFacts s facts cube
    → cube.facts ≡ length facts
HasFacts-facts s facts cube has =
    has.counts.facts_are ∙ length-map facts (counted_by has.number (length s.text_places))

-- facts that fit are counted as facts that fit the schema of the cube
pub AllFit-counted : (s under : Layout) (number : List ℕ → ℤ) (facts : List Fact) → under ≡ cube_schema s
    → AllFit s facts → AllFit under (map (counted_by number (length s.text_places)) facts)
AllFit-counted s under number facts same fit =
    All-map (λ fact. fits under fact ≡ true) (counted_by number (length s.text_places)) facts
    (All-weaker (λ fact. fits s fact ≡ true)
    (λ fact. fits under (counted_by number (length s.text_places) fact) ≡ true)
    (λ fact fits_here. ap (λ l. fits l (counted_by number (length s.text_places) fact)) same
    ∙ fits-cube_schema s number fact fits_here) facts fit)

-- a cube under the schema of the cube is that of all facts as they are counted
pub IsCubeOfAll-HasFacts : (s : Layout) (facts : List Fact) (cube : Lattice) → cube.schema ≡ cube_schema s
    → (has : HasFacts s facts cube) → IsCubeOfAll (map (counted_by has.number (length s.text_places)) facts) cube
IsCubeOfAll-HasFacts s facts cube same has = record {
  fit = AllFit-counted s cube.schema has.number facts same has.fit;
  cells = has.counts.cells;
  facts_are = has.counts.facts_are;
}

-- and each other that is that of these has the facts
pub HasFacts-IsCubeOfAll : (s : Layout) (facts : List Fact) (old new : Lattice) → (has : HasFacts s facts old)
    → IsCubeOfAll (map (counted_by has.number (length s.text_places)) facts) new → HasFacts s facts new
HasFacts-IsCubeOfAll s facts old new has all = record {
  schema = has.schema;
  fit = has.fit;
  number = has.number;
  tells_apart = has.tells_apart;
  counts = record { cells = all.cells; facts_are = all.facts_are };
}

-- so has one of facts that were counted
pub HasFacts-counted : (s : Layout) (facts counted : List Fact) (cube : Lattice) → IsSchema s → AllFit s facts
    → AreCountedFacts (length s.text_places) facts counted → IsCubeOfAll counted cube → HasFacts s facts cube
HasFacts-counted s facts counted cube schema fit are all = record {
  schema = schema;
  fit = fit;
  number = are.number;
  tells_apart = are.tells_apart;
  counts = subst (λ fs. CountsFacts fs cube) are.are (record { cells = all.cells; facts_are = all.facts_are });
}

-- ---- counted cubes
-- the schema of a cube has a measure for each text that is counted
pub cube_schema-measures : (s : Layout) → IsSchema s
    → length (cube_schema s).measures ≡ length s.measures + length s.text_places
cube_schema-measures s schema = as_many s.text_places refl
  where
    as_many : (places : List ℕ) → s.text_places ≡ places
        → length (cube_schema_with places s).measures ≡ length s.measures + length places
    as_many [] is = omega arith
    as_many (place ∷ places) is = omega (
      arith,
      length-append s.measures (counted_texts s),
      length-drop (number_of_dimensions s) s.dimensions,
      schema.some_dimension,
      ap length is,
    )

-- a fact that fits a schema is one that its cube counts
pub fits_counted-fits : (s : Layout) (fact : Fact) → IsSchema s → fits s fact ≡ true
    → fits_counted (length s.text_places) (cube_schema s) fact ≡ true
fits_counted-fits s fact schema fit =
    let values : length fact.dims ≡ length (cube_schema s).dimensions + length s.text_places =
    omega (arith, fits-length s fact fit, cube_schema-dimensions s, schema.some_dimension) in
    let measures : length fact.measures + length s.text_places ≡ length (cube_schema s).measures =
    omega (arith, fits-measures s fact fit, cube_schema-measures s schema) in
    and_from _ _ (and_from _ _ ((Decides-eqb _ _).1 values) ((Decides-eqb _ _).1 measures)) (and_parts _ _ fit).1

-- a counted cube that has facts has them by its numbers
pub HasFacts-HasCounted : (s : Layout) (facts : List Fact) (cube : CountedView) → IsCountedFor s cube → AllFit s facts
    → HasCounted facts cube → HasFacts s facts cube.cube
HasFacts-HasCounted s facts cube is fit has =
    let texts = texts_counted (length s.text_places) facts in
    let listed : All (Contains cube.numbers) texts = rw is.texts at has.listed in
    record {
      schema = is.lawful;
      fit = fit;
      number = number_in cube.numbers;
      tells_apart = λ a b in_a in_b same. TellsApart-number_in cube.numbers a b
          (All-contains (Contains cube.numbers) texts a listed in_a)
          (All-contains (Contains cube.numbers) texts b listed in_b) same;
      counts = record {
        cells = rw is.texts at has.cells;
        facts_are = has.facts_are ∙ sym (length-map facts (counted_by (number_in cube.numbers) (length s.text_places)));
      };
    }

-- ---- another order
-- the texts of some facts are among those of all
texts_counted-within : (texts : ℕ) (some all : List Fact) (text : List ℕ)
    → ((fact : Fact) → Contains some fact → Contains all fact) → Contains (texts_counted texts some) text
    → Contains (texts_counted texts all) text
texts_counted-within texts [] all text within there = absurd (Contains-nil text there)
texts_counted-within texts (fact ∷ some) all text within there =
    let texts_of : Fact → List (List ℕ) = λ other. filter_map (λ value. value) (last_values texts other) in
    elim (Contains-append_cases (texts_of fact) (texts_counted texts some) text there) [
      | inl here ↦ flat_map-Contains texts_of all fact text (within fact (Contains-head fact some)) here
      | inr after ↦ texts_counted-within texts some all text
          (λ other among. within other (Contains-tail fact some other among)) after
    ]

-- a cube has the same facts in another order
pub HasFacts-permutation : (s : Layout) (facts moved : List Fact) (cube : Lattice) → IsPermutation facts moved
    → HasFacts s facts cube → HasFacts s moved cube
HasFacts-permutation s facts moved cube change has =
    let texts = length s.text_places in
    let back : (fact : Fact) → Contains moved fact → Contains facts fact =
    λ fact among. Contains-permutation moved facts fact (IsPermutation-sym facts moved change) among in
    record {
      schema = has.schema;
      fit = All-permutation (λ fact. fits s fact ≡ true) facts moved change has.fit;
      number = has.number;
      tells_apart = λ a b in_a in_b is. has.tells_apart a b
          (texts_counted-within texts moved facts a back in_a) (texts_counted-within texts moved facts b back in_b) is;
      counts = CountsFacts-permutation (map (counted_by has.number texts) facts) (map (counted_by has.number texts) moved)
          cube (IsPermutation-map (counted_by has.number texts) facts moved change) has.counts;
    }
