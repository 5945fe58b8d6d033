-- The text of merged rows is the printed cube.
use Rattle.std.proofs.Common.{◌≡◌, ℕ, zero, suc, ◌<◌, ◌≤◌, List, [], ◌∷◌, ◌++◌, length, map, get_or, IsPermutation}
use Rattle.std.proofs.Common.{Some, None, IfSome, refl, sym, ◌∙◌, subst, arith}
use Rattle.std.proofs.lemmas.List.{length-map}
use Rattle.std.specs.List.{AllByRecursion, AllZip}
use Rattle.cube_core.specs.Cube.{AreRows}
use Rattle.cube_core.specs.Layout.{Layout}
use Rattle.cube_core.specs.PartialForm.{partial_aggregates, partial_form}
use Rattle.cube_core.specs.Printed.{IsPrinted}
use Rattle.cube_core.specs.declared.fact.Fact.{Fact}
use Rattle.cube_core.specs.declared.key.Row.{Row}
use Rattle.cube_core.specs.Text.{text_of_rows}
use Rattle.cube_merge.specs.Merging.{IsMergeOf}
use Rattle.cube_laws.specs.Merging.{joined, IsSchemaWithoutTexts, IsTextOfRows, IsMergedText, PutsPrinted}
use Rattle.cube_laws.specs.Told.{CanBePrinted}
use Rattle.cube_laws.proofs.AnswerTextLaws.{HasFewDigits}
use Rattle.cube_laws.proofs.MergedLaws.{AreMergedOf-AreRows}
use Rattle.cube_laws.proofs.RangeLaws.{AreRows-IsLawfulRow}
use Rattle.cube_laws.proofs.RowLaws.{IsPrinted-unique}
use Rattle.cube_laws.proofs.RowOrderLaws.{IsPrinted-IsPermutation}
use Rattle.cube_laws.proofs.RowTextLaws.{text_of_rows-told}

-- lists whose elements are related place by place
AllZip-places : {X Y : Type 0} (R : X → Y → Type 0) (xs : List X) (ys : List Y) (d : X) (e : Y) → length ys ≡ length xs
    → ((k : ℕ) → k < length xs → R (get_or xs k d) (get_or ys k e)) → AllZip R xs ys
AllZip-places R [] [] d e as_many each = tt
AllZip-places R [] (y ∷ ys) d e as_many each = absurd (omega (arith, as_many))
AllZip-places R (x ∷ xs) [] d e as_many each = absurd (omega (arith, as_many))
AllZip-places R (x ∷ xs) (y ∷ ys) d e as_many each = (
  each zero (omega arith),
  AllZip-places R xs ys d e (omega (arith, as_many)) (λ k below. each (suc k) (omega (arith, below))),
)

-- rows whose text is the printed cube are the cube's
AreRows-IsTextOfRows : (s : Layout) (facts : List Fact) (text : List ℕ) (rows : List Row)
    → length s.text_places < length s.dimensions → s.text_places ≡ [] → HasFewDigits s → CanBePrinted s facts → IsPrinted s facts text → IsTextOfRows s text rows
    → AreRows s facts rows
AreRows-IsTextOfRows s facts text rows some no_texts few printable printed read =
    subst (AreRows s facts)
    (text_of_rows-told s printed.rows rows some few
    (AreRows-IsLawfulRow s facts printed.rows printable no_texts printed.are_rows) read.of_schema
    (sym printed.text_is ∙ read.text_is))
    printed.are_rows

-- facts that a schema can print, its partial form can
partial_form-CanBePrinted : (s : Layout) (facts : List Fact) → CanBePrinted s facts
    → CanBePrinted (partial_form s) facts
partial_form-CanBePrinted s facts printable = record { fit = printable.fit; countable = printable.countable }

-- the rows that are read of printed partial cubes are those of each part
AllZip-AreRows : (s : Layout) (parts : List (List Fact)) (texts : List (List ℕ)) (cubes : List (List Row))
    → length s.text_places < length s.dimensions → s.text_places ≡ [] → HasFewDigits s
    → AllByRecursion (CanBePrinted s) parts
    → AllZip (IsPrinted (partial_form s)) parts texts → AllZip (IsTextOfRows (partial_form s)) texts cubes
    → AllZip (AreRows (partial_form s)) parts cubes
AllZip-AreRows s [] [] [] some no_texts few printable printed read = tt
AllZip-AreRows s [] [] (rows ∷ cubes) some no_texts few printable printed read = absurd read
AllZip-AreRows s [] (text ∷ texts) cubes some no_texts few printable printed read = absurd printed
AllZip-AreRows s (facts ∷ parts) [] cubes some no_texts few printable printed read = absurd printed
AllZip-AreRows s (facts ∷ parts) (text ∷ texts) [] some no_texts few printable printed read = absurd read
AllZip-AreRows s (facts ∷ parts) (text ∷ texts) (rows ∷ cubes) some no_texts few printable printed read = (
  AreRows-IsTextOfRows (partial_form s) facts text rows some no_texts few
      (partial_form-CanBePrinted s facts printable.0) printed.0 read.0,
  AllZip-AreRows s parts texts cubes some no_texts few printable.1 printed.1 read.1,
)

-- so what is merged of them is printed
pub IsMergedText-IsPrinted : (s : Layout) (parts : List (List Fact)) (texts : List (List ℕ)) (text : List ℕ)
    → IsSchemaWithoutTexts s → 1 ≤ length parts → AllByRecursion (CanBePrinted s) parts
    → AllZip (IsPrinted (partial_form s)) parts texts → IsMergedText (partial_form s) s texts text
    → IsPrinted s (joined parts) text
IsMergedText-IsPrinted s parts texts text schema some printable printed merged = record {
  rows = merged.rows;
  are_rows = AreMergedOf-AreRows s (partial_aggregates s.aggregates) s.aggregates parts merged.cubes merged.rows some
      (AllZip-AreRows s parts texts merged.cubes schema.schema.some_dimension schema.no_texts schema.schema.few_digits printable printed
      (AllZip-places (IsTextOfRows (partial_form s)) texts merged.cubes [] [] merged.as_many merged.read))
      merged.merged;
  text_is = merged.text_is;
}

pub IsMergedText-partial : (s : Layout) (parts : List (List Fact)) (texts : List (List ℕ)) (text : List ℕ) → IsSchemaWithoutTexts s
    → 1 ≤ length parts → AllByRecursion (CanBePrinted s) parts
    → AllZip (IsPrinted (partial_form s)) parts texts → IsMergedText (partial_form s) (partial_form s) texts text
    → IsPrinted (partial_form s) (joined parts) text
IsMergedText-partial s parts texts text schema some printable printed merged = record {
  rows = merged.rows;
  are_rows = AreMergedOf-AreRows s (partial_aggregates s.aggregates)
      (partial_aggregates s.aggregates) parts merged.cubes merged.rows some
      (AllZip-AreRows s parts texts merged.cubes schema.schema.some_dimension schema.no_texts schema.schema.few_digits printable printed
      (AllZip-places (IsTextOfRows (partial_form s)) texts merged.cubes [] [] merged.as_many merged.read))
      merged.merged;
  text_is = merged.text_is;
}

-- so texts that are merged of the same facts, however these are parted, are the same
pub IsMergedText-unique : (s : Layout) (parts others : List (List Fact)) (texts other_texts : List (List ℕ))
    (text other_text : List ℕ) → IsSchemaWithoutTexts s → 1 ≤ length parts → 1 ≤ length others
    → AllByRecursion (CanBePrinted s) parts → AllByRecursion (CanBePrinted s) others
    → IsPermutation (joined parts) (joined others)
    → AllZip (IsPrinted (partial_form s)) parts texts → AllZip (IsPrinted (partial_form s)) others other_texts
    → IsMergedText (partial_form s) s texts text → IsMergedText (partial_form s) s other_texts other_text
    → text ≡ other_text
IsMergedText-unique s parts others texts other_texts text other_text schema some some_others printable printable_others
    order printed printed_others merged merged_others =
    IsPrinted-unique s (joined others) text other_text
    (IsPrinted-IsPermutation s (joined parts) (joined others) text order
    (IsMergedText-IsPrinted s parts texts text schema some printable printed merged))
    (IsMergedText-IsPrinted s others other_texts other_text schema some_others printable_others printed_others
    merged_others)

-- what a merge of texts wrote is the text of their merged rows
pub IsMergeOf-IsMergedText : (given wanted : Layout) (texts : List (List ℕ)) (old new : List ℕ)
    → IsMergeOf given wanted (map Some texts) (Some old) (Some new)
    → (text : List ℕ) × (new ≡ old ++ text) × IsMergedText given wanted texts text
IsMergeOf-IsMergedText given wanted texts old new merge = (
  text_of_rows wanted merge.rows,
  merge.written,
  record {
    cubes = merge.cubes;
    rows = merge.rows;
    as_many = merge.as_many ∙ length-map texts Some;
    read = λ k below. record {
      text_is = subst (λ o. IfSome o (λ known. known ≡ text_of_rows given (get_or merge.cubes k [])))
          (map-Some texts k below) (merge.read k);
      of_schema = merge.of_schema k;
    };
    merged = record { parts = merge.parts; drawn = merge.drawn; merged = merge.merged };
    text_is = refl;
  },
) where
  map-Some : (ts : List (List ℕ)) (k : ℕ) → k < length ts → get_or (map Some ts) k None ≡ Some (get_or ts k [])
  map-Some [] k below = absurd (omega (arith, below))
  map-Some (t ∷ ts) zero below = refl
  map-Some (t ∷ ts) (suc k) below = map-Some ts k (omega (arith, below))

-- so a merge of printed partial cubes writes the printed cube
pub IsMergeOf-PutsPrinted : (s : Layout) (parts : List (List Fact)) (texts : List (List ℕ)) (old new : List ℕ)
    → IsSchemaWithoutTexts s → 1 ≤ length parts → AllByRecursion (CanBePrinted s) parts
    → AllZip (IsPrinted (partial_form s)) parts texts
    → IsMergeOf (partial_form s) s (map Some texts) (Some old) (Some new) → PutsPrinted s (joined parts) old new
IsMergeOf-PutsPrinted s parts texts old new schema some printable printed merge =
    let wrote = IsMergeOf-IsMergedText (partial_form s) s texts old new merge in
    (wrote.0, wrote.1, IsMergedText-IsPrinted s parts texts wrote.0 schema some printable printed wrote.2)

pub IsMergeOf-PutsPrinted_partial : (s : Layout) (parts : List (List Fact)) (texts : List (List ℕ)) (old new : List ℕ)
    → IsSchemaWithoutTexts s → 1 ≤ length parts → AllByRecursion (CanBePrinted s) parts
    → AllZip (IsPrinted (partial_form s)) parts texts
    → IsMergeOf (partial_form s) (partial_form s) (map Some texts) (Some old) (Some new)
    → PutsPrinted (partial_form s) (joined parts) old new
IsMergeOf-PutsPrinted_partial s parts texts old new schema some printable printed merge =
    let wrote = IsMergeOf-IsMergedText (partial_form s) (partial_form s) texts old new merge in
    (wrote.0, wrote.1, IsMergedText-partial s parts texts wrote.0 schema some printable printed wrote.2)
