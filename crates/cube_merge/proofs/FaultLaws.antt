-- Why a merge can't go on, by the texts of its inputs, and what it leaves written.
use Rattle.std.proofs.Common.{◌≡◌, ◌++◌, ◌<◌, ◌+◌, ◌∷◌, [], ℕ, zero, suc, Bool, true, false, List, Option, Some, None}
use Rattle.std.proofs.Common.{IfSome, Contains, length, map, get_or, take, drop, refl, sym, ap, ◌∙◌, subst, arith}
use Rattle.std.proofs.Common.{length-append, append_assoc, flat_map, option_to_list, inl, inr}
use Rattle.std.specs.Prelude.{◌≢◌, ◌-◌}
use Rattle.std.specs.declared.cmp.Ordering.TheVariants.{Less}
use Rattle.std.specs.List.{AllByRecursion, AllZip}
use Rattle.std.specs.List.Sorted.{IsStrictlySortedBy}
use Rattle.std.specs.Io.KnownBytes.{Appends, Consumes, IsAtEnd}
use Rattle.std.proofs.KnownBytes.{Appends-trans}
use Rattle.std.proofs.Math.Seq.{take-append-add, take-append_seam}
use Rattle.std.proofs.lemmas.Grind.{flat_map-append}
use Rattle.std.proofs.lemmas.List.{append-nil, length-map, map-append}
use Rattle.std.proofs.lemmas.List.Elements.{Contains-append_left, Contains-append_right}
use Rattle.std.proofs.lemmas.Option.{IfSome_then}
use Rattle.cube_core.specs.Cube.{is_total, key_of}
use Rattle.cube_core.specs.Layout.{Layout, number_of_dimensions}
use Rattle.cube_core.specs.Order.{key_cmp}
use Rattle.cube_core.specs.Text.{header_fields, line, row_line, text_of_rows}
use Rattle.cube_core.specs.declared.aggregate.Agg.{Agg}
use Rattle.cube_core.specs.declared.key.Key.{Key}
use Rattle.cube_core.specs.declared.key.Row.{Row}
use Rattle.cube_core.proofs.ListLaws.{AllByRecursion-Contains, AllZip-length, Contains-head}
use Rattle.cube_merge.specs.Faults.{CanMove, ExplainsFault, FailsToJoin, FailsToMake, FailsToMerge, FailsToMove}
use Rattle.cube_merge.specs.Faults.{FailsToMoveAll, FailsToOpen, FailsToOpenAll, FailsToSend, FailsAtFirstLine}
use Rattle.cube_merge.specs.Faults.{FailsToTakeHeader, GoesWrong, HasFault, HasNoHeader, HasRowAt, HasRowBelow}
use Rattle.cube_merge.specs.Faults.{InputsFail, IsFaultAt, IsMetFirst, IsOutOfOrder, IsTooLarge, IsTooLargeAt, SplitsAt}
use Rattle.cube_merge.specs.Faults.{FailsAfter, StepFails, TellsOverflow, WroteFirstRows}
use Rattle.cube_merge.specs.Joint.{rows_of}
use Rattle.cube_merge.specs.Lawful.{IsRightRow}
use Rattle.cube_merge.specs.Merging.{InputView, AreInKeyOrder, AreOfSchema, AreUses, Gave, TookHeader, IsAbove}
use Rattle.cube_merge.specs.Merging.{IsCounted}
use Rattle.cube_merge.specs.Merging.{IsMerging, IsUse, nothing_left, used_rows}
use Rattle.cube_merge.specs.NextLine.{next_line}
use Rattle.cube_merge.specs.Range.{AreInRange, AreTooLarge}
use Rattle.cube_merge.specs.declared.fault.InputFault.{InputFault}
use Rattle.cube_merge.specs.declared.fault.InputFault.TheVariants as why
use Rattle.cube_merge.specs.declared.fault.MergeFault.{MergeFault}
use Rattle.cube_merge.specs.declared.fault.MergeFault.TheVariants.{Memory, Aggregates, Input, Write}
use Rattle.cube_merge.proofs.CubesLaws.{Gave-none, lefts-at, taken-TookHeaders}
use Rattle.cube_merge.proofs.CubesLaws.{taken-header, taken-lines, taken-row}
use Rattle.cube_merge.proofs.FirstLaws.{AreTooLarge-some, BeginsWith-header, CanBeReadTo-first, IsReadNext-read}
use Rattle.cube_merge.proofs.FirstLaws.{IsTooLarge-read, stands-at}
use Rattle.cube_merge.proofs.LineLaws.{next_line-line}
use Rattle.cube_merge.proofs.StepLaws.{AreInKeyOrder-none, AreOfSchema-none, used_rows-key}

rest-of : (rest : List ℕ) (after : Option (List ℕ)) (bs : List ℕ) → Consumes (Some rest) after bs
    → (more : List ℕ) × (rest ≡ bs ++ more)
rest-of rest None bs taken = absurd taken
rest-of rest (Some more) bs taken = (more, taken)

-- the last of two equal lists
last-same : (xs ys : List Row) (x y : Row) → xs ++ x ∷ [] ≡ ys ++ y ∷ [] → x ≡ y
last-same [] [] x y e = ap (λ l. get_or l 0 x) e
last-same [] (b ∷ ys) x y e = absurd (omega (arith, ap length e, length-append ys (y ∷ [])))
last-same (a ∷ xs) [] x y e = absurd (omega (arith, ap length e, length-append xs (x ∷ [])))
last-same (a ∷ xs) (b ∷ ys) x y e = last-same xs ys x y (ap (drop 1) e)

not-none : {X : Type 0} (x : X) → Some x ≡ None → ⊥
not-none x e = cc

AllByRecursion-first : {X : Type 0} (P : X → Type 0) (xs ys : List X) → AllByRecursion P (xs ++ ys)
    → AllByRecursion P xs
AllByRecursion-first P [] ys all = tt
AllByRecursion-first P (x ∷ xs) ys all = (all.0, AllByRecursion-first P xs ys all.1)

sorted-first : (xs ys : List Key) → IsStrictlySortedBy key_cmp (xs ++ ys) → IsStrictlySortedBy key_cmp xs
unfolding IsStrictlySortedBy
sorted-first [] ys sorted = tt
sorted-first (x ∷ xs) ys sorted =
    (AllByRecursion-first (λ y. key_cmp x y ≡ Less) xs ys sorted.0, sorted-first xs ys sorted.1)

module _ (s : Layout) (input : InputView) (rows : List Row) where
  -- the row that comes next isn't above the one before
  order-of : (t rest : List ℕ) (number : ℕ) → HasRowBelow s input → input.left ≡ Some rest
      → SplitsAt s t (rows ++ option_to_list input.row) rest number → IsOutOfOrder s number t
  order-of t rest number low is stands = by_row input.row refl where
    by_row : (o : Option Row) → input.row ≡ o → IsOutOfOrder s number t
    by_row None e = absurd (subst (λ (o : Option Row). IsAbove o low.row → ⊥) e low.below tt)
    by_row (Some before) e =
        let after =
        rest-of rest low.left (row_line s low.row) (subst (λ o. Consumes o low.left (row_line s low.row)) is low.taken) in
        record {
          rows = rows;
          before = before;
          row = low.row;
          rest = after.0;
          stands = subst (λ r. SplitsAt s t (rows ++ before ∷ []) r number) after.1
              (subst (λ o. SplitsAt s t (rows ++ option_to_list o) rest number) e stands);
          of_schema = low.of_schema;
          below = subst (λ (o : Option Row). IsAbove o low.row → ⊥) e low.below;
        }

  -- the last row isn't the grand total
  ends-without : IfSome input.row (λ row. is_total (number_of_dimensions s) row.key ≡ false)
      → (input.row ≡ None → rows ≡ [])
      → (before : List Row) (last : Row) → rows ++ option_to_list input.row ≡ before ++ last ∷ []
      → is_total (number_of_dimensions s) last.key ≡ false
  ends-without other first before last is = by_row input.row refl other is where
    by_row : (o : Option Row) → input.row ≡ o
        → IfSome o (λ (row : Row). is_total (number_of_dimensions s) row.key ≡ false)
        → rows ++ option_to_list o ≡ before ++ last ∷ [] → is_total (number_of_dimensions s) last.key ≡ false
    by_row None e other is =
        let none : rows ++ [] ≡ before ++ last ∷ [] = is in
        absurd (omega (arith, ap length none, length-append before (last ∷ []), ap length (append-nil rows ∙ first e)))
    by_row (Some row) e other is =
        ap (λ (r : Row). is_total (number_of_dimensions s) r.key) (sym (last-same rows before row last is)) ∙ other

  module _ (text start : Option (List ℕ)) (head : Consumes text start (line (header_fields s)))
      (gave : Gave s start input rows) (are : AreOfSchema s input rows) (sorted : AreInKeyOrder input rows) where
    -- an input that can't take its next line, by its text
    pub explains-move : (fault : InputFault) (number : ℕ) → input.lines ≡ length (rows ++ option_to_list input.row) + 1
        → (input.row ≡ None → rows ≡ []) → HasFault s input fault number
        → IfSome text (ExplainsFault s fault number)
    explains-move why.Memory number lines first fails = absurd fails
    explains-move why.Header number lines first fails = absurd fails
    explains-move why.Overflow number lines first fails = absurd fails
    explains-move why.Read number lines first fails =
        IfSome_then text (stands-at s text start input.left
        (rows ++ option_to_list input.row) number head gave are sorted (omega (arith, lines, fails)))
        (λ t at. inr (record { rows = rows ++ option_to_list input.row; rest = at.0; stands = at.2 }))
    explains-move why.Line number lines first fails =
        IfSome_then text (stands-at s text start input.left
        (rows ++ option_to_list input.row) number head gave are sorted (omega (arith, lines, fails.0)))
        (λ t at. record {
          rows = rows ++ option_to_list input.row;
          rest = at.0;
          stands = at.2;
          some = subst (λ o. IfSome o (λ (l : List ℕ). l ≢ [])) at.1 fails.1;
        })
    explains-move why.Order number lines first fails =
        IfSome_then text (stands-at s text start input.left
        (rows ++ option_to_list input.row) number head gave are sorted (omega (arith, lines, fails.0)))
        (λ t at. order-of t at.0 number fails.1 at.1 at.2)
    explains-move why.Incomplete number lines first fails =
        IfSome_then text (stands-at s text start input.left
        (rows ++ option_to_list input.row) number head gave are sorted (omega (arith, lines, fails.0)))
        (λ t at. record {
          rows = rows ++ option_to_list input.row;
          stands = subst (λ r. SplitsAt s t (rows ++ option_to_list input.row) r number)
              (subst IsAtEnd at.1 fails.1.at_end) at.2;
          kept = fails.1.kept;
          last = ends-without fails.1.last first;
        })

    -- the row that an input has stands in its text
    row-at : (row : Row) (number : ℕ) → input.row ≡ Some row → number ≡ length rows + 2
        → IfSome text (HasRowAt s number)
    row-at row number is counted =
        let header = line (header_fields s) in
        let lines = flat_map (row_line s) rows in
        let all : flat_map (row_line s) (rows ++ option_to_list input.row) ≡ lines ++ row_line s row
        = ap (λ o. flat_map (row_line s) (rows ++ option_to_list o)) is ∙ flat_map-append (row_line s) rows (row ∷ [])
        ∙ ap (λ t. lines ++ t) (append-nil (row_line s row)) in
        IfSome_then text (stands-at s text start input.left (rows ++ option_to_list input.row)
        (length (rows ++ option_to_list input.row) + 2) head gave are sorted refl)
        (λ t at. record {
          rows = rows;
          row = row;
          rest = at.0;
          stands = record {
            text_is = at.2.text_is ∙ ap (λ l. (header ++ l) ++ at.0) all
                ∙ ap (λ l. l ++ at.0) (sym (append_assoc header lines (row_line s row)))
                ∙ append_assoc (header ++ lines) (row_line s row) at.0;
            of_schema = AllByRecursion-first (IsRightRow s) rows (option_to_list input.row) are;
            ordered = sorted-first (map key_of rows) (map key_of (option_to_list input.row))
                (subst (IsStrictlySortedBy key_cmp) (map-append key_of rows (option_to_list input.row)) sorted);
            number_is = counted;
          };
        })

    -- an input with a row that can't go on, by its text
    pub explains-row : (row : Row) (fault : InputFault) (number : ℕ) → input.row ≡ Some row → IsCounted input rows
        → GoesWrong s input fault number → IfSome text (ExplainsFault s fault number)
    explains-row row fault number is counted wrong = by_fault fault wrong where
      lines_is : input.lines ≡ length rows + 2
      lines_is = subst (λ o. IfSome o (λ (_ : Row). input.lines ≡ length rows + 2)) is counted

      all_lines : input.lines ≡ length (rows ++ option_to_list input.row) + 1
      all_lines =
          let long : length (rows ++ option_to_list input.row) ≡ length rows + length (row ∷ []) =
          ap (λ o. length (rows ++ option_to_list o)) is ∙ length-append rows (row ∷ []) in
          omega (arith, long, lines_is)

      first : input.row ≡ None → rows ≡ []
      first none = absurd (not-none row (sym is ∙ none))

      by_fault : (f : InputFault) → GoesWrong s input f number → IfSome text (ExplainsFault s f number)
      by_fault why.Memory w = absurd w
      by_fault why.Read w = explains-move why.Read number all_lines first w
      by_fault why.Header w = absurd w
      by_fault why.Line w = explains-move why.Line number all_lines first w
      by_fault why.Order w = explains-move why.Order number all_lines first w
      by_fault why.Overflow w = row-at row number is (w ∙ lines_is)
      by_fault why.Incomplete w = explains-move why.Incomplete number all_lines first w

-- the fault of an input that couldn't move on, as a merge tells it
pub HasFault-told : (s : Layout) (used : List Bool) (inputs : List InputView) (fault : InputFault) (place number : ℕ)
    (told : MergeFault) → IsFaultAt fault place number told → place < length inputs → get_or used place false ≡ true
    → FailsToMove s (get_or inputs place nothing_left) fault number
    → ((k : ℕ) → k < place → CanMove s (get_or used k false) (get_or inputs k nothing_left))
    → FailsToMoveAll s used inputs told
HasFault-told s used inputs fault place number Memory is inside used_is fails before = tt
HasFault-told s used inputs fault place number Aggregates is inside used_is fails before = absurd is
HasFault-told s used inputs fault place number (Write sent) is inside used_is fails before = absurd is
HasFault-told s used inputs fault place number (Input told input at) is inside used_is fails before = record {
  place = place;
  input_is = is.1;
  inside = inside;
  used_is = used_is;
  has_fault = subst (λ f. HasFault s (get_or inputs place nothing_left) f at) (sym is.0)
      (subst (HasFault s (get_or inputs place nothing_left) fault) (sym is.2) (other fault is.3 fails));
  before = before;
} where
  other : (f : InputFault) → f ≢ why.Memory → FailsToMove s (get_or inputs place nothing_left) f number
      → HasFault s (get_or inputs place nothing_left) f number
  other why.Memory kept h = absurd (kept refl)
  other why.Read kept h = h
  other why.Header kept h = h
  other why.Line kept h = h
  other why.Order kept h = h
  other why.Overflow kept h = h
  other why.Incomplete kept h = h

-- the same of the first lines
pub FailsAtFirstLine-moves : (s : Layout) (used : List Bool) (inputs : List InputView) (fault : MergeFault)
    → ((k : ℕ) → k < length inputs → get_or used k false ≡ true) → FailsToMoveAll s used inputs fault
    → FailsAtFirstLine s inputs fault
FailsAtFirstLine-moves s used inputs Memory all_used fails = tt
FailsAtFirstLine-moves s used inputs Aggregates all_used fails = absurd fails
FailsAtFirstLine-moves s used inputs (Input fault input number) all_used fails =
    record { used = used; all_used = all_used; at = fails }
FailsAtFirstLine-moves s used inputs (Write sent) all_used fails = absurd fails

-- the same of the lines behind those that were used
pub StepFails-moves : (s : Layout) (used : List Bool) (inputs : List InputView) (key : Key) (fault : MergeFault)
    → length used ≡ length inputs → AreUses key used inputs → 0 < length (used_rows used inputs)
    → AreInRange s.aggregates (used_rows used inputs) → FailsToMoveAll s used inputs fault → StepFails s inputs fault
StepFails-moves s used inputs key Memory wide uses some fit fails = tt
StepFails-moves s used inputs key Aggregates wide uses some fit fails = absurd fails
StepFails-moves s used inputs key (Write sent) wide uses some fit fails = absurd fails
StepFails-moves s used inputs key (Input fault input number) wide uses some fit fails =
    let is_use = subst (λ u. IsUse key u (get_or inputs fails.place nothing_left)) fails.used_is (uses fails.place) in
    record {
      key = key;
      used = used;
      wide = wide;
      uses = uses;
      some = some;
      place = fails.place;
      row = is_use.0;
      input_is = fails.input_is;
      inside = fails.inside;
      row_is = is_use.1;
      key_is = is_use.2;
      goes_wrong = wrong fault fails.has_fault;
      too_large =
          λ is. absurd (subst (λ f. HasFault s (get_or inputs fails.place nothing_left) f number) is fails.has_fault);
      came = λ _. record { fit = fit; before = fails.before };
    } where
      wrong : (f : InputFault) → HasFault s (get_or inputs fails.place nothing_left) f number
          → GoesWrong s (get_or inputs fails.place nothing_left) f number
      wrong why.Memory h = absurd h
      wrong why.Read h = h
      wrong why.Header h = absurd h
      wrong why.Line h = h
      wrong why.Order h = h
      wrong why.Overflow h = absurd h
      wrong why.Incomplete h = h

-- the row of one of these places
pub rows_of-among : (inputs : List InputView) (places : List ℕ) (k : ℕ) (row : Row) → k < length places
    → (get_or inputs (get_or places k 0) nothing_left).row ≡ Some row → Contains (rows_of inputs places) row
rows_of-among inputs [] k row inside is = absurd (omega (arith, inside))
rows_of-among inputs (p ∷ ps) zero row inside is =
    Contains-append_left (option_to_list (get_or inputs p nothing_left).row) (rows_of inputs ps) row
    (subst (λ o. Contains (option_to_list o) row) (sym is) (Contains-head row []))
rows_of-among inputs (p ∷ ps) (suc k) row inside is =
    Contains-append_right (option_to_list (get_or inputs p nothing_left).row) (rows_of inputs ps) row
    (rows_of-among inputs ps k row (omega (arith, inside)) is)

-- a count, a sum or a sum of squares that is too large, as a merge tells it
pub TellsOverflow-told : (inputs : List InputView) (rows : List Row) (place number : ℕ) (row : Row) (told : MergeFault)
    → IsFaultAt why.Overflow place number told → place < length inputs
    → (get_or inputs place nothing_left).row ≡ Some row → Contains rows row
    → number ≡ (get_or inputs place nothing_left).lines → TellsOverflow inputs rows told
TellsOverflow-told inputs rows place number row Memory is inside row_is among lines = tt
TellsOverflow-told inputs rows place number row Aggregates is inside row_is among lines = absurd is
TellsOverflow-told inputs rows place number row (Write sent) is inside row_is among lines = absurd is
TellsOverflow-told inputs rows place number row (Input told input at) is inside row_is among lines = record {
  place = place;
  row = row;
  fault_is = is.0;
  input_is = is.1;
  inside = inside;
  row_is = row_is;
  among = among;
  number_is = is.2 ∙ lines;
}

pub FailsToMake-told : (given : List Agg) (inputs : List InputView) (places : List ℕ) (told : MergeFault)
    → TellsOverflow inputs (rows_of inputs places) told → AreTooLarge given (rows_of inputs places)
    → FailsToMake given inputs places told
FailsToMake-told given inputs places Memory tells large = tt
FailsToMake-told given inputs places Aggregates tells large = absurd tells
FailsToMake-told given inputs places (Write sent) tells large = absurd tells
FailsToMake-told given inputs places (Input fault input number) tells large = (tells, large)

pub FailsToJoin-made : (given : List Agg) (inputs : List InputView) (key : Key) (used : List Bool) (places : List ℕ)
    (told : MergeFault) → length used ≡ length inputs → AreUses key used inputs
    → rows_of inputs places ≡ used_rows used inputs → FailsToMake given inputs places told
    → FailsToJoin given inputs told
FailsToJoin-made given inputs key used places Memory wide uses rows fails = tt
FailsToJoin-made given inputs key used places Aggregates wide uses rows fails = absurd fails
FailsToJoin-made given inputs key used places (Write sent) wide uses rows fails = absurd fails
FailsToJoin-made given inputs key used places (Input fault input number) wide uses rows fails = record {
  key = key;
  used = used;
  wide = wide;
  uses = uses;
  at = subst (λ rs. IsTooLargeAt inputs rs fault input number) rows fails.0;
  too_large = subst (AreTooLarge given) rows fails.1;
}

pub StepFails-join : (s : Layout) (inputs : List InputView) (fault : MergeFault) → FailsToJoin s.aggregates inputs fault
    → StepFails s inputs fault
StepFails-join s inputs Memory fails = tt
StepFails-join s inputs Aggregates fails = absurd fails
StepFails-join s inputs (Write sent) fails = absurd fails
StepFails-join s inputs (Input fault input number) fails =
    let at = fails.at in
    record {
      key = fails.key;
      used = fails.used;
      wide = fails.wide;
      uses = fails.uses;
      some = AreTooLarge-some s.aggregates (used_rows fails.used inputs) fails.too_large;
      place = at.place;
      row = at.row;
      input_is = at.input_is;
      inside = at.inside;
      row_is = at.row_is;
      key_is = AllByRecursion-Contains (λ (row : Row). row.key ≡ fails.key) (used_rows fails.used inputs) at.row
          (used_rows-key fails.key fails.used inputs fails.wide fails.uses) at.among;
      goes_wrong =
          subst (λ f. GoesWrong s (get_or inputs at.place nothing_left) f number) (sym at.fault_is) at.number_is;
      too_large = λ _. fails.too_large;
      came = λ other. absurd (other at.fault_is);
    }

-- a header that couldn't be taken, as a merge tells it
pub FailsToOpen-told : (header : List ℕ) (place : ℕ) (text : Option (List ℕ)) (fault : InputFault) (told : MergeFault)
    → IsFaultAt fault place 1 told → FailsToTakeHeader header text fault → FailsToOpen header place text told
FailsToOpen-told header place text fault Memory is fails = tt
FailsToOpen-told header place text fault Aggregates is fails = absurd is
FailsToOpen-told header place text fault (Write sent) is fails = absurd is
FailsToOpen-told header place text fault (Input told input at) is fails = (
  is.1,
  subst (λ f. HasNoHeader header text f at) (sym is.0)
      (subst (HasNoHeader header text fault) (sym is.2) (other fault is.3 fails)),
) where
  other : (f : InputFault) → f ≢ why.Memory → FailsToTakeHeader header text f → HasNoHeader header text f 1
  other why.Memory kept h = absurd (kept refl)
  other why.Read kept h = h
  other why.Header kept h = h
  other why.Line kept h = h
  other why.Order kept h = h
  other why.Overflow kept h = h
  other why.Incomplete kept h = h

map-at : {X Y : Type 0} (f : X → Y) (d : Y) (xs : List X) (k : ℕ) (x : X) → k < length xs → x ≡ get_or xs k x
    → get_or (map f xs) k d ≡ f x
map-at f d [] k x inside is = absurd (omega (arith, inside))
map-at f d (y ∷ xs) zero x inside is = ap f (sym is)
map-at f d (y ∷ xs) (suc k) x inside is = map-at f d xs k x (omega (arith, inside)) is

-- the same of one of many readers
pub FailsToOpenAll-at : {R : Type 0} (remaining : R → Option (List ℕ)) (header : List ℕ) (readers : List R) (place : ℕ)
    (reader : R) (fault : MergeFault) → place < length readers → reader ≡ get_or readers place reader
    → ((k : ℕ) → k < place
    → (left : Option (List ℕ)) × Consumes (get_or (map remaining readers) k None) left header)
    → FailsToOpen header place (remaining reader) fault → FailsToOpenAll header (map remaining readers) fault
FailsToOpenAll-at remaining header readers place reader Memory inside is before fails = tt
FailsToOpenAll-at remaining header readers place reader Aggregates inside is before fails = absurd fails
FailsToOpenAll-at remaining header readers place reader (Write sent) inside is before fails = absurd fails
FailsToOpenAll-at remaining header readers place reader (Input fault input number) inside is before fails = record {
  place = place;
  input_is = fails.0;
  inside = omega (arith, inside, length-map readers remaining);
  no_header = subst (λ t. HasNoHeader header t fault number)
      (sym (map-at remaining None readers place reader inside is)) fails.1;
  before = before;
}

-- the first readers of many, which were opened
first-same : {X Y : Type 0} (f : X → Y) (d : Y) (xs all : List X) (k : ℕ) → map (λ x. x) xs ≡ take (length xs) all
    → k < length xs → get_or (map f xs) k d ≡ get_or (map f all) k d
first-same f d [] all k same inside = absurd (omega (arith, inside))
first-same f d (x ∷ xs) [] k same inside = absurd (omega (arith, ap length same))
first-same f d (x ∷ xs) (y ∷ all) zero same inside = ap f (ap (λ l. get_or l 0 x) same)
first-same f d (x ∷ xs) (y ∷ all) (suc k) same inside =
    first-same f d xs all k (ap (drop 1) same) (omega (arith, inside))

pub opened-headers : {R : Type 0} (remaining : R → Option (List ℕ)) (header : List ℕ) (readers opened : List R)
    (inputs : List InputView) → map (λ r. r) opened ≡ take (length opened) readers
    → AllZip (TookHeader remaining header) opened inputs → (k : ℕ) → k < length opened
    → (left : Option (List ℕ)) × Consumes (get_or (map remaining readers) k None) left header
opened-headers remaining header readers opened inputs same taken k inside = (
  get_or (map (λ (i : InputView). i.left) inputs) k None,
  subst (λ text. Consumes text (get_or (map (λ (i : InputView). i.left) inputs) k None) header)
      (first-same remaining None opened readers k same inside)
      (taken-header remaining header opened inputs taken k),
)

-- a merge that sent the first bytes of the text of its rows, and has the others yet
module _ (given wanted : Layout) (starts : List (Option (List ℕ))) (count : ℕ) (inputs : List InputView)
    (rows : List Row) (sent waits : List ℕ)
    (as_many : length inputs ≡ count) (merging : IsMerging given wanted.aggregates starts inputs rows)
    (all : sent ++ waits ≡ text_of_rows wanted rows) where
  -- it can't go on
  pub Stops-waiting : (fault : MergeFault) (old new : Option (List ℕ)) → Appends old new sent
      → StepFails given inputs fault → FailsAfter given wanted starts count fault old new
  Stops-waiting Aggregates old new written fails = absurd fails
  Stops-waiting (Write total) old new written fails = absurd fails
  Stops-waiting Memory old new written fails = record {
    inputs = inputs;
    rows = rows;
    sent = length sent;
    as_many = as_many;
    merging = merging;
    within = omega (arith, ap length all, length-append sent waits);
    written = subst (Appends old new) (sym (ap (take (length sent)) (sym all) ∙ take-append_seam sent waits)) written;
    why = tt;
  }
  Stops-waiting (Input fault input number) old new written fails = record {
    inputs = inputs;
    rows = rows;
    sent = length sent;
    as_many = as_many;
    merging = merging;
    within = omega (arith, ap length all, length-append sent waits);
    written = subst (Appends old new) (sym (ap (take (length sent)) (sym all) ∙ take-append_seam sent waits)) written;
    why = fails;
  }

  -- it can't send what waits
  pub Stops-sending : (fault : MergeFault) (old mid new : Option (List ℕ)) → Appends old mid sent
      → FailsToSend waits (length sent) fault mid new → FailsAfter given wanted starts count fault old new
  Stops-sending Aggregates old mid new written fails = absurd fails
  Stops-sending (Input fault input number) old mid new written fails = absurd fails
  Stops-sending Memory old mid new written fails =
      Stops-waiting Memory old new (subst (λ t. Appends old t sent) (sym fails) written) tt
  Stops-sending (Write total) old mid new written fails = record {
    inputs = inputs;
    rows = rows;
    sent = length sent + fails.0;
    as_many = as_many;
    merging = merging;
    within = omega (arith, ap length all, length-append sent waits, fails.1);
    written =
        subst (Appends old new) (sym (ap (take (length sent + fails.0)) (sym all) ∙ take-append-add sent waits fails.0))
        (Appends-trans old mid new sent (take fails.0 waits) written fails.3);
    why = fails.2;
  }

-- the number of the line that is read next
fault-number : (s : Layout) (input : InputView) (fault : InputFault) (number : ℕ) → HasFault s input fault number
    → number ≡ input.lines + 1
fault-number s input why.Memory number h = absurd h
fault-number s input why.Read number h = h
fault-number s input why.Header number h = absurd h
fault-number s input why.Line number h = h.0
fault-number s input why.Order number h = h.0
fault-number s input why.Overflow number h = absurd h
fault-number s input why.Incomplete number h = h.0

next-number : (s : Layout) (input : InputView) (fault : InputFault) (number : ℕ) → fault ≢ why.Overflow
    → GoesWrong s input fault number → number ≡ input.lines + 1
next-number s input why.Memory number other h = absurd h
next-number s input why.Read number other h = h
next-number s input why.Header number other h = absurd h
next-number s input why.Line number other h = h.0
next-number s input why.Order number other h = h.0
next-number s input why.Overflow number other h = absurd (other refl)
next-number s input why.Incomplete number other h = h.0

header-number : (header : List ℕ) (text : Option (List ℕ)) (fault : InputFault) (number : ℕ)
    → HasNoHeader header text fault number → number ≡ 1
header-number header text why.Memory number h = absurd h
header-number header text why.Read number h = h
header-number header text why.Header number h = h.0
header-number header text why.Line number h = absurd h
header-number header text why.Order number h = absurd h
header-number header text why.Overflow number h = absurd h
header-number header text why.Incomplete number h = absurd h

-- what a merge of readers that failed leaves
module _ {R : Type 0} (remaining : R → Option (List ℕ)) (given wanted : Layout) (readers : List R) where
  as-many : (inputs : List InputView) → AllZip (TookHeader remaining (line (header_fields given))) readers inputs
      → length inputs ≡ length (map remaining readers)
  as-many inputs taken = sym (AllZip-length (TookHeader remaining (line (header_fields given))) readers inputs taken)
      ∙ sym (length-map readers remaining)

  module _ (inputs : List InputView) (taken : AllZip (TookHeader remaining (line (header_fields given))) readers inputs)
      (old new : Option (List ℕ)) where
    wrote : (fault : MergeFault)
        (stops : FailsAfter given wanted (map (λ (i : InputView). i.left) inputs) (length inputs) fault old new)
        → WroteFirstRows given wanted (map remaining readers) stops.sent old new
    wrote fault stops = record {
      starts = map (λ (i : InputView). i.left) inputs;
      inputs = stops.inputs;
      rows = stops.rows;
      as_many = stops.as_many ∙ as-many inputs taken;
      headed = taken-header remaining (line (header_fields given)) readers inputs taken;
      merging = stops.merging;
      within = stops.within;
      written = stops.written;
    }

    -- it stopped once the merging had begun
    pub FailsToMerge-stops : (fault : MergeFault)
        → FailsAfter given wanted (map (λ (i : InputView). i.left) inputs) (length inputs) fault old new
        → FailsToMerge given wanted (map remaining readers) fault old new
    FailsToMerge-stops Memory stops = inr (stops.sent, wrote Memory stops)
    FailsToMerge-stops Aggregates stops = absurd stops.why
    FailsToMerge-stops (Write total) stops = subst (λ n. WroteFirstRows given wanted (map remaining readers) n old new)
        (sym stops.why) (wrote (Write total) stops)
    FailsToMerge-stops (Input fault input number) stops =
        let at = stops.why in
        let place_is : input - 1 ≡ at.place = omega (arith, at.input_is) in (
          inr (stops.sent, wrote (Input fault input number) stops),
          record {
            from_one = omega (arith, at.input_is);
            within = omega (arith, at.input_is, at.inside, stops.as_many, as-many inputs taken);
            explains = subst (λ k. IfSome (get_or (map remaining readers) k None) (ExplainsFault given fault number))
                (sym place_is)
                (explains-row given (get_or stops.inputs at.place nothing_left) (get_or stops.merging.cubes at.place [])
                (get_or (map remaining readers) at.place None)
                (get_or (map (λ (i : InputView). i.left) inputs) at.place None)
                (taken-header remaining (line (header_fields given)) readers inputs taken at.place)
                (stops.merging.gave at.place) (stops.merging.of_schema at.place) (stops.merging.ordered at.place)
                at.row fault number at.row_is (stops.merging.counted at.place) at.goes_wrong);
            too_large = λ is. subst (λ k. IsTooLarge given (map remaining readers) k number) (sym place_is)
                (IsTooLarge-read given wanted.aggregates (map remaining readers)
                (map (λ (i : InputView). i.left) inputs) stops.inputs stops.rows (stops.as_many ∙ as-many inputs taken)
                (taken-header remaining (line (header_fields given)) readers inputs taken) stops.merging at.key at.used
                at.wide at.uses at.some at.place at.row at.row_is at.key_is number
                (subst (λ f. GoesWrong given (get_or stops.inputs at.place nothing_left) f number) is at.goes_wrong)
                (at.too_large is));
            first = λ other. subst (λ k. IsMetFirst given (map remaining readers) k number) (sym place_is)
                (inr (inr (IsReadNext-read given wanted.aggregates (map remaining readers)
                (map (λ (i : InputView). i.left) inputs) stops.inputs stops.rows (stops.as_many ∙ as-many inputs taken)
                (taken-header remaining (line (header_fields given)) readers inputs taken) stops.merging at.key at.used
                at.wide at.uses at.some at.place at.row at.row_is at.key_is number
                (next-number given (get_or stops.inputs at.place nothing_left) fault number other at.goes_wrong)
                at.inside (at.came other))));
          },
        )

    -- it couldn't begin
    pub FailsToMerge-start : (fault : MergeFault) → new ≡ old → FailsAtFirstLine given inputs fault
        → FailsToMerge given wanted (map remaining readers) fault old new
    FailsToMerge-start Memory same fails = inl same
    FailsToMerge-start Aggregates same fails = absurd fails
    FailsToMerge-start (Write total) same fails = absurd fails
    FailsToMerge-start (Input fault input number) same fails =
        let at = fails.at in
        let header = line (header_fields given) in
        let there = get_or inputs at.place nothing_left in
        let start = get_or (map (λ (i : InputView). i.left) inputs) at.place None in
        let none = taken-row remaining header readers inputs taken at.place in
        let place_is : input - 1 ≡ at.place = omega (arith, at.input_is) in
        let lines_is : there.lines ≡ length ([] ++ option_to_list there.row) + 1 =
        taken-lines remaining header readers inputs taken at.place
        ∙ sym (ap (λ o. length ([] ++ option_to_list o) + 1) none) in (
          inl same,
          record {
            from_one = omega (arith, at.input_is);
            within = omega (arith, at.input_is, at.inside, as-many inputs taken);
            explains = subst (λ k. IfSome (get_or (map remaining readers) k None) (ExplainsFault given fault number))
                (sym place_is)
                (explains-move given there [] (get_or (map remaining readers) at.place None) start
                (taken-header remaining header readers inputs taken at.place)
                (Gave-none given start there (lefts-at inputs at.place) none) (AreOfSchema-none given there none)
                (AreInKeyOrder-none there none) fault number lines_is (λ _. refl) at.has_fault);
            too_large = λ is. absurd (subst (λ f. HasFault given there f number) is at.has_fault);
            first = λ _. subst (λ k. IsMetFirst given (map remaining readers) k number) (sym place_is)
                (inr (inl (record {
                  number_is = fault-number given there fault number at.has_fault
                      ∙ ap (λ n. n + 1) (taken-lines remaining header readers inputs taken at.place);
                  headers = λ k inside. BeginsWith-header given (get_or (map remaining readers) k None)
                      (get_or (map (λ (i : InputView). i.left) inputs) k None)
                      (taken-header remaining header readers inputs taken k);
                  others = λ k before. CanBeReadTo-first given (get_or (map remaining readers) k None)
                      (get_or (map (λ (i : InputView). i.left) inputs) k None) (get_or inputs k nothing_left)
                      (taken-header remaining header readers inputs taken k) (lefts-at inputs k)
                      (taken-row remaining header readers inputs taken k)
                      (subst (λ u. CanMove given u (get_or inputs k nothing_left))
                      (fails.all_used k (omega (arith, before, at.inside))) (at.before k before));
                })));
          },
        )

    -- either of the two
    pub FailsToMerge-inputs : (fault : MergeFault) → InputsFail given wanted inputs fault old new
        → FailsToMerge given wanted (map remaining readers) fault old new
    FailsToMerge-inputs fault fails = elim (fails (map (λ (i : InputView). i.left) inputs)
        (taken-TookHeaders remaining (line (header_fields given)) readers inputs taken)) [
          | inl start ↦ FailsToMerge-start fault start.0 start.1
          | inr stops ↦ FailsToMerge-stops fault stops
        ]

  -- an input couldn't be opened
  no-header : (text : Option (List ℕ)) (fault : InputFault) (number : ℕ)
      → HasNoHeader (line (header_fields given)) text fault number → IfSome text (ExplainsFault given fault number)
  no-header None fault number fails = tt
  no-header (Some t) why.Memory number fails = absurd fails
  no-header (Some t) why.Read number fails = inl fails
  no-header (Some t) why.Header number fails =
      (fails.0, λ rest is. fails.1 (ap next_line is ∙ next_line-line (header_fields given) rest))
  no-header (Some t) why.Line number fails = absurd fails
  no-header (Some t) why.Order number fails = absurd fails
  no-header (Some t) why.Overflow number fails = absurd fails
  no-header (Some t) why.Incomplete number fails = absurd fails

  pub FailsToMerge-open : (fault : MergeFault) (old new : Option (List ℕ)) → new ≡ old
      → FailsToOpenAll (line (header_fields given)) (map remaining readers) fault
      → FailsToMerge given wanted (map remaining readers) fault old new
  FailsToMerge-open Memory old new same fails = inl same
  FailsToMerge-open Aggregates old new same fails = absurd fails
  FailsToMerge-open (Write total) old new same fails = absurd fails
  FailsToMerge-open (Input fault input number) old new same fails =
      let place_is : input - 1 ≡ fails.place = omega (arith, fails.input_is) in (
        inl same,
        record {
          from_one = omega (arith, fails.input_is);
          within = omega (arith, fails.input_is, fails.inside);
          explains = subst (λ k. IfSome (get_or (map remaining readers) k None) (ExplainsFault given fault number))
              (sym place_is) (no-header (get_or (map remaining readers) fails.place None) fault number fails.no_header);
          too_large = λ is. absurd (subst
              (λ f. HasNoHeader (line (header_fields given)) (get_or (map remaining readers) fails.place None) f number)
              is fails.no_header);
          first = λ _. subst (λ k. IsMetFirst given (map remaining readers) k number) (sym place_is)
              (inl (record {
                number_is = header-number (line (header_fields given)) (get_or (map remaining readers) fails.place None)
                    fault number fails.no_header;
                others = λ k before.
                    let taken = fails.before k before in
                    BeginsWith-header given (get_or (map remaining readers) k None) taken.0 taken.1;
              }));
        },
      )
