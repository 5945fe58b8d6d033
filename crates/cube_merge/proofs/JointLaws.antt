-- Whose rows are joined, and what is made of them.
use Rattle.std.proofs.Common.{◌≡◌, ◌++◌, ◌+◌, ◌<◌, ◌≤◌, ◌∷◌, [], ℕ, zero, suc, Bool, true, false, List, Some, None}
use Rattle.std.proofs.Common.{length, get_or, take, refl, sym, ap, ◌∙◌, subst, arith, inl, inr, is_eq, option_to_list}
use Rattle.std.proofs.Common.{drop, length-append, slice_get}
use Rattle.std.proofs.lemmas.Bool.{cases_eq}
use Rattle.std.proofs.lemmas.Grind.{flat_map-append}
use Rattle.std.proofs.lemmas.Option.{get_or_from_slice_get}
use Rattle.std.proofs.lemmas.List.{append-nil, length-take-le, map-append, take-append-drop, take_more}
use Rattle.cube_core.specs.Merged.{MakesAnswer, column, values_among, values_answered}
use Rattle.cube_core.specs.Order.{key_cmp}
use Rattle.cube_core.specs.declared.aggregate.Agg.{Agg}
use Rattle.cube_core.specs.declared.aggregate.Answer.{Answer}
use Rattle.cube_core.specs.declared.aggregate.Answer.TheVariants as answer
use Rattle.cube_core.specs.declared.key.Key.{Key}
use Rattle.cube_core.specs.declared.key.Row.{Row}
use Rattle.cube_merge.specs.Joint.{HasRow, HaveRows, place_where, rows_of}
use Rattle.cube_merge.specs.Made.{AreMadeOfRows}
use Rattle.cube_merge.specs.Merging.{InputView, IsNotBelow, IsUse, nothing_left, used_row, used_rows}
use Rattle.cube_merge.specs.Range.{AreInRange, AreTooLarge, IsInRange}
use Rattle.cube_merge.proofs.LeastLaws.{IsUse-other, IsUse-same, at_place}
use Rattle.cube_merge.proofs.StepLaws.{used_rows-push}

-- whether an input's row has the key, by a comparison
pub IsUse-by : (key : Key) (input : InputView) (row : Row) (b : Bool) → input.row ≡ Some row → IsNotBelow key input
    → b ≡ is_eq (key_cmp row.key key) → IsUse key b input
IsUse-by key input row true is above e = IsUse-same key input row is (sym e)
IsUse-by key input row false is above e = IsUse-other key input row is above (sym e)

one-row : (inputs : List InputView) (place : ℕ)
    → rows_of inputs (place ∷ []) ≡ option_to_list (get_or inputs place nothing_left).row
one-row inputs place = append-nil (option_to_list (get_or inputs place nothing_left).row)

-- the answers of the row of one more input
pub column-more : (at : ℕ) (inputs : List InputView) (places : List ℕ) (i : ℕ) → i < length places
    → column at (rows_of inputs (take (i + 1) places)) ≡ column at (rows_of inputs (take i places))
    ++ column at (option_to_list (get_or inputs (get_or places i 0) nothing_left).row)
column-more at inputs places i inside =
    ap (λ ps. column at (rows_of inputs ps)) (take_more places i 0 inside)
    ∙ ap (column at)
    (flat_map-append (λ p. option_to_list (get_or inputs p nothing_left).row) (take i places) (get_or places i 0 ∷ [])
    ∙ ap (λ t. rows_of inputs (take i places) ++ t) (one-row inputs (get_or places i 0)))
    ∙ map-append (λ (r : Row). get_or r.answers at answer.Null) (rows_of inputs (take i places))
    (option_to_list (get_or inputs (get_or places i 0) nothing_left).row)

-- the values that the answers of one more input list
pub values-more : (at : ℕ) (inputs : List InputView) (places : List ℕ) (i : ℕ) → i < length places
    → values_among (column at (rows_of inputs (take (i + 1) places)))
    ≡ values_among (column at (rows_of inputs (take i places)))
    ++ values_among (column at (option_to_list (get_or inputs (get_or places i 0) nothing_left).row))
values-more at inputs places i inside =
    ap values_among (column-more at inputs places i inside)
    ∙ flat_map-append values_answered (column at (rows_of inputs (take i places)))
    (column at (option_to_list (get_or inputs (get_or places i 0) nothing_left).row))

-- those of the first inputs are no more than those of all
pub values-within : (at : ℕ) (inputs : List InputView) (places : List ℕ) (i : ℕ)
    → length (values_among (column at (rows_of inputs (take i places))))
    ≤ length (values_among (column at (rows_of inputs places)))
values-within at inputs places i = omega (
  arith,
  length-append (values_among (column at (rows_of inputs (take i places))))
      (values_among (column at (rows_of inputs (drop i places)))),
  ap length (all ∙ ap values_among both
      ∙ flat_map-append values_answered (column at (rows_of inputs (take i places)))
      (column at (rows_of inputs (drop i places)))),
) where
  all : values_among (column at (rows_of inputs places))
      ≡ values_among (column at (rows_of inputs (take i places ++ drop i places)))
  all = ap (λ ps. values_among (column at (rows_of inputs ps))) (sym (take-append-drop i places))

  both : column at (rows_of inputs (take i places ++ drop i places))
      ≡ column at (rows_of inputs (take i places)) ++ column at (rows_of inputs (drop i places))
  both = ap (column at)
      (flat_map-append (λ p. option_to_list (get_or inputs p nothing_left).row) (take i places) (drop i places))
      ∙ map-append (λ (r : Row). get_or r.answers at answer.Null) (rows_of inputs (take i places))
      (rows_of inputs (drop i places))

-- the rows of one more input, where it is used
pub rows_of-more : (inputs : List InputView) (places : List ℕ) (us : List Bool) (place : ℕ) (x : InputView) (u : Bool)
    → length us ≡ place → place < length inputs → x ≡ get_or inputs place x
    → rows_of inputs places ≡ used_rows us (take place inputs)
    → rows_of inputs (places ++ place_where place u) ≡ used_rows (us ++ u ∷ []) (take (place + 1) inputs)
rows_of-more inputs places us place x u long inside is so_far =
    flat_map-append (λ p. option_to_list (get_or inputs p nothing_left).row) places (place_where place u)
    ∙ ap (λ t. t ++ rows_of inputs (place_where place u)) so_far
    ∙ ap (λ t. used_rows us (take place inputs) ++ t) (one u)
    ∙ sym (used_rows-push us (take place inputs) u x (long ∙ sym (length-take-le place inputs (omega (arith, inside)))))
    ∙ ap (used_rows (us ++ u ∷ [])) (ap (λ y. take place inputs ++ y ∷ []) is ∙ sym (take_more inputs place x inside))
  where
    one : (b : Bool) → rows_of inputs (place_where place b) ≡ used_row b x
    one true = one-row inputs place ∙ ap (λ (i : InputView). option_to_list i.row) (at_place inputs place x inside is)
    one false = refl

-- it has a row, where it is used
pub HaveRows-more : (key : Key) (inputs : List InputView) (places : List ℕ) (place : ℕ) (x : InputView) (u : Bool)
    → place < length inputs → x ≡ get_or inputs place x → IsUse key u x → HaveRows inputs places
    → HaveRows inputs (places ++ place_where place u)
HaveRows-more key inputs places place x false inside is is_use have =
    subst (HaveRows inputs) (sym (append-nil places)) have
HaveRows-more key inputs places place x true inside is is_use have = pushed places have where
  here : HasRow (get_or inputs place nothing_left)
  here = (is_use.0, ap (λ (i : InputView). i.row) (at_place inputs place x inside is) ∙ is_use.1)

  pushed : (ps : List ℕ) → HaveRows inputs ps → HaveRows inputs (ps ++ place ∷ [])
  pushed [] all = ((inside, here), tt)
  pushed (p ∷ ps) all = (all.0, pushed ps all.1)

-- one of the places
pub HaveRows-in : (inputs : List InputView) (places : List ℕ) (k : ℕ) → HaveRows inputs places → k < length places
    → (get_or places k 0 < length inputs) × HasRow (get_or inputs (get_or places k 0) nothing_left)
HaveRows-in inputs [] k have inside = absurd (omega (arith, inside))
HaveRows-in inputs (p ∷ ps) zero have inside = have.0
HaveRows-in inputs (p ∷ ps) (suc k) have inside = HaveRows-in inputs ps k have.1 (omega (arith, inside))

-- the answers of one more row
pub column-next : (at : ℕ) (inputs : List InputView) (places : List ℕ) (i place : ℕ) → i < length places
    → place ≡ get_or places i place
    → column at (rows_of inputs (take (i + 1) places))
    ≡ column at (rows_of inputs (take i places)) ++ column at (option_to_list (get_or inputs place nothing_left).row)
column-next at inputs places i place inside is =
    ap (λ ps. column at (rows_of inputs ps))
    (take_more places i place inside ∙ ap (λ p. take i places ++ p ∷ []) (sym is))
    ∙ ap (column at)
    (flat_map-append (λ p. option_to_list (get_or inputs p nothing_left).row) (take i places) (place ∷ [])
    ∙ ap (λ t. rows_of inputs (take i places) ++ t) (one-row inputs place))
    ∙ map-append (λ (row : Row). get_or row.answers at answer.Null) (rows_of inputs (take i places))
    (option_to_list (get_or inputs place nothing_left).row)

-- what rows make of the first aggregates
pub record AreMadeSoFar (given : List Agg) (rows : List Row) (answers : List Answer) (place : ℕ) : Type 0 where
  pub long : length answers ≡ place
  pub made : (k : ℕ) (agg : Agg) → k < place → slice_get given k ≡ Some agg
      → MakesAnswer agg (column k rows) (get_or answers k answer.Null)
  pub fit : (k : ℕ) (agg : Agg) → k < place → slice_get given k ≡ Some agg → IsInRange agg (column k rows)

before : (xs : List Answer) (y : Answer) (k : ℕ) → k < length xs
    → get_or (xs ++ y ∷ []) k answer.Null ≡ get_or xs k answer.Null
before [] y k h = absurd (omega (arith, h))
before (x ∷ xs) y zero h = refl
before (x ∷ xs) y (suc k) h = before xs y k (omega (arith, h))

last : (xs : List Answer) (y : Answer) (k : ℕ) → length xs ≡ k → get_or (xs ++ y ∷ []) k answer.Null ≡ y
last [] y zero h = refl
last [] y (suc k) h = absurd (omega (arith, h))
last (x ∷ xs) y zero h = absurd (omega (arith, h))
last (x ∷ xs) y (suc k) h = last xs y k (omega (arith, h))

length-one : (xs : List Answer) (y : Answer) → length (xs ++ y ∷ []) ≡ length xs + 1
length-one [] y = omega arith
length-one (x ∷ xs) y = omega (arith, length-one xs y)

-- and of one more
pub AreMadeSoFar-more : (given : List Agg) (rows : List Row) (made : List Answer) (place : ℕ) (d : Agg) (a : Answer)
    → MakesAnswer (get_or given place d) (column place rows) a → IsInRange (get_or given place d) (column place rows)
    → AreMadeSoFar given rows made place → AreMadeSoFar given rows (made ++ a ∷ []) (place + 1)
AreMadeSoFar-more given rows made place d a makes fits so_far = record {
  long = length-one made a ∙ ap (λ n. n + 1) so_far.long;
  made = λ k agg below there. elim (cases_eq k place) [
    | inl same ↦
        let here : slice_get given place ≡ Some agg = ap (slice_get given) (sym same) ∙ there in
        rw (same, last made a place so_far.long, sym (get_or_from_slice_get given place agg d here)) makes
    | inr other ↦
        let under : k < place = omega (arith, other, below) in
        subst (MakesAnswer agg (column k rows)) (sym (before made a k (omega (arith, under, so_far.long))))
        (so_far.made k agg under there)
  ];
  fit = λ k agg below there. elim (cases_eq k place) [
    | inl same ↦
        let here : slice_get given place ≡ Some agg = ap (slice_get given) (sym same) ∙ there in
        rw (same, sym (get_or_from_slice_get given place agg d here)) fits
    | inr other ↦ so_far.fit k agg (omega (arith, other, below)) there
  ];
}

slice_get-length : (xs : List Agg) (k : ℕ) (x : Agg) → slice_get xs k ≡ Some x → k < length xs
slice_get-length [] k x is = let clash : None ≡ Some x = is in absurd (cc)
slice_get-length (y ∷ xs) zero x is = omega arith
slice_get-length (y ∷ xs) (suc k) x is = omega (arith, slice_get-length xs k x is)

-- and of all
pub AreMadeSoFar-all : (given : List Agg) (rows : List Row) (made : List Answer) (place : ℕ) → length given ≤ place
    → AreMadeSoFar given rows made place → AreMadeOfRows given rows made
AreMadeSoFar-all given rows made place all so_far k agg there =
    so_far.made k agg (omega (arith, all, slice_get-length given k agg there)) there

pub AreMadeSoFar-fit : (given : List Agg) (rows : List Row) (made : List Answer) (place : ℕ) → length given ≤ place
    → AreMadeSoFar given rows made place → AreInRange given rows
AreMadeSoFar-fit given rows made place all so_far k agg there =
    so_far.fit k agg (omega (arith, all, slice_get-length given k agg there)) there

-- what is too large at a place
slice_get-of : (given : List Agg) (place : ℕ) (d : Agg) → place < length given
    → slice_get given place ≡ Some (get_or given place d)
slice_get-of [] place d inside = absurd (omega (arith, inside))
slice_get-of (a ∷ given) zero d inside = refl
slice_get-of (a ∷ given) (suc place) d inside = slice_get-of given place d (omega (arith, inside))

pub AreTooLarge-at : (given : List Agg) (rows : List Row) (place : ℕ) (d : Agg) → place < length given
    → (IsInRange (get_or given place d) (column place rows) → ⊥) → AreTooLarge given rows
AreTooLarge-at given rows place d inside large =
    record { place = place; agg = get_or given place d; stands = slice_get-of given place d inside; too_large = large }
