-- The text of an answer tells the answer, among those of its kind.
use Rattle.std.proofs.Common.{◌≡◌, ℕ, ◌<◌, ◌≤◌, ◌*◌, ◌^◌, ℤ, pos, negsuc, List, [], ◌∷◌, Option, Some, None, FitsSigned, refl}
use Rattle.std.proofs.Common.{sym, ap, ap₂, arith, get_or, inl, inr, length, map, unwrap_or}
use Rattle.std.specs.Int.{w64, w128}
use Rattle.std.specs.List.{AllByRecursion, AllZip}
use Rattle.std.specs.Prelude.{All, IfSome}
use Rattle.std.proofs.lemmas.Bool.{cases_lt}
use Rattle.std.proofs.lemmas.List.{get_or_past}
use Rattle.std.proofs.lemmas.List.Elements.{All-get_or}
use Rattle.cube_core.specs.Layout.{Layout}
use Rattle.cube_core.specs.Text.{answer_text, answer_texts, digits_of, digits_of_measure}
use Rattle.cube_core.specs.declared.aggregate.Agg.{Agg}
use Rattle.cube_core.specs.declared.aggregate.Agg.TheVariants.{CountAll, Count, Sum, Min, Max, Avg}
use Rattle.cube_core.specs.declared.aggregate.Agg.TheVariants.{CountDistinct, PercentileDisc}
use Rattle.cube_core.specs.declared.aggregate.Agg.TheVariants.{SumOfSquares, VarPop, VarSamp, Values}
use Rattle.cube_core.specs.declared.aggregate.Answer.{Answer}
use Rattle.cube_core.specs.declared.aggregate.Answer.TheVariants as answer
use Rattle.cube_merge.specs.Lawful.{IsCount, IsNumber, IsValue, IsFraction, IsOfKind, IsSquares}
use Rattle.cube_merge.specs.Lawful.{IsVarianceFraction, ListsValues}
use Rattle.cube_laws.proofs.HeldLaws.{held-times}
use Rattle.cube_laws.proofs.HeldTextLaws.{IsToldPair, values_text-unique}
use Rattle.cube_laws.proofs.LongTextLaws.{long_fraction_text-unique, long_units_text-unique, null_text-long_fraction}
use Rattle.cube_laws.proofs.LongTextLaws.{null_text-long_units}
use Rattle.cube_laws.proofs.UnitTextLaws.{decimal-unique, fraction_text-unique, null_text-fraction, null_text-units}
use Rattle.cube_laws.proofs.UnitTextLaws.{signed_units_text-unique}

-- ---- the digits of a schema's answers
-- at most 18 digits stand behind the point of each measure
abbrev pub HasFewDigits : Layout → Type 0
HasFewDigits s = All (λ digits. IfSome digits (λ k. k ≤ 18)) s.decimals

some-few : (digits : Option ℕ) → IfSome digits (λ k. k ≤ 18) → unwrap_or digits 0 ≤ 18
some-few None few = omega arith
some-few (Some k) few = few

measure-few : (s : Layout) (m : ℕ) → HasFewDigits s → digits_of_measure s m ≤ 18
measure-few s m few = elim (cases_lt m (length s.decimals)) [
  | inl inside ↦ some-few (get_or s.decimals m None)
      (All-get_or (λ digits. IfSome digits (λ k. k ≤ 18)) s.decimals m None inside few)
  | inr past ↦ rw (get_or_past s.decimals m None past) (omega arith)
]

digits_of-few : (s : Layout) (agg : Agg) → HasFewDigits s → digits_of s agg ≤ 18
digits_of-few s CountAll few = omega arith
digits_of-few s (Count m) few = omega arith
digits_of-few s (Sum m) few = measure-few s m few
digits_of-few s (Min m) few = measure-few s m few
digits_of-few s (Max m) few = measure-few s m few
digits_of-few s (Avg m) few = measure-few s m few
digits_of-few s (CountDistinct m) few = omega arith
digits_of-few s (PercentileDisc m units places) few = measure-few s m few
digits_of-few s (SumOfSquares m) few = measure-few s m few
digits_of-few s (VarPop m) few = measure-few s m few
digits_of-few s (VarSamp m) few = measure-few s m few
digits_of-few s (Values m) few = measure-few s m few

-- ---- answers of a kind
IsCount-told : (k : ℕ) (a b : Answer) → IsCount a → IsCount b → answer_text k a ≡ answer_text k b → a ≡ b
IsCount-told k (answer.Count m) (answer.Count n) h h' same =
    ap answer.Count (decimal-unique m n (omega arith) (omega arith) same)
IsCount-told k (answer.Count m) answer.Null h h' same = absurd h'
IsCount-told k (answer.Count m) (answer.Whole z) h h' same = absurd h'
IsCount-told k (answer.Count m) (answer.Ratio p q) h h' same = absurd h'
IsCount-told k (answer.Count m) (answer.Squares n) h h' same = absurd h'
IsCount-told k (answer.Count m) (answer.Variance p q) h h' same = absurd h'
IsCount-told k (answer.Count m) (answer.Values held) h h' same = absurd h'
IsCount-told k answer.Null b h h' same = absurd h
IsCount-told k (answer.Whole y) b h h' same = absurd h
IsCount-told k (answer.Ratio p q) b h h' same = absurd h
IsCount-told k (answer.Squares n) b h h' same = absurd h
IsCount-told k (answer.Variance p q) b h h' same = absurd h
IsCount-told k (answer.Values held) b h h' same = absurd h

IsNumber-told : (k : ℕ) (a b : Answer) → IsNumber a → IsNumber b → answer_text k a ≡ answer_text k b → a ≡ b
IsNumber-told k answer.Null answer.Null h h' same = refl
IsNumber-told k answer.Null (answer.Whole z) h h' same = absurd (null_text-units k z h' same)
IsNumber-told k (answer.Whole y) answer.Null h h' same = absurd (null_text-units k y h (sym same))
IsNumber-told k (answer.Whole y) (answer.Whole z) h h' same =
    ap answer.Whole (signed_units_text-unique k y z h h' same)
IsNumber-told k answer.Null (answer.Count n) h h' same = absurd h'
IsNumber-told k answer.Null (answer.Ratio p q) h h' same = absurd h'
IsNumber-told k answer.Null (answer.Squares n) h h' same = absurd h'
IsNumber-told k answer.Null (answer.Variance p q) h h' same = absurd h'
IsNumber-told k answer.Null (answer.Values held) h h' same = absurd h'
IsNumber-told k (answer.Whole y) (answer.Count n) h h' same = absurd h'
IsNumber-told k (answer.Whole y) (answer.Ratio p q) h h' same = absurd h'
IsNumber-told k (answer.Whole y) (answer.Squares n) h h' same = absurd h'
IsNumber-told k (answer.Whole y) (answer.Variance p q) h h' same = absurd h'
IsNumber-told k (answer.Whole y) (answer.Values held) h h' same = absurd h'
IsNumber-told k (answer.Count m) b h h' same = absurd h
IsNumber-told k (answer.Ratio p q) b h h' same = absurd h
IsNumber-told k (answer.Squares n) b h h' same = absurd h
IsNumber-told k (answer.Variance p q) b h h' same = absurd h
IsNumber-told k (answer.Values held) b h h' same = absurd h

-- a number of 64 bits is one of 128
fits_wider : (z : ℤ) → FitsSigned w64 z → FitsSigned w128 z
fits_wider (pos n) fits = omega arith
fits_wider (negsuc n) fits = omega arith

IsValue-IsNumber : (a : Answer) → IsValue a → IsNumber a
IsValue-IsNumber answer.Null h = tt
IsValue-IsNumber (answer.Whole z) h = fits_wider z h
IsValue-IsNumber (answer.Count n) h = absurd h
IsValue-IsNumber (answer.Ratio p q) h = absurd h
IsValue-IsNumber (answer.Squares n) h = absurd h
IsValue-IsNumber (answer.Variance p q) h = absurd h
IsValue-IsNumber (answer.Values held) h = absurd h

IsFraction-told : (k : ℕ) (a b : Answer) → k ≤ 18 → IsFraction a → IsFraction b
    → answer_text k a ≡ answer_text k b → a ≡ b
IsFraction-told k answer.Null answer.Null few h h' same = refl
IsFraction-told k answer.Null (answer.Ratio p q) few h h' same = absurd (null_text-fraction k p q h'.0 same)
IsFraction-told k (answer.Ratio p q) answer.Null few h h' same = absurd (null_text-fraction k p q h.0 (sym same))
IsFraction-told k (answer.Ratio p q) (answer.Ratio p' q') few h h' same =
    let parts = fraction_text-unique k p p' q q' few h.0 h'.0 h.1 h'.1 h.2 h'.2 h.3 h'.3 same in
    ap₂ answer.Ratio parts.0 parts.1
IsFraction-told k answer.Null (answer.Count n) few h h' same = absurd h'
IsFraction-told k answer.Null (answer.Whole z) few h h' same = absurd h'
IsFraction-told k answer.Null (answer.Squares n) few h h' same = absurd h'
IsFraction-told k answer.Null (answer.Variance p q) few h h' same = absurd h'
IsFraction-told k answer.Null (answer.Values held) few h h' same = absurd h'
IsFraction-told k (answer.Ratio p q) (answer.Count n) few h h' same = absurd h'
IsFraction-told k (answer.Ratio p q) (answer.Whole z) few h h' same = absurd h'
IsFraction-told k (answer.Ratio p q) (answer.Squares n) few h h' same = absurd h'
IsFraction-told k (answer.Ratio p q) (answer.Variance r s) few h h' same = absurd h'
IsFraction-told k (answer.Ratio p q) (answer.Values held) few h h' same = absurd h'
IsFraction-told k (answer.Count m) b few h h' same = absurd h
IsFraction-told k (answer.Whole y) b few h h' same = absurd h
IsFraction-told k (answer.Squares n) b few h h' same = absurd h
IsFraction-told k (answer.Variance p q) b few h h' same = absurd h
IsFraction-told k (answer.Values held) b few h h' same = absurd h

IsSquares-told : (k : ℕ) (a b : Answer) → IsSquares a → IsSquares b → answer_text k a ≡ answer_text k b → a ≡ b
IsSquares-told k answer.Null answer.Null h h' same = refl
IsSquares-told k answer.Null (answer.Squares n) h h' same = absurd (null_text-long_units (2 * k) n same)
IsSquares-told k (answer.Squares m) answer.Null h h' same = absurd (null_text-long_units (2 * k) m (sym same))
IsSquares-told k (answer.Squares m) (answer.Squares n) h h' same =
    ap answer.Squares (long_units_text-unique (2 * k) m n same)
IsSquares-told k answer.Null (answer.Count n) h h' same = absurd h'
IsSquares-told k answer.Null (answer.Whole z) h h' same = absurd h'
IsSquares-told k answer.Null (answer.Ratio p q) h h' same = absurd h'
IsSquares-told k answer.Null (answer.Variance p q) h h' same = absurd h'
IsSquares-told k answer.Null (answer.Values held) h h' same = absurd h'
IsSquares-told k (answer.Squares m) (answer.Count n) h h' same = absurd h'
IsSquares-told k (answer.Squares m) (answer.Whole z) h h' same = absurd h'
IsSquares-told k (answer.Squares m) (answer.Ratio p q) h h' same = absurd h'
IsSquares-told k (answer.Squares m) (answer.Variance p q) h h' same = absurd h'
IsSquares-told k (answer.Squares m) (answer.Values held) h h' same = absurd h'
IsSquares-told k (answer.Count m) b h h' same = absurd h
IsSquares-told k (answer.Whole y) b h h' same = absurd h
IsSquares-told k (answer.Ratio p q) b h h' same = absurd h
IsSquares-told k (answer.Variance p q) b h h' same = absurd h
IsSquares-told k (answer.Values held) b h h' same = absurd h

IsVarianceFraction-told : (k : ℕ) (a b : Answer) → IsVarianceFraction a → IsVarianceFraction b
    → answer_text k a ≡ answer_text k b → a ≡ b
IsVarianceFraction-told k answer.Null answer.Null h h' same = refl
IsVarianceFraction-told k answer.Null (answer.Variance p q) h h' same =
    absurd (null_text-long_fraction (2 * k) p q same)
IsVarianceFraction-told k (answer.Variance p q) answer.Null h h' same =
    absurd (null_text-long_fraction (2 * k) p q (sym same))
IsVarianceFraction-told k (answer.Variance p q) (answer.Variance p' q') h h' same =
    let parts = long_fraction_text-unique (2 * k) p p' q q' h.2 h'.2 h.3 h'.3 same in
    ap₂ answer.Variance parts.0 parts.1
IsVarianceFraction-told k answer.Null (answer.Count n) h h' same = absurd h'
IsVarianceFraction-told k answer.Null (answer.Whole z) h h' same = absurd h'
IsVarianceFraction-told k answer.Null (answer.Ratio p q) h h' same = absurd h'
IsVarianceFraction-told k answer.Null (answer.Squares n) h h' same = absurd h'
IsVarianceFraction-told k answer.Null (answer.Values held) h h' same = absurd h'
IsVarianceFraction-told k (answer.Variance p q) (answer.Count n) h h' same = absurd h'
IsVarianceFraction-told k (answer.Variance p q) (answer.Whole z) h h' same = absurd h'
IsVarianceFraction-told k (answer.Variance p q) (answer.Ratio r s) h h' same = absurd h'
IsVarianceFraction-told k (answer.Variance p q) (answer.Squares n) h h' same = absurd h'
IsVarianceFraction-told k (answer.Variance p q) (answer.Values held) h h' same = absurd h'
IsVarianceFraction-told k (answer.Count m) b h h' same = absurd h
IsVarianceFraction-told k (answer.Whole y) b h h' same = absurd h
IsVarianceFraction-told k (answer.Ratio p q) b h h' same = absurd h
IsVarianceFraction-told k (answer.Squares n) b h h' same = absurd h
IsVarianceFraction-told k (answer.Values held) b h h' same = absurd h

-- pairs that list values can be told
pairs-told : (held : List (ℤ × ℕ)) → ListsValues (answer.Values held) → AllByRecursion IsToldPair held
pairs-told held h = each held h.1 (held-times held (2 ^ 64) h.0.few) where
  each : (pairs : List (ℤ × ℕ)) → AllByRecursion (λ pair. FitsSigned w64 pair.0) pairs
      → AllByRecursion (λ pair. pair.1 < 2 ^ 64) pairs → AllByRecursion IsToldPair pairs
  each [] small few = tt
  each (pair ∷ pairs) small few = (
    record { value = fits_wider pair.0 small.0; times = omega (arith, few.0) },
    each pairs small.1 few.1,
  )

ListsValues-told : (k : ℕ) (a b : Answer) → ListsValues a → ListsValues b → answer_text k a ≡ answer_text k b → a ≡ b
ListsValues-told k (answer.Values held) (answer.Values others) h h' same =
    ap answer.Values (values_text-unique k held others (pairs-told held h) (pairs-told others h') same)
ListsValues-told k (answer.Values held) answer.Null h h' same = absurd h'
ListsValues-told k (answer.Values held) (answer.Count n) h h' same = absurd h'
ListsValues-told k (answer.Values held) (answer.Whole z) h h' same = absurd h'
ListsValues-told k (answer.Values held) (answer.Ratio p q) h h' same = absurd h'
ListsValues-told k (answer.Values held) (answer.Squares n) h h' same = absurd h'
ListsValues-told k (answer.Values held) (answer.Variance p q) h h' same = absurd h'
ListsValues-told k answer.Null b h h' same = absurd h
ListsValues-told k (answer.Count m) b h h' same = absurd h
ListsValues-told k (answer.Whole y) b h h' same = absurd h
ListsValues-told k (answer.Ratio p q) b h h' same = absurd h
ListsValues-told k (answer.Squares n) b h h' same = absurd h
ListsValues-told k (answer.Variance p q) b h h' same = absurd h

IsOfKind-told : (k : ℕ) (agg : Agg) (a b : Answer) → k ≤ 18 → IsOfKind agg a → IsOfKind agg b
    → answer_text k a ≡ answer_text k b → a ≡ b
IsOfKind-told k CountAll a b few h h' same = IsCount-told k a b h h' same
IsOfKind-told k (Count m) a b few h h' same = IsCount-told k a b h h' same
IsOfKind-told k (Sum m) a b few h h' same = IsNumber-told k a b h h' same
IsOfKind-told k (Min m) a b few h h' same = IsNumber-told k a b (IsValue-IsNumber a h) (IsValue-IsNumber b h') same
IsOfKind-told k (Max m) a b few h h' same = IsNumber-told k a b (IsValue-IsNumber a h) (IsValue-IsNumber b h') same
IsOfKind-told k (Avg m) a b few h h' same = IsFraction-told k a b few h h' same
IsOfKind-told k (CountDistinct m) a b few h h' same = IsCount-told k a b h h' same
IsOfKind-told k (PercentileDisc m units places) a b few h h' same =
    IsNumber-told k a b (IsValue-IsNumber a h) (IsValue-IsNumber b h') same
IsOfKind-told k (SumOfSquares m) a b few h h' same = IsSquares-told k a b h h' same
IsOfKind-told k (VarPop m) a b few h h' same = IsVarianceFraction-told k a b h h' same
IsOfKind-told k (VarSamp m) a b few h h' same = IsVarianceFraction-told k a b h h' same
IsOfKind-told k (Values m) a b few h h' same = ListsValues-told k a b h h' same

-- answers to the same aggregates of a schema that show the same are the same
pub AreOfKind-told : (s : Layout) (aggregates : List Agg) (as' bs : List Answer) → HasFewDigits s
    → AllZip IsOfKind aggregates as' → AllZip IsOfKind aggregates bs
    → answer_texts (map (digits_of s) aggregates) as' ≡ answer_texts (map (digits_of s) aggregates) bs → as' ≡ bs
AreOfKind-told s [] [] [] few h h' same = refl
AreOfKind-told s [] [] (b ∷ bs) few h h' same = absurd h'
AreOfKind-told s [] (a ∷ as') bs few h h' same = absurd h
AreOfKind-told s (agg ∷ aggregates) [] bs few h h' same = absurd h
AreOfKind-told s (agg ∷ aggregates) (a ∷ as') [] few h h' same = absurd h'
AreOfKind-told s (agg ∷ aggregates) (a ∷ as') (b ∷ bs) few h h' same =
    let first : answer_text (digits_of s agg) a ≡ answer_text (digits_of s agg) b = cc same in
    let after : answer_texts (map (digits_of s) aggregates) as' ≡ answer_texts (map (digits_of s) aggregates) bs =
    cc same in
    ap₂ (λ x xs. x ∷ xs)
    (IsOfKind-told (digits_of s agg) agg a b (digits_of-few s agg few) h.0 h'.0 first)
    (AreOfKind-told s aggregates as' bs few h.1 h'.1 after)
