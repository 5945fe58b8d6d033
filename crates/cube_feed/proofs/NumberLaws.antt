-- What std's `parse` reads is the definition's number.
use Rattle.std.proofs.Common.{◌≡◌, ℕ, ℤ, Bool, true, false, List, Some, None, refl, ap, rules}
use Rattle.std.specs.Prelude.{pos, negsuc, Result, Ok, Err, FitsSigned}
use Rattle.std.specs.Result.{result_ok}
use Rattle.std.specs.Str.{all_ascii_digits}
use Rattle.std.specs.Str.Parse.{IsNumeral, digits_value, without_leading_sign, signed_digits_value, ParsesSigned}
use Rattle.std.proofs.lemmas.Bool.{and_from, and_parts, lt-ltb, ltb-true}
use Rattle.std.proofs.lemmas.Str.Parse.{IsNumeralModel, numerals_by_value, tells_all_ascii_digits}
use Rattle.cube_core.specs.Items.{is_number, number_of, fits_i64}
use mir.Syntax.{w64}

-- the words of std and of the definition on digits
IsNumeral-digits_value : IsNumeralModel (λ ds. all_ascii_digits ds ≡ true) (digits_value 10)
IsNumeral-digits_value = numerals_by_value _ tells_all_ascii_digits

-- the range of i64 as a test
FitsSigned-fits_i64 : (z : ℤ) → FitsSigned w64 z → fits_i64 z ≡ true
FitsSigned-fits_i64 (pos n) h = search rules
FitsSigned-fits_i64 (negsuc n) h = search rules

fits_i64-FitsSigned : (z : ℤ) → fits_i64 z ≡ true → FitsSigned w64 z
fits_i64-FitsSigned (pos n) h = record { sfits = search rules }
fits_i64-FitsSigned (negsuc n) h = record { sfits = search rules }

-- a numeral in the range is a number of the definition
IsNumeral-is_number : (bs : List ℕ) → IsNumeral 10 (without_leading_sign bs)
    → FitsSigned w64 (signed_digits_value 10 bs) → is_number bs ≡ true
IsNumeral-is_number bs h f =
    and_from _ _ (and_from _ _ (lt-ltb 0 _ h.0) (IsNumeral-digits_value.from _ h.1)) (FitsSigned-fits_i64 _ f)

-- and a number of the definition is a numeral in the range
is_number-IsNumeral : (bs : List ℕ) → is_number bs ≡ true
    → IsNumeral 10 (without_leading_sign bs) × FitsSigned w64 (signed_digits_value 10 bs)
is_number-IsNumeral bs h =
    let both = and_parts _ _ h in
    let first = and_parts _ _ both.0 in
    ((ltb-true 0 _ first.0, IsNumeral-digits_value.to _ first.1), fits_i64-FitsSigned _ both.1)

-- what `parse` gives, without its error
pub ParsesSigned-number_of : {E : Type 0} (bs : List ℕ) (r : Result ℤ E) → ParsesSigned w64 10 bs r
    → result_ok r ≡ number_of bs
ParsesSigned-number_of bs (Ok x) h = rw (IsNumeral-is_number bs h.0.0 h.0.1) (ap Some h.1)
ParsesSigned-number_of bs (Err e) h = by (is_number bs) refl
  where
    by : (b : Bool) → is_number bs ≡ b → None ≡ number_of bs
    by true q = absurd (h (is_number-IsNumeral bs q))
    by false q = rw q refl
