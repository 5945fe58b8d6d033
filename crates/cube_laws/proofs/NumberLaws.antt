-- The number that a decimal is read as.
use Rattle.std.specs.Prelude.{◌≡◌, ◌≢◌, ◌<◌, ℕ, zero, suc, ℤ, pos, negsuc, Bool, true, false}
use Rattle.std.specs.Prelude.{cond, neg_ℤ, List, [], ◌∷◌, drop, get_or, Some, None, FitsSigned, if◌then◌else◌}
use Rattle.std.specs.Fmt.{decimal, signed_decimal}
use Rattle.std.specs.Int.{w64}
use Rattle.std.specs.Str.{IsAscii, all_ascii_digits, is_utf8}
use Rattle.std.specs.Str.Parse.{IsNumeral, digits_value, signed_digits_value, starts_with_minus, without_leading_plus}
use Rattle.std.specs.Str.Parse.{without_leading_sign}
use Rattle.std.proofs.Common.{refl, sym, ap, ◌∙◌, subst, arith, rules}
use Rattle.std.proofs.lemmas.Bool.{and_from, lt-ltb, ne_eqb}
use Rattle.std.proofs.lemmas.Fmt.{IsAscii-decimal_wide, decimal_is_IsNumeral_wide}
use Rattle.std.proofs.lemmas.Str.{IsUtf8-from_ascii, is_utf8-from_IsUtf8}
use Rattle.std.proofs.lemmas.Str.Parse.{IsNumeralModel, digit_from_value, numerals_by_value, tells_all_ascii_digits}
use Rattle.std.proofs.lemmas.Str.Parse.{without_leading_plus_none}
use Rattle.cube_core.specs.Items.{fits_i64, is_number, number_of}
use Rattle.cube_core.proofs.LifeLaws.{bytes_eq-other}
use Rattle.std.specs.Str.{bytes_eq}

-- what a number's text begins with: a digit or a minus sign
pub record IsNumberText (text : List ℕ) : Type 0 where
  pub first : ℕ
  pub rest : List ℕ
  pub text_is : text ≡ first ∷ rest
  pub below : first < 92

-- a numeral begins with a digit
numeral-first : (bytes : List ℕ) → IsNumeral 10 bytes → (get_or bytes 0 0 ≢ 45) × (get_or bytes 0 0 ≢ 43)
numeral-first [] numeral = absurd (omega (arith, numeral.0))
numeral-first (first ∷ bytes) numeral =
    let within = digit_from_value first numeral.1.0 in (λ is. omega arith, λ is. omega arith)

numeral-text : (bytes : List ℕ) → IsNumeral 10 bytes → IsNumberText bytes
numeral-text [] numeral = absurd (omega (arith, numeral.0))
numeral-text (first ∷ bytes) numeral =
    let within = digit_from_value first numeral.1.0 in
    record { first = first; rest = bytes; text_is = refl; below = omega arith }

-- and so it has no sign
numeral-no_minus : (bytes : List ℕ) → IsNumeral 10 bytes → starts_with_minus bytes ≡ false
numeral-no_minus bytes numeral = ne_eqb (get_or bytes 0 0) 45 (numeral-first bytes numeral).0

numeral-unsigned : (bytes : List ℕ) → IsNumeral 10 bytes → without_leading_sign bytes ≡ bytes
numeral-unsigned bytes numeral =
    ap (λ b. cond b (drop 1 bytes) (without_leading_plus bytes)) (numeral-no_minus bytes numeral)
    ∙ without_leading_plus_none bytes (numeral-first bytes numeral).1

numeral-value : (bytes : List ℕ) → IsNumeral 10 bytes → signed_digits_value 10 bytes ≡ pos (digits_value 10 bytes)
numeral-value bytes numeral =
    ap (λ b. cond b (neg_ℤ (pos (digits_value 10 (without_leading_sign bytes))))
    (pos (digits_value 10 (without_leading_sign bytes)))) (numeral-no_minus bytes numeral)
    ∙ ap (λ (text : List ℕ). pos (digits_value 10 text)) (numeral-unsigned bytes numeral)

-- the words of std and of the definition on digits
digits : IsNumeralModel (λ ds. all_ascii_digits ds ≡ true) (digits_value 10)
digits = numerals_by_value _ tells_all_ascii_digits

FitsSigned-fits_i64 : (z : ℤ) → FitsSigned w64 z → fits_i64 z ≡ true
FitsSigned-fits_i64 (pos n) fits = search rules
FitsSigned-fits_i64 (negsuc n) fits = search rules

-- a text whose digits and value are known is that number
number_of-known : (text : List ℕ) (z : ℤ) → IsNumeral 10 (without_leading_sign text)
    → signed_digits_value 10 text ≡ z → FitsSigned w64 z → number_of text ≡ Some z
number_of-known text z numeral value fits =
    let number : is_number text ≡ true =
    and_from _ _ (and_from _ _ (lt-ltb 0 _ numeral.0) (digits.from (without_leading_sign text) numeral.1))
    (ap fits_i64 value ∙ FitsSigned-fits_i64 z fits) in
    ap (λ (b : Bool). if b then Some (signed_digits_value 10 text) else None) number ∙ ap Some value

pub number_of-signed_decimal : (z : ℤ) → FitsSigned w64 z → number_of (signed_decimal z) ≡ Some z
number_of-signed_decimal (pos n) fits =
    let told = decimal_is_IsNumeral_wide n (omega arith) in
    number_of-known (decimal n) (pos n)
    (subst (IsNumeral 10) (sym (numeral-unsigned (decimal n) told.0)) told.0)
    (numeral-value (decimal n) told.0 ∙ ap pos told.1) fits
number_of-signed_decimal (negsuc n) fits =
    let told = decimal_is_IsNumeral_wide (suc n) (omega arith) in
    number_of-known (45 ∷ decimal (suc n)) (negsuc n) told.0 (ap (λ m. neg_ℤ (pos m)) told.1) fits

pub signed_decimal-IsNumberText : (z : ℤ) → FitsSigned w64 z → IsNumberText (signed_decimal z)
signed_decimal-IsNumberText (pos n) fits = numeral-text (decimal n) (decimal_is_IsNumeral_wide n (omega arith)).0
signed_decimal-IsNumberText (negsuc n) fits =
    record { first = 45; rest = decimal (suc n); text_is = refl; below = omega arith }

-- it is text, and none that begins with a backslash
signed_decimal-IsAscii : (z : ℤ) → FitsSigned w64 z → IsAscii (signed_decimal z)
signed_decimal-IsAscii (pos n) fits i = IsAscii-decimal_wide n (omega arith) i
signed_decimal-IsAscii (negsuc n) fits zero = omega arith
signed_decimal-IsAscii (negsuc n) fits (suc i) = IsAscii-decimal_wide (suc n) (omega arith) i

pub is_utf8-signed_decimal : (z : ℤ) → FitsSigned w64 z → is_utf8 (signed_decimal z) ≡ true
is_utf8-signed_decimal z fits =
    is_utf8-from_IsUtf8 (signed_decimal z) (IsUtf8-from_ascii (signed_decimal z) (signed_decimal-IsAscii z fits))

pub signed_decimal-no_backslash : (z : ℤ) (rest : List ℕ) → FitsSigned w64 z
    → bytes_eq (signed_decimal z) (92 ∷ rest) ≡ false
signed_decimal-no_backslash z rest fits =
    let told = signed_decimal-IsNumberText z fits in
    bytes_eq-other (signed_decimal z) (92 ∷ rest) (λ same.
    let first : 92 ≡ told.first = ap (λ (text : List ℕ). get_or text 0 0) (same ∙ told.text_is) in
    omega (arith, first, told.below))
