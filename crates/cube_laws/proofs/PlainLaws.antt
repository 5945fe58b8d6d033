-- A line of fields without a byte that CSV sets apart.
use Rattle.std.specs.Prelude.{◌≡◌, ◌==◌, ◌||◌, ◌+◌, ◌≤◌, ℕ, false, List, [], ◌∷◌, ◌++◌, codes, length}
use Rattle.std.specs.Prelude.{◌≢◌, ◌<◌, ◌^◌, true, get_or, if◌then◌else◌}
use Rattle.std.specs.List.{AllByRecursion, flat_map, list_any}
use Rattle.std.proofs.Common.{refl, ap, ap₂, ◌∙◌, arith}
use Rattle.std.specs.Fmt.{decimal}
use Rattle.std.specs.Str.{all_ascii_digits}
use Rattle.std.specs.Str.Parse.{digits_value}
use Rattle.std.proofs.lemmas.Bool.{ne_eqb}
use Rattle.std.proofs.lemmas.Fmt.{decimal-digits_value, decimal_digit}
use Rattle.std.proofs.lemmas.Str.Parse.{numerals_by_value, tells_all_ascii_digits}
use Rattle.csv.specs.Quoting.{needs_byte}
use Rattle.csv.specs.Writing.{default_writer, field_text, fields_text, is_blank}
use Rattle.cube_core.specs.Layout.{sample_layout}
use Rattle.cube_core.specs.Text.{line, padded, pointed, row_fields, text_of_rows}
use Rattle.cube_core.proofs.LongDecimalLaws.{long_decimal_digit, long_decimal_is_decimal}
use Rattle.cube_laws.specs.Decimals.{ArePrintedSo}
use Rattle.cube_laws.specs.Lines.{IsPlain, IsPlainByte, sample_row}

-- no byte of a plain field calls for quotes
needs_byte-plain : (byte : ℕ) → IsPlainByte byte → needs_byte default_writer byte ≡ false
needs_byte-plain byte plain =
    rw (ne_eqb byte 44 plain.0, ne_eqb byte 34 plain.1, ne_eqb byte 13 plain.2, ne_eqb byte 10 plain.3) refl

needs_quotes-plain : (field : List ℕ) → IsPlain field → list_any (needs_byte default_writer) field ≡ false
needs_quotes-plain [] plain = refl
needs_quotes-plain (byte ∷ field) plain =
    ap (λ b. b || list_any (needs_byte default_writer) field) (needs_byte-plain byte plain.0)
    ∙ needs_quotes-plain field plain.1

field_text-plain : (field : List ℕ) → IsPlain field → field_text default_writer field ≡ field
field_text-plain field plain = rw (needs_quotes-plain field plain) refl

-- so plain fields stand as they are
fields_text-plain : (fields : List (List ℕ)) → AllByRecursion IsPlain fields
    → fields_text default_writer fields ≡ flat_map (λ field. 44 ∷ field) fields
unfolding fields_text
fields_text-plain [] plain = refl
fields_text-plain (field ∷ fields) plain =
    λ i. 44 ∷ (field_text-plain field plain.0 i ++ fields_text-plain fields plain.1 i)

-- and a line isn't blank
is_blank-some : (first : List ℕ) (others : List (List ℕ)) → IsPlain first → 1 ≤ length first + length others
    → is_blank default_writer (first ∷ others) ≡ false
unfolding is_blank
is_blank-some first [] plain some =
    ap (λ (text : List ℕ). length text == 0) (field_text-plain first plain)
    ∙ ne_eqb (length first) 0 (λ none. omega (arith, some, none))
is_blank-some first (second ∷ others) plain some = refl

pub line-plain : (first : List ℕ) (others : List (List ℕ)) → IsPlain first → AllByRecursion IsPlain others
    → 1 ≤ length first + length others
    → line (first ∷ others) ≡ (first ++ flat_map (λ field. 44 ∷ field) others) ++ 10 ∷ []
line-plain first others plain all some =
    ap (λ b. (field_text default_writer first ++ fields_text default_writer others)
    ++ ((if b then 34 ∷ 34 ∷ [] else []) ++ 10 ∷ [])) (is_blank-some first others plain some)
    ∙ (λ i. (field_text-plain first plain i ++ fields_text-plain others all i) ++ 10 ∷ [])

-- an empty field alone is written as two quotes
pub line-empty : line ([] ∷ []) ≡ 34 ∷ 34 ∷ 10 ∷ []
unfolding is_blank fields_text
line-empty = refl

-- the header line of the sample schema, and a row's fields
pub text_of_rows-sample : text_of_rows sample_layout []
    ≡ codes "region,kind,grouping(region),grouping(kind),count(*),sum(amount),min(amount),max(amount),avg(amount)\n"
unfolding is_blank fields_text
text_of_rows-sample = refl

-- digits are the decimal of their value
decimal-known : (bytes : List ℕ) → all_ascii_digits bytes ≡ true → 0 < length bytes → get_or bytes 0 0 ≢ 48
    → digits_value 10 bytes < 2 ^ 64 → decimal (digits_value 10 bytes) ≡ bytes
decimal-known bytes all some nonzero small =
    decimal-digits_value (numerals_by_value _ tells_all_ascii_digits) bytes all some
    (λ zero. absurd (nonzero zero)) small

decimal-12 : decimal 12 ≡ codes "12"
decimal-12 = decimal-known (codes "12") refl (omega arith) (λ is. omega arith) (omega arith)

decimal-305 : decimal 305 ≡ codes "305"
decimal-305 = decimal-known (codes "305") refl (omega arith) (λ is. omega arith) (omega arith)

decimal-61 : decimal 61 ≡ codes "61"
decimal-61 = decimal-known (codes "61") refl (omega arith) (λ is. omega arith) (omega arith)

decimal-4 : decimal 4 ≡ codes "4"
decimal-4 = decimal-known (codes "4") refl (omega arith) (λ is. omega arith) (omega arith)

decimal-1920 : decimal 1920 ≡ codes "1920"
decimal-1920 = decimal-known (codes "1920") refl (omega arith) (λ is. omega arith) (omega arith)

decimal-5 : decimal 5 ≡ codes "5"
decimal-5 = decimal-known (codes "5") refl (omega arith) (λ is. omega arith) (omega arith)

decimal-49 : decimal 49 ≡ codes "49"
decimal-49 = decimal-known (codes "49") refl (omega arith) (λ is. omega arith) (omega arith)

decimal-6 : decimal 6 ≡ codes "6"
decimal-6 = decimal-known (codes "6") refl (omega arith) (λ is. omega arith) (omega arith)

decimal-150 : decimal 150 ≡ codes "150"
decimal-150 = decimal-known (codes "150") refl (omega arith) (λ is. omega arith) (omega arith)

decimal-300 : decimal 300 ≡ codes "300"
decimal-300 = decimal-known (codes "300") refl (omega arith) (λ is. omega arith) (omega arith)

decimal-1 : decimal 1 ≡ codes "1"
decimal-1 = decimal_digit 1 (omega arith)

decimal-2 : decimal 2 ≡ codes "2"
decimal-2 = decimal_digit 2 (omega arith)

decimal-3 : decimal 3 ≡ codes "3"
decimal-3 = decimal_digit 3 (omega arith)

-- numbers of hundredths
pub decimals-printed : ArePrintedSo
decimals-printed = record {
  two = ap (λ digits. pointed 2 (padded 3 digits)) decimal-1920;
  below_zero = ap (λ digits. 45 ∷ pointed 2 (padded 3 digits)) decimal-5;
  zero_itself = ap (λ digits. pointed 2 (padded 3 digits)) (decimal_digit 0 (omega arith));
  whole = decimal-1920;
  mean = λ i. (decimal-49 i ++ codes "/") ++ decimal-6 i;
  squares = ap (λ digits. pointed 4 (padded 5 digits)) (long_decimal_is_decimal 1920 (omega arith) ∙ decimal-1920);
  variance = ap₂ (λ (top bottom : List ℕ). (top ++ codes "/") ++ bottom) (long_decimal_digit 1 (omega arith))
      (long_decimal_digit 6 (omega arith));
  values = λ i. ((pointed 2 (padded 3 (decimal-150 i)) ++ codes "*") ++ decimal-2 i)
      ++ ((codes " " ++ ((pointed 2 (padded 3 (decimal-300 i)) ++ codes "*") ++ decimal-1 i)) ++ []);
  whole_values = λ i. (((45 ∷ decimal-2 i) ++ codes "*") ++ decimal-1 i)
      ++ ((codes " " ++ ((decimal-5 i ++ codes "*") ++ decimal-3 i)) ++ []);
  no_values = refl;
}

pub row_fields-sample : row_fields sample_layout sample_row
    ≡ codes "north" ∷ codes "\\N" ∷ codes "\\N" ∷ codes "0" ∷ codes "0" ∷ codes "1"
    ∷ codes "12" ∷ codes "-305" ∷ codes "\\N" ∷ codes "-61/4" ∷ []
row_fields-sample = λ i. codes "north" ∷ codes "\\N" ∷ codes "\\N" ∷ codes "0" ∷ codes "0" ∷ codes "1"
    ∷ decimal-12 i ∷ (45 ∷ decimal-305 i) ∷ codes "\\N"
    ∷ (((45 ∷ decimal-61 i) ++ codes "/") ++ decimal-4 i) ∷ []
