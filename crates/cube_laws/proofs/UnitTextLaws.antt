-- The text of a number of units tells the number, and that of a fraction the fraction.
use Rattle.std.proofs.Common.{◌≡◌, ◌≢◌, ◌==◌, ℕ, zero, suc, ◌+◌, ◌-◌, ◌*◌, ◌/◌, ◌<◌, ◌≤◌, ◌^◌, ℤ, pos, negsuc, ◌*ℤ◌}
use Rattle.std.proofs.Common.{List, [], ◌∷◌, ◌++◌, drop, get_or, length, replicate, take, FitsSigned, int_div, unsigned_abs}
use Rattle.std.proofs.Common.{false, refl, sym, ap, ap₂, ◌∙◌, subst, arith, append_assoc, codes, inl, inr, length-append}
use Rattle.std.specs.Int.{IsGcd, w128}
use Rattle.std.specs.Fmt.{decimal, signed_decimal}
use Rattle.std.specs.List.{AllByRecursion}
use Rattle.std.specs.Char.{digit_value}
use Rattle.std.specs.Str.Parse.{AllDigits, digits_value}
use Rattle.std.proofs.lemmas.Bool.{cases_Bool, ne_eqb}
use Rattle.std.proofs.lemmas.Fmt.{decimal_is_IsNumeral_wide}
use Rattle.std.proofs.lemmas.Int.{ints}
use Rattle.std.proofs.lemmas.List.{append_cancel_right, length-drop, length-replicate, length-take, take-append-drop}
use Rattle.std.proofs.lemmas.Str.Parse.{digit_from_value}
use Rattle.std.proofs.Math.Nat.{div-le_self, mul-le-mul, pow-le-pow_right}
use Rattle.cube_core.specs.Fraction.{IsInLowestTerms}
use Rattle.cube_core.specs.Takes.{null_text}
use Rattle.cube_core.specs.Text.{common_with_ten, fraction_text, padded, pointed, signed_units_text, units_text}
use Rattle.cube_laws.proofs.FractionLaws.{IsInLowestTerms-unique}
use Rattle.cube_laws.proofs.KeyLaws.{append-back, append-front}
use Rattle.cube_laws.proofs.ScaledLaws.{scaled-IsInLowestTerms, times-times, unsigned_abs-div}

-- a byte of a number: neither that of a slash nor one of those that stand for null
abbrev pub IsPlain : ℕ → Type 0
IsPlain byte = (byte < 92) × (byte ≢ 47)

-- a byte of a number without its sign: no minus sign either
abbrev pub IsUnsigned : ℕ → Type 0
IsUnsigned byte = (46 ≤ byte) × (byte < 92) × (byte ≢ 47)

-- ---- what is true of each byte
module _ (P : ℕ → Type 0) where
  pub all-append : (xs ys : List ℕ) → AllByRecursion P xs → AllByRecursion P ys → AllByRecursion P (xs ++ ys)
  all-append [] ys one two = two
  all-append (x ∷ xs) ys one two = (one.0, all-append xs ys one.1 two)

  all-take : (i : ℕ) (xs : List ℕ) → AllByRecursion P xs → AllByRecursion P (take i xs)
  all-take zero xs all = tt
  all-take (suc i) [] all = tt
  all-take (suc i) (x ∷ xs) all = (all.0, all-take i xs all.1)

  all-drop : (i : ℕ) (xs : List ℕ) → AllByRecursion P xs → AllByRecursion P (drop i xs)
  all-drop zero xs all = all
  all-drop (suc i) [] all = tt
  all-drop (suc i) (x ∷ xs) all = all-drop i xs all.1

  all-replicate : (n x : ℕ) → P x → AllByRecursion P (replicate n x)
  all-replicate zero x here = tt
  all-replicate (suc n) x here = (here, all-replicate n x here)

pub unsigned-plain : (bytes : List ℕ) → AllByRecursion IsUnsigned bytes → AllByRecursion IsPlain bytes
unsigned-plain [] all = tt
unsigned-plain (byte ∷ bytes) all = ((all.0.1, all.0.2), unsigned-plain bytes all.1)

digit-IsUnsigned : (byte : ℕ) → digit_value byte < 10 → IsUnsigned byte
digit-IsUnsigned byte h = let within = digit_from_value byte h in (omega arith, omega arith, λ same. omega arith)

digits-IsUnsigned : (bytes : List ℕ) → AllDigits 10 bytes → AllByRecursion IsUnsigned bytes
digits-IsUnsigned [] h = tt
digits-IsUnsigned (byte ∷ bytes) h = (digit-IsUnsigned byte h.0, digits-IsUnsigned bytes h.1)

-- ---- decimals
pub decimal-unique : (m n : ℕ) → m < 10 ^ 64 → n < 10 ^ 64 → decimal m ≡ decimal n → m ≡ n
decimal-unique m n small small' same =
    sym (decimal_is_IsNumeral_wide m small).1 ∙ ap (digits_value 10) same ∙ (decimal_is_IsNumeral_wide n small').1

pub decimal-IsUnsigned : (n : ℕ) → n < 10 ^ 64 → AllByRecursion IsUnsigned (decimal n)
decimal-IsUnsigned n small = digits-IsUnsigned (decimal n) (decimal_is_IsNumeral_wide n small).0.1

-- no byte of a number without its sign is a minus sign
unsigned-minus : (xs ys : List ℕ) → AllByRecursion IsUnsigned xs → xs ≡ 45 ∷ ys → ⊥
unsigned-minus xs ys all same =
    let first : AllByRecursion IsUnsigned (45 ∷ ys) = subst (AllByRecursion IsUnsigned) same all in
    omega (arith, first.0.0)

-- ---- units
length-pointed : (k : ℕ) (xs : List ℕ) → length (pointed k xs) ≡ length xs + 1
length-pointed k xs =
    let i = length xs - k in
    omega (
      arith,
      length-append (take i xs ++ codes ".") (drop i xs),
      length-append (take i xs) (codes "."),
      length-append (take i xs) (drop i xs),
      ap (λ (l : List ℕ). length l) (take-append-drop i xs),
    )

-- the digits without the point
pub pointed-unique : (k : ℕ) (xs ys : List ℕ) → pointed k xs ≡ pointed k ys → xs ≡ ys
pointed-unique k xs ys same =
    let long : length xs ≡ length ys =
    omega (arith, length-pointed k xs, length-pointed k ys, ap (λ (l : List ℕ). length l) same) in
    let i = length xs - k in
    let at : i ≡ length ys - k = omega (arith, long) in
    let both : take i xs ++ codes "." ++ drop i xs ≡ take i ys ++ codes "." ++ drop i ys =
    same ∙ sym (ap (λ n. take n ys ++ codes "." ++ drop n ys) at) in
    let fronts : length (take i xs ++ codes ".") ≡ length (take i ys ++ codes ".") = omega (
      arith,
      long,
      length-append (take i xs) (codes "."),
      length-append (take i ys) (codes "."),
      length-take i xs,
      length-take i ys,
    ) in
    let front = append-front (take i xs ++ codes ".") (take i ys ++ codes ".") (drop i xs) (drop i ys) fronts both in
    let back = append-back (take i xs ++ codes ".") (take i ys ++ codes ".") (drop i xs) (drop i ys) fronts both in
    sym (take-append-drop i xs)
    ∙ ap₂ (λ a b. a ++ b) (append_cancel_right (take i xs) (take i ys) (codes ".") front) back
    ∙ take-append-drop i ys

-- zeros before digits
pub zeros-value : (n : ℕ) (digits : List ℕ) → digits_value 10 (replicate n 48 ++ digits) ≡ digits_value 10 digits
zeros-value zero digits = refl
zeros-value (suc n) digits = zeros-value n digits

-- the value of the digits that are printed for a number, without the point
pub padded-value : (least n : ℕ) → n < 10 ^ 64 → digits_value 10 (padded least (decimal n)) ≡ n
padded-value least n small =
    zeros-value (least - length (decimal n)) (decimal n) ∙ (decimal_is_IsNumeral_wide n small).1

-- a number with digits behind a point, part by part
pub units_text-digits : (k n : ℕ) → 1 ≤ k → n < 10 ^ 64
    → (whole : List ℕ) × (behind : List ℕ) × (units_text k n ≡ whole ++ 46 ∷ behind)
    × (1 ≤ length whole) × (length behind ≡ k) × (digits_value 10 (whole ++ behind) ≡ n)
units_text-digits k n some small =
    let zeros : List ℕ = replicate (k + 1 - length (decimal n)) 48 in
    let digits = padded (k + 1) (decimal n) in
    let many : length zeros ≡ k + 1 - length (decimal n) = length-replicate (k + 1 - length (decimal n)) 48 in
    let long : k + 1 ≤ length digits = omega (arith, length-append zeros (decimal n), many) in
    let i = length digits - k in
    let apart : (k == 0) ≡ false = ne_eqb k 0 (λ none. omega (arith, none, some)) in (
      take i digits,
      drop i digits,
      rw apart (append_assoc (take i digits) (codes ".") (drop i digits)),
      omega (arith, length-take i digits, long, some),
      omega (arith, length-drop i digits, long),
      ap (digits_value 10) (take-append-drop i digits) ∙ padded-value (k + 1) n small,
    )

units_text-unique : (k m n : ℕ) → m < 10 ^ 64 → n < 10 ^ 64 → units_text k m ≡ units_text k n → m ≡ n
units_text-unique k m n small small' same = elim (cases_Bool (k == 0)) [
  | inl none ↦ decimal-unique m n small small' (rw none at same)
  | inr some ↦
      let digits : padded (k + 1) (decimal m) ≡ padded (k + 1) (decimal n) =
      pointed-unique k (padded (k + 1) (decimal m)) (padded (k + 1) (decimal n)) (rw some at same) in
      sym (padded-value (k + 1) m small) ∙ ap (digits_value 10) digits ∙ padded-value (k + 1) n small'
]

-- no byte of digits with zeros before them, and a point among them, is a minus sign
pub pointed-IsUnsigned : (k : ℕ) (digits : List ℕ) → AllByRecursion IsUnsigned digits
    → AllByRecursion IsUnsigned (pointed k (padded (k + 1) digits))
pointed-IsUnsigned k digits unsigned =
    let more = padded (k + 1) digits in
    let i = length more - k in
    let zero_byte : IsUnsigned 48 = (omega arith, omega arith, λ same. omega (arith, same)) in
    let point : IsUnsigned 46 = (omega arith, omega arith, λ same. omega (arith, same)) in
    let all : AllByRecursion IsUnsigned more = all-append IsUnsigned (replicate (k + 1 - length digits) 48) digits
    (all-replicate IsUnsigned (k + 1 - length digits) 48 zero_byte) unsigned in
    all-append IsUnsigned (take i more ++ codes ".") (drop i more)
    (all-append IsUnsigned (take i more) (codes ".") (all-take IsUnsigned i more all) (point, tt))
    (all-drop IsUnsigned i more all)

pub units_text-IsUnsigned : (k n : ℕ) → n < 10 ^ 64 → AllByRecursion IsUnsigned (units_text k n)
units_text-IsUnsigned k n small = elim (cases_Bool (k == 0)) [
  | inl none ↦ rw none (decimal-IsUnsigned n small)
  | inr some ↦ rw some (pointed-IsUnsigned k (decimal n) (decimal-IsUnsigned n small))
]

pub signed_units_text-unique : (k : ℕ) (y z : ℤ) → FitsSigned w128 y → FitsSigned w128 z
    → signed_units_text k y ≡ signed_units_text k z → y ≡ z
signed_units_text-unique k (pos m) (pos n) fits fits' same =
    ap pos (units_text-unique k m n (omega (arith, ints)) (omega (arith, ints)) same)
signed_units_text-unique k (pos m) (negsuc n) fits fits' same =
    absurd (unsigned-minus (units_text k m) (units_text k (suc n))
    (units_text-IsUnsigned k m (omega (arith, ints))) same)
signed_units_text-unique k (negsuc m) (pos n) fits fits' same =
    absurd (unsigned-minus (units_text k n) (units_text k (suc m))
    (units_text-IsUnsigned k n (omega (arith, ints))) (sym same))
signed_units_text-unique k (negsuc m) (negsuc n) fits fits' same =
    let digits : units_text k (suc m) ≡ units_text k (suc n) = cc same in
    let next : suc m ≡ suc n =
    units_text-unique k (suc m) (suc n) (omega (arith, ints)) (omega (arith, ints)) digits in
    ap negsuc (omega (arith, next))

signed_units_text-IsPlain : (k : ℕ) (z : ℤ) → FitsSigned w128 z → AllByRecursion IsPlain (signed_units_text k z)
signed_units_text-IsPlain k (pos n) fits =
    unsigned-plain (units_text k n) (units_text-IsUnsigned k n (omega (arith, ints)))
signed_units_text-IsPlain k (negsuc n) fits = (
  (omega arith, λ same. omega (arith, same)),
  unsigned-plain (units_text k (suc n)) (units_text-IsUnsigned k (suc n) (omega (arith, ints))),
)

-- ---- fractions
signed_decimal-unique : (y z : ℤ) → unsigned_abs y < 10 ^ 64 → unsigned_abs z < 10 ^ 64
    → signed_decimal y ≡ signed_decimal z → y ≡ z
signed_decimal-unique (pos m) (pos n) small small' same = ap pos (decimal-unique m n small small' same)
signed_decimal-unique (pos m) (negsuc n) small small' same =
    absurd (unsigned-minus (decimal m) (decimal (suc n)) (decimal-IsUnsigned m small) same)
signed_decimal-unique (negsuc m) (pos n) small small' same =
    absurd (unsigned-minus (decimal n) (decimal (suc m)) (decimal-IsUnsigned n small') (sym same))
signed_decimal-unique (negsuc m) (negsuc n) small small' same =
    let digits : decimal (suc m) ≡ decimal (suc n) = cc same in
    ap negsuc (omega (arith, decimal-unique (suc m) (suc n) small small' digits))

signed_decimal-IsPlain : (z : ℤ) → unsigned_abs z < 10 ^ 64 → AllByRecursion IsPlain (signed_decimal z)
signed_decimal-IsPlain (pos n) small = unsigned-plain (decimal n) (decimal-IsUnsigned n small)
signed_decimal-IsPlain (negsuc n) small = (
  (omega arith, λ same. omega (arith, same)),
  unsigned-plain (decimal (suc n)) (decimal-IsUnsigned (suc n) small),
)

-- two texts with a byte after bytes that are another
pub mark-unique : (mark : ℕ) (xs ys as' bs : List ℕ) → AllByRecursion (λ byte. byte ≢ mark) xs
    → AllByRecursion (λ byte. byte ≢ mark) ys → xs ++ mark ∷ as' ≡ ys ++ mark ∷ bs → (xs ≡ ys) × (as' ≡ bs)
mark-unique mark [] [] as' bs apart apart' same = (refl, cc)
mark-unique mark [] (y ∷ ys) as' bs apart apart' same = let first : mark ≡ y = cc in absurd (apart'.0 (sym first))
mark-unique mark (x ∷ xs) [] as' bs apart apart' same = let first : x ≡ mark = cc in absurd (apart.0 first)
mark-unique mark (x ∷ xs) (y ∷ ys) as' bs apart apart' same =
    let first : x ≡ y = cc in
    let after : xs ++ mark ∷ as' ≡ ys ++ mark ∷ bs = cc in
    let rest = mark-unique mark xs ys as' bs apart.1 apart'.1 after in
    (ap₂ (λ z zs. z ∷ zs) first rest.0, rest.1)

plain-no_slash : (bytes : List ℕ) → AllByRecursion IsPlain bytes → AllByRecursion (λ byte. byte ≢ 47) bytes
plain-no_slash [] all = tt
plain-no_slash (byte ∷ bytes) all = (all.0.1, plain-no_slash bytes all.1)

-- so two texts with a slash after bytes that are none
pub slash-unique : (xs ys as' bs : List ℕ) → AllByRecursion IsPlain xs → AllByRecursion IsPlain ys
    → xs ++ 47 ∷ as' ≡ ys ++ 47 ∷ bs → (xs ≡ ys) × (as' ≡ bs)
slash-unique xs ys as' bs plain plain' same =
    mark-unique 47 xs ys as' bs (plain-no_slash xs plain) (plain-no_slash ys plain') same

-- the numerator and the denominator that are printed
numerator : ℕ → ℤ → ℤ
numerator k p = int_div p (pos (common_with_ten k (unsigned_abs p)))

denominator : ℕ → ℤ → ℕ → ℕ
denominator k p q = q * (10 ^ k / common_with_ten k (unsigned_abs p))

-- the text of a fraction, by its slash
fraction_text-slash : (k : ℕ) (p : ℤ) (q : ℕ)
    → fraction_text k p q ≡ signed_decimal (numerator k p) ++ 47 ∷ decimal (denominator k p q)
unfolding numerator denominator
fraction_text-slash k p q =
    append_assoc (signed_decimal (int_div p (pos (common_with_ten k (unsigned_abs p))))) (codes "/")
    (decimal (q * (10 ^ k / common_with_ten k (unsigned_abs p))))

numerator-small : (k : ℕ) (p : ℤ) → FitsSigned w128 p → unsigned_abs (numerator k p) < 10 ^ 64
unfolding numerator
numerator-small k p fits =
    let common = common_with_ten k (unsigned_abs p) in
    omega (arith, unsigned_abs-div p common, div-le_self (unsigned_abs p) common, small p fits) where
      small : (z : ℤ) → FitsSigned w128 z → unsigned_abs z < 2 ^ 128
      small (pos n) fits = omega (arith, ints)
      small (negsuc n) fits = omega (arith, ints)

denominator-small : (k : ℕ) (p : ℤ) (q : ℕ) → k ≤ 18 → q < 2 ^ 64 → denominator k p q < 10 ^ 64
unfolding denominator
denominator-small k p q few small =
    let common = common_with_ten k (unsigned_abs p) in
    let rest : 10 ^ k / common ≤ 10 ^ k = div-le_self (10 ^ k) common in
    let power : 10 ^ k ≤ 10 ^ 18 = pow-le-pow_right (omega arith) few in
    let product : q * (10 ^ k / common) ≤ 2 ^ 64 * 10 ^ 18
    = mul-le-mul {n₁ = q} {m₁ = 10 ^ k / common} {n₂ = 2 ^ 64} {m₂ = 10 ^ 18} (omega (arith, small))
    (omega (arith, rest, power)) in
    omega (arith, product)

-- a fraction in lowest terms is that of what is printed for it
printed-IsInLowestTerms : (k : ℕ) (p : ℤ) (q : ℕ) → 0 < q → IsGcd (unsigned_abs p) q 1
    → (0 < denominator k p q) × IsInLowestTerms (numerator k p *ℤ pos (10 ^ k)) (denominator k p q) p q
unfolding numerator denominator
printed-IsInLowestTerms k p q some coprime =
    let scaled = scaled-IsInLowestTerms k p q some coprime in (
      scaled.positive,
      record {
        positive = some;
        coprime = coprime;
        equal = sym scaled.equal
            ∙ sym (times-times (int_div p (pos (common_with_ten k (unsigned_abs p)))) (10 ^ k) q);
      },
    )

pub fraction_text-unique : (k : ℕ) (p p' : ℤ) (q q' : ℕ) → k ≤ 18 → FitsSigned w128 p → FitsSigned w128 p'
    → q < 2 ^ 64 → q' < 2 ^ 64 → 0 < q → 0 < q' → IsGcd (unsigned_abs p) q 1 → IsGcd (unsigned_abs p') q' 1
    → fraction_text k p q ≡ fraction_text k p' q' → (p ≡ p') × (q ≡ q')
fraction_text-unique k p p' q q' few fits fits' small small' some some' coprime coprime' same =
    let parts = slash-unique (signed_decimal (numerator k p)) (signed_decimal (numerator k p'))
    (decimal (denominator k p q)) (decimal (denominator k p' q'))
    (signed_decimal-IsPlain (numerator k p) (numerator-small k p fits))
    (signed_decimal-IsPlain (numerator k p') (numerator-small k p' fits'))
    (sym (fraction_text-slash k p q) ∙ same ∙ fraction_text-slash k p' q') in
    let numerators : numerator k p' ≡ numerator k p = sym (signed_decimal-unique (numerator k p) (numerator k p')
    (numerator-small k p fits) (numerator-small k p' fits') parts.0) in
    let denominators : denominator k p' q' ≡ denominator k p q =
    sym (decimal-unique (denominator k p q) (denominator k p' q')
    (denominator-small k p q few small) (denominator-small k p' q' few small') parts.1) in
    let one = printed-IsInLowestTerms k p q some coprime in
    let other = printed-IsInLowestTerms k p' q' some' coprime' in
    IsInLowestTerms-unique (numerator k p *ℤ pos (10 ^ k)) (denominator k p q) p p' q q' one.0 one.1
    (subst (λ n. IsInLowestTerms (numerator k p *ℤ pos (10 ^ k)) n p' q') denominators
    (subst (λ (z : ℤ). IsInLowestTerms (z *ℤ pos (10 ^ k)) (denominator k p' q') p' q') numerators other.1))

-- ---- null
-- the first byte for null is none of a number's, with or without a slash after it
pub null_text-plain : (xs as' : List ℕ) → AllByRecursion IsPlain xs → null_text ≡ xs ++ 47 ∷ as' → ⊥
null_text-plain [] as' plain same =
    let first : 92 ≡ 47 = ap (λ (bytes : List ℕ). get_or bytes 0 0) same in omega (arith, first)
null_text-plain (x ∷ xs) as' plain same =
    let first : x ≡ 92 = sym (ap (λ (bytes : List ℕ). get_or bytes 0 0) same) in
    omega (arith, plain.0.0)

pub null_text-units : (k : ℕ) (z : ℤ) → FitsSigned w128 z → null_text ≡ signed_units_text k z → ⊥
null_text-units k z fits same =
    let plain : AllByRecursion IsPlain null_text =
    subst (AllByRecursion IsPlain) (sym same) (signed_units_text-IsPlain k z fits) in
    omega (arith, plain.0.0)

pub null_text-fraction : (k : ℕ) (p : ℤ) (q : ℕ) → FitsSigned w128 p → null_text ≡ fraction_text k p q → ⊥
null_text-fraction k p q fits same =
    null_text-plain (signed_decimal (numerator k p)) (decimal (denominator k p q))
    (signed_decimal-IsPlain (numerator k p) (numerator-small k p fits)) (same ∙ fraction_text-slash k p q)
