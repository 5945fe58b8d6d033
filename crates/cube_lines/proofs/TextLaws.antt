-- How a line grows in memory, field by field.
use Rattle.std.proofs.Common.{◌≡◌, ◌++◌, ◌+◌, ◌^◌, ◌<◌, ◌≤◌, ◌%◌, ◌∷◌, [], ℕ, ℤ, pos, negsuc, suc, true, false, List}
use Rattle.std.proofs.Common.{length, map, take, get_or, refl, sym, ap, ◌∙◌, append_assoc, length-append, arith}
use Rattle.std.proofs.Common.{decimal, codes, drop, inl, inr, int_div, nat_lt, replicate, unsigned_abs, zero}
use Rattle.std.proofs.Common.{◌*◌, ◌-◌, ◌/◌, ◌==◌}
use Rattle.std.specs.List.{list_any}
use Rattle.std.specs.Fmt.{digit_glyph, digits, digits_onto, signed_decimal}
use Rattle.std.proofs.lemmas.Bool.{cases_Bool, cases_lt, ne_eqb, or_parts}
use Rattle.std.proofs.lemmas.Grind.{flat_map-append}
use Rattle.std.proofs.lemmas.List.{append-nil, append_cancel_right, length-map, take-append-drop, take_more, map-append}
use Rattle.std.proofs.lemmas.List.Folds.{list_any-append}
use Rattle.csv.specs.Writing.{default_writer, escaped, field_text, fields_text, is_blank, needs_byte, needs_quotes}
use Rattle.csv.specs.Writing.{row_body, row_text}
use Rattle.csv.proofs.WriteFacts.{escaped-append, escaped-other}
use Rattle.cube_core.specs.Layout.{Layout}
use Rattle.cube_core.specs.Text.{answer_texts, common_with_ten, coord_text, digits_of_answers, fraction_text}
use Rattle.cube_core.specs.Text.{grouping_text, line, long_units_text, padded, pointed, row_fields, row_line}
use Rattle.cube_core.specs.Text.{signed_units_text, units_text}
use Rattle.cube_core.specs.Wide.{long_decimal}
use Rattle.cube_core.proofs.LongDecimalLaws.{long_decimal_digit, long_decimal_step}
use Rattle.cube_core.specs.declared.key.Row.{Row}
use Rattle.cube_lines.specs.Parts.{AddsParts, EndsLine, part, parts}

-- one more field of those that a list gives
pub AddsParts-more : {X : Type 0} (f : X → List ℕ) (xs : List X) (i : ℕ) (x : X) (start old new : List ℕ)
    → i < length xs → x ≡ get_or xs i x
    → old ≡ start ++ parts (map f (take i xs)) → AddsParts (f x ∷ []) old new
    → new ≡ start ++ parts (map f (take (i + 1) xs))
AddsParts-more f xs i x start old new inside is so_far adds =
    let more : map f (take (i + 1) xs) ≡ map f (take i xs) ++ f x ∷ []
    = ap (map f) (take_more xs i x inside) ∙ map-append f (take i xs) (get_or xs i x ∷ [])
    ∙ ap (λ y. map f (take i xs) ++ f y ∷ []) (sym is) in
    adds ∙ ap (λ t. t ++ parts (f x ∷ [])) so_far
    ∙ append_assoc start (parts (map f (take i xs))) (parts (f x ∷ []))
    ∙ ap (λ t. start ++ t) (sym (flat_map-append part (map f (take i xs)) (f x ∷ [])) ∙ ap parts (sym more))

-- one more field behind others
pub AddsParts-push : (fields : List (List ℕ)) (field : List ℕ) (start old new : List ℕ)
    → old ≡ start ++ parts fields → AddsParts (field ∷ []) old new → new ≡ start ++ parts (fields ++ field ∷ [])
AddsParts-push fields field start old new so_far adds =
    adds ∙ ap (λ t. t ++ parts (field ∷ [])) so_far ∙ append_assoc start (parts fields) (parts (field ∷ []))
    ∙ ap (λ t. start ++ t) (sym (flat_map-append part fields (field ∷ [])))

map-id : (xs : List (List ℕ)) → map (λ x. x) xs ≡ xs
map-id [] = refl
map-id (x ∷ xs) = ap (λ t. x ∷ t) (map-id xs)

-- one more field of those of a list
pub AddsParts-take : (xs : List (List ℕ)) (i : ℕ) (x : List ℕ) (start old new : List ℕ) → i < length xs
    → x ≡ get_or xs i x
    → old ≡ start ++ parts (take i xs) → AddsParts (x ∷ []) old new → new ≡ start ++ parts (take (i + 1) xs)
AddsParts-take xs i x start old new inside is so_far adds =
    AddsParts-more (λ x. x) xs i x start old new inside is
    (so_far ∙ ap (λ t. start ++ parts t) (sym (map-id (take i xs)))) adds
    ∙ ap (λ t. start ++ parts t) (map-id (take (i + 1) xs))

-- one more byte of a field between quotes
pub escaped-more : (xs : List ℕ) (i : ℕ) (d : ℕ) (start old new : List ℕ) → i < length xs
    → old ≡ start ++ escaped default_writer (take i xs) → new ≡ old ++ escaped default_writer (get_or xs i d ∷ [])
    → new ≡ start ++ escaped default_writer (take (i + 1) xs)
escaped-more xs i d start old new inside so_far adds =
    adds ∙ ap (λ t. t ++ escaped default_writer (get_or xs i d ∷ [])) so_far
    ∙ append_assoc start (escaped default_writer (take i xs)) (escaped default_writer (get_or xs i d ∷ []))
    ∙ ap (λ t. start ++ t) (sym (escaped-append default_writer (take i xs) (get_or xs i d ∷ []))
    ∙ ap (escaped default_writer) (sym (take_more xs i d inside)))

-- a quote is doubled, any other byte stands for itself
pub escaped-quote : escaped default_writer (34 ∷ []) ≡ 34 ∷ 34 ∷ []
unfolding escaped
escaped-quote = refl

pub escaped-plain : (b : ℕ) → (b ≡ 34 → ⊥) → escaped default_writer (b ∷ []) ≡ b ∷ []
escaped-plain b other = escaped-other default_writer b other

pub escaped-none : escaped default_writer [] ≡ []
unfolding escaped
escaped-none = refl

-- a field's part alone
pub parts-one : (field : List ℕ) → parts (field ∷ []) ≡ field_text default_writer field ++ 44 ∷ []
parts-one field = append-nil (part field)

-- a field that needs no quotes
pub AddsParts-plain : (field old new : List ℕ) → needs_quotes default_writer field ≡ false
    → new ≡ (old ++ field) ++ 44 ∷ [] → AddsParts (field ∷ []) old new
AddsParts-plain field old new plain is =
    is ∙ append_assoc old field (44 ∷ [])
    ∙ ap (λ t. old ++ t) (sym (parts-one field ∙ rw plain refl))

-- a field in quotes
pub AddsParts-quoted : (field old new : List ℕ) → needs_quotes default_writer field ≡ true
    → new ≡ (((old ++ 34 ∷ []) ++ escaped default_writer field) ++ 34 ∷ []) ++ 44 ∷ [] → AddsParts (field ∷ []) old new
AddsParts-quoted field old new quotes is =
    is ∙ ap (λ t. (t ++ 34 ∷ []) ++ 44 ∷ []) (append_assoc old (34 ∷ []) (escaped default_writer field))
    ∙ ap (λ t. t ++ 44 ∷ []) (append_assoc old (34 ∷ escaped default_writer field) (34 ∷ []))
    ∙ append_assoc old (34 ∷ (escaped default_writer field ++ 34 ∷ [])) (44 ∷ [])
    ∙ ap (λ t. old ++ t) (sym (parts-one field ∙ rw quotes refl))

-- parts are a line's body and a comma
parts-fields_text : (fields : List (List ℕ)) → 44 ∷ parts fields ≡ fields_text default_writer fields ++ 44 ∷ []
unfolding fields_text
parts-fields_text [] = refl
parts-fields_text (field ∷ fields) =
    ap (λ t. 44 ∷ t) (append_assoc (field_text default_writer field) (44 ∷ []) (parts fields)
    ∙ ap (λ t. field_text default_writer field ++ t) (parts-fields_text fields)
    ∙ sym (append_assoc (field_text default_writer field) (fields_text default_writer fields) (44 ∷ [])))

pub parts-row_body : (field : List ℕ) (fields : List (List ℕ))
    → parts (field ∷ fields) ≡ row_body default_writer (field ∷ fields) ++ 44 ∷ []
parts-row_body field fields =
    append_assoc (field_text default_writer field) (44 ∷ []) (parts fields)
    ∙ ap (λ t. field_text default_writer field ++ t) (parts-fields_text fields)
    ∙ sym (append_assoc (field_text default_writer field) (fields_text default_writer fields) (44 ∷ []))

-- a line of two fields and more is its body and LF
row_text-row_body : (fields : List (List ℕ)) → 2 ≤ length fields
    → row_text default_writer fields ≡ row_body default_writer fields ++ 10 ∷ []
unfolding is_blank
row_text-row_body [] many = absurd (omega arith)
row_text-row_body (field ∷ []) many = absurd (omega arith)
row_text-row_body (field ∷ other ∷ fields) many = refl

parts-body : (fields : List (List ℕ)) → 2 ≤ length fields → parts fields ≡ row_body default_writer fields ++ 44 ∷ []
parts-body [] many = absurd (omega arith)
parts-body (field ∷ fields) many = parts-row_body field fields

-- a line whose last comma became its end, where the text of its row's fields ended with that comma
pub EndsLine-row : (s : Layout) (row : Row) (text : List ℕ) → text ≡ parts (row_fields s row)
    → 1 ≤ length row.key.coords → EndsLine text (row_line s row)
EndsLine-row s row text shown some fields is =
    let a = map coord_text row.key.coords in
    let b = map grouping_text row.key.coords in
    let c = answer_texts (digits_of_answers s) row.answers in
    let many : 2 ≤ length (row_fields s row) = omega (
      arith,
      some,
      length-append (a ++ b) c,
      length-append a b,
      length-map row.key.coords coord_text,
      length-map row.key.coords grouping_text,
    ) in
    row_text-row_body (row_fields s row) many
    ∙ ap (λ t. t ++ 10 ∷ []) (append_cancel_right (row_body default_writer (row_fields s row)) fields (44 ∷ [])
    (sym (shown ∙ parts-body (row_fields s row) many) ∙ is))

-- three runs of fields and the line's end
pub EndsLine-line : (a b c : List (List ℕ)) (old first second third new : List ℕ) → 1 ≤ length a → 1 ≤ length b
    → AddsParts a old first → AddsParts b first second → AddsParts c second third → EndsLine third new
    → new ≡ old ++ line (a ++ b ++ c)
EndsLine-line a b c old first second third new some_a some_b one two three ended =
    let fields = a ++ b ++ c in
    let many : 2 ≤ length fields = omega (arith, some_a, some_b, length-append (a ++ b) c, length-append a b) in
    let body = row_body default_writer fields in
    let all : third ≡ (old ++ body) ++ 44 ∷ []
    = three ∙ ap (λ t. t ++ parts c) (two ∙ ap (λ t. t ++ parts b) one ∙ append_assoc old (parts a) (parts b)
    ∙ ap (λ t. old ++ t) (sym (flat_map-append part a b)))
    ∙ append_assoc old (parts (a ++ b)) (parts c)
    ∙ ap (λ t. old ++ t) (sym (flat_map-append part (a ++ b) c) ∙ parts-body fields many)
    ∙ sym (append_assoc old body (44 ∷ [])) in
    ended (old ++ body) all ∙ append_assoc old body (10 ∷ []) ∙ ap (λ t. old ++ t) (sym (row_text-row_body fields many))

-- digits need no quotes
plain-digit : (b : ℕ) → 45 ≤ b → needs_byte default_writer b ≡ false
plain-digit b high = rw (
  ne_eqb b 44 (λ e. omega arith),
  ne_eqb b 34 (λ e. omega arith),
  ne_eqb b 13 (λ e. omega arith),
  ne_eqb b 10 (λ e. omega arith),
) refl

plain-more-digit : (digits : List ℕ) (d : ℕ) → needs_quotes default_writer digits ≡ false
    → needs_quotes default_writer (digits ++ (48 + d) ∷ []) ≡ false
plain-more-digit digits d plain = rw (
  list_any-append (needs_byte default_writer) digits ((48 + d) ∷ []),
  plain,
  plain-digit (48 + d) (omega arith),
) refl

plain-steps : (steps n : ℕ) → n < steps → needs_quotes default_writer (long_decimal n) ≡ false
plain-steps zero n below = absurd (omega (arith, below))
plain-steps (suc steps) n below = elim (cases_lt n 10) [
  | inl short ↦ rw (long_decimal_digit n short, plain-digit (48 + n) (omega arith)) refl
  | inr long ↦
      rw (long_decimal_step n long)
      (plain-more-digit (long_decimal (n / 10)) (n % 10) (plain-steps steps (n / 10) (omega (arith, below, long))))
]

pub plain-long_decimal : (n : ℕ) → needs_quotes default_writer (long_decimal n) ≡ false
plain-long_decimal n = plain-steps (suc n) n (omega arith)

-- nor do those that the standard library writes
plain-glyph : (d : ℕ) → needs_byte default_writer (digit_glyph false d) ≡ false
plain-glyph d = elim (cases_Bool (nat_lt d 10)) [
  | inl one ↦ rw one (plain-digit (48 + d) (omega arith))
  | inr more ↦ rw more (plain-digit (87 + d) (omega arith))
]

plain-onto : (k n : ℕ) (behind : List ℕ) → needs_quotes default_writer behind ≡ false
    → needs_quotes default_writer (digits_onto k 10 false n behind) ≡ false
plain-onto zero n behind plain = plain
plain-onto (suc k) n behind plain =
    let more : needs_quotes default_writer (digit_glyph false (n % 10) ∷ behind) ≡ false =
    rw (plain-glyph (n % 10)) plain in
    elim (cases_Bool (n / 10 == 0)) [
      | inl last ↦ rw last more
      | inr others ↦ rw others (plain-onto k (n / 10) (digit_glyph false (n % 10) ∷ behind) more)
    ]

pub plain-decimal : (n : ℕ) → needs_quotes default_writer (decimal n) ≡ false
unfolding digits
plain-decimal n = plain-onto 64 n [] refl

pub plain-signed_decimal : (z : ℤ) → needs_quotes default_writer (signed_decimal z) ≡ false
plain-signed_decimal (pos n) = plain-decimal n
plain-signed_decimal (negsuc n) = rw (plain-digit 45 (omega arith)) (plain-decimal (suc n))

-- nor does a fraction
pub plain-fraction : (z : ℤ) (q : ℕ) → needs_quotes default_writer (signed_decimal z ++ codes "/" ++ decimal q) ≡ false
plain-fraction z q =
    rw (
      list_any-append (needs_byte default_writer) (signed_decimal z ++ codes "/") (decimal q),
      list_any-append (needs_byte default_writer) (signed_decimal z) (codes "/"),
      plain-signed_decimal z,
      plain-decimal q,
    ) refl

-- nor does a number with digits behind a point
plain-zeros : (n : ℕ) → needs_quotes default_writer (replicate n 48) ≡ false
plain-zeros zero = refl
plain-zeros (suc n) = plain-zeros n

plain-point : (i : ℕ) (digits : List ℕ) → needs_quotes default_writer digits ≡ false
    → needs_quotes default_writer (take i digits ++ codes "." ++ drop i digits) ≡ false
plain-point i digits plain =
    let both = or_parts (list_any (needs_byte default_writer) (take i digits))
    (list_any (needs_byte default_writer) (drop i digits))
    (sym (list_any-append (needs_byte default_writer) (take i digits) (drop i digits))
    ∙ ap (list_any (needs_byte default_writer)) (take-append-drop i digits) ∙ plain) in
    rw (
      list_any-append (needs_byte default_writer) (take i digits ++ codes ".") (drop i digits),
      list_any-append (needs_byte default_writer) (take i digits) (codes "."),
      both.0,
      both.1,
    ) refl

plain-pointed : (k : ℕ) (digits : List ℕ) → needs_quotes default_writer digits ≡ false
    → needs_quotes default_writer (pointed k (padded (k + 1) digits)) ≡ false
plain-pointed k digits plain =
    plain-point (length (padded (k + 1) digits) - k) (padded (k + 1) digits) (rw (
      list_any-append (needs_byte default_writer) (replicate (k + 1 - length digits) 48) digits,
      plain-zeros (k + 1 - length digits),
      plain,
    ) refl)

plain-units : (k n : ℕ) → needs_quotes default_writer (units_text k n) ≡ false
plain-units k n = elim (cases_Bool (k == 0)) [
  | inl none ↦ rw none (plain-decimal n)
  | inr some ↦ rw some (plain-pointed k (decimal n) (plain-decimal n))
]

pub plain-long_units : (k n : ℕ) → needs_quotes default_writer (long_units_text k n) ≡ false
plain-long_units k n = elim (cases_Bool (k == 0)) [
  | inl none ↦ rw none (plain-long_decimal n)
  | inr some ↦ rw some (plain-pointed k (long_decimal n) (plain-long_decimal n))
]

pub plain-signed_units : (k : ℕ) (z : ℤ) → needs_quotes default_writer (signed_units_text k z) ≡ false
plain-signed_units k (pos n) = plain-units k n
plain-signed_units k (negsuc n) = rw (plain-digit 45 (omega arith)) (plain-units k (suc n))

-- nor does a fraction of units
pub plain-fraction_text : (k : ℕ) (p : ℤ) (q : ℕ) → needs_quotes default_writer (fraction_text k p q) ≡ false
plain-fraction_text k p q =
    let common = common_with_ten k (unsigned_abs p) in
    plain-fraction (int_div p (pos common)) (q * (10 ^ k / common))

pub plain-long_fraction : (p q : ℕ)
    → needs_quotes default_writer (long_decimal p ++ codes "/" ++ long_decimal q) ≡ false
plain-long_fraction p q =
    rw (
      list_any-append (needs_byte default_writer) (long_decimal p ++ codes "/") (long_decimal q),
      list_any-append (needs_byte default_writer) (long_decimal p) (codes "/"),
      plain-long_decimal p,
      plain-long_decimal q,
    ) refl

-- what a row shows of its key, its answers, and the line's end
pub EndsLine-keyed : (a b c : List (List ℕ)) (old key first second new : List ℕ) → 1 ≤ length a → 1 ≤ length b
    → key ≡ parts (a ++ b) → first ≡ old ++ key → AddsParts c first second → EndsLine second new
    → new ≡ old ++ line (a ++ b ++ c)
EndsLine-keyed a b c old key first second new some_a some_b key_is one two ended =
    let both : first ≡ (old ++ parts a) ++ parts b =
    one ∙ ap (λ t. old ++ t) (key_is ∙ flat_map-append part a b) ∙ sym (append_assoc old (parts a) (parts b)) in
    EndsLine-line a b c old (old ++ parts a) first second new some_a some_b refl both two ended
