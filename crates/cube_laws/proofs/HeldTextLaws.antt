-- The text of values, with how often each is held, tells them.
use Rattle.std.proofs.Common.{◌≡◌, ◌≢◌, ℕ, suc, ◌<◌, ◌^◌, ℤ, pos, negsuc, List, [], ◌∷◌, ◌++◌, length, flat_map, FitsSigned}
use Rattle.std.proofs.Common.{refl, sym, ap, ap₂, ◌∙◌, arith, append_assoc, codes, length-append}
use Rattle.std.specs.Fmt.{decimal}
use Rattle.std.specs.Int.{w128}
use Rattle.std.specs.List.{AllByRecursion}
use Rattle.std.proofs.lemmas.Int.{ints}
use Rattle.cube_core.specs.Text.{held_text, signed_units_text, values_text}
use Rattle.cube_laws.proofs.UnitTextLaws.{IsUnsigned, decimal-IsUnsigned, decimal-unique, mark-unique}
use Rattle.cube_laws.proofs.UnitTextLaws.{signed_units_text-unique, units_text-IsUnsigned}

-- a value with how often it is held can be told: both are small numbers
pub record IsToldPair (pair : ℤ × ℕ) : Type 0 where
  pub value : FitsSigned w128 pair.0
  pub times : pair.1 < 10 ^ 64

-- no byte of a number is a star or a space
unsigned-apart : (mark : ℕ) (bytes : List ℕ) → mark < 45 → AllByRecursion IsUnsigned bytes
    → AllByRecursion (λ byte. byte ≢ mark) bytes
unsigned-apart mark [] low all = tt
unsigned-apart mark (byte ∷ bytes) low all =
    (λ same. omega (arith, same, low, all.0.0), unsigned-apart mark bytes low all.1)

signed-apart : (mark k : ℕ) (z : ℤ) → mark < 45 → FitsSigned w128 z
    → AllByRecursion (λ byte. byte ≢ mark) (signed_units_text k z)
signed-apart mark k (pos n) low fits =
    unsigned-apart mark _ low (units_text-IsUnsigned k n (omega (arith, ints)))
signed-apart mark k (negsuc n) low fits = (
  λ same. omega (arith, same, low),
  unsigned-apart mark _ low (units_text-IsUnsigned k (suc n) (omega (arith, ints))),
)

-- values with a space behind each
ended_text : ℕ → List (ℤ × ℕ) → List ℕ
ended_text k held = flat_map (λ pair. held_text k pair ++ codes " ") held

-- the first of them: a value, a star, how often it is held, and a space
ended_text-first : (k : ℕ) (v : ℤ) (n : ℕ) (held : List (ℤ × ℕ))
    → ended_text k ((v, n) ∷ held) ≡ signed_units_text k v ++ 42 ∷ (decimal n ++ 32 ∷ ended_text k held)
unfolding ended_text
ended_text-first k v n held =
    append_assoc (held_text k (v, n)) (codes " ") (ended_text k held)
    ∙ append_assoc (signed_units_text k v ++ codes "*") (decimal n) (32 ∷ ended_text k held)
    ∙ append_assoc (signed_units_text k v) (codes "*") (decimal n ++ 32 ∷ ended_text k held)

-- some bytes with a byte among them aren't none
no_mark : (xs ys : List ℕ) (mark : ℕ) → [] ≡ xs ++ mark ∷ ys → ⊥
no_mark xs ys mark same =
    omega (arith, ap (λ (bytes : List ℕ). length bytes) same, length-append xs (mark ∷ ys))

ended_text-unique : (k : ℕ) (held others : List (ℤ × ℕ)) → AllByRecursion IsToldPair held
    → AllByRecursion IsToldPair others → ended_text k held ≡ ended_text k others → held ≡ others
unfolding ended_text
ended_text-unique k [] [] told told' same = refl
ended_text-unique k [] ((w, j) ∷ others) told told' same =
    absurd (no_mark (signed_units_text k w) (decimal j ++ 32 ∷ ended_text k others) 42
    (same ∙ ended_text-first k w j others))
ended_text-unique k ((v, n) ∷ held) [] told told' same =
    absurd (no_mark (signed_units_text k v) (decimal n ++ 32 ∷ ended_text k held) 42
    (sym same ∙ ended_text-first k v n held))
ended_text-unique k ((v, n) ∷ held) ((w, j) ∷ others) told told' same =
    let star = mark-unique 42 (signed_units_text k v) (signed_units_text k w) (decimal n ++ 32 ∷ ended_text k held)
    (decimal j ++ 32 ∷ ended_text k others) (signed-apart 42 k v (omega arith) told.0.value)
    (signed-apart 42 k w (omega arith) told'.0.value)
    (sym (ended_text-first k v n held) ∙ same ∙ ended_text-first k w j others) in
    let space = mark-unique 32 (decimal n) (decimal j) (ended_text k held) (ended_text k others)
    (unsigned-apart 32 (decimal n) (omega arith) (decimal-IsUnsigned n told.0.times))
    (unsigned-apart 32 (decimal j) (omega arith) (decimal-IsUnsigned j told'.0.times)) star.1 in
    let value : v ≡ w = signed_units_text-unique k v w told.0.value told'.0.value star.0 in
    let times : n ≡ j = decimal-unique n j told.0.times told'.0.times space.0 in
    ap₂ (λ (pair : ℤ × ℕ) pairs. pair ∷ pairs)
    (ap₂ (λ (x : ℤ) (i : ℕ). let pair : ℤ × ℕ = (x, i) in pair) value times)
    (ended_text-unique k held others told.1 told'.1 space.1)

-- a space between two of them and one behind the last are one behind each
spaces-shifted : (k : ℕ) (held : List (ℤ × ℕ))
    → flat_map (λ other. codes " " ++ held_text k other) held ++ codes " " ≡ 32 ∷ ended_text k held
unfolding ended_text
spaces-shifted k [] = refl
spaces-shifted k (pair ∷ held) =
    append_assoc (32 ∷ held_text k pair) (flat_map (λ other. codes " " ++ held_text k other) held) (codes " ")
    ∙ ap (λ rest. (32 ∷ held_text k pair) ++ rest) (spaces-shifted k held)
    ∙ ap (λ rest. 32 ∷ rest) (sym (append_assoc (held_text k pair) (codes " ") (ended_text k held)))

values_text-ended : (k : ℕ) (pair : ℤ × ℕ) (held : List (ℤ × ℕ))
    → values_text k (pair ∷ held) ++ codes " " ≡ ended_text k (pair ∷ held)
unfolding ended_text
values_text-ended k pair held =
    append_assoc (held_text k pair) (flat_map (λ other. codes " " ++ held_text k other) held) (codes " ")
    ∙ ap (λ rest. held_text k pair ++ rest) (spaces-shifted k held)
    ∙ sym (append_assoc (held_text k pair) (codes " ") (ended_text k held))

-- no value is told by no text
values_text-some : (k : ℕ) (pair : ℤ × ℕ) (held : List (ℤ × ℕ)) → values_text k (pair ∷ held) ≡ [] → ⊥
values_text-some k pair held same =
    omega (
      arith,
      ap (λ (bytes : List ℕ). length bytes) same,
      length-append (held_text k pair) (flat_map (λ other. codes " " ++ held_text k other) held),
      length-append (signed_units_text k pair.0 ++ codes "*") (decimal pair.1),
      length-append (signed_units_text k pair.0) (codes "*"),
    )

pub values_text-unique : (k : ℕ) (held others : List (ℤ × ℕ)) → AllByRecursion IsToldPair held
    → AllByRecursion IsToldPair others → values_text k held ≡ values_text k others → held ≡ others
values_text-unique k [] [] told told' same = refl
values_text-unique k [] (pair ∷ others) told told' same = absurd (values_text-some k pair others (sym same))
values_text-unique k (pair ∷ held) [] told told' same = absurd (values_text-some k pair held same)
values_text-unique k (pair ∷ held) (other ∷ others) told told' same =
    ended_text-unique k (pair ∷ held) (other ∷ others) told told'
    (sym (values_text-ended k pair held) ∙ ap (λ text. text ++ codes " ") same ∙ values_text-ended k other others)
