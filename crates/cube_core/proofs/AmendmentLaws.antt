-- Fields over old values, one place after the other.
use Rattle.std.proofs.Common.{◌≡◌, ◌<◌, ◌+◌, ℕ, zero, suc, List, [], ◌∷◌, ◌++◌, length, take, get_or, refl, ap, arith}
use Rattle.std.proofs.Common.{add-one}
use Rattle.cube_core.specs.Amendment.{field_over, fields_over}
use Rattle.cube_core.specs.declared.partial.Field.{Field}

-- fields and old values one place further have one value more
fields_over-take_suc : {A : Type 0} (fields : List (Field A)) (olds : List A) (i : ℕ) (field : Field A) (old : A)
    → i < length fields → length fields ≡ length olds
    → fields_over (take (suc i) fields) (take (suc i) olds)
    ≡ fields_over (take i fields) (take i olds) ++ field_over (get_or fields i field) (get_or olds i old) ∷ []
fields_over-take_suc [] olds i field old below same = absurd (omega arith)
fields_over-take_suc (f ∷ fields) [] i field old below same = absurd (omega arith)
fields_over-take_suc (f ∷ fields) (o ∷ olds) zero field old below same = refl
fields_over-take_suc (f ∷ fields) (o ∷ olds) (suc i) field old below same =
    ap (λ values. field_over f o ∷ values) (fields_over-take_suc fields olds i field old (omega arith) (omega arith))

pub fields_over-take : {A : Type 0} (fields : List (Field A)) (olds : List A) (i : ℕ) (field : Field A) (old : A)
    → i < length fields → length fields ≡ length olds
    → fields_over (take (i + 1) fields) (take (i + 1) olds)
    ≡ fields_over (take i fields) (take i olds) ++ field_over (get_or fields i field) (get_or olds i old) ∷ []
fields_over-take fields olds i field old below same =
    rw (add-one i) (fields_over-take_suc fields olds i field old below same)

-- as many values as there were
pub length-fields_over : {A : Type 0} (fields : List (Field A)) (olds : List A) → length fields ≡ length olds
    → length (fields_over fields olds) ≡ length olds
length-fields_over [] [] same = refl
length-fields_over [] (old ∷ olds) same = absurd (omega arith)
length-fields_over (field ∷ fields) [] same = absurd (omega arith)
length-fields_over (field ∷ fields) (old ∷ olds) same = ap (λ n. suc n) (length-fields_over fields olds (omega arith))
