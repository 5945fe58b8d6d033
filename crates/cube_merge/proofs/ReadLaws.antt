-- What is left of a text that was at its end, and what a row that is read last lacks.
use Rattle.std.proofs.Common.{◌≡◌, ◌<◌, [], ℕ, List, Option, Some, None, IfSome, length, sym, ap, ◌∙◌, arith}
use Rattle.std.proofs.Math.Bool.{and-false}
use Rattle.std.specs.Prelude.{◌==◌, ◌&&◌, false}
use Rattle.std.specs.List.{list_all}
use Rattle.cube_core.specs.Cube.{is_total}
use Rattle.cube_core.specs.GroupingSet.{is_all_coord}
use Rattle.cube_core.specs.declared.key.Row.{Row}
use Rattle.std.proofs.Common.{length-append}
use Rattle.std.proofs.lemmas.List.{nil_from_length}
use Rattle.std.specs.Prelude.{◌≢◌}
use Rattle.std.specs.Io.KnownBytes.{Consumes, IsAtEnd}

-- nothing is left of what was at its end
pub IsAtEnd-Consumes : (a b : Option (List ℕ)) (bs : List ℕ) → Consumes a b bs → IsAtEnd a → IfSome a (λ _. IsAtEnd b)
IsAtEnd-Consumes None b bs c end = tt
IsAtEnd-Consumes (Some x) None bs c end = absurd c
IsAtEnd-Consumes (Some x) (Some y) bs c end =
    nil_from_length y (omega (arith, length-append bs y, ap length (sym c ∙ end)))

-- the same of a text that was known before
pub IsAtEnd-first : (a b c : Option (List ℕ)) (bs cs : List ℕ) → Consumes a b bs → Consumes b c cs → IsAtEnd b
    → IfSome a (λ _. IsAtEnd c)
IsAtEnd-first None b c bs cs p q end = tt
IsAtEnd-first (Some x) None c bs cs p q end = absurd p
IsAtEnd-first (Some x) (Some y) c bs cs p q end = IsAtEnd-Consumes (Some y) c cs q end

-- what bytes were taken of had some
pub more-taken : (a b : Option (List ℕ)) (bs : List ℕ) → Consumes a b bs → 0 < length bs → IfSome a (λ left. left ≢ [])
more-taken None b bs taken some = tt
more-taken (Some x) None bs taken some = absurd taken
more-taken (Some x) (Some y) bs taken some =
    λ none. omega (arith, some, length-append bs y, ap length (sym taken ∙ none))

-- a text of which no byte was taken, and of which nothing is left, is at its end
pub IsAtEnd-none : (a b : Option (List ℕ)) → Consumes a b [] → IfSome a (λ _. IsAtEnd b) → IsAtEnd a
IsAtEnd-none None b taken end = tt
IsAtEnd-none (Some x) None taken end = absurd taken
IsAtEnd-none (Some x) (Some y) taken end = taken ∙ end

-- a row of which not each coordinate is ALL isn't the grand total
pub is_total-not : (dimensions : ℕ) (row : Option Row)
    → IfSome row (λ row. list_all is_all_coord row.key.coords ≡ false)
    → IfSome row (λ row. is_total dimensions row.key ≡ false)
is_total-not dimensions None some = tt
is_total-not dimensions (Some row) some =
    ap (λ all. (length row.key.coords == dimensions) && all) some ∙ and-false (length row.key.coords == dimensions)
