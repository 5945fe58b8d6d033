-- Laws of slices: the codes that are wanted for a pattern are those of the keys that it matches.
use Rattle.std.proofs.Common.{◌≡◌, ℕ, suc, ◌<◌, ◌==◌, List, [], ◌∷◌, true, false, ◌&&◌, Decides, refl, sym, ap, ◌∙◌}
use Rattle.std.proofs.Common.{arith, length, get_or, Option, Some, None}
use Rattle.std.specs.Ordering.{is_eq}
use Rattle.std.proofs.lemmas.Bool.{and_parts, eqb-true, eq-eqb}
use Rattle.std.proofs.lemmas.Bool.Decides.{same_from_decides}
use Rattle.cube_core.specs.Order.{coord_cmp}
use Rattle.cube_core.specs.Query.{Wanted, is_wanted, all_wanted, matches}
use Rattle.cube_core.specs.declared.key.Coord.{Coord}
use Rattle.cube_cells.specs.Codes.{Dictionaries, is_code, are_codes, coord_at, coords_at, key_at}
use Rattle.cube_cells.specs.Rows.{AreWantsOf, AreWantsMatched, IsWantMatched, is_wanted_code, are_wanted_codes}
use Rattle.cube_cells.specs.declared.cube.rows.Want.{Want}
use Rattle.cube_cells.specs.declared.cube.rows.Want.TheVariants as want
use Rattle.cube_cells.proofs.Rows.DrillLaws.{coord_cmp-Decides}
use Rattle.cube_cells.proofs.Codes.KeyLaws.{length-coords_at}

-- a code is wanted where a pattern's field wants its coordinate
is_wanted_code-is_wanted : (texts : List (List ℕ)) (p : Option Coord) (w : Want) (code : ℕ) → IsWantMatched texts p w
    → is_code texts code ≡ true → is_wanted_code w code ≡ is_wanted p (coord_at texts code)
is_wanted_code-is_wanted texts None w code is valid = ap (λ (v : Want). is_wanted_code v code) is
is_wanted_code-is_wanted texts (Some c) w code is valid =
    let alone = is.2.alone code valid in
    let by_code : Decides (code == is.0) (c ≡ coord_at texts code) =
    (λ same. sym (alone.1 (eqb-true code is.0 same)), λ same. eq-eqb code is.0 (alone.0 (sym same))) in
    ap (λ (v : Want). is_wanted_code v code) is.1 ∙ same_from_decides (code == is.0)
    (is_eq (coord_cmp c (coord_at texts code))) by_code (coord_cmp-Decides c (coord_at texts code))

-- codes are wanted where a pattern wants their coordinates
are_wanted_codes-all_wanted : (dictionaries : Dictionaries) (pattern : Wanted) (wants : List Want) (codes : List ℕ)
    → length pattern ≡ length dictionaries → length wants ≡ length dictionaries → ((i : ℕ) → i < length wants
    → IsWantMatched (get_or dictionaries i []) (get_or pattern i None) (get_or wants i want.Any))
    → are_codes dictionaries codes ≡ true
    → are_wanted_codes wants codes ≡ all_wanted pattern (coords_at dictionaries codes)
are_wanted_codes-all_wanted [] [] [] codes wide long each valid = refl
are_wanted_codes-all_wanted [] [] (w ∷ wants) codes wide long each valid = absurd (omega (arith, long))
are_wanted_codes-all_wanted [] (p ∷ pattern) wants codes wide long each valid = absurd (omega (arith, wide))
are_wanted_codes-all_wanted (texts ∷ dictionaries) [] wants codes wide long each valid = absurd (omega (arith, wide))
are_wanted_codes-all_wanted (texts ∷ dictionaries) (p ∷ pattern) [] codes wide long each valid =
    absurd (omega (arith, long))
are_wanted_codes-all_wanted (texts ∷ dictionaries) (p ∷ pattern) (w ∷ wants) [] wide long each valid = cc valid
are_wanted_codes-all_wanted (texts ∷ dictionaries) (p ∷ pattern) (w ∷ wants) (code ∷ codes) wide long each valid =
    let parts = and_parts (is_code texts code) (are_codes dictionaries codes) valid in
    let head = is_wanted_code-is_wanted texts p w code (each 0 (omega arith)) parts.0 in
    let tail = are_wanted_codes-all_wanted dictionaries pattern wants codes (omega (arith, wide)) (omega (arith, long))
    (λ i small. each (suc i) (omega (arith, small))) parts.1 in
    rw (head, tail) refl

-- what is wanted for a pattern is wanted of the keys that it matches
pub AreWantsOf-AreWantsMatched : (dictionaries : Dictionaries) (pattern : Wanted) (wants : List Want)
    → length pattern ≡ length dictionaries → length wants ≡ length dictionaries
    → AreWantsMatched dictionaries pattern wants → AreWantsOf dictionaries (matches pattern) wants
AreWantsOf-AreWantsMatched dictionaries pattern wants wide long matched =
    λ codes valid eight. are_wanted_codes-all_wanted dictionaries pattern wants codes wide long matched.each valid

all_wanted-length : (pattern : Wanted) (coords : List Coord) → (length pattern ≡ length coords → ⊥)
    → all_wanted pattern coords ≡ false
all_wanted-length [] [] other = absurd (other refl)
all_wanted-length [] (c ∷ coords) other = refl
all_wanted-length (p ∷ pattern) [] other = refl
all_wanted-length (p ∷ pattern) (c ∷ coords) other =
    let rest : all_wanted pattern coords ≡ false =
    all_wanted-length pattern coords (λ same. other (omega (arith, same))) in
    elim (is_wanted p c) as (λ b. (b && all_wanted pattern coords) ≡ false) [ true ↦ rest | false ↦ refl ]

-- a pattern of another width matches no key
pub matches-length : (dictionaries : Dictionaries) (pattern : Wanted) (codes : List ℕ)
    → (length pattern ≡ length dictionaries → ⊥) → matches pattern (key_at dictionaries codes) ≡ false
matches-length dictionaries pattern codes other = all_wanted-length pattern (coords_at dictionaries codes)
    (λ same. other (same ∙ length-coords_at dictionaries codes))
