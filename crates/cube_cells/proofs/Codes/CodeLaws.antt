-- Laws of codes: those of a key's coordinates, made dimension by dimension, and kept in a grouping set.
use Rattle.std.proofs.Common.{◌≡◌, ℕ, zero, suc, ◌+◌, ◌<◌, ◌≤◌, ◌==◌, List, [], ◌∷◌, true, sym, ap, ◌∙◌, subst, arith}
use Rattle.std.proofs.Common.{length, get_or, set, take, Option, None, add-one}
use Rattle.std.specs.List.{list_all}
use Rattle.std.proofs.lemmas.Bool.{and_parts, and_from, cases_eq}
use Rattle.std.proofs.Math.Logic.{⊎_elim}
use Rattle.std.proofs.lemmas.List.{take_all, take-set, length-set, get_or-set_same, get_or-set_other}
use Rattle.cube_core.specs.declared.key.Coord.{Coord}
use Rattle.cube_core.specs.declared.key.Coord.TheVariants as coord
use Rattle.cube_cells.specs.Codes.{Dictionaries, IsCodeOf, AreCodesOf, is_code, are_codes, all_code, texts_with}

-- ---- dimension by dimension
-- one dimension more
pub AreCodesOf-more : (dictionaries : Dictionaries) (coords : List Coord) (codes : List ℕ) (i code : ℕ)
    → AreCodesOf (take i dictionaries) (take i coords) codes → i < length dictionaries
    → length coords ≡ length dictionaries → i < length codes
    → IsCodeOf (get_or dictionaries i []) (get_or coords i coord.All) code
    → AreCodesOf (take (i + 1) dictionaries) (take (i + 1) coords) (set codes i code)
AreCodesOf-more dictionaries coords codes i code are inside width room of =
    rw add-one (step dictionaries coords codes i are inside width room of)
  where
    step : (ds : Dictionaries) (cs : List Coord) (xs : List ℕ) (i : ℕ) → AreCodesOf (take i ds) (take i cs) xs
        → i < length ds → length cs ≡ length ds → i < length xs → IsCodeOf (get_or ds i []) (get_or cs i coord.All) code
        → AreCodesOf (take (suc i) ds) (take (suc i) cs) (set xs i code)
    step [] cs xs i are inside width room of = absurd (omega arith)
    step (texts ∷ ds) [] xs i are inside width room of = absurd (omega (arith, width))
    step (texts ∷ ds) (c ∷ cs) [] i are inside width room of = absurd (omega arith)
    step (texts ∷ ds) (c ∷ cs) (x ∷ xs) zero are inside width room of =
        (of, (and_parts (x == all_code) (list_all (λ code. code == all_code) xs) are).1)
    step (texts ∷ ds) (c ∷ cs) (x ∷ xs) (suc i) are inside width room of =
        (are.0, step ds cs xs i are.1 (omega (arith, inside)) (omega (arith, width)) (omega (arith, room)) of)

pub are_codes-more : (dictionaries : Dictionaries) (codes : List ℕ) (i code : ℕ)
    → are_codes (take i dictionaries) codes ≡ true → i < length dictionaries → i < length codes
    → is_code (get_or dictionaries i []) code ≡ true → are_codes (take (i + 1) dictionaries) (set codes i code) ≡ true
are_codes-more dictionaries codes i code are inside room of = rw add-one (step dictionaries codes i are inside room of)
  where
    step : (ds : Dictionaries) (xs : List ℕ) (i : ℕ) → are_codes (take i ds) xs ≡ true → i < length ds → i < length xs
        → is_code (get_or ds i []) code ≡ true → are_codes (take (suc i) ds) (set xs i code) ≡ true
    step [] xs i are inside room of = absurd (omega arith)
    step (texts ∷ ds) [] i are inside room of = absurd (omega arith)
    step (texts ∷ ds) (x ∷ xs) zero are inside room of =
        and_from (is_code texts code) (list_all (λ code. code == all_code) xs) of
        (and_parts (x == all_code) (list_all (λ code. code == all_code) xs) are).1
    step (texts ∷ ds) (x ∷ xs) (suc i) are inside room of =
        let parts = and_parts (is_code texts x) (are_codes (take i ds) xs) are in
        and_from (is_code texts x) (are_codes (take (suc i) ds) (set xs i code)) parts.0
        (step ds xs i parts.1 (omega (arith, inside)) (omega (arith, room)) of)

-- all dimensions
pub AreCodesOf-all : (dictionaries : Dictionaries) (coords : List Coord) (codes : List ℕ) (i : ℕ)
    → length dictionaries ≤ i → length coords ≤ i → AreCodesOf (take i dictionaries) (take i coords) codes
    → AreCodesOf dictionaries coords codes
AreCodesOf-all dictionaries coords codes i all_dictionaries all_coords are =
    rw (take_all i dictionaries all_dictionaries, take_all i coords all_coords) at are

-- ---- the texts of a fact
-- texts of the dimensions below i were added, and the others are as they were
pub record AddsTextsBelow (i : ℕ) (values : List (Option (List ℕ))) (old new : Dictionaries) : Type 0 where
  pub same_length : length new ≡ length old
  pub below : (d : ℕ) → d < i → get_or new d [] ≡ texts_with (get_or values d None) (get_or old d [])
  pub rest : (d : ℕ) → i ≤ d → get_or new d [] ≡ get_or old d []

pub AddsTextsBelow-more : (i : ℕ) (values : List (Option (List ℕ))) (old new : Dictionaries) (texts : List (List ℕ))
    → i < length new → texts ≡ texts_with (get_or values i None) (get_or new i []) → AddsTextsBelow i values old new
    → AddsTextsBelow (i + 1) values old (set new i texts)
AddsTextsBelow-more i values old new texts inside is adds = record {
  same_length = omega (arith, length-set new i texts, adds.same_length);
  below = λ d small. ⊎_elim
      (λ same. subst (λ (k : ℕ). get_or (set new i texts) k [] ≡ texts_with (get_or values k None) (get_or old k []))
      (sym same) here)
      (λ apart. get_or-set_other new i d texts [] apart ∙ adds.below d (omega arith))
      (cases_eq d i);
  rest = λ d past. get_or-set_other new i d texts [] (omega arith) ∙ adds.rest d (omega arith);
} where
  here : get_or (set new i texts) i [] ≡ texts_with (get_or values i None) (get_or old i [])
  here = get_or-set_same new i texts [] inside ∙ is ∙ ap (texts_with (get_or values i None)) (adds.rest i (omega arith))

-- what is true of dictionaries i and up in a longer list of them
pub AreCodesOf-set : (dictionaries : Dictionaries) (texts : List (List ℕ)) (coords : List Coord) (codes : List ℕ)
    (i : ℕ) → AreCodesOf (take i dictionaries) (take i coords) codes
    → AreCodesOf (take i (set dictionaries i texts)) (take i coords) codes
AreCodesOf-set dictionaries texts coords codes i are = rw (take-set dictionaries i texts) are

pub are_codes-set : (dictionaries : Dictionaries) (texts : List (List ℕ)) (codes : List ℕ) (i : ℕ)
    → are_codes (take i dictionaries) codes ≡ true → are_codes (take i (set dictionaries i texts)) codes ≡ true
are_codes-set dictionaries texts codes i are = rw (take-set dictionaries i texts) are
