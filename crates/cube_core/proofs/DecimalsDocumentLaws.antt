-- The digits behind a point that the table `decimals` of a document says: at most 18.
use Rattle.std.proofs.Common.{◌≡◌, ◌≤◌, ℕ, pos, nat_le, List, [], ◌∷◌, All, Option, Some, None}
use Rattle.std.proofs.Common.{IfSome, refl, sym, subst, arith}
use Rattle.std.specs.Prelude.{option_map}
use Rattle.std.specs.List.{filter_map, cons_option}
use Rattle.std.specs.Option.{option_map_or}
use Rattle.std.proofs.lemmas.Bool.Decides.{nat_tests}
use Rattle.std.proofs.lemmas.List.Elements.{All-nil, All-cons}
use Rattle.std.proofs.lemmas.Option.{same_Some, cond_some}
use Rattle.toml.specs.Data.{Data, string, integer, float, boolean, datetime, array, table, get_member, Members}
use Rattle.cube_core.specs.DecimalsDocument.{digits_value, digits_of_name, is_decimals_table, decimals_of_table}
use Rattle.cube_core.specs.DecimalsDocument.{decimals_of_value}

-- at most 18 digits, where there is a number of them
abbrev IsFew : Option ℕ → Type 0
IsFew digits = IfSome digits (λ k. k ≤ 18)

digits_value-few : (value : Data) (n : ℕ) → digits_value value ≡ Some n → n ≤ 18
digits_value-few (integer (pos m)) n is =
    let (inside, same) = cond_some (nat_le m 18) m n is in
    grind (arith, nat_tests)
digits_value-few _ n is = cc

digits_of_name-few : (decimals : Members) (name : List ℕ) (digits : Option ℕ)
    → digits_of_name decimals name ≡ Some digits → IsFew digits
digits_of_name-few decimals name digits is = at (get_member name decimals) is
  where
    read : (value : Data) (found : Option ℕ) → digits_value value ≡ found → option_map Some found ≡ Some digits
        → IsFew digits
    read value None none same = cc
    read value (Some n) some same =
        subst IsFew (same_Some (Some n) digits same) (digits_value-few value n some)

    at : (found : Option Data) → option_map_or (λ value. option_map Some (digits_value value)) found (Some None)
        ≡ Some digits → IsFew digits
    at None same = subst IsFew (same_Some None digits same) tt
    at (Some value) same = read value (digits_value value) refl same

cons_option-few : (found : Option (Option ℕ)) (rest : List (Option ℕ)) → IfSome found IsFew → All IsFew rest
    → All IsFew (cons_option found rest)
cons_option-few None rest here all = all
cons_option-few (Some digits) rest here all = All-cons IsFew digits rest here all

found-few : (decimals : Members) (name : List ℕ) (found : Option (Option ℕ)) → digits_of_name decimals name ≡ found
    → IfSome found IsFew
found-few decimals name None is = tt
found-few decimals name (Some digits) is = digits_of_name-few decimals name digits is

filter_map-few : (decimals : Members) (names : List (List ℕ))
    → All IsFew (filter_map (digits_of_name decimals) names)
filter_map-few decimals [] = All-nil IsFew
filter_map-few decimals (name ∷ names) =
    cons_option-few (digits_of_name decimals name) (filter_map (digits_of_name decimals) names)
    (found-few decimals name (digits_of_name decimals name) refl) (filter_map-few decimals names)

decimals_of_table-few : (measures : List (List ℕ)) (value : Data) (decimals : List (Option ℕ))
    → Some decimals ≡ decimals_of_table measures value → All IsFew decimals
decimals_of_table-few measures (table members) decimals is =
    let (right, same) = cond_some (is_decimals_table measures members) (filter_map (digits_of_name members) measures)
    decimals (sym is) in
    subst (All IsFew) same (filter_map-few members measures)
decimals_of_table-few measures (string _) decimals is = cc
decimals_of_table-few measures (integer _) decimals is = cc
decimals_of_table-few measures (float _) decimals is = cc
decimals_of_table-few measures (boolean _) decimals is = cc
decimals_of_table-few measures (datetime _) decimals is = cc
decimals_of_table-few measures (array _) decimals is = cc

pub decimals_of_value-few : (measures : List (List ℕ)) (said : Option Data) (decimals : List (Option ℕ))
    → Some decimals ≡ decimals_of_value measures said → All (λ digits. IfSome digits (λ k. k ≤ 18)) decimals
decimals_of_value-few measures None decimals is = subst (All IsFew) (sym (same_Some decimals [] is)) (All-nil IsFew)
decimals_of_value-few measures (Some value) decimals is = decimals_of_table-few measures value decimals is
