-- A grouping that is right keeps at least one set, each a set of the dimensions.
use Rattle.std.proofs.Common.{◌≡◌, ℕ, ◌+◌, ◌<◌, ◌≤◌, ◌^◌, ◌==◌, suc, Bool, true, List, [], ◌∷◌, length, map, filter}
use Rattle.std.proofs.Common.{take, Option, Some, None, option_map, option_and_then, if◌then◌else◌, All, refl, ap, ◌∙◌}
use Rattle.std.proofs.Common.{subst, inl, inr, arith, eq-eqb, zero-add, codes}
use Rattle.std.specs.Str.{bytes_eq}
use Rattle.std.specs.List.{list_any, range_with_len}
use Rattle.std.specs.List.Sorted.{IsStrictlyIncreasing}
use Rattle.std.proofs.lemmas.Bool.{cases_Bool, or_left}
use Rattle.std.proofs.lemmas.List.Elements.{All-filter}
use Rattle.std.proofs.lemmas.List.Folds.{list_any_at}
use Rattle.std.proofs.lemmas.List.FromFn.{length-range_with_len, get_or-range_with_len}
use Rattle.std.proofs.lemmas.List.Kept.{IsStrictlyIncreasing-filter}
use Rattle.std.proofs.lemmas.Nat.{pow_pos}
use Rattle.std.proofs.lemmas.Option.{same_Some, cond_some, option_and_then_some}
use Rattle.toml.specs.Data.{Data, string, integer, float, boolean, datetime, array, table, as_array, Items, no_items}
use Rattle.toml.specs.Data.{item}
use Rattle.cube_core.specs.GroupingSet.{all_sets, is_among}
use Rattle.cube_core.specs.FeedDocument.{texts_of}
use Rattle.cube_core.specs.SchemaDocument.{set_of_names, set_of_item, sets_of_items, is_set_of, mask_of_names}
use Rattle.cube_core.specs.SchemaDocument.{are_lawful_sets, rollup_sets, sets_of_word, named_sets, kept_sets}
use Rattle.cube_core.specs.SchemaDocument.{sets_of_grouping}
use Rattle.cube_core.proofs.GroupingReadingLaws.{mask_of_names-below}
use Rattle.cube_core.proofs.ListLaws.{Contains-AllByRecursion, Contains-list_any, filter-all}
use Rattle.cube_core.proofs.SetLaws.{all_sets-IsStrictlyIncreasing, all_sets-All}

-- these have a set of so many dimensions
abbrev HasSet : ℕ → List ℕ → Type 0
HasSet dimensions named = (set : ℕ) × (is_among set named ≡ true) × (set < 2 ^ dimensions)

-- what a schema asks of its sets
pub record AreKept (dimensions : ℕ) (sets : List ℕ) : Type 0 where
  pub some_set : 1 ≤ length sets
  pub ascending : IsStrictlyIncreasing sets
  pub of_dimensions : All (λ set. set < 2 ^ dimensions) sets

-- a set of the dimensions is one of all
pub list_any-all_sets : (set dimensions : ℕ) (test : ℕ → Bool) → set < 2 ^ dimensions → test set ≡ true
    → list_any test (all_sets dimensions) ≡ true
list_any-all_sets set dimensions test below passes =
    list_any_at test (all_sets dimensions) set 0 (omega (arith, length-range_with_len 0 (2 ^ dimensions)))
    (ap test (get_or-range_with_len 0 (2 ^ dimensions) set 0 below ∙ zero-add set) ∙ passes)

-- where an element passes, one is kept
filter-list_any : (test : ℕ → Bool) (sets : List ℕ) → list_any test sets ≡ true → 1 ≤ length (filter test sets)
filter-list_any test [] any = cc
filter-list_any test (set ∷ sets) any = elim (cases_Bool (test set)) [
  | inl passes ↦ rw passes (omega arith)
  | inr fails ↦ rw fails (filter-list_any test sets (rw fails at any))
]

kept-AreKept : (dimensions : ℕ) (named : List ℕ) → HasSet dimensions named
    → AreKept dimensions (kept_sets dimensions named)
kept-AreKept dimensions named (set, among, below) =
    let is_named : ℕ → Bool = λ other. is_among other named in
    record {
      some_set = filter-list_any is_named (all_sets dimensions) (list_any-all_sets set dimensions is_named below among);
      ascending = IsStrictlyIncreasing-filter is_named (all_sets dimensions) (all_sets-IsStrictlyIncreasing dimensions);
      of_dimensions =
          All-filter is_named (λ other. other < 2 ^ dimensions) (all_sets dimensions) (all_sets-All dimensions);
    }

all-HasSet : (dimensions : ℕ) → HasSet dimensions (all_sets dimensions)
all-HasSet dimensions =
    (0, list_any-all_sets 0 dimensions (λ other. other == 0) (pow_pos dimensions) refl, pow_pos dimensions)

rollup-HasSet : (dimensions : List (List ℕ)) → HasSet (length dimensions) (rollup_sets dimensions)
rollup-HasSet dimensions =
    let set_of_first : ℕ → ℕ = λ first. mask_of_names dimensions (take first dimensions) in
    let P : ℕ → Type 0 = λ n. is_among (set_of_first 0) (map set_of_first (range_with_len 0 n)) ≡ true in
    let first : P (suc (length dimensions)) = or_left _ _ (eq-eqb (set_of_first 0) (set_of_first 0) refl) in
    let count : suc (length dimensions) ≡ length dimensions + 1 = omega arith in
    (set_of_first 0, subst P count first, mask_of_names-below dimensions (take 0 dimensions))

names-below : (dimensions names : List (List ℕ)) (set : ℕ) → set_of_names dimensions names ≡ Some set
    → set < 2 ^ length dimensions
names-below dimensions names set is =
    let (right, same) = cond_some (is_set_of dimensions names) (mask_of_names dimensions names) set is in
    subst (λ n. n < 2 ^ length dimensions) same (mask_of_names-below dimensions names)

item-below : (dimensions : List (List ℕ)) (value : Data) (set : ℕ) → set_of_item dimensions value ≡ Some set
    → set < 2 ^ length dimensions
item-below dimensions value set is =
    option_and_then_some (set_of_names dimensions) (option_and_then texts_of (as_array value)) set is
    (λ names _ of. names-below dimensions names set of)

joined-below : (dimensions : ℕ) (found : Option ℕ) (others : Option (List ℕ)) (first : ℕ) (rest : List ℕ)
    → ((set : ℕ) → found ≡ Some set → set < 2 ^ dimensions)
    → option_and_then (λ set. option_map (λ sets. set ∷ sets) others) found ≡ Some (first ∷ rest)
    → first < 2 ^ dimensions
joined-below dimensions None others first rest below is = cc
joined-below dimensions (Some set) None first rest below is = cc
joined-below dimensions (Some set) (Some sets) first rest below is =
    let joined : set ∷ sets ≡ first ∷ rest = same_Some (set ∷ sets) (first ∷ rest) is in
    let same : set ≡ first = cc in
    subst (λ n. n < 2 ^ dimensions) same (below set refl)

items-below : (dimensions : List (List ℕ)) (items : Items) (first : ℕ) (rest : List ℕ)
    → sets_of_items dimensions items ≡ Some (first ∷ rest) → first < 2 ^ length dimensions
items-below dimensions no_items first rest is = cc
items-below dimensions (item value others) first rest is =
    joined-below (length dimensions) (set_of_item dimensions value) (sets_of_items dimensions others) first rest
    (item-below dimensions value) is

lawful-HasSet : (dimensions : List (List ℕ)) (items : Items) (sets : List ℕ)
    → sets_of_items dimensions items ≡ Some sets → are_lawful_sets sets ≡ true → HasSet (length dimensions) sets
lawful-HasSet dimensions items [] is lawful = cc
lawful-HasSet dimensions items (first ∷ rest) is lawful =
    (first, or_left _ _ (eq-eqb first first refl), items-below dimensions items first rest is)

items-HasSet : (dimensions : List (List ℕ)) (items : Items) (named : List ℕ)
    → option_and_then (λ sets. if are_lawful_sets sets then Some sets else None) (sets_of_items dimensions items)
    ≡ Some named → HasSet (length dimensions) named
items-HasSet dimensions items named is =
    option_and_then_some (λ sets. if are_lawful_sets sets then Some sets else None)
    (sets_of_items dimensions items) named is (λ sets are of.
    let (lawful, same) = cond_some (are_lawful_sets sets) sets named of in
    subst (HasSet (length dimensions)) same (lawful-HasSet dimensions items sets are lawful))

word-HasSet : (dimensions : List (List ℕ)) (text named : List ℕ) → sets_of_word dimensions text ≡ Some named
    → HasSet (length dimensions) named
word-HasSet dimensions text named is = elim (cases_Bool (bytes_eq text (codes "cube"))) [
  | inl cube ↦ subst (HasSet (length dimensions)) (same_Some _ named (rw cube at is)) (all-HasSet (length dimensions))
  | inr other ↦
      let (rollup, same) = cond_some (bytes_eq text (codes "rollup")) (rollup_sets dimensions) named (rw other at is) in
      subst (HasSet (length dimensions)) same (rollup-HasSet dimensions)
]

named-HasSet : (dimensions : List (List ℕ)) (grouping : Option Data) (named : List ℕ)
    → named_sets dimensions grouping ≡ Some named → HasSet (length dimensions) named
named-HasSet dimensions None named is =
    subst (HasSet (length dimensions)) (same_Some _ named is) (all-HasSet (length dimensions))
named-HasSet dimensions (Some (string text)) named is = word-HasSet dimensions text named is
named-HasSet dimensions (Some (array items)) named is = items-HasSet dimensions items named is
named-HasSet dimensions (Some (integer _)) named is = cc
named-HasSet dimensions (Some (float _)) named is = cc
named-HasSet dimensions (Some (boolean _)) named is = cc
named-HasSet dimensions (Some (datetime _)) named is = cc
named-HasSet dimensions (Some (table _)) named is = cc

mapped-AreKept : (dimensions : ℕ) (found : Option (List ℕ)) (sets : List ℕ)
    → ((named : List ℕ) → found ≡ Some named → HasSet dimensions named)
    → option_map (kept_sets dimensions) found ≡ Some sets → AreKept dimensions sets
mapped-AreKept dimensions None sets has is = cc
mapped-AreKept dimensions (Some named) sets has is =
    subst (AreKept dimensions) (same_Some (kept_sets dimensions named) sets is)
    (kept-AreKept dimensions named (has named refl))

-- the sets that a grouping keeps are what a schema asks of them
pub grouping-AreKept : (dimensions : List (List ℕ)) (grouping : Option Data) (sets : List ℕ)
    → sets_of_grouping dimensions grouping ≡ Some sets → AreKept (length dimensions) sets
grouping-AreKept dimensions grouping sets is =
    mapped-AreKept (length dimensions) (named_sets dimensions grouping) sets (named-HasSet dimensions grouping) is

-- where all sets are named, all are kept
pub kept_sets-all_sets : (dimensions : ℕ) → kept_sets dimensions (all_sets dimensions) ≡ all_sets dimensions
kept_sets-all_sets dimensions =
    let sets = all_sets dimensions in
    filter-all (λ set. is_among set sets) sets (Contains-AllByRecursion (λ set. is_among set sets ≡ true) sets
    (λ set among. Contains-list_any (λ other. other == set) sets set among (eq-eqb set set refl)))
