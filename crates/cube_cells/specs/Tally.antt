-- The tally of a group of facts: how many they are, and for each measure the bag of its values (SQL:1999:
-- COUNT(*) counts rows, the other aggregates leave nulls out).
use Rattle.std.specs.Prelude.{◌≡◌, ◌+◌, ◌<◌, ◌&&◌, ℕ, ℤ, Bool, true, false, nat_lt, List, [], ◌∷◌, length, get_or}
use Rattle.std.specs.Prelude.{count_by, Option, Some, None}
use Rattle.std.specs.Ordering.{int_eq}
use Rattle.cube_core.specs.Group.{values_of}
use Rattle.cube_core.specs.declared.fact.Fact.{Fact}
use Rattle.cube_values.specs.Bag.{Bag, AddsBag, held_of, size_of, one_at, SameHeld}

-- how many facts a group has, and the bag of its values of each measure
pub record Tally : Type 0 where
  pub facts : ℕ
  pub bags : List Bag

-- the bag of a measure
abbrev pub bag_at : List Bag → ℕ → Bag
bag_at bags m = get_or bags m []

-- what a fact has of a measure: a value or null
abbrev pub value_at : List (Option ℤ) → ℕ → Option ℤ
value_at values m = get_or values m None

-- the bag holds each number as often as it stands in the list
pub record IsBagOf (values : List ℤ) (bag : Bag) : Type 0 where
  pub held : (x : ℤ) → held_of bag x ≡ count_by (int_eq x) values

-- this is the tally of these facts
pub record IsTallyOf (facts : List Fact) (t : Tally) : Type 0 where
  pub count : t.facts ≡ length facts
  pub bags : (m : ℕ) → m < length t.bags → IsBagOf (values_of m facts) (bag_at t.bags m)

-- 1 where the value is the number x, else 0; a null is no number
abbrev pub one_of : ℤ → Option ℤ → ℕ
one_of x None = 0
one_of x (Some v) = one_at x v

-- the new bag holds the value once more, or is the same for a null
pub record AddsValue (old new : Bag) (value : Option ℤ) : Type 0 where
  pub held : (x : ℤ) → held_of new x ≡ held_of old x + one_of x value

-- the new bags hold the values of a fact once more, measure by measure
pub record AddsValues (old new : List Bag) (values : List (Option ℤ)) : Type 0 where
  pub same_length : length new ≡ length old
  pub each : (m : ℕ) → AddsValue (bag_at old m) (bag_at new m) (value_at values m)

-- the new tally has one fact more, with these values
pub record PlusFact (values : List (Option ℤ)) (old new : Tally) : Type 0 where
  pub facts : new.facts ≡ old.facts + 1
  pub bags : AddsValues old.bags new.bags values

-- the new bags hold what others hold besides, measure by measure
pub record AddsBags (old new more : List Bag) : Type 0 where
  pub same_length : length new ≡ length old
  pub each : (m : ℕ) → AddsBag (bag_at old m) (bag_at new m) (bag_at more m)

-- the new tally has the facts of another besides
pub record PlusTally (old new more : Tally) : Type 0 where
  pub facts : new.facts ≡ old.facts + more.facts
  pub bags : AddsBags old.bags new.bags more.bags

-- the two lists have the same bags, whatever stands how inside
pub record SameBags (a b : List Bag) : Type 0 where
  pub same_length : length a ≡ length b
  pub bags : (m : ℕ) → SameHeld (bag_at a m) (bag_at b m)

-- the two tallies count the same: they are tallies of the same lists of facts
pub record SameTally (a b : Tally) : Type 0 where
  pub facts : a.facts ≡ b.facts
  pub bags : SameBags a.bags b.bags

-- whether a bag of so many facts holds a value; a null is held where there are more facts than values
abbrev pub holds_value : ℕ → Bag → Option ℤ → Bool
holds_value facts bag None = nat_lt (size_of bag) facts
holds_value facts bag (Some v) = nat_lt 0 (held_of bag v)

-- whether the bags of so many facts hold the values of a fact, measure by measure
abbrev pub hold_values : ℕ → List Bag → List (Option ℤ) → Bool
hold_values facts [] [] = true
hold_values facts [] (_ ∷ _) = false
hold_values facts (_ ∷ _) [] = false
hold_values facts (bag ∷ bags) (value ∷ values) = holds_value facts bag value && hold_values facts bags values

-- whether a tally has a fact, and holds these values of one
abbrev pub holds_fact : Tally → List (Option ℤ) → Bool
holds_fact t values = nat_lt 0 t.facts && hold_values t.facts t.bags values
