-- Texts that are counted, among the columns of a feed and in a fact (this project's choice).
use Rattle.std.specs.Prelude.{◌+◌, ◌-◌, ◌*◌, ◌^◌, ◌≡◌, ◌++◌, ℕ, ℤ, zero, suc, pos, List, [], ◌∷◌, length, map, take, drop}
use Rattle.std.specs.Prelude.{◌<◌, All, Contains, Option, option_map, if◌then◌else◌}
use Rattle.std.specs.List.{filter_map, flat_map}
use Rattle.std.specs.List.Sorted.{IsStrictlyIncreasing}
use Rattle.cube_core.specs.GroupingSet.{is_among}
use Rattle.cube_core.specs.Layout.{Layout}
use Rattle.cube_core.specs.declared.fact.Fact.{Fact}

-- those elements of a list that stand at these places, in their order; the first one stands at a place that is given
abbrev pub at_places : {A : Type 0} → List ℕ → ℕ → List A → List A
at_places places first [] = []
at_places places first (x ∷ xs) =
    if is_among first places then x ∷ at_places places (first + 1) xs else at_places places (first + 1) xs

-- the other elements, in their order
abbrev pub beside_places : {A : Type 0} → List ℕ → ℕ → List A → List A
beside_places places first [] = []
beside_places places first (x ∷ xs) =
    if is_among first places then beside_places places (first + 1) xs else x ∷ beside_places places (first + 1) xs

-- a list with those of its elements in front that stand at these places
abbrev pub with_places_first : {A : Type 0} → List ℕ → List A → List A
with_places_first places xs = at_places places 0 xs ++ beside_places places 0 xs

-- what is true of the places of texts among so many measures: they ascend, and each is the place of a measure
pub record AreTextPlaces (measures : ℕ) (places : List ℕ) : Type 0 where
  pub ascending : IsStrictlyIncreasing places
  pub of_measures : All (λ place. place < measures) places

-- a number for each text, no two the same: the powers of 2 in it tell the first byte, and what is left the others
abbrev pub text_number : List ℕ → ℕ
text_number [] = 0
text_number (byte ∷ text) = 2 ^ byte * (2 * text_number text + 1)

-- a fact as its cube counts it, where so many of its texts, the last ones, are counted: a number stands for each of
-- them, behind the measures
abbrev pub counted_by : (List ℕ → ℤ) → ℕ → Fact → Fact
counted_by number zero fact = fact
counted_by number (suc texts) fact = record {
  dims = take (length fact.dims - suc texts) fact.dims;
  measures = fact.measures ++ map (option_map number) (drop (length fact.dims - suc texts) fact.dims);
}

-- a fact as the cube of a schema counts it
abbrev pub counted : Layout → Fact → Fact
counted s fact = counted_by (λ text. pos (text_number text)) (length s.text_places) fact

-- what a fact has in its last so many dimensions: the texts that are counted, or null
abbrev pub last_values : ℕ → Fact → List (Option (List ℕ))
last_values texts fact = drop (length fact.dims - texts) fact.dims

-- the texts that facts have in their last so many dimensions, nulls left out
abbrev pub texts_counted : ℕ → List Fact → List (List ℕ)
texts_counted texts facts = flat_map (λ fact. filter_map (λ value. value) (last_values texts fact)) facts

-- numbers tell the texts of a list apart: any two of them with one number are the same text
abbrev pub TellsApart : (List ℕ → ℤ) → List (List ℕ) → Type 0
TellsApart number texts = (a b : List ℕ) → Contains texts a → Contains texts b → number a ≡ number b → a ≡ b
