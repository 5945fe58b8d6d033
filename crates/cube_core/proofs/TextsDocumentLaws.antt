-- The places of texts that the array `texts` of a document says: they ascend, and are places of measures.
use Rattle.std.proofs.Common.{◌≡◌, ◌<◌, ◌&&◌, ℕ, Bool, List, [], length, get_or, Option, Some, None}
use Rattle.std.proofs.Common.{IfSome, arith, subst, sym}
use Rattle.std.specs.Prelude.{option_map, unwrap_or}
use Rattle.std.specs.List.{list_all, range_with_len}
use Rattle.std.proofs.lemmas.List.Elements.{All-filter, All-nil}
use Rattle.std.proofs.lemmas.List.Kept.{IsStrictlyIncreasing-filter}
use Rattle.std.proofs.lemmas.Option.{same_Some, cond_some, option_and_then_some}
use Rattle.toml.specs.Data.{Data}
use Rattle.cube_core.specs.FeedDocument.{texts_value}
use Rattle.cube_core.specs.Layout.{is_listed, are_distinct}
use Rattle.cube_core.specs.TextPlaces.{AreTextPlaces}
use Rattle.cube_core.specs.TextsDocument.{may_be_text, places_of_names, text_places_named, text_places_of_value}
use Rattle.cube_core.proofs.SetLaws.{range_with_len-All, range_with_len-IsStrictlyIncreasing}

pub no_places-are : (measures : ℕ) → AreTextPlaces measures []
no_places-are measures = record {
  ascending = λ k inside. absurd (omega (arith, inside));
  of_measures = All-nil (λ place. place < measures);
}

places_of_names-are : (measures names : List (List ℕ))
    → AreTextPlaces (length measures) (places_of_names measures names)
places_of_names-are measures names =
    let is_text : ℕ → Bool = λ place. is_listed (get_or measures place []) names in
    let all = range_with_len 0 (length measures) in
    record {
      ascending = IsStrictlyIncreasing-filter is_text all (range_with_len-IsStrictlyIncreasing 0 (length measures));
      of_measures = All-filter is_text (λ place. place < length measures) all (range_with_len-All (length measures));
    }

text_places_named-are : (measures : List (List ℕ)) (decimals : Option Data) (names : List (List ℕ)) (places : List ℕ)
    → text_places_named measures decimals names ≡ Some places → AreTextPlaces (length measures) places
text_places_named-are measures decimals names places is =
    let (right, same) = cond_some (list_all (may_be_text measures decimals) names && are_distinct names)
    (places_of_names measures names) places is in
    subst (AreTextPlaces (length measures)) same (places_of_names-are measures names)

pub said-are : (measures : List (List ℕ)) (decimals texts : Option Data) (places : List ℕ)
    → text_places_of_value measures decimals texts ≡ Some places → AreTextPlaces (length measures) places
said-are measures decimals None places is =
    subst (AreTextPlaces (length measures)) (same_Some [] places is) (no_places-are (length measures))
said-are measures decimals (Some value) places is =
    option_and_then_some (text_places_named measures decimals) (texts_value value) places is
    (λ names _ named. text_places_named-are measures decimals names places named)

-- what is said of texts, where it is right, is places of measures
pub text_places_of_value-are : {A : Type 0} (list_of : A → List ℕ) (measures : List (List ℕ))
    (decimals texts : Option Data) (found : Option A) → option_map list_of found ≡ text_places_of_value measures decimals texts
    → IfSome found (λ places. AreTextPlaces (length measures) (list_of places))
text_places_of_value-are list_of measures decimals texts None is = tt
text_places_of_value-are list_of measures decimals texts (Some places) is =
    said-are measures decimals texts (list_of places) (sym is)

-- and so are those that are taken where it is wrong: there are none
pub said_places-are : {A : Type 0} (list_of : A → List ℕ) (measures : ℕ) (found : Option A)
    → IfSome found (λ places. AreTextPlaces measures (list_of places))
    → AreTextPlaces measures (unwrap_or (option_map list_of found) [])
said_places-are list_of measures None are = no_places-are measures
said_places-are list_of measures (Some places) are = are
