-- The longest name with which a word begins, and the condition on a name.
use Rattle.std.proofs.Common.{◌≡◌, ◌∙◌, ℕ, List, [], ◌∷◌, ◌++◌, refl, sym, ap, inl, inr}
use Rattle.std.specs.Prelude.{filter, position, Option, Some, None}
use Rattle.std.specs.Option.{option_and_then, option_map_or}
use Rattle.std.specs.Str.{bytes_eq}
use Rattle.std.proofs.lemmas.Bool.{cases_Bool}
use Rattle.cube_core.specs.Conditions.{condition_on, condition_on_dimension, condition_on_measure, is_named, longer}
use Rattle.cube_core.specs.Conditions.{longest}
use Rattle.cube_core.specs.Layout.{Layout}
use Rattle.cube_core.specs.declared.condition.Operator.{Operator}
use Rattle.cube_feed.specs.Words.{longest_before}

-- of some names and others
pub longest-before : (word : List ℕ) (names others : List (List ℕ))
    → longest_before word names (longest (filter (is_named word) others))
    ≡ longest (filter (is_named word) (names ++ others))
longest-before word [] others = refl
longest-before word (name ∷ names) others = elim (cases_Bool (is_named word name)) [
  | inl named ↦ rw named
      (ap (λ (found : Option (List ℕ)). Some (longer name found)) (longest-before word names others))
  | inr other ↦ rw other (longest-before word names others)
]

-- ---- the condition on a name by where that stands

pub condition_on-dimension : (s : Layout) (name : List ℕ) (operator : Operator) (fields names : List (List ℕ))
    (found : Option ℕ) (d : ℕ)
    → names ≡ s.dimensions → found ≡ position (λ other. bytes_eq other name) names → found ≡ Some d
    → condition_on s name operator fields ≡ condition_on_dimension operator fields d
condition_on-dimension s name operator fields names found d are is some =
    ap (λ (place : Option ℕ). option_map_or (condition_on_dimension operator fields) place
    (option_and_then (condition_on_measure s operator fields) (position (λ other. bytes_eq other name) s.measures)))
    (ap (position (λ other. bytes_eq other name)) (sym are) ∙ sym is ∙ some)

pub condition_on-measure : (s : Layout) (name : List ℕ) (operator : Operator) (fields names others : List (List ℕ))
    (found place : Option ℕ) (m : ℕ)
    → names ≡ s.dimensions → found ≡ position (λ other. bytes_eq other name) names → found ≡ None
    → others ≡ s.measures → place ≡ position (λ other. bytes_eq other name) others → place ≡ Some m
    → condition_on s name operator fields ≡ condition_on_measure s operator fields m
condition_on-measure s name operator fields names others found place m are is none measures at some =
    ap (λ (place : Option ℕ). option_map_or (condition_on_dimension operator fields) place
    (option_and_then (condition_on_measure s operator fields) (position (λ other. bytes_eq other name) s.measures)))
    (ap (position (λ other. bytes_eq other name)) (sym are) ∙ sym is ∙ none)
    ∙ ap (option_and_then (condition_on_measure s operator fields))
    (ap (position (λ other. bytes_eq other name)) (sym measures) ∙ sym at ∙ some)
