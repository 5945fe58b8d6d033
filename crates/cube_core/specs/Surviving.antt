-- The surviving facts of a feed: the fact of each id that is present in the end (this project's choice).
use Rattle.std.specs.Prelude.{◌≡◌, ◌↔◌, ℕ, List, map, Some, IsSome, Contains}
use Rattle.std.specs.Str.{bytes_eq}
use Rattle.std.specs.List.{IsDistinct}
use Rattle.cube_core.specs.Layout.{Layout}
use Rattle.cube_core.specs.Life.{life_of, changes_of}
use Rattle.cube_core.specs.declared.fact.Fact.{Fact}
use Rattle.cube_core.specs.declared.change.Change.{Change}
use Rattle.cube_core.specs.declared.change.Item.{Item}

-- these facts are those of the ids that are present after the changes, each id's once, in some order of the ids
pub record Survive (changes : List Change) (facts : List Fact) : Type 0 where
  pub ids : List (List ℕ)
  pub each_once : IsDistinct bytes_eq ids
  pub present : (id : List ℕ) → IsSome (life_of id changes) ↔ Contains ids id
  pub facts_are_theirs : map Some facts ≡ map (λ id. life_of id changes) ids

-- these facts survive the items of a feed
abbrev pub AreSurviving : Layout → List Item → List Fact → Type 0
AreSurviving s items facts = Survive (changes_of s items) facts
