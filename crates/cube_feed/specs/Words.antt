-- How the condition that a word spells is looked for (this project's choice).
use Rattle.std.specs.Prelude.{ℕ, List, [], ◌∷◌, Option, Some, if◌then◌else◌}
use Rattle.cube_core.specs.Conditions.{is_named, longer}

-- the longest of some names with which a word begins, before others of which the longest is known
abbrev pub longest_before : List ℕ → List (List ℕ) → Option (List ℕ) → Option (List ℕ)
longest_before word [] others = others
longest_before word (name ∷ names) others =
    if is_named word name then Some (longer name (longest_before word names others))
    else longest_before word names others
