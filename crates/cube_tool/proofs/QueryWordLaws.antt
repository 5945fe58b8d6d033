-- The cell that a word spells has a coordinate for each dimension of the cube.
use Rattle.std.proofs.Common.{◌≡◌, ◌==◌, ◌∙◌, ℕ, List, length, sym, subst}
use Rattle.std.specs.Prelude.{IfOk, Option, Some, None, Result, Ok, Err}
use Rattle.std.specs.Option.{option_map_or}
use Rattle.std.proofs.lemmas.Bool.{eqb-true}
use Rattle.std.proofs.lemmas.Result.{IfOk-weaker}
use Rattle.cube_core.specs.Layout.{Layout, number_of_dimensions}
use Rattle.cube_core.specs.Query.{Wanted, cell_of, only_one, pattern_of, spelled_by, spelled_under}
use Rattle.cube_core.specs.Records.{records_of}
use Rattle.cube_core.specs.declared.key.Key.{Key}
use Rattle.cube_core.specs.declared.query.QueryFault.{QueryFault}
use Rattle.cube_core.specs.declared.query.QueryFault.TheVariants.{Fields}
use Rattle.cube_live.proofs.RequestLaws.{IfOk-if_Err, key-length, spelled-length}

-- under a schema it has a field for each dimension
pattern-length : (s : Layout) (word : List ℕ)
    → IfOk (pattern_of s word) (λ pattern. length pattern ≡ number_of_dimensions s)
pattern-length s word = go (only_one (records_of word))
  where
    go : (record_found : Option (List (List ℕ))) → IfOk (option_map_or (spelled_under s) record_found (Err Fields))
        (λ pattern. length pattern ≡ number_of_dimensions s)
    go None = tt
    go (Some fields) =
        IfOk-if_Err _ (length fields == number_of_dimensions s) (spelled_by fields) Fields
        (λ same. IfOk-weaker (spelled_by fields) _ _ (λ pattern long. long ∙ eqb-true _ _ same) (spelled-length fields))

-- so the cell that a word spells has a coordinate for each dimension
pub cell-length : (s : Layout) (word : List ℕ) (pattern : Wanted) (key : Key) → Ok pattern ≡ pattern_of s word
    → Ok key ≡ cell_of pattern
    → length key.coords ≡ number_of_dimensions s
cell-length s word pattern key spelled is =
    subst (λ (r : Result Key QueryFault). IfOk r (λ key. length key.coords ≡ length pattern)) (sym is)
    (key-length pattern)
    ∙ subst (λ (r : Result Wanted QueryFault). IfOk r (λ pattern. length pattern ≡ number_of_dimensions s)) (sym spelled)
    (pattern-length s word)
