-- The changes that a journal was told of, as they are stored.
use Rattle.std.proofs.Common.{◌≡◌, ◌++◌, ◌∷◌, [], ℕ, List, refl, ap}
use Rattle.cube_live.specs.Keeping.{Noted}
use Rattle.cube_store_commands.specs.Records.{record_text, stored_all, stored_as}

pub stored_all-more : (told : List Noted) (source : ℕ) (fields : List (List ℕ))
    → stored_all (told ++ (source, fields) ∷ []) ≡ stored_all told ++ (source, record_text fields) ∷ []
stored_all-more [] source fields = refl
stored_all-more (noted ∷ told) source fields = ap (λ es. stored_as noted ∷ es) (stored_all-more told source fields)

pub stored_all-append : (told more : List Noted) → stored_all (told ++ more) ≡ stored_all told ++ stored_all more
stored_all-append [] more = refl
stored_all-append (noted ∷ told) more = ap (λ es. stored_as noted ∷ es) (stored_all-append told more)
