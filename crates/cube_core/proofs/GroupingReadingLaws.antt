-- The grouping that a schema's document writes, beside the code that reads it.
use Rattle.std.proofs.Common.{◌≡◌, ℕ, ◌+◌, ◌*◌, ◌^◌, ◌<◌, ◌≤◌, Bool, true, false, cond, suc, List, [], ◌∷◌, ◌++◌}
use Rattle.std.proofs.Common.{length, get_or, drop, Some, None, option_map, refl, ap, append_assoc, arith}
use Rattle.std.proofs.Math.Nat.{pow-succ', pow-le-pow_right}
use Rattle.cube_core.specs.Layout.{is_listed}
use Rattle.cube_core.specs.SchemaDocument.{mask_of_names, set_of_item, sets_of_items}
use Rattle.toml.specs.View.{view, items_view}
use Rattle.toml.specs.declared.value.Value.{Value}
use Rattle.toml.proofs.Views.{items_view-drop}

bit-below : (x : Bool) (m n : ℕ) → m < 2 ^ n → cond x 1 0 + 2 * m < 2 ^ suc n
bit-below true m n below = omega (arith, pow-succ' 2 n)
bit-below false m n below = omega (arith, pow-succ' 2 n)

-- the mask of a set is below 2 to the power of the dimensions
pub mask_of_names-below : (dimensions names : List (List ℕ)) → mask_of_names dimensions names < 2 ^ length dimensions
mask_of_names-below [] names = omega arith
mask_of_names-below (dimension ∷ dimensions) names = bit-below (is_listed dimension names)
    (mask_of_names dimensions names) (length dimensions) (mask_of_names-below dimensions names)

-- the mask of a set of at most 7 dimensions has 7 bits
pub mask_of_names_byte : (dimensions names : List (List ℕ)) → length dimensions ≤ 7
    → mask_of_names dimensions names < 128
mask_of_names_byte dimensions names few =
    let two : 0 < 2 = omega arith in
    let bound : 2 ^ length dimensions ≤ 2 ^ 7 = pow-le-pow_right two few in
    omega (arith, mask_of_names-below dimensions names, bound)

-- what is read so far, and the sets to come: one more set, and an item that writes none
pub sets_of_items-more : (dimensions : List (List ℕ)) (values : List Value) (i : ℕ) (d : Value) (set : ℕ)
    (read : List ℕ) → i < length values → Some set ≡ set_of_item dimensions (view (get_or values i d))
    → option_map (λ sets. (read ++ set ∷ []) ++ sets) (sets_of_items dimensions (items_view (drop (i + 1) values)))
    ≡ option_map (λ sets. read ++ sets) (sets_of_items dimensions (items_view (drop i values)))
sets_of_items-more dimensions values i d set read inside is =
    rw (items_view-drop values i d inside, ← is)
    (elim (sets_of_items dimensions (items_view (drop (i + 1) values))) as
    (λ o. option_map (λ sets. (read ++ set ∷ []) ++ sets) o
    ≡ option_map (λ sets. read ++ sets) (option_map (λ sets. set ∷ sets) o)) [
      | None ↦ refl
      | Some sets ↦ ap Some (append_assoc read (set ∷ []) sets)
    ])

pub sets_of_items-stop : (dimensions : List (List ℕ)) (values : List Value) (i : ℕ) (d : Value) (read : List ℕ)
    → i < length values → None ≡ set_of_item dimensions (view (get_or values i d))
    → option_map (λ sets. read ++ sets) (sets_of_items dimensions (items_view (drop i values))) ≡ None
sets_of_items-stop dimensions values i d read inside is = rw (items_view-drop values i d inside, ← is) refl
