-- Laws of several builders as one.
use Rattle.std.proofs.Common.{◌≡◌, ℕ, List, [], ◌∷◌}
use Rattle.std.proofs.Common.{◌++◌, take, drop}
use Rattle.std.proofs.Common.{ap, ◌∙◌, append_assoc}
use Rattle.std.proofs.lemmas.Grind.{flat_map-append}
use Rattle.std.proofs.lemmas.List.{append-nil}
use Rattle.std.proofs.lemmas.List.{take-append-drop}
use Rattle.cube_rings.specs.Link.{Receiving}
use Rattle.cube_rings.specs.Wholes.{inlets_of}
use Rattle.cube_rings.specs.declared.parcel.Parcel.{Parcel}
use Rattle.cube_rings.specs.declared.gatherer.Gatherer.{Gatherer}

-- the inlets with those of one builder more
pub inlets-push : {B : Type 0} (shares : List (Gatherer B)) (share : Gatherer B)
    → inlets_of (shares ++ share ∷ []) ≡ inlets_of shares ++ share.inlets.items
inlets-push {B} shares share =
    flat_map-append (λ (g : Gatherer B). g.inlets.items) shares (share ∷ [])
    ∙ ap (λ l. inlets_of shares ++ l) (append-nil share.inlets.items)

-- one share more is cut off
pub inlets-more : {B : Type 0} (shares : List (Gatherer B)) (share : Gatherer B) (n : ℕ)
    (inlets left whole : List (Receiving Parcel)) → inlets_of shares ++ inlets ≡ whole
    → share.inlets.items ≡ take n inlets → left ≡ drop n inlets → inlets_of (shares ++ share ∷ []) ++ left ≡ whole
inlets-more shares share n inlets left whole was own rest =
    ap (λ l. l ++ left) (inlets-push shares share)
    ∙ append_assoc (inlets_of shares) share.inlets.items left
    ∙ ap (λ l. inlets_of shares ++ l) ((λ i. own i ++ rest i) ∙ take-append-drop n inlets)
    ∙ was
