-- What was received of a link up to its end is all that was sent on it.
use Rattle.std.proofs.Common.{◌≡◌, List, [], ◌++◌, get_or, ap, sym, ◌∙◌}
use Rattle.std.specs.Prelude.{Option, Some, None, IfSome}
use Rattle.cube_rings.specs.Link.{Sending}
use Rattle.cube_rings.specs.Parcels.{parcels_of}
use Rattle.cube_rings.specs.Settling.{AllBegin, AllDrained, Begins, IsDrainedBy, receipt_of}
use Rattle.cube_rings.specs.declared.parcel.Parcel.{Parcel}
use Rattle.cube_rings.specs.declared.parcel.FeederEnd.{FeederEnd}
use Rattle.cube_rings.proofs.TakeLaws.{parcels_of-front}

-- nothing follows an end, so the parcels up to it are all
IsDrainedBy-Begins : (received : Sending Parcel) (receipt : Option (Sending Parcel)) → IfSome receipt (Begins received)
    → IfSome receipt (IsDrainedBy received)
IsDrainedBy-Begins received None begins = tt
IsDrainedBy-Begins received (Some receipt) begins = λ came sent came_is sent_is.
    let same : came ≡ sent = parcels_of-front came sent begins.0
    (ap (λ (xs : List Parcel). xs ++ begins.0) (sym came_is) ∙ begins.1 ∙ sent_is) in
    came_is ∙ ap parcels_of same ∙ sym sent_is

pub AllDrained-begin : (ends : List FeederEnd) (received : List (List (Sending Parcel))) → AllBegin ends received
    → AllDrained ends received
AllDrained-begin ends received begin j below k e d low =
    IsDrainedBy-Begins (get_or (get_or received j []) k d) (receipt_of (get_or ends k e) j) (begin j below k e d low)
