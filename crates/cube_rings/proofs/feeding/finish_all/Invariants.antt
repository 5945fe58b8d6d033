use Rattle.std.proofs.Common.{◌≡◌, ◌<◌, ◌≤◌, ℕ, length, get_or, vec_len, None, IfSome}
use Rattle.cube_rings.specs.Link.{Sending}
use Rattle.cube_rings.specs.Feeding.{IsReceiptOf}
use Rattle.cube_rings.specs.declared.parcel.Parcel.{Parcel}
use Rattle.cube_rings.proofs.feeding.finish_all.Given as goal

abbrev pub invariant-loop-outlet : goal.invariant-loop-outlet
invariant-loop-outlet l =
    (length l.receipts ≡ 8)
    × (vec_len l.outlets ≤ vec_len l.fn.outlets)
    ×
    ((j : ℕ) (d : Sending Parcel) → j < vec_len l.outlets → get_or l.outlets.items j d ≡ get_or l.fn.outlets.items j d)
    × ((j : ℕ) (d : Sending Parcel) → vec_len l.outlets ≤ j → j < vec_len l.fn.outlets
    → IfSome (get_or l.receipts j None) (IsReceiptOf (get_or l.fn.outlets.items j d)))
    × ((j : ℕ) → vec_len l.fn.outlets ≤ j → get_or l.receipts j None ≡ None)

abbrev pub decreases-loop-outlet : goal.decreases-loop-outlet
decreases-loop-outlet l = vec_len l.outlets
