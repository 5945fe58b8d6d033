-- What is kept of threads that were joined.
use Rattle.std.proofs.Common.{◌≡◌, ◌≤◌, ◌+◌, ◌++◌, ◌∷◌, [], ℕ, List, Option, Some, Ok, Err, length, arith, refl}
use Rattle.std.specs.Prelude.{Result, OnOk, IfSome}
use Rattle.std.proofs.lemmas.Result.{on_ok_weaker}
use Rattle.std.specs.List.{AllZip}
use Rattle.std.proofs.lemmas.Slice.Zip.{AllZip-long}
use Rattle.cube_core.proofs.ListLaws.{AllZip-push}
use Rattle.cube_rings.specs.Starting.{Keeps}
use Rattle.cube_rings.proofs.PlaceLaws.{AllZip-nil}

-- one thread more answers as it was promised
pub AllZip-Keeps : {P A E : Type 0} (R : P → A → Type 0) (all rest : List P) (last : P) (answer : Result (Unit {0}) E)
    (given : Option A) (old new : List A) → all ≡ rest ++ last ∷ [] → OnOk answer (AllZip R rest old)
    → IfSome given (R last) → Keeps answer given old new → AllZip R all new
AllZip-Keeps R all rest last answer given old new split answered joined keeps =
    rw (split, keeps.kept) (AllZip-push R rest old last keeps.one (rw keeps.all at answered) (rw keeps.is at joined))

-- there is room for one thread more where there was room for all
pub room-kept : {P A E : Type 0} (R : P → A → Type 0) (rest : List P) (kept : List A) (answer : Result (Unit {0}) E)
    (all now room later : ℕ) → all ≡ length rest + 1 → now ≡ length kept → all ≤ room
    → OnOk answer (AllZip R rest kept) → OnOk answer (room ≤ later) → OnOk answer (now + 1 ≤ later)
room-kept R rest kept (Ok unit) all now room later count counted within answered grows =
    omega (arith, AllZip-long R rest kept answered)
room-kept R rest kept (Err fault) all now room later count counted within answered grows = tt

-- the first builder, beside the feeders, answers as it was asked
pub AllZip-first : {P A E : Type 0} (R : P → A → Type 0) (first : P) (own : A) (answer : Result (Unit {0}) E)
    (old new : List A) → length old ≡ 0 → OnOk answer (R first own) → Keeps answer (Some own) old new
    → AllZip R (first ∷ []) new
AllZip-first R first own answer old new none answered keeps =
    let here : R first own = rw keeps.all at answered in
    let one : own ≡ keeps.one = cc keeps.is in
    rw keeps.kept (AllZip-push R [] old first keeps.one (AllZip-nil R [] old refl none) (rw one at here))

-- what is known where all came to their ends is known where one more was kept
pub known-Keeps : {A E F : Type 0} (Known : Type 0) (answer : Result (Unit {0}) E) (kept : Result (Unit {0}) F)
    (given : Option A) (old new : List A) → OnOk answer Known → OnOk kept (Keeps answer given old new)
    → OnOk kept Known
known-Keeps Known answer kept given old new known keeps =
    on_ok_weaker kept (λ (k : Keeps answer given old new). rw k.all at known) keeps

-- room that grew stays where one more was kept
pub grows-Keeps : {A E F : Type 0} (answer : Result (Unit {0}) E) (kept : Result (Unit {0}) F) (given : Option A)
    (old new : List A) (first then last : ℕ) → OnOk answer (first ≤ then) → then ≤ last
    → OnOk kept (Keeps answer given old new) → OnOk kept (first ≤ last)
grows-Keeps answer kept given old new first then last grew grows keeps =
    on_ok_weaker kept (more first then last grows) (known-Keeps (first ≤ then) answer kept given old new grew keeps)
  where
    more : (first then last : ℕ) → then ≤ last → first ≤ then → first ≤ last
    more first then last grows grew = omega arith

-- what holds of every answer
pub holds-OnOk : {A E Holds : Type 0} (answer : Result A E) → Holds → OnOk answer Holds
holds-OnOk (Ok given) holds = holds
holds-OnOk (Err fault) holds = tt
