-- When the aggregates of a schema can be answered.
use Rattle.std.proofs.Common.{◌≡◌, true, false, List, [], ◌∷◌, refl}
use Rattle.std.specs.List.{list_any, list_all}
use Rattle.std.proofs.lemmas.Bool.{or_parts}
use Rattle.cube_core.specs.Layout.{Layout, needs_each, needs_numbers, suffices, all_suffice}
use Rattle.cube_core.specs.declared.aggregate.Agg.{Agg}

-- where numbers are kept, each aggregate can be answered
suffices-kept : (aggregates : List Agg) → list_all (suffices true) aggregates ≡ true
suffices-kept [] = refl
suffices-kept (agg ∷ aggregates) = suffices-kept aggregates

pub all_suffice_kept : (s : Layout) → all_suffice true s ≡ true
all_suffice_kept s = suffices-kept s.aggregates

-- where no aggregate needs each number, a summary suffices
suffices-plain : (aggregates : List Agg) → list_any needs_each aggregates ≡ false
    → list_all (suffices false) aggregates ≡ true
suffices-plain [] none = refl
suffices-plain (agg ∷ aggregates) none =
    let (here, others) = or_parts (needs_each agg) (list_any needs_each aggregates) none in
    rw here (suffices-plain aggregates others)

pub all_suffice_plain : (s : Layout) → needs_numbers s ≡ false → all_suffice false s ≡ true
all_suffice_plain s none = suffices-plain s.aggregates none
