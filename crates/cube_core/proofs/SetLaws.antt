-- The masks of grouping sets, in ascending order.
use Rattle.std.proofs.Common.{◌≡◌, ◌<◌, ◌≤◌, ◌+◌, ◌/◌, ◌^◌, ℕ, length, get_or, List, [], ◌∷◌, ◌++◌, All, refl, sym, ap}
use Rattle.std.proofs.Common.{◌∙◌, arith}
use Rattle.std.specs.List.{range_with_len}
use Rattle.std.specs.List.Sorted.{IsStrictlyIncreasing}
use Rattle.std.proofs.lemmas.List.FromFn.{length-range_with_len, get_or-range_with_len, map-range_with_len_more}
use Rattle.std.proofs.lemmas.List.{map-id}
use Rattle.std.proofs.lemmas.List.Elements.{All-from_get_or}
use Rattle.std.proofs.Math.Nat.{mod-lt}
use Rattle.cube_core.specs.GroupingSet.{all_sets, part_of}

-- numbers one after another rise
pub range_with_len-IsStrictlyIncreasing : (a n : ℕ) → IsStrictlyIncreasing (range_with_len a n)
range_with_len-IsStrictlyIncreasing a n k inside =
    let within : k + 1 < n = rw (sym (length-range_with_len a n)) inside in
    rw (get_or-range_with_len a n k 0 (omega arith), get_or-range_with_len a n (k + 1) 0 within) (omega arith)

-- all sets stand in ascending order
pub all_sets-IsStrictlyIncreasing : (dimensions : ℕ) → IsStrictlyIncreasing (all_sets dimensions)
all_sets-IsStrictlyIncreasing dimensions = range_with_len-IsStrictlyIncreasing 0 (2 ^ dimensions)

-- each of so many numbers from 0 on is below their number
pub range_with_len-All : (n : ℕ) → All (λ number. number < n) (range_with_len 0 n)
range_with_len-All n = All-from_get_or (λ number. number < n) (range_with_len 0 n) 0 below
  where
    below : (i : ℕ) → i < length (range_with_len 0 n) → get_or (range_with_len 0 n) i 0 < n
    below i inside =
        let within : i < n = rw (sym (length-range_with_len 0 n)) inside in
        rw (get_or-range_with_len 0 n i 0 within) (omega arith)

-- each of all sets is a set of the dimensions
pub all_sets-All : (dimensions : ℕ) → All (λ set. set < 2 ^ dimensions) (all_sets dimensions)
all_sets-All dimensions = range_with_len-All (2 ^ dimensions)

-- the list of them after one more
pub range_with_len-more : (a n : ℕ) → range_with_len a (n + 1) ≡ range_with_len a n ++ (a + n) ∷ []
range_with_len-more a n = sym (map-id (range_with_len a (n + 1))) ∙ map-range_with_len_more (λ i. i) a n (a + n) refl
    ∙ ap (λ (xs : List ℕ). xs ++ (a + n) ∷ []) (map-id (range_with_len a n))

-- each set is in one of the parts
pub part_of-below : (parts set : ℕ) → 1 ≤ parts → part_of parts set < parts
part_of-below parts set some = mod-lt (set + set / parts) some
