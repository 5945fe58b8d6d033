-- Laws of lists of numbers that are each held once: what their bag holds, and how it changes with the list.
use Rattle.std.proofs.Common.{◌≡◌, ℕ, ◌+◌, ◌<◌, ◌≤◌, List, [], ◌∷◌, ◌++◌, refl, arith, ap, length, get_or, take, drop}
use Rattle.std.proofs.Common.{true, false, subst, not}
use Rattle.std.specs.Prelude.{ℤ, ◌≤ℤ◌, int_lt, Option, Some, None, All, Contains, IfSome, IfNone, is_some, sum_by}
use Rattle.std.specs.Bool.{OnTrue, OnFalse}
use Rattle.std.specs.Int.{int_min, int_max}
use Rattle.std.specs.List.{swap_remove, HoldsAt}
use Rattle.std.specs.Map.{keys_of}
use Rattle.std.specs.List.Sorted.{IsPermutation, IsSorted, IsPartitionedBy}
use Rattle.std.specs.Ordering.{int_cmp, int_eq, is_lt}
use Rattle.std.proofs.lemmas.Cmp.{int_cmp_total}
use Rattle.std.proofs.lemmas.Int.{ints}
use Rattle.std.proofs.lemmas.List.Sorted.{ranks_by, sorted_far, sum_by-IsPermutation}
use Rattle.std.proofs.lemmas.List.{map_more, take_all, length-map, get_or-map}
use Rattle.std.proofs.lemmas.List.Elements.{All-map}
use Rattle.std.proofs.lemmas.List.Sums.{sum_by-cons, sum_by-append, sum_by_push, sum_by-swap_remove, sum_by-le}
use Rattle.std.proofs.lemmas.List.Sums.{get_or-le-sum_by}
use Rattle.cube_values.specs.Bag.{Bag, weight_of, one_at, held_of, size_of, SameHeld, AddsBag, AddsTimes, AddsOne, HasEnds}
use Rattle.cube_values.specs.Log.{Rises}
use Rattle.cube_values.specs.Narrow.{times_in, once_each}
use Rattle.cube_values.proofs.BagLaws.{weight_of-cons, one_at-refl, one_at-distinct, int_eq-same}
use Rattle.cube_values.proofs.BagLaws.{IsSplit, IsSplit-room}
use Rattle.cube_values.proofs.BagLaws.{IsSplit-more, IsSplit-SameHeld, IsMerging, IsMerging-room_at, IsMerging-more_at}
use Rattle.cube_values.proofs.BagLaws.{IsMerging-AddsBag_past}
use Rattle.cube_values.proofs.EndLaws.{HasEnds-pair, HasEnds-AddsBag, HasEnds-keys_of}

-- each number counts as often as it stands in the list
pub weight_of-once_each : (f : ℤ → ℕ) (numbers : List ℤ) → weight_of f (once_each numbers) ≡ sum_by f numbers
weight_of-once_each f [] = refl
weight_of-once_each f (v ∷ numbers) = omega (
  arith,
  weight_of-once_each f numbers,
  weight_of-cons f (v, 1) (once_each numbers),
  sum_by-cons f v numbers,
)

-- and is held as often
pub held_of-once_each : (numbers : List ℤ) (x : ℤ) → held_of (once_each numbers) x ≡ times_in numbers x
held_of-once_each numbers x = weight_of-once_each (one_at x) numbers

-- so many numbers are held
pub size_of-once_each : (numbers : List ℤ) → size_of (once_each numbers) ≡ length numbers
size_of-once_each [] = refl
size_of-once_each (v ∷ numbers) =
    omega (arith, size_of-once_each numbers, weight_of-cons (λ _. 1) (v, 1) (once_each numbers))

-- a list is put behind another
pub AddsBag-once_each : (old more : List ℤ) → AddsBag (once_each old) (once_each (old ++ more)) (once_each more)
AddsBag-once_each old more = record {
  held = λ x. omega (
    arith,
    held_of-once_each old x,
    held_of-once_each more x,
    held_of-once_each (old ++ more) x,
    sum_by-append (one_at x) old more,
  );
}

-- one number is
pub AddsTimes-once_each : (old : List ℤ) (v : ℤ) → AddsTimes (once_each old) (once_each (old ++ v ∷ [])) v 1
AddsTimes-once_each old v = record {
  held = λ x. omega (arith, held_of-once_each old x, held_of-once_each (old ++ v ∷ []) x, sum_by_push (one_at x) old v);
}

-- with it the ends are those of both
pub HasEnds-once_each_push : (old : List ℤ) (v low high : ℤ) → HasEnds (once_each old) low high
    → HasEnds (once_each (old ++ v ∷ [])) (int_min low v) (int_max high v)
HasEnds-once_each_push old v low high ends = HasEnds-AddsBag (once_each old) (once_each (old ++ v ∷ []))
    (once_each (v ∷ [])) low high v v (AddsBag-once_each old (v ∷ [])) ends (HasEnds-pair v 1 (omega arith))

pub HasEnds-once_each_append : (old more : List ℤ) (l g m h : ℤ) → HasEnds (once_each old) l g
    → HasEnds (once_each more) m h → HasEnds (once_each (old ++ more)) (int_min l m) (int_max g h)
HasEnds-once_each_append old more l g m h first second = HasEnds-AddsBag (once_each old) (once_each (old ++ more))
    (once_each more) l g m h (AddsBag-once_each old more) first second

-- the numbers before a place, and the one there
pub once_each-more : (numbers : List ℤ) (i : ℕ) (d : ℤ) → i < length numbers
    → once_each (take (i + 1) numbers) ≡ once_each (take i numbers) ++ (get_or numbers i d, 1) ∷ []
once_each-more numbers i d within = map_more (λ x. (x, 1)) numbers i d within

pub once_each-all : (numbers : List ℤ) (i : ℕ) → length numbers ≤ i → once_each (take i numbers) ≡ once_each numbers
once_each-all numbers i past = ap once_each (take_all i numbers past)

-- two numbers
pub HasEnds-two : (v w : ℤ) → HasEnds (once_each (v ∷ w ∷ [])) (int_min v w) (int_max v w)
HasEnds-two v w = HasEnds-once_each_push (v ∷ []) w v v (HasEnds-pair v 1 (omega arith))

-- ---- a number is found
-- the number at a place is held
held_of-get_or_once : (numbers : List ℤ) (i : ℕ) (d : ℤ) → i < length numbers
    → 0 < held_of (once_each numbers) (get_or numbers i d)
held_of-get_or_once numbers i d within = omega (
  arith,
  held_of-once_each numbers (get_or numbers i d),
  get_or-le-sum_by (one_at (get_or numbers i d)) numbers i d within,
  one_at-refl (get_or numbers i d),
)

pub held_of-HoldsAt_once : (numbers : List ℤ) (i : ℕ) (v : ℤ) → i < length numbers → HoldsAt (λ x. x ≡ v) numbers i
    → 0 < held_of (once_each numbers) v
held_of-HoldsAt_once numbers i v within of =
    subst (λ x. 0 < held_of (once_each numbers) x) (of v) (held_of-get_or_once numbers i v within)

-- one that stands nowhere is not
pub held_of-absent_once : (numbers : List ℤ) (v : ℤ) → All (λ x. int_eq v x ≡ false) numbers
    → held_of (once_each numbers) v ≡ 0
held_of-absent_once numbers v none = omega (
  arith,
  held_of-once_each numbers v,
  sum_by-le (one_at v) 0 numbers (λ k d within. omega (
    arith,
    one_at-distinct v (get_or numbers k d) (none k d within),
  )),
)

-- by the place of the first one
pub held_by_place_once : (numbers : List ℤ) (v : ℤ) (place : Option ℕ) → IfSome place (λ i. i < length numbers)
    → IfSome place (HoldsAt (λ x. x ≡ v) numbers) → OnTrue (is_some place) (0 < held_of (once_each numbers) v)
held_by_place_once numbers v None inside of = tt
held_by_place_once numbers v (Some i) inside of = held_of-HoldsAt_once numbers i v inside of

pub absent_by_place_once : (numbers : List ℤ) (v : ℤ) (place : Option ℕ)
    → IfNone place (All (λ x. int_eq v x ≡ false) numbers) → OnFalse (is_some place) (held_of (once_each numbers) v ≡ 0)
absent_by_place_once numbers v None none = held_of-absent_once numbers v none
absent_by_place_once numbers v (Some i) none = tt

-- ---- one number is taken
-- the one at a place, read as e
pub takes_once : (numbers : List ℤ) (i : ℕ) (e v : ℤ) → i < length numbers → e ≡ get_or numbers i e
    → HoldsAt (λ x. x ≡ v) numbers i → AddsOne (once_each (swap_remove numbers i e)) (once_each numbers) v
takes_once numbers i e v within is of =
    let at : get_or numbers i e ≡ v = of e in
    record {
      held = λ x. omega (
        arith,
        held_of-once_each numbers x,
        held_of-once_each (swap_remove numbers i e) x,
        sum_by-swap_remove (one_at x) numbers i e within,
        ap (one_at x) at,
      );
    }

-- the only one
pub takes_last : (numbers : List ℤ) (none : Bag) (v : ℤ) → length numbers ≤ 1 → 0 < held_of (once_each numbers) v
    → ((x : ℤ) → held_of none x ≡ 0) → AddsOne none (once_each numbers) v
takes_last [] none v few some nothing = absurd (omega (arith, some))
takes_last (w ∷ []) none v few some nothing =
    record { held = λ x. omega (arith, nothing x, weight_of-cons (one_at x) (w, 1) [], ap (one_at x) same) }
  where
    same : v ≡ w
    same = elim (int_eq v w) as (λ b. int_eq v w ≡ b → v ≡ w) [
      | true ↦ λ t. int_eq-same v w t
      | false ↦ λ t. absurd (omega (arith, some, weight_of-cons (one_at v) (w, 1) [], one_at-distinct v w t))
    ] refl
takes_last (w ∷ u ∷ numbers) none v few some nothing = absurd (omega (arith, few))

-- ---- the ends
-- the numbers of the pairs are those of the list
pub keys_of-once_each : (numbers : List ℤ) → keys_of (once_each numbers) ≡ numbers
keys_of-once_each [] = refl
keys_of-once_each (v ∷ numbers) = ap (λ (l : List ℤ). v ∷ l) (keys_of-once_each numbers)

-- no count is 0
pub some_once_each : (numbers : List ℤ) → All (λ e. 0 < e.1) (once_each numbers)
some_once_each numbers = All-map (λ (e : ℤ × ℕ). 0 < e.1) (λ x. (x, 1)) numbers (λ k d within. omega arith)

-- the least and the greatest number of the list
pub HasEnds-numbers : (numbers : List ℤ) (l g : ℤ) → Contains numbers l → All (λ x. l ≤ℤ x) numbers → Contains numbers g
    → All (λ x. x ≤ℤ g) numbers → HasEnds (once_each numbers) l g
HasEnds-numbers numbers l g at_least below at_most above =
    HasEnds-keys_of (once_each numbers) l g (some_once_each numbers)
    (rw (keys_of-once_each numbers) at_least)
    (All-map (λ (e : ℤ × ℕ). l ≤ℤ e.0) (λ x. (x, 1)) numbers below)
    (rw (keys_of-once_each numbers) at_most)
    (All-map (λ (e : ℤ × ℕ). e.0 ≤ℤ g) (λ x. (x, 1)) numbers above)

-- ---- numbers that are added one by one
-- the pair at a place
get_or-once_each : (numbers : List ℤ) (i : ℕ) (d : ℤ) → i < length numbers
    → get_or (once_each numbers) i (d, 1) ≡ (get_or numbers i d, 1)
get_or-once_each numbers i d within = get_or-map (λ x. (x, 1)) numbers i d (d, 1) within

-- each number is a pair
length-once_each : (numbers : List ℤ) → length (once_each numbers) ≡ length numbers
length-once_each numbers = length-map numbers (λ (x : ℤ). (x, 1))

-- to an empty bag
pub IsSplit-room_once : (numbers : List ℤ) (i : ℕ) (added : Bag) (d : ℤ) → IsSplit (once_each numbers) i added
    → i < length numbers → size_of added + 1 ≤ size_of (once_each numbers)
IsSplit-room_once numbers i added d split within = omega (
  arith,
  IsSplit-room (once_each numbers) i added (d, 1) split (omega (arith, length-once_each numbers, within)),
  ap (λ (e : ℤ × ℕ). e.1) (get_or-once_each numbers i d within),
)

pub IsSplit-more_once : (numbers : List ℤ) (i : ℕ) (added new : Bag) (d : ℤ) → IsSplit (once_each numbers) i added
    → i < length numbers → AddsTimes added new (get_or numbers i d) 1 → IsSplit (once_each numbers) (i + 1) new
IsSplit-more_once numbers i added new d split within adds = IsSplit-more (once_each numbers) i added new (d, 1) split
    (omega (arith, length-once_each numbers, within)) (rw (get_or-once_each numbers i d within) adds)

pub IsSplit-SameHeld_once : (numbers : List ℤ) (i : ℕ) (added : Bag) → IsSplit (once_each numbers) i added
    → length numbers ≤ i → SameHeld (once_each numbers) added
IsSplit-SameHeld_once numbers i added split past =
    IsSplit-SameHeld (once_each numbers) i added split (omega (arith, length-once_each numbers, past))

-- to another bag
pub IsMerging-room_once : (old : Bag) (numbers : List ℤ) (now : Bag) (i : ℕ) (d : ℤ) → i < length numbers
    → IsMerging old (once_each numbers) (drop i (once_each numbers)) now
    → size_of now + 1 ≤ size_of old + size_of (once_each numbers)
IsMerging-room_once old numbers now i d within is = omega (
  arith,
  IsMerging-room_at old (once_each numbers) now i (d, 1) (omega (arith, length-once_each numbers, within)) is,
  ap (λ (e : ℤ × ℕ). e.1) (get_or-once_each numbers i d within),
)

pub IsMerging-more_once : (old : Bag) (numbers : List ℤ) (now new : Bag) (i : ℕ) (d : ℤ) → i < length numbers
    → IsMerging old (once_each numbers) (drop i (once_each numbers)) now → AddsTimes now new (get_or numbers i d) 1
    → IsMerging old (once_each numbers) (drop (i + 1) (once_each numbers)) new
IsMerging-more_once old numbers now new i d within is adds = IsMerging-more_at old (once_each numbers) now new i (d, 1)
    (omega (arith, length-once_each numbers, within)) is (rw (get_or-once_each numbers i d within) adds)

pub IsMerging-AddsBag_once : (old : Bag) (numbers : List ℤ) (now : Bag) (i : ℕ) → length numbers ≤ i
    → IsMerging old (once_each numbers) (drop i (once_each numbers)) now → AddsBag old now (once_each numbers)
IsMerging-AddsBag_once old numbers now i past is =
    IsMerging-AddsBag_past old (once_each numbers) now i (omega (arith, length-once_each numbers, past)) is

-- ---- numbers that are counted in another form
-- nothing is added
pub SameHeld-AddsBag_nothing : (old new : Bag) → AddsBag old new [] → SameHeld old new
SameHeld-AddsBag_nothing old new adds = record { held = λ x. omega (arith, adds.held x) }

-- in another order the numbers are the same
pub SameHeld-permuted : (old new : List ℤ) → IsPermutation old new → SameHeld (once_each old) (once_each new)
SameHeld-permuted old new moved = record {
  held = λ x. omega (
    arith,
    held_of-once_each old x,
    held_of-once_each new x,
    sum_by-IsPermutation (one_at x) old new moved,
  );
}

-- a number of a sorted list is at most those behind it
pub IsSorted-le : (numbers : List ℤ) → IsSorted int_cmp numbers → (i j : ℕ) (d : ℤ) → i ≤ j → j < length numbers
    → get_or numbers i d ≤ℤ get_or numbers j d
IsSorted-le numbers sorted i j d before within =
    let far : is_lt (int_cmp (get_or numbers j d) (get_or numbers i d)) ≡ false =
    sorted_far (λ (a b : ℤ). is_lt (int_cmp a b)) (ranks_by int_cmp_total (λ (x : ℤ). x)) numbers sorted i j d before
    within in
    grind (arith, ints, far)

-- so those of its bag rise
pub IsSorted-Rises : (numbers : List ℤ) → IsSorted int_cmp numbers → Rises (once_each numbers)
IsSorted-Rises numbers sorted i j d before within =
    let inside : j < length numbers = omega (arith, within, length-once_each numbers) in
    rw (
      get_or-map (λ (x : ℤ). (x, 1)) numbers i d.0 d (omega (arith, before, inside)),
      get_or-map (λ (x : ℤ). (x, 1)) numbers j d.0 d inside,
    ) (IsSorted-le numbers sorted i j d.0 before inside)

-- those up to v come first
pub IsSorted-IsPartitionedBy : (numbers : List ℤ) (v : ℤ) → IsSorted int_cmp numbers
    → IsPartitionedBy (λ x. not (int_lt v x)) numbers
IsSorted-IsPartitionedBy numbers v sorted i j d before within passes =
    let le : get_or numbers i d ≤ℤ get_or numbers j d = IsSorted-le numbers sorted i j d before within in
    grind (arith, ints, le, passes)
