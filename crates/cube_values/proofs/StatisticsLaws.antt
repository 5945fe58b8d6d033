-- Laws of the statistics of a bag: of how many numbers are below one, of the number at a place, of the numbers in order,
-- of the sum of the squares.
use Rattle.std.proofs.Common.{◌≡◌, ℕ, suc, zero, ◌+◌, ◌-◌, ◌*◌, ◌<◌, ◌≤◌, List, [], ◌∷◌, refl, arith, ap, sym, ◌∙◌}
use Rattle.std.proofs.Common.{◌^◌, length, get_or, drop, true, false, cond, subst, to_z, of_z}
use Rattle.std.specs.Prelude.{ℤ, pos, ◌+ℤ◌, ◌-ℤ◌, ◌<ℤ◌, ◌≤ℤ◌, int_lt, not, All, nat_lt, filter}
use Rattle.std.specs.Int.{w64}
use Rattle.std.specs.Int.RustNames.{FitsSigned, unsigned_abs}
use Rattle.std.specs.List.{AllPairs, AllWithin}
use Rattle.std.specs.Map.{keys_of}
use Rattle.std.specs.List.Sorted.{IsStrictlySortedBy}
use Rattle.std.specs.Ordering.{int_eq, int_cmp}
use Rattle.std.specs.declared.cmp.Ordering.TheVariants.{Less}
use Rattle.std.proofs.Math.Nat.{add-mul}
use Rattle.std.proofs.lemmas.Int.{ints, by_lt_z, to_z-of_z, to_z_pos}
use Rattle.std.proofs.lemmas.List.{length-map, get_or-map, at_drop_more}
use Rattle.std.proofs.lemmas.List.Elements.{All-cons, All-head, All-tail, All-weaker, filter_passes}
use Rattle.std.proofs.lemmas.List.Kept.{AllPairs-filter}
use Rattle.std.proofs.lemmas.List.Sums.{sum_by-cons}
use Rattle.std.proofs.lemmas.Map.Keys.{Less-from_sorted}
use Rattle.cube_values.specs.Bag.{Bag, weight_of, one_at, held_of, size_of, SameHeld, HasLeast, HasGreatest}
use Rattle.cube_values.specs.Log.{IsOrdered}
use Rattle.cube_values.specs.Narrow.{times_in, once_each}
use Rattle.cube_values.specs.Statistics.{one_below, one_up_to, size_below, size_up_to, IsAtPlace, AreInOrder}
use Rattle.cube_values.specs.Statistics.{HasDifferent, IsSpanOf, squares_held}
use Rattle.cube_values.proofs.BagLaws.{weight_of-cons, one_at-refl, one_at-distinct, int_eq-same, held_of-absent}
use Rattle.cube_values.proofs.BagLaws.{size_of_same}
use Rattle.cube_values.proofs.LogLaws.{int_eq-distinct, IsOrdered-count_before, SameHeld-filter}
use Rattle.cube_values.proofs.NarrowLaws.{held_of-once_each, size_of-once_each}

-- ---- weights of which one is made of others
-- each number counts as much as by two others together
weight_of-both : (f g h : ℤ → ℕ) → ((x : ℤ) → f x ≡ g x + h x) → (bag : Bag)
    → weight_of f bag ≡ weight_of g bag + weight_of h bag
weight_of-both f g h is [] = refl
weight_of-both f g h is (e ∷ bag) = omega (
  arith,
  weight_of-cons f e bag,
  weight_of-cons g e bag,
  weight_of-cons h e bag,
  ap (λ n. n * e.1) (is e.0),
  add-mul (g e.0) (h e.0) e.1,
  weight_of-both f g h is bag,
)

-- each counts no more
weight_of-le : (f g : ℤ → ℕ) → ((x : ℤ) → f x ≤ g x) → (bag : Bag) → weight_of f bag ≤ weight_of g bag
weight_of-le f g le bag =
    omega (arith, weight_of-both g f (λ x. g x - f x) (λ x. omega (arith, le x)) bag)

-- no number that is held counts
weight_of-none : (f : ℤ → ℕ) (bag : Bag) → ((x : ℤ) → 0 < held_of bag x → f x ≡ 0) → weight_of f bag ≡ 0
weight_of-none f [] none = refl
weight_of-none f ((y, zero) ∷ bag) none =
    let others : (x : ℤ) → 0 < held_of bag x → f x ≡ 0 =
    λ x some. none x (omega (arith, weight_of-cons (one_at x) (y, zero) bag, some)) in
    omega (arith, weight_of-cons f (y, zero) bag, weight_of-none f bag others)
weight_of-none f ((y, suc n) ∷ bag) none =
    let here : f y ≡ 0 =
    none y (omega (arith, weight_of-cons (one_at y) (y, suc n) bag, ap (λ m. m * suc n) (one_at-refl y))) in
    let others : (x : ℤ) → 0 < held_of bag x → f x ≡ 0 =
    λ x some. none x (omega (arith, weight_of-cons (one_at x) (y, suc n) bag, some)) in
    omega (arith, weight_of-cons f (y, suc n) bag, ap (λ m. m * suc n) here, weight_of-none f bag others)

-- ---- how many numbers are below one, and up to it
one_up_to-is : (v x : ℤ) → one_up_to v x ≡ one_below v x + one_at v x
one_up_to-is v x = by_lt_z x v
    (λ less. grind (arith, ints, less))
    (λ le. by_lt_z v x
    (λ more. grind (arith, ints, more, one_at-distinct v x (int_eq-distinct v x (λ same. omega (arith, ints, more, same)))))
    (λ ge. let same : v ≡ x = omega (arith, ints, le, ge) in rw same (grind (arith, ints, one_at-refl x))))

-- those up to a number are those below it and itself
pub size_up_to-held_of : (bag : Bag) (v : ℤ) → size_up_to bag v ≡ size_below bag v + held_of bag v
size_up_to-held_of bag v = weight_of-both (one_up_to v) (one_below v) (one_at v) (one_up_to-is v) bag

one_up_to-below : (v w x : ℤ) → v <ℤ w → one_up_to v x ≤ one_below w x
one_up_to-below v w x less = grind (arith, ints, less)

-- those up to a number are below a greater one
pub size_up_to-size_below : (bag : Bag) (v w : ℤ) → v <ℤ w → size_up_to bag v ≤ size_below bag w
size_up_to-size_below bag v w less = weight_of-le (one_up_to v) (one_below w) (λ x. one_up_to-below v w x less) bag

pub one_up_to-size : (v x : ℤ) → one_up_to v x ≤ 1
one_up_to-size v x = grind (arith, ints)

-- no more than all
pub size_up_to-size_of : (bag : Bag) (v : ℤ) → size_up_to bag v ≤ size_of bag
size_up_to-size_of bag v = weight_of-le (one_up_to v) (λ _. 1) (one_up_to-size v) bag

-- the number at a place in a list, and those after it
pub size_up_to-drop_once : (numbers : List ℤ) (i : ℕ) (d v : ℤ) → i < length numbers
    → size_up_to (once_each (drop i numbers)) v
    ≡ one_up_to v (get_or numbers i d) * 1 + size_up_to (once_each (drop (i + 1) numbers)) v
size_up_to-drop_once numbers i d v within =
    at_drop_more (λ (l : List ℤ). size_up_to (once_each l) v) numbers i d within
    ∙ weight_of-cons (one_up_to v) (get_or numbers i d, 1) (once_each (drop (i + 1) numbers))

-- those of a list that come first, if all others are above
pub size_up_to-first : (numbers : List ℤ) (v : ℤ) (past : ℕ) → past ≤ length numbers
    → AllWithin (λ x. not (int_lt v x) ≡ true) numbers 0 past
    → AllWithin (λ x. not (int_lt v x) ≡ false) numbers past (length numbers)
    → size_up_to (once_each numbers) v ≡ past
size_up_to-first [] v past within below above = omega (arith, within)
size_up_to-first (x ∷ numbers) v zero within below above =
    let here : one_up_to v x ≡ 0 =
    let t = above 0 x (omega arith) (omega arith) in grind (arith, ints, t) in
    omega (
      arith,
      weight_of-cons (one_up_to v) (x, 1) (once_each numbers),
      here,
      size_up_to-first numbers v zero (omega arith) (λ k d from to. absurd (omega (arith, to)))
          (λ k d from to. above (suc k) d (omega arith) (omega (arith, to))),
    )
size_up_to-first (x ∷ numbers) v (suc past) within below above =
    let here : one_up_to v x ≡ 1 =
    let t = below 0 x (omega arith) (omega arith) in grind (arith, ints, t) in
    omega (
      arith,
      weight_of-cons (one_up_to v) (x, 1) (once_each numbers),
      here,
      size_up_to-first numbers v past (omega (arith, within))
          (λ k d from to. below (suc k) d (omega arith) (omega (arith, to)))
          (λ k d from to. above (suc k) d (omega (arith, from)) (omega (arith, to))),
    )

-- the next number is above those up to one
one_below-next : (v x : ℤ) → one_below (v +ℤ pos 1) x ≡ one_up_to v x
one_below-next v x = by_lt_z v x (λ more. grind (arith, ints, more)) (λ le. grind (arith, ints, le))

pub size_below-next : (bag : Bag) (v : ℤ) → size_below bag (v +ℤ pos 1) ≡ size_up_to bag v
size_below-next bag v = omega (
  arith,
  weight_of-both (one_below (v +ℤ pos 1)) (one_up_to v) (λ _. 0) (λ x. omega (arith, one_below-next v x)) bag,
  weight_of-none (λ _. 0) bag (λ x some. refl),
)

-- ---- the number at a place
-- it is held
pub IsAtPlace-held : (bag : Bag) (k : ℕ) (v : ℤ) → IsAtPlace bag k v → 0 < held_of bag v
IsAtPlace-held bag k v at = omega (arith, size_up_to-held_of bag v, at.below, at.up_to)

-- and no other is at that place
IsAtPlace-not_below : (bag : Bag) (k : ℕ) (v w : ℤ) → IsAtPlace bag k v → IsAtPlace bag k w → v <ℤ w → ⊥
IsAtPlace-not_below bag k v w at other less = omega (arith, size_up_to-size_below bag v w less, at.up_to, other.below)

pub IsAtPlace-determined : (bag : Bag) (k : ℕ) (v w : ℤ) → IsAtPlace bag k v → IsAtPlace bag k w → v ≡ w
IsAtPlace-determined bag k v w at other = by_lt_z v w
    (λ less. absurd (IsAtPlace-not_below bag k v w at other less))
    (λ le. by_lt_z w v
    (λ more. absurd (IsAtPlace-not_below bag k w v other at more))
    (λ ge. omega (arith, ints, le, ge)))

-- nothing is below the least
size_below-least : (bag : Bag) (m : ℤ) → HasLeast bag m → size_below bag m ≡ 0
size_below-least bag m least = weight_of-none (one_below m) bag (λ x some. none x (least.below x some)) where
  none : (x : ℤ) → m ≤ℤ x → one_below m x ≡ 0
  none x le = grind (arith, ints, le)

-- all are at most the greatest
size_up_to-greatest : (bag : Bag) (m : ℤ) → HasGreatest bag m → size_up_to bag m ≡ size_of bag
size_up_to-greatest bag m greatest = omega (
  arith,
  weight_of-both (λ _. 1) (one_up_to m) (λ x. 1 - one_up_to m x) (λ x. omega (arith, one_up_to-size m x)) bag,
  weight_of-none (λ x. 1 - one_up_to m x) bag (λ x some. none x (greatest.above x some)),
) where
  none : (x : ℤ) → x ≤ℤ m → 1 - one_up_to m x ≡ 0
  none x le = grind (arith, ints, le)

-- the first place has the least number
pub IsAtPlace-HasLeast : (bag : Bag) (m : ℤ) → HasLeast bag m → IsAtPlace bag 1 m
IsAtPlace-HasLeast bag m least = record {
  below = omega (arith, size_below-least bag m least);
  up_to = omega (arith, size_up_to-held_of bag m, least.held);
}

pub HasLeast-IsAtPlace : (bag : Bag) (v : ℤ) → IsAtPlace bag 1 v → HasLeast bag v
HasLeast-IsAtPlace bag v at = record {
  held = IsAtPlace-held bag 1 v at;
  below = λ x some. by_lt_z x v
      (λ less. absurd (omega (arith, size_up_to-size_below bag x v less, size_up_to-held_of bag x, some, at.below)))
      (λ le. le);
}

-- the last place has the greatest
pub IsAtPlace-HasGreatest : (bag : Bag) (m : ℤ) → HasGreatest bag m → IsAtPlace bag (size_of bag) m
IsAtPlace-HasGreatest bag m greatest = record {
  below = omega (
    arith,
    size_up_to-held_of bag m,
    size_up_to-greatest bag m greatest,
    greatest.held,
  );
  up_to = omega (arith, size_up_to-greatest bag m greatest);
}

pub HasGreatest-IsAtPlace : (bag : Bag) (v : ℤ) → IsAtPlace bag (size_of bag) v → HasGreatest bag v
HasGreatest-IsAtPlace bag v at = record {
  held = IsAtPlace-held bag (size_of bag) v at;
  above = λ x some. by_lt_z v x
      (λ more. absurd (omega (
        arith,
        size_up_to-size_below bag v x more,
        size_up_to-held_of bag x,
        size_up_to-size_of bag x,
        some,
        at.up_to,
      )))
      (λ le. le);
}

-- ---- the span in which a number at a place is searched
-- from the least to the greatest
pub IsSpanOf-ends : (bag : Bag) (k : ℕ) (l g : ℤ) (low : ℤ) (width : ℕ) → HasLeast bag l → HasGreatest bag g → 1 ≤ k
    → k ≤ size_of bag → low ≡ l → low +ℤ pos width ≡ g → FitsSigned w64 g → IsSpanOf bag k low width
IsSpanOf-ends bag k l g low width least greatest first last low_is high_is fits = record {
  below = omega (arith, ap (size_below bag) low_is, size_below-least bag l least, first);
  up_to = omega (arith, ap (size_up_to bag) high_is, size_up_to-greatest bag g greatest, last);
  fits = subst (FitsSigned w64) (sym high_is) fits;
}

-- its lower half
pub IsSpanOf-lower : (bag : Bag) (k : ℕ) (low middle : ℤ) (width half : ℕ) → IsSpanOf bag k low width
    → middle ≡ low +ℤ pos half → FitsSigned w64 middle → k ≤ size_up_to bag middle → IsSpanOf bag k low half
IsSpanOf-lower bag k low middle width half span is fits le = record {
  below = span.below;
  up_to = subst (λ (v : ℤ). k ≤ size_up_to bag v) is le;
  fits = subst (FitsSigned w64) is fits;
}

-- its upper half
pub IsSpanOf-upper : (bag : Bag) (k : ℕ) (low middle next : ℤ) (width half rest : ℕ) → IsSpanOf bag k low width
    → middle ≡ low +ℤ pos half → next ≡ middle +ℤ pos 1 → width ≡ half + 1 + rest → size_up_to bag middle < k
    → IsSpanOf bag k next rest
IsSpanOf-upper bag k low middle next width half rest span is next_is width_is more =
    let end : low +ℤ pos width ≡ next +ℤ pos rest = omega (arith, ints, is, next_is, width_is) in
    record {
      below = omega (arith, ap (size_below bag) next_is, size_below-next bag middle, more);
      up_to = subst (λ (v : ℤ). k ≤ size_up_to bag v) end span.up_to;
      fits = subst (FitsSigned w64) end span.fits;
    }

-- a number between two of 64 bits is one
pub FitsSigned-between : (low : ℤ) (width half : ℕ) → FitsSigned w64 low → FitsSigned w64 (low +ℤ pos width)
    → half ≤ width → FitsSigned w64 (low +ℤ pos half)
FitsSigned-between low width half first last le = grind (arith, ints, first, last, le)

pub FitsSigned-next : (low : ℤ) (width half : ℕ) → FitsSigned w64 low → FitsSigned w64 (low +ℤ pos width)
    → half < width → FitsSigned w64 (low +ℤ pos half +ℤ pos 1)
FitsSigned-next low width half first last less =
    let next : low +ℤ pos (half + 1) ≡ low +ℤ pos half +ℤ pos 1 = omega (arith, ints) in
    subst (FitsSigned w64) next (FitsSigned-between low width (half + 1) first last (omega (arith, less)))

-- the middle of a span, and the number after it, as they are computed
pub middle_is : (low : ℤ) (half : ℕ) → FitsSigned w64 low → half < 2 ^ 63 → FitsSigned w64 (low +ℤ pos half)
    → to_z w64 (of_z w64 (to_z w64 (of_z w64 low) +ℤ to_z w64 half)) ≡ low +ℤ pos half
middle_is low half low_fits half_fits fits =
    ap (λ (z : ℤ). to_z w64 (of_z w64 (z +ℤ to_z w64 half))) (to_z-of_z w64 low low_fits)
    ∙ ap (λ (z : ℤ). to_z w64 (of_z w64 (low +ℤ z))) (to_z_pos w64 half half_fits)
    ∙ to_z-of_z w64 (low +ℤ pos half) fits

pub next_is : (low : ℤ) (half : ℕ) → FitsSigned w64 low → half < 2 ^ 63 → FitsSigned w64 (low +ℤ pos half)
    → FitsSigned w64 (low +ℤ pos half +ℤ pos 1)
    → to_z w64 (of_z w64 (to_z w64 (of_z w64 (to_z w64 (of_z w64 low) +ℤ to_z w64 half)) +ℤ pos 1))
    ≡ low +ℤ pos half +ℤ pos 1
next_is low half low_fits half_fits fits next_fits =
    ap (λ (z : ℤ). to_z w64 (of_z w64 (z +ℤ pos 1))) (middle_is low half low_fits half_fits fits)
    ∙ to_z-of_z w64 (low +ℤ pos half +ℤ pos 1) next_fits

-- one number is left
pub IsSpanOf-IsAtPlace : (bag : Bag) (k : ℕ) (low : ℤ) (width : ℕ) → IsSpanOf bag k low width → width ≤ 0
    → IsAtPlace bag k low
IsSpanOf-IsAtPlace bag k low width span none =
    let end : low +ℤ pos width ≡ low = omega (arith, ints, none) in
    record { below = span.below; up_to = subst (λ (v : ℤ). k ≤ size_up_to bag v) end span.up_to }

-- how far it is from a number to one that is no less
pub unsigned_abs-between : (l g : ℤ) → l ≤ℤ g → l +ℤ pos (unsigned_abs (g -ℤ l)) ≡ g
unsigned_abs-between l g le = grind (arith, ints, le)

-- the least is at most the greatest
pub HasLeast-le : (bag : Bag) (l g : ℤ) → HasLeast bag l → HasGreatest bag g → l ≤ℤ g
HasLeast-le bag l g least greatest = least.below g greatest.held

-- ---- numbers in order
-- each number is below those after it
abbrev pub Ascends : Bag → Type 0
Ascends pairs = AllPairs (λ e f. e.0 <ℤ f.0) pairs

pub All-ascending : (e : ℤ × ℕ) (pairs : Bag) → Ascends (e ∷ pairs) → All (λ f. e.0 <ℤ f.0) pairs
All-ascending e pairs up k d within = up 0 (suc k) d (omega arith) (omega (arith, within))

pub Ascends-tail : (e : ℤ × ℕ) (pairs : Bag) → Ascends (e ∷ pairs) → Ascends pairs
Ascends-tail e pairs up i j d before within = up (suc i) (suc j) d (omega (arith, before)) (omega (arith, within))

-- a number below all of them is not held
held_of-below : (pairs : Bag) (v : ℤ) → All (λ f. v <ℤ f.0) pairs → held_of pairs v ≡ 0
held_of-below pairs v above = held_of-absent pairs v (λ k d within. int_eq-distinct v (get_or pairs k d).0
    (λ same. omega (arith, ints, above k d within, same)))

-- the first is held as often as its pair says
held_of-first : (e : ℤ × ℕ) (pairs : Bag) → Ascends (e ∷ pairs) → held_of (e ∷ pairs) e.0 ≡ e.1
held_of-first e pairs up = omega (
  arith,
  weight_of-cons (one_at e.0) e pairs,
  ap (λ n. n * e.1) (one_at-refl e.0),
  held_of-below pairs e.0 (All-ascending e pairs up),
)

-- of two lists with the same numbers, the first of one is not below the first of the other
first-not_below : (e f : ℤ × ℕ) (a b : Bag) → Ascends (e ∷ a) → Ascends (f ∷ b) → 0 < e.1 → SameHeld (e ∷ a) (f ∷ b)
    → e.0 <ℤ f.0 → ⊥
first-not_below e f a b up other some same less =
    let above : All (λ g. e.0 <ℤ g.0) (f ∷ b) = All-cons (λ (g : ℤ × ℕ). e.0 <ℤ g.0) f b less
    (λ k d within. omega (arith, ints, less, All-ascending f b other k d within)) in
    omega (arith, same.held e.0, held_of-first e a up, held_of-below (f ∷ b) e.0 above, some)

-- two such lists are one
same_pairs : (a b : Bag) → Ascends a → Ascends b → All (λ e. 0 < e.1) a → All (λ e. 0 < e.1) b → SameHeld a b → a ≡ b
same_pairs [] [] up other some counts same = refl
same_pairs (e ∷ a) [] up other some counts same =
    absurd (omega (arith, same.held e.0, held_of-first e a up, All-head (λ (z : ℤ × ℕ). 0 < z.1) e a some))
same_pairs [] (f ∷ b) up other some counts same =
    absurd (omega (arith, same.held f.0, held_of-first f b other, All-head (λ (z : ℤ × ℕ). 0 < z.1) f b counts))
same_pairs (e ∷ a) (f ∷ b) up other some counts same =
    let back : SameHeld (f ∷ b) (e ∷ a) = record { held = λ x. sym (same.held x) } in
    let positive : 0 < e.1 = All-head (λ (z : ℤ × ℕ). 0 < z.1) e a some in
    let positive_too : 0 < f.1 = All-head (λ (z : ℤ × ℕ). 0 < z.1) f b counts in
    let number : e.0 ≡ f.0 = by_lt_z e.0 f.0
    (λ less. absurd (first-not_below e f a b up other positive same less))
    (λ le. by_lt_z f.0 e.0
    (λ more. absurd (first-not_below f e b a other up positive_too back more))
    (λ ge. omega (arith, ints, le, ge))) in
    let times : e.1 ≡ f.1 = omega (
      arith,
      held_of-first e a up,
      held_of-first f b other,
      same.held e.0,
      ap (held_of (f ∷ b)) number,
    ) in
    let rest : SameHeld a b = record {
      held = λ x. omega (
        arith,
        same.held x,
        weight_of-cons (one_at x) e a,
        weight_of-cons (one_at x) f b,
        ap (λ z. one_at x z * e.1) number,
        ap (λ n. one_at x f.0 * n) times,
      );
    } in
    let others : a ≡ b = same_pairs a b (Ascends-tail e a up) (Ascends-tail f b other)
    (All-tail (λ (z : ℤ × ℕ). 0 < z.1) e a some) (All-tail (λ (z : ℤ × ℕ). 0 < z.1) f b counts) rest in
    ap (λ (z : ℤ). (z, e.1) ∷ a) number ∙ ap (λ (n : ℕ). (f.0, n) ∷ a) times ∙ ap (λ (l : Bag). f ∷ l) others

pub AreInOrder-determined : (bag a b : Bag) → AreInOrder bag a → AreInOrder bag b → a ≡ b
AreInOrder-determined bag a b first second = same_pairs a b first.ascending second.ascending first.some second.some
    (record { held = λ x. sym (first.same.held x) ∙ second.same.held x })

-- ---- different numbers
-- 1 where so many are held that there is one
abbrev pub one_if : ℕ → ℕ
one_if n = cond (nat_lt 0 n) 1 0

pub one_if-some : (n : ℕ) → 0 < n → one_if n ≡ 1
one_if-some n some = grind (arith, some)

-- the numbers of pairs in order
times_in-keys_of : (pairs : Bag) → Ascends pairs → All (λ e. 0 < e.1) pairs → (x : ℤ)
    → times_in (keys_of pairs) x ≡ one_if (held_of pairs x)
times_in-keys_of [] up some x = refl
times_in-keys_of (e ∷ pairs) up some x =
    let rest = times_in-keys_of pairs (Ascends-tail e pairs up) (All-tail (λ (z : ℤ × ℕ). 0 < z.1) e pairs some) x in
    elim (int_eq x e.0)
    as (λ b. int_eq x e.0 ≡ b → times_in (keys_of (e ∷ pairs)) x ≡ one_if (held_of (e ∷ pairs) x)) [
      | true ↦ λ t.
          let same : x ≡ e.0 = int_eq-same x e.0 t in
          let held : held_of (e ∷ pairs) x ≡ e.1 = ap (held_of (e ∷ pairs)) same ∙ held_of-first e pairs up in
          let none : held_of pairs x ≡ 0 =
          ap (held_of pairs) same ∙ held_of-below pairs e.0 (All-ascending e pairs up) in
          omega (
            arith,
            sum_by-cons (one_at x) e.0 (keys_of pairs),
            ap (one_at x) (sym same),
            one_at-refl x,
            rest,
            ap one_if none,
            ap one_if held,
            one_if-some e.1 (All-head (λ (z : ℤ × ℕ). 0 < z.1) e pairs some),
          )
      | false ↦ λ t.
          let held : held_of (e ∷ pairs) x ≡ held_of pairs x = omega (
            arith,
            weight_of-cons (one_at x) e pairs,
            ap (λ n. n * e.1) (one_at-distinct x e.0 t),
          ) in
          omega (
            arith,
            sum_by-cons (one_at x) e.0 (keys_of pairs),
            one_at-distinct x e.0 t,
            rest,
            ap one_if held,
          )
    ] refl

pub HasDifferent-AreInOrder : (bag pairs : Bag) → AreInOrder bag pairs → HasDifferent bag (length pairs)
HasDifferent-AreInOrder bag pairs in_order = record {
  numbers = keys_of pairs;
  are = record {
    once = λ x. times_in-keys_of pairs in_order.ascending in_order.some x ∙ ap one_if (sym (in_order.same.held x));
  };
  many = sym (length-map pairs (λ (e : ℤ × ℕ). e.0));
}

-- there is one count of them
pub HasDifferent-determined : (bag : Bag) (n m : ℕ) → HasDifferent bag n → HasDifferent bag m → n ≡ m
HasDifferent-determined bag n m first second =
    let same : SameHeld (once_each first.numbers) (once_each second.numbers) = record {
      held = λ x. omega (
        arith,
        held_of-once_each first.numbers x,
        held_of-once_each second.numbers x,
        first.are.once x,
        second.are.once x,
      );
    } in
    omega (
      arith,
      size_of_same (once_each first.numbers) (once_each second.numbers) same,
      size_of-once_each first.numbers,
      size_of-once_each second.numbers,
      first.many,
      second.many,
    )

-- that of the pairs in order
pub HasDifferent-length : (bag pairs : Bag) (n : ℕ) → AreInOrder bag pairs → HasDifferent bag n → n ≡ length pairs
HasDifferent-length bag pairs n in_order has =
    HasDifferent-determined bag n (length pairs) has (HasDifferent-AreInOrder bag pairs in_order)

-- ---- pairs that were brought in order
-- those that count are the numbers in order
pub AreInOrder-filter : (bag : Bag) → IsOrdered bag → AreInOrder bag (filter (λ e. nat_lt 0 e.1) bag)
AreInOrder-filter bag ordered =
    record {
      ascending = λ i j d before within. AllPairs-filter
          (λ (e f : ℤ × ℕ). 0 < e.1 → e.0 <ℤ f.0) (λ e. nat_lt 0 e.1) bag apart i j d before within
          (counts i d (omega (arith, before, within)));
      some = counts;
      same = SameHeld-filter bag;
    } where
      apart : AllPairs (λ (e f : ℤ × ℕ). 0 < e.1 → e.0 <ℤ f.0) bag
      apart i j d before within positive = by_lt_z (get_or bag i d).0 (get_or bag j d).0
          (λ less. less)
          (λ ge.
          let le : (get_or bag i d).0 ≤ℤ (get_or bag j d).0 = ordered.rises i j d (omega (arith, before)) within in
          absurd (omega (
            arith,
            positive,
            IsOrdered-count_before bag ordered i j d before within (omega (arith, ints, le, ge)),
          )))

      counts : All (λ (e : ℤ × ℕ). 0 < e.1) (filter (λ e. nat_lt 0 e.1) bag)
      counts = All-weaker (λ (e : ℤ × ℕ). nat_lt 0 e.1 ≡ true) (λ (e : ℤ × ℕ). 0 < e.1)
          (λ e t. grind (arith, t)) (filter (λ e. nat_lt 0 e.1) bag)
          (filter_passes (λ (e : ℤ × ℕ). nat_lt 0 e.1) bag)

pub AreInOrder-SameHeld : (bag other pairs : Bag) → SameHeld bag other → AreInOrder other pairs → AreInOrder bag pairs
AreInOrder-SameHeld bag other pairs same in_order = record {
  ascending = in_order.ascending;
  some = in_order.some;
  same = record { held = λ x. same.held x ∙ in_order.same.held x };
}

-- ---- a walk over the numbers in order
-- keys that rise
pub less_from_int_cmp : (x y : ℤ) → int_cmp x y ≡ Less → x <ℤ y
less_from_int_cmp x y less = grind (arith, ints, less)

pub Ascends-IsStrictlySortedBy : (pairs : Bag) → IsStrictlySortedBy int_cmp (keys_of pairs) → Ascends pairs
Ascends-IsStrictlySortedBy pairs sorted i j d before within =
    let less : int_cmp (get_or (keys_of pairs) i d.0) (get_or (keys_of pairs) j d.0) ≡ Less =
    Less-from_sorted int_cmp (keys_of pairs) i j d.0 sorted before
    (omega (arith, length-map pairs (λ (e : ℤ × ℕ). e.0), within)) in
    less_from_int_cmp (get_or pairs i d).0 (get_or pairs j d).0 (rw (
      get_or-map (λ (e : ℤ × ℕ). e.0) pairs i d d.0 (omega (arith, before, within)),
      get_or-map (λ (e : ℤ × ℕ). e.0) pairs j d d.0 within,
    ) at less)

-- the first is the least
HasLeast-Ascends : (e : ℤ × ℕ) (pairs : Bag) → Ascends (e ∷ pairs) → 0 < e.1 → HasLeast (e ∷ pairs) e.0
HasLeast-Ascends e pairs up some = record {
  held = omega (arith, held_of-first e pairs up, some);
  below = λ x held. by_lt_z x e.0
      (λ less.
      let above : All (λ f. x <ℤ f.0) (e ∷ pairs) = All-cons (λ (f : ℤ × ℕ). x <ℤ f.0) e pairs less
      (λ k d within. omega (arith, ints, less, All-ascending e pairs up k d within)) in
      absurd (omega (arith, held_of-below (e ∷ pairs) x above, held)))
      (λ le. le);
}

-- it has the first places
IsAtPlace-first : (e : ℤ × ℕ) (pairs : Bag) (k : ℕ) → Ascends (e ∷ pairs) → 1 ≤ k → k ≤ e.1
    → IsAtPlace (e ∷ pairs) k e.0
IsAtPlace-first e pairs k up first last =
    let none : size_below (e ∷ pairs) e.0 ≡ 0 =
    size_below-least (e ∷ pairs) e.0 (HasLeast-Ascends e pairs up (omega (arith, first, last))) in
    record {
      below = omega (arith, none, first);
      up_to = omega (arith, size_up_to-held_of (e ∷ pairs) e.0, held_of-first e pairs up, last);
    }

-- and the others have those after them
IsAtPlace-others : (e : ℤ × ℕ) (pairs : Bag) (k v : ℕ) (x : ℤ) → Ascends (e ∷ pairs) → k ≡ e.1 + v
    → IsAtPlace pairs v x → IsAtPlace (e ∷ pairs) k x
IsAtPlace-others e pairs k v x up is at =
    let held = IsAtPlace-held pairs v x at in
    let more : e.0 <ℤ x = by_lt_z e.0 x
    (λ less. less)
    (λ le.
    absurd (omega (
      arith,
      held_of-below pairs x (λ i d within. omega (arith, ints, le, All-ascending e pairs up i d within)),
      held,
    ))) in
    let below : one_below x e.0 ≡ 1 = grind (arith, ints, more) in
    let up_to : one_up_to x e.0 ≡ 1 = grind (arith, ints, more) in
    record {
      below = omega (
        arith,
        weight_of-cons (one_below x) e pairs,
        ap (λ n. n * e.1) below,
        is,
        at.below,
      );
      up_to = omega (
        arith,
        weight_of-cons (one_up_to x) e pairs,
        ap (λ n. n * e.1) up_to,
        is,
        at.up_to,
      );
    }

-- the number at place k of the bag is that at place `left` of the pairs that a walk has left, which are in order
pub record IsWalkedTo (bag : Bag) (k : ℕ) (pairs : Bag) (left : ℕ) : Type 0 where
  pub first : 1 ≤ left
  pub last : left ≤ size_of pairs
  pub ascending : Ascends pairs
  pub at : (v : ℤ) → IsAtPlace pairs left v → IsAtPlace bag k v

pub IsWalkedTo-start : (bag : Bag) (k : ℕ) → Ascends bag → 1 ≤ k → k ≤ size_of bag → IsWalkedTo bag k bag k
IsWalkedTo-start bag k up first last = record { first = first; last = last; ascending = up; at = λ v at. at }

-- one pair is passed over
pub IsWalkedTo-more : (bag : Bag) (k : ℕ) (e : ℤ × ℕ) (pairs : Bag) (left rest : ℕ) → IsWalkedTo bag k (e ∷ pairs) left
    → e.1 < left → left ≡ e.1 + rest → IsWalkedTo bag k pairs rest
IsWalkedTo-more bag k e pairs left rest walked less is = record {
  first = omega (arith, less, is);
  last = omega (arith, weight_of-cons (λ _. 1) e pairs, walked.last, is);
  ascending = Ascends-tail e pairs walked.ascending;
  at = λ v at. walked.at v (IsAtPlace-others e pairs left rest v walked.ascending is at);
}

-- the pair has the place
pub IsWalkedTo-found : (bag : Bag) (k : ℕ) (e : ℤ × ℕ) (pairs : Bag) (left : ℕ) → IsWalkedTo bag k (e ∷ pairs) left
    → left ≤ e.1 → IsAtPlace bag k e.0
IsWalkedTo-found bag k e pairs left walked le =
    walked.at e.0 (IsAtPlace-first e pairs left walked.ascending walked.first le)

-- there is one
pub IsWalkedTo-end : (bag : Bag) (k left : ℕ) → IsWalkedTo bag k [] left → ⊥
IsWalkedTo-end bag k left walked = omega (arith, walked.first, walked.last)

-- ---- the sum of the squares
-- the squares that a walk has added up, where these are the pairs that it has left: each number counts 2^126 at most
pub record IsSquaredTo (bag left : Bag) (sum : ℕ) : Type 0 where
  pub whole : sum + squares_held left ≡ squares_held bag
  pub bound : sum + 2 ^ 126 * size_of left ≤ 2 ^ 126 * size_of bag

-- those of a list fit
pub IsSquaredTo-fits : (numbers : List ℤ) (left : Bag) (sum : ℕ) → IsSquaredTo (once_each numbers) left sum
    → length numbers < 2 ^ 64 → sum < 2 ^ 255
IsSquaredTo-fits numbers left sum squared fits =
    omega (arith, squared.bound, size_of-once_each numbers, fits)
