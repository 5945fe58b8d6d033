-- Laws of lists that are brought in order: what is left of one where numbers leave it, and how many are different.
use Rattle.std.proofs.Common.{◌≡◌, ℕ, suc, zero, ◌+◌, ◌-◌, ◌<◌, ◌≤◌, List, [], ◌∷◌, ◌++◌, refl, arith, ap, length}
use Rattle.std.proofs.Common.{get_or, take, drop, set, true, false, cond, subst, sym, ◌∙◌, to_z, of_z}
use native.Mathlib.Numerals.{unary_clauses}
use Rattle.std.specs.Prelude.{ℤ, pos, ◌≤ℤ◌, ◌<ℤ◌, ◌+ℤ◌, ◌-ℤ◌, All, ⊤, nat_lt}
use Rattle.std.specs.Bool.{OnTrue}
use Rattle.std.specs.Int.{w32, w64, int_min, int_max}
use Rattle.std.specs.Int.RustNames.{FitsSigned}
use Rattle.std.specs.List.{remove, HoldsAt}
use Rattle.std.specs.List.Sorted.{IsSorted}
use Rattle.std.specs.Ordering.{int_cmp, int_eq}
use Rattle.std.proofs.Math.Logic.{⊎_elim}
use Rattle.std.proofs.lemmas.Bool.{cases_lt}
use Rattle.std.proofs.lemmas.Cmp.{int_eq_equiv}
use Rattle.std.proofs.lemmas.Int.{ints, by_lt_z, to_z-of_z}
use Rattle.std.proofs.lemmas.List.{drop_more, drop_all, take_more_set, get_or-set_other, length-set, append_assoc}
use Rattle.std.proofs.lemmas.List.{append-nil, get_or_default, length-append, length-take, get_or-take}
use Rattle.std.proofs.lemmas.List.{take_all, take-append-le}
use Rattle.std.proofs.lemmas.List.Elements.{Contains-get_or}
use Rattle.std.proofs.lemmas.List.Sums.{sum_by-cons, sum_by_push, sum_by-remove, sum_by-take-drop}
use Rattle.cube_values.specs.Bag.{Bag, weight_of, held_of, size_of, one_at, SameHeld, AddsBag, AddsOne, HasEnds}
use Rattle.cube_values.specs.Log.{Covers, without_one}
use Rattle.cube_values.specs.Narrow.{times_in, once_each}
use Rattle.cube_values.specs.Ordered.{left_of, IsListed, KeepsEnds}
use Rattle.cube_values.specs.Statistics.{HasDifferent, size_up_to, size_below}
use Rattle.cube_values.proofs.BagLaws.{one_at-refl, one_at-distinct, int_eq-same, adds_pair, adds_once}
use Rattle.cube_values.proofs.BagLaws.{weight_of-bag, size_of-bag, size_of_one, held_le_size}
use Rattle.cube_values.proofs.EndLaws.{AddsBag-append, HasEnds-pair, HasEnds-AddsBag}
use Rattle.cube_values.proofs.LogLaws.{int_eq-distinct}
use Rattle.cube_values.proofs.NarrowLaws.{held_of-once_each, IsSorted-le, HasEnds-numbers, once_each-more}
use Rattle.cube_values.proofs.NarrowLaws.{held_of-absent_once, held_of-HoldsAt_once, AddsTimes-once_each}
use Rattle.cube_values.proofs.NarrowLaws.{weight_of-once_each, size_of-once_each}
use Rattle.cube_values.proofs.OwedLaws.{AddsOne-owed, HasEnds-taken}
use Rattle.cube_values.proofs.StatisticsLaws.{one_if, one_if-some, size_up_to-held_of, size_below-next}

-- ---- what is left of a list in order where numbers in order leave it
-- no number of the list is below m
abbrev Above : ℤ → List ℤ → Type 0
Above m [] = ⊤
Above m (x ∷ xs) = (m ≤ℤ x) × Above m xs

-- no number is above one behind it
abbrev Rising : List ℤ → Type 0
Rising [] = ⊤
Rising (x ∷ xs) = Above x xs × Rising xs

-- so one that is below does not stand in it
Above-absent : (m y : ℤ) (xs : List ℤ) → Above m xs → y <ℤ m → times_in xs y ≡ 0
Above-absent m y [] above less = refl
Above-absent m y (x ∷ xs) above less = omega (
  arith,
  sum_by-cons (one_at y) x xs,
  one_at-distinct y x (int_eq-distinct y x (λ same. omega (arith, ints, above.0, less, same))),
  Above-absent m y xs above.1 less,
)

Above-All : (m : ℤ) (xs : List ℤ) → All (λ x. m ≤ℤ x) xs → Above m xs
Above-All m [] all = tt
Above-All m (x ∷ xs) all =
    (all 0 x (omega arith), Above-All m xs (λ k d within. all (suc k) d (omega (arith, within))))

Rising-IsSorted : (xs : List ℤ) → IsSorted int_cmp xs → Rising xs
Rising-IsSorted [] sorted = tt
Rising-IsSorted (x ∷ xs) sorted = (
  Above-All x xs (λ k d within. IsSorted-le (x ∷ xs) sorted 0 (suc k) d (omega arith) (omega (arith, within))),
  Rising-IsSorted xs (λ k d from to.
      simp unary_clauses (simp unary_clauses at (sorted (suc k) d (omega arith) (omega (arith, to))))),
)

IsSorted-Rising : (xs : List ℤ) → Rising xs → IsSorted int_cmp xs
IsSorted-Rising [] up k d from to = absurd (omega (arith, to))
IsSorted-Rising (x ∷ []) up k d from to = absurd (omega (arith, to))
IsSorted-Rising (x ∷ y ∷ xs) up zero d from to = let le : x ≤ℤ y = up.0.0 in grind (arith, ints, le)
IsSorted-Rising (x ∷ y ∷ xs) up (suc k) d from to =
    simp unary_clauses (simp unary_clauses at (IsSorted-Rising (y ∷ xs) up.1 k d (omega arith) (omega (arith, to))))

-- what is left is in order
Above-left_of : (m : ℤ) (xs owed : List ℤ) → Above m xs → Above m (left_of xs owed)
Above-left_of m [] owed above = tt
Above-left_of m (x ∷ xs) [] above = above
Above-left_of m (x ∷ xs) (v ∷ owed) above =
    elim (int_eq v x) as (λ b. Above m (cond b (left_of xs owed) (x ∷ left_of xs (v ∷ owed)))) [
      | true ↦ Above-left_of m xs owed above.1
      | false ↦ (above.0, Above-left_of m xs (v ∷ owed) above.1)
    ]

Rising-left_of : (xs owed : List ℤ) → Rising xs → Rising (left_of xs owed)
Rising-left_of [] owed up = tt
Rising-left_of (x ∷ xs) [] up = up
Rising-left_of (x ∷ xs) (v ∷ owed) up =
    elim (int_eq v x) as (λ b. Rising (cond b (left_of xs owed) (x ∷ left_of xs (v ∷ owed)))) [
      | true ↦ Rising-left_of xs owed up.1
      | false ↦ (Above-left_of x xs (v ∷ owed) up.0, Rising-left_of xs (v ∷ owed) up.1)
    ]

pub IsSorted-left_of : (numbers owed : List ℤ) → IsSorted int_cmp numbers → IsSorted int_cmp (left_of numbers owed)
IsSorted-left_of numbers owed sorted =
    IsSorted-Rising (left_of numbers owed) (Rising-left_of numbers owed (Rising-IsSorted numbers sorted))

-- the first number of both, where they differ, is not among those that leave
Rising-rest : (x v : ℤ) (xs owed : List ℤ) → Rising (x ∷ xs) → Rising (v ∷ owed) → int_eq v x ≡ false
    → ((z : ℤ) → times_in (v ∷ owed) z ≤ times_in (x ∷ xs) z) → (z : ℤ) → times_in (v ∷ owed) z ≤ times_in xs z
Rising-rest x v xs owed up down apart covers z = elim (int_eq z x) as
    (λ b. int_eq z x ≡ b → times_in (v ∷ owed) z ≤ times_in xs z) [
      | true ↦ λ same. omega (arith, ap (times_in (v ∷ owed)) (int_eq-same z x same), none)
      | false ↦ λ other. omega (arith, covers z, sum_by-cons (one_at z) x xs, one_at-distinct z x other)
    ] refl where
      some : 0 < times_in xs v
      some = omega (
        arith,
        covers v,
        sum_by-cons (one_at v) v owed,
        one_at-refl v,
        sum_by-cons (one_at v) x xs,
        one_at-distinct v x apart,
      )

      same_twice : v ≡ x → ⊥
      same_twice same = omega (arith, one_at-distinct v x apart, one_at-refl v, ap (one_at v) same)

      not_below : v ≤ℤ x → ⊥
      not_below le = by_lt_z v x (λ less. omega (arith, some, Above-absent x v xs up.0 less))
          (λ ge. same_twice (omega (arith, ints, le, ge)))

      above : x <ℤ v
      above = by_lt_z x v (λ more. more) (λ le. absurd (not_below le))

      none : times_in (v ∷ owed) x ≡ 0
      none = Above-absent v x (v ∷ owed) (omega (arith, ints), down.0) above

-- each number that leaves is gone
left_of-times : (xs owed : List ℤ) → Rising xs → Rising owed → ((z : ℤ) → times_in owed z ≤ times_in xs z) → (y : ℤ)
    → times_in xs y ≡ times_in (left_of xs owed) y + times_in owed y
left_of-times [] [] up down covers y = refl
left_of-times [] (v ∷ owed) up down covers y =
    absurd (omega (arith, covers v, sum_by-cons (one_at v) v owed, one_at-refl v))
left_of-times (x ∷ xs) [] up down covers y = omega arith
left_of-times (x ∷ xs) (v ∷ owed) up down covers y = elim (int_eq v x) as (λ b. int_eq v x ≡ b → times_in (x ∷ xs) y
    ≡ times_in (cond b (left_of xs owed) (x ∷ left_of xs (v ∷ owed))) y + times_in (v ∷ owed) y) [
      | true ↦ λ same. omega (
        arith,
        sum_by-cons (one_at y) x xs,
        sum_by-cons (one_at y) v owed,
        ap (one_at y) (int_eq-same v x same),
        left_of-times xs owed up.1 down.1 (λ z. omega (
          arith,
          covers z,
          sum_by-cons (one_at z) x xs,
          sum_by-cons (one_at z) v owed,
          ap (one_at z) (int_eq-same v x same),
        )) y,
      )
      | false ↦ λ apart. omega (
        arith,
        sum_by-cons (one_at y) x xs,
        sum_by-cons (one_at y) x (left_of xs (v ∷ owed)),
        left_of-times xs (v ∷ owed) up.1 down (Rising-rest x v xs owed up down apart covers) y,
      )
    ] refl

pub AddsBag-left_of : (numbers owed : List ℤ) → IsSorted int_cmp numbers → IsSorted int_cmp owed
    → Covers (once_each numbers) owed
    → AddsBag (once_each (left_of numbers owed)) (once_each numbers) (once_each owed)
AddsBag-left_of numbers owed sorted down covers = record {
  held = λ x. omega (
    arith,
    held_of-once_each numbers x,
    held_of-once_each (left_of numbers owed) x,
    held_of-once_each owed x,
    left_of-times numbers owed (Rising-IsSorted numbers sorted) (Rising-IsSorted owed down)
        (λ z. omega (arith, covers.times z, held_of-once_each numbers z)) x,
  );
}

-- ---- the numbers that stay are moved to the front
left_of-nothing : (xs : List ℤ) → left_of xs [] ≡ xs
left_of-nothing [] = refl
left_of-nothing (x ∷ xs) = refl

left_of-same : (x v : ℤ) (xs owed : List ℤ) → v ≡ x → left_of (x ∷ xs) (v ∷ owed) ≡ left_of xs owed
left_of-same x v xs owed same =
    ap (λ b. cond b (left_of xs owed) (x ∷ left_of xs (v ∷ owed))) (ap (int_eq v) (sym same) ∙ int_eq_equiv.refl v)

-- the numbers before a place were looked at, so many of them stay and so many were owed
pub record IsKeeping (old now owed : List ℤ) (kept paid place : ℕ) : Type 0 where
  pub counts : kept + paid ≡ place
  pub among : paid ≤ length owed
  pub long : length now ≡ length old
  pub rest : (k : ℕ) (d : ℤ) → place ≤ k → get_or now k d ≡ get_or old k d
  pub left : take kept now ++ left_of (drop place old) (drop paid owed) ≡ left_of old owed

pub IsKeeping-start : (old owed : List ℤ) → IsKeeping old old owed 0 0 0
IsKeeping-start old owed =
    record { counts = refl; among = omega arith; long = refl; rest = λ k d from. refl; left = refl }

-- the number at the place leaves
pub IsKeeping-paid : (old now owed : List ℤ) (kept paid place : ℕ) (d : ℤ) → IsKeeping old now owed kept paid place
    → place < length old → paid < length owed → get_or owed paid d ≡ get_or now place d
    → IsKeeping old now owed kept (paid + 1) (place + 1)
IsKeeping-paid old now owed kept paid place d is within more same = record {
  counts = omega (arith, is.counts);
  among = omega (arith, more);
  long = is.long;
  rest = λ k e from. is.rest k e (omega (arith, from));
  left = ap (λ l. take kept now ++ l) (sym (ap (λ l. left_of l (drop paid owed)) (drop_more old place d within)
      ∙ ap (left_of (get_or old place d ∷ drop (place + 1) old)) (drop_more owed paid d more)
      ∙ left_of-same (get_or old place d) (get_or owed paid d) (drop (place + 1) old) (drop (paid + 1) owed)
      (same ∙ is.rest place d (omega arith)))) ∙ is.left;
}

-- the number at the place stays
left_of-other : (x : ℤ) (xs owed : List ℤ) (paid : ℕ) → (paid < length owed → get_or owed paid x ≡ x → ⊥)
    → left_of (x ∷ xs) (drop paid owed) ≡ x ∷ left_of xs (drop paid owed)
left_of-other x xs owed paid other = ⊎_elim
    (λ more. rw (drop_more owed paid x more) (ap (λ b. cond b (left_of xs (drop (paid + 1) owed))
    (x ∷ left_of xs (get_or owed paid x ∷ drop (paid + 1) owed)))
    (int_eq-distinct (get_or owed paid x) x (other more))))
    (λ past. rw (drop_all paid owed past) (ap (λ l. x ∷ l) (sym (left_of-nothing xs)))) (cases_lt paid (length owed))

pub IsKeeping-kept : (old now owed : List ℤ) (kept paid place : ℕ) (x : ℤ) → IsKeeping old now owed kept paid place
    → place < length old → x ≡ get_or now place x → (paid < length owed → get_or owed paid x ≡ x → ⊥)
    → IsKeeping old (set now kept x) owed (kept + 1) paid (place + 1)
IsKeeping-kept old now owed kept paid place x is within at other =
    let inside : kept < length now = omega (arith, is.counts, is.long, within) in
    let here : get_or old place x ≡ x = sym (at ∙ is.rest place x (omega arith)) in
    let split : drop place old ≡ x ∷ drop (place + 1) old =
    drop_more old place x within ∙ ap (λ (y : ℤ). y ∷ drop (place + 1) old) here in
    record {
      counts = omega (arith, is.counts);
      among = is.among;
      long = length-set now kept x ∙ is.long;
      rest = λ k d from. get_or-set_other now kept k x d (λ same. omega (arith, same, from, is.counts))
          ∙ is.rest k d (omega (arith, from));
      left = ap (λ l. l ++ left_of (drop (place + 1) old) (drop paid owed)) (take_more_set now kept x inside)
          ∙ append_assoc (take kept now) (x ∷ []) (left_of (drop (place + 1) old) (drop paid owed))
          ∙ ap (λ l. take kept now ++ l) (sym (ap (λ l. left_of l (drop paid owed)) split
          ∙ left_of-other x (drop (place + 1) old) owed paid other)) ∙ is.left;
    }

-- all were looked at
pub IsKeeping-end : (old now owed : List ℤ) (kept paid place : ℕ) → IsKeeping old now owed kept paid place
    → length old ≤ place → take kept now ≡ left_of old owed
IsKeeping-end old now owed kept paid place is past =
    sym (append-nil (take kept now))
    ∙ ap (λ l. take kept now ++ left_of l (drop paid owed)) (sym (drop_all place old past)) ∙ is.left

-- ---- a number leaves a list
pub AddsOne-remove : (numbers : List ℤ) (i : ℕ) (e v : ℤ) → i < length numbers → e ≡ get_or numbers i e
    → HoldsAt (λ x. x ≡ v) numbers i → AddsOne (once_each (remove numbers i)) (once_each numbers) v
AddsOne-remove numbers i e v within is of = record {
  held = λ x. omega (
    arith,
    held_of-once_each numbers x,
    held_of-once_each (remove numbers i) x,
    sum_by-remove (one_at x) numbers i e within,
    ap (one_at x) (of e),
  );
}

-- ---- the first and the last number
pub HasEnds-sorted : (numbers : List ℤ) (d : ℤ) → IsSorted int_cmp numbers → 0 < length numbers
    → HasEnds (once_each numbers) (get_or numbers 0 d) (get_or numbers (length numbers - 1) d)
HasEnds-sorted numbers d sorted some =
    let last : length numbers - 1 < length numbers = omega (arith, some) in
    HasEnds-numbers numbers (get_or numbers 0 d) (get_or numbers (length numbers - 1) d)
    (Contains-get_or numbers 0 d some)
    (λ k e within. rw (get_or_default numbers 0 d e some) (IsSorted-le numbers sorted 0 k e (omega arith) within))
    (Contains-get_or numbers (length numbers - 1) d last)
    (λ k e within. rw (get_or_default numbers (length numbers - 1) d e last)
    (IsSorted-le numbers sorted k (length numbers - 1) e (omega (arith, within)) last))

-- ---- how many are different
pub HasDifferent-nothing : HasDifferent [] 0
HasDifferent-nothing = record { numbers = []; are = record { once = λ x. refl }; many = refl }

-- one is added that was not held
pub HasDifferent-new : (bag new : Bag) (v : ℤ) (n : ℕ) → AddsOne bag new v → held_of bag v ≡ 0 → HasDifferent bag n
    → HasDifferent new (n + 1)
HasDifferent-new bag new v n adds none is = record {
  numbers = is.numbers ++ v ∷ [];
  are = record {
    once = λ x. elim (int_eq x v)
        as (λ b. int_eq x v ≡ b → times_in (is.numbers ++ v ∷ []) x ≡ one_if (held_of new x)) [
          | true ↦ λ t.
              let same : x ≡ v = int_eq-same x v t in
              let nothing : held_of bag x ≡ 0 = ap (held_of bag) same ∙ none in
              let one : one_at x v ≡ 1 = ap (one_at x) (sym same) ∙ one_at-refl x in
              omega (
                arith,
                sum_by_push (one_at x) is.numbers v,
                is.are.once x,
                ap one_if nothing,
                one,
                one_if-some (held_of new x) (omega (arith, adds.held x, one)),
              )
          | false ↦ λ t.
              let same : held_of new x ≡ held_of bag x = omega (arith, adds.held x, one_at-distinct x v t) in
              omega (
                arith,
                sum_by_push (one_at x) is.numbers v,
                is.are.once x,
                one_at-distinct x v t,
                ap one_if same,
              )
        ] refl;
  };
  many = omega (arith, length-append is.numbers (v ∷ []), is.many);
}

-- one is added that was held
pub HasDifferent-seen : (bag new : Bag) (v : ℤ) (n : ℕ) → AddsOne bag new v → 0 < held_of bag v → HasDifferent bag n
    → HasDifferent new n
HasDifferent-seen bag new v n adds some is = record {
  numbers = is.numbers;
  are = record {
    once = λ x. elim (int_eq x v) as (λ b. int_eq x v ≡ b → times_in is.numbers x ≡ one_if (held_of new x)) [
      | true ↦ λ t.
          let before : 0 < held_of bag x = omega (arith, some, ap (held_of bag) (int_eq-same x v t)) in
          omega (
            arith,
            is.are.once x,
            one_if-some (held_of bag x) before,
            one_if-some (held_of new x) (omega (arith, adds.held x, before)),
          )
      | false ↦ λ t.
          let same : held_of new x ≡ held_of bag x = omega (arith, adds.held x, one_at-distinct x v t) in
          is.are.once x ∙ ap one_if (sym same)
    ] refl;
  };
  many = is.many;
}

-- the number at a place in order is another than those before it, or it is among them
before_place : (numbers : List ℤ) (i : ℕ) (d : ℤ) → i < length numbers
    → AddsOne (once_each (take i numbers)) (once_each (take (i + 1) numbers)) (get_or numbers i d)
before_place numbers i d within = adds_once (once_each (take i numbers)) (once_each (take (i + 1) numbers))
    (get_or numbers i d) (rw (once_each-more numbers i d within)
    (adds_pair (once_each (take i numbers)) (get_or numbers i d) 1))

pub HasDifferent-place : (numbers : List ℤ) (i n : ℕ) (d : ℤ) → i < length numbers
    → held_of (once_each (take i numbers)) (get_or numbers i d) ≡ 0 → HasDifferent (once_each (take i numbers)) n
    → HasDifferent (once_each (take (i + 1) numbers)) (n + 1)
HasDifferent-place numbers i n d within none is = HasDifferent-new (once_each (take i numbers))
    (once_each (take (i + 1) numbers)) (get_or numbers i d) n (before_place numbers i d within) none is

pub HasDifferent-same : (numbers : List ℤ) (i n : ℕ) (d : ℤ) → i < length numbers
    → 0 < held_of (once_each (take i numbers)) (get_or numbers i d) → HasDifferent (once_each (take i numbers)) n
    → HasDifferent (once_each (take (i + 1) numbers)) n
HasDifferent-same numbers i n d within some is = HasDifferent-seen (once_each (take i numbers))
    (once_each (take (i + 1) numbers)) (get_or numbers i d) n (before_place numbers i d within) some is

pub place_is_new : (numbers : List ℤ) (i : ℕ) (d : ℤ) → IsSorted int_cmp numbers → 0 < i → i < length numbers
    → (get_or numbers (i - 1) d ≡ get_or numbers i d → ⊥) → (e : ℤ)
    → held_of (once_each (take i numbers)) (get_or numbers i e) ≡ 0
place_is_new numbers i d sorted some within apart e = held_of-absent_once (take i numbers) (get_or numbers i e)
    (λ k f before.
    let below : k < i = omega (arith, before, length-take i numbers) in
    let le : get_or numbers k d ≤ℤ get_or numbers (i - 1) d =
    IsSorted-le numbers sorted k (i - 1) d (omega (arith, below)) (omega (arith, within)) in
    let less : get_or numbers (i - 1) d ≤ℤ get_or numbers i d =
    IsSorted-le numbers sorted (i - 1) i d (omega arith) within in
    rw (
      get_or-take i numbers k f below,
      get_or_default numbers i e d within,
      get_or_default numbers k f d (omega (arith, below, within)),
    ) (int_eq-distinct (get_or numbers i d) (get_or numbers k d)
    (λ same. apart (omega (arith, ints, le, less, same)))))

pub place_is_seen : (numbers : List ℤ) (i : ℕ) (d : ℤ) → 0 < i → i < length numbers
    → get_or numbers (i - 1) d ≡ get_or numbers i d → (e : ℤ)
    → 0 < held_of (once_each (take i numbers)) (get_or numbers i e)
place_is_seen numbers i d some within same e =
    let before : i - 1 < length (take i numbers) = omega (arith, some, within, length-take i numbers) in
    let inside : i - 1 < length numbers = omega (arith, within) in
    held_of-HoldsAt_once (take i numbers) (i - 1) (get_or numbers i e) before
    (λ f. get_or-take i numbers (i - 1) f (omega (arith, some)) ∙ get_or_default numbers (i - 1) f d inside ∙ same
    ∙ get_or_default numbers i d e within)

-- ---- what a list that was brought in order keeps
-- what is owed is held
pub Covers-AddsBag : (bag : Bag) (numbers taken : List ℤ) → AddsBag bag (once_each numbers) (once_each taken)
    → Covers (once_each numbers) taken
Covers-AddsBag bag numbers taken adds =
    record { times = λ x. omega (arith, adds.held x, held_of-once_each taken x) }

-- without it the bag is left
pub SameHeld-paid : (bag whole left owed : Bag) → AddsBag bag whole owed → AddsBag left whole owed → SameHeld bag left
SameHeld-paid bag whole left owed adds paid = record { held = λ x. omega (arith, adds.held x, paid.held x) }

-- each weight of the list is that of both
pub weight_of-listed : (f : ℤ → ℕ) (bag : Bag) (numbers taken : List ℤ) (n : ℕ)
    → AddsBag bag (once_each numbers) (once_each taken)
    → weight_of f (once_each (take n numbers)) + weight_of f (once_each (drop n numbers))
    ≡ weight_of f bag + weight_of f (once_each taken)
weight_of-listed f bag numbers taken n adds = omega (
  arith,
  weight_of-bag f bag (once_each numbers) (once_each taken) adds,
  weight_of-once_each f numbers,
  weight_of-once_each f (take n numbers),
  weight_of-once_each f (drop n numbers),
  sum_by-take-drop f numbers n,
)

-- so many numbers are held
pub size_of-listed : (bag : Bag) (numbers taken : List ℤ) → AddsBag bag (once_each numbers) (once_each taken)
    → length numbers ≡ size_of bag + length taken
size_of-listed bag numbers taken adds = omega (
  arith,
  size_of-bag bag (once_each numbers) (once_each taken) adds,
  size_of-once_each numbers,
  size_of-once_each taken,
)

-- a list in order of which nothing is owed
pub IsListed-sorted : (bag : Bag) (numbers : List ℤ) (count : ℕ) (l g : ℤ) → SameHeld bag (once_each numbers)
    → IsSorted int_cmp numbers → count ≡ length numbers → HasEnds bag l g → IsListed bag numbers [] count l g
IsListed-sorted bag numbers count l g same sorted all ends = record {
  same = record { held = λ x. omega (arith, same.held x) };
  order = record {
    within = omega (arith, all);
    sorted = subst (IsSorted int_cmp) (sym (take_all count numbers (omega (arith, all)))) sorted;
  };
  ends = ends;
}

-- one number is put behind the others
pub IsListed-push : (bag : Bag) (numbers taken : List ℤ) (v : ℤ) (n : ℕ) (l g : ℤ) → IsListed bag numbers taken n l g
    → IsListed (bag ++ (v, 1) ∷ []) (numbers ++ v ∷ []) taken n (int_min l v) (int_max g v)
IsListed-push bag numbers taken v n l g is = record {
  same = record {
    held = λ x. omega (arith, is.same.held x, (adds_pair bag v 1).held x, (AddsTimes-once_each numbers v).held x);
  };
  order = record {
    within = omega (arith, is.order.within, length-append numbers (v ∷ []));
    sorted = subst (IsSorted int_cmp) (sym (take-append-le n numbers (v ∷ []) is.order.within)) is.order.sorted;
  };
  ends = HasEnds-AddsBag bag (bag ++ (v, 1) ∷ []) ((v, 1) ∷ []) l g v v (AddsBag-append bag ((v, 1) ∷ [])) is.ends
      (HasEnds-pair v 1 (omega arith));
}

-- one more is owed
pub AddsOne-without_one : (bag : Bag) (v : ℤ) → 0 < held_of bag v → AddsOne (without_one v bag) bag v
AddsOne-without_one bag v some = AddsOne-owed [] bag v some

pub IsListed-owed : (bag : Bag) (numbers taken : List ℤ) (v : ℤ) (n : ℕ) (l g : ℤ) → IsListed bag numbers taken n l g
    → 0 < held_of bag v → KeepsEnds bag v → IsListed (without_one v bag) numbers (taken ++ v ∷ []) n l g
IsListed-owed bag numbers taken v n l g is some keeps = record {
  same = record {
    held = λ x. omega (
      arith,
      is.same.held x,
      (AddsOne-without_one bag v some).held x,
      (AddsTimes-once_each taken v).held x,
    );
  };
  order = is.order;
  ends = keeps (without_one v bag) l g (AddsOne-without_one bag v some) is.ends;
}

-- the ends stay where a number between them goes
pub KeepsEnds-between : (bag : Bag) (l g v : ℤ) → HasEnds bag l g → l <ℤ v → v <ℤ g → KeepsEnds bag v
KeepsEnds-between bag l g v is above below new low high taken ends =
    let low_is : low ≤ℤ l = ends.least.below l is.least.held in
    let high_is : g ≤ℤ high = ends.greatest.above g is.greatest.held in
    HasEnds-taken bag new v low high ends taken (omega (arith, ints, low_is, above))
    (omega (arith, ints, high_is, below))

-- and where one goes that is held more than once
pub KeepsEnds-more : (bag : Bag) (v : ℤ) → 1 < held_of bag v → KeepsEnds bag v
KeepsEnds-more bag v more new low high taken ends =
    let stays : (x : ℤ) → 0 < held_of bag x → 0 < held_of new x = λ x some.
    elim (int_eq x v) as (λ b. int_eq x v ≡ b → 0 < held_of new x) [
      | true ↦ λ t. omega (
        arith,
        taken.held x,
        more,
        ap (held_of bag) (int_eq-same x v t),
        ap (one_at x) (sym (int_eq-same x v t)),
        one_at-refl x,
      )
      | false ↦ λ t. omega (arith, taken.held x, some, one_at-distinct x v t)
    ] refl in
    record {
      least = record {
        held = stays low ends.least.held;
        below = λ x some. ends.least.below x (omega (arith, taken.held x, some));
      };
      greatest = record {
        held = stays high ends.greatest.held;
        above = λ x some. ends.greatest.above x (omega (arith, taken.held x, some));
      };
    }

-- one v leaves the list: what is owed is still held
pub Covers-removed : (bag : Bag) (old now taken : List ℤ) (v : ℤ) → AddsBag bag (once_each old) (once_each taken)
    → 0 < held_of bag v → AddsOne (once_each now) (once_each old) v → Covers (once_each now) taken
Covers-removed bag old now taken v adds some gone = record {
  times = λ x. elim (int_eq x v) as (λ b. int_eq x v ≡ b → times_in taken x ≤ held_of (once_each now) x) [
    | true ↦ λ t. omega (
      arith,
      adds.held x,
      held_of-once_each taken x,
      gone.held x,
      some,
      ap (held_of bag) (int_eq-same x v t),
      ap (one_at x) (sym (int_eq-same x v t)),
      one_at-refl x,
    )
    | false ↦ λ t. omega (arith, adds.held x, held_of-once_each taken x, gone.held x, one_at-distinct x v t)
  ] refl;
}

-- and without it the bag is left without the v
pub AddsOne-removed : (bag whole now left owed : Bag) (v : ℤ) → AddsBag bag whole owed → AddsOne now whole v
    → AddsBag left now owed → AddsOne left bag v
AddsOne-removed bag whole now left owed v adds gone paid =
    record { held = λ x. omega (arith, adds.held x, gone.held x, paid.held x) }

-- the last number goes
pub AddsOne-last : (bag none : Bag) (v : ℤ) → size_of bag ≤ 1 → 0 < held_of bag v → ((x : ℤ) → held_of none x ≡ 0)
    → AddsOne none bag v
AddsOne-last bag none v few some nothing =
    let taken : AddsOne (without_one v bag) bag v = AddsOne-without_one bag v some in
    record {
      held = λ x. omega (
        arith,
        few,
        nothing x,
        taken.held x,
        size_of_one (without_one v bag) bag v taken,
        held_le_size (without_one v bag) x,
      );
    }

-- ---- how often a number is held
pub held_of-up_to : (bag : Bag) (v : ℤ) → size_up_to bag v ≡ size_up_to bag (v -ℤ pos 1) + held_of bag v
held_of-up_to bag v =
    let next : v -ℤ pos 1 +ℤ pos 1 ≡ v = omega (arith, ints) in
    omega (
      arith,
      size_up_to-held_of bag v,
      size_below-next bag (v -ℤ pos 1),
      ap (size_below bag) next,
    )

pub held_of-outside : (bag : Bag) (l g v : ℤ) → HasEnds bag l g → (l ≤ℤ v → v ≤ℤ g → ⊥) → held_of bag v ≡ 0
held_of-outside bag l g v ends outside = ⊎_elim (λ some. absurd (outside (ends.least.below v some)
    (ends.greatest.above v some))) (λ none. omega (arith, none)) (cases_lt 0 (held_of bag v))

pub KeepsEnds-count : (bag : Bag) (v : ℤ) → OnTrue (nat_lt 1 (held_of bag v)) (KeepsEnds bag v)
KeepsEnds-count bag v = elim (nat_lt 1 (held_of bag v)) as
    (λ b. nat_lt 1 (held_of bag v) ≡ b → OnTrue b (KeepsEnds bag v)) [
      | true ↦ λ t. KeepsEnds-more bag v (grind (arith, t))
      | false ↦ λ t. tt
    ] refl

pub FitsSigned-among : (l g v : ℤ) → FitsSigned w32 l → FitsSigned w32 g → l ≤ℤ v → v ≤ℤ g → FitsSigned w32 v
FitsSigned-among l g v low high above below = grind (arith, ints, low, high, above, below)

pub FitsSigned-before : (l v : ℤ) → FitsSigned w32 l → FitsSigned w64 v → l ≤ℤ v → FitsSigned w64 (v -ℤ pos 1)
FitsSigned-before l v low fits above = grind (arith, ints, low, fits, above)

pub before_is : (v : ℤ) → FitsSigned w64 v → FitsSigned w64 (v -ℤ pos 1)
    → to_z w64 (of_z w64 (to_z w64 (of_z w64 v) -ℤ pos 1)) ≡ v -ℤ pos 1
before_is v fits before =
    ap (λ (z : ℤ). to_z w64 (of_z w64 (z -ℤ pos 1))) (to_z-of_z w64 v fits) ∙ to_z-of_z w64 (v -ℤ pos 1) before
