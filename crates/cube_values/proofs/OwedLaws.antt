-- Laws of what is owed:
-- what a bag holds without the numbers of a list, and how that changes with the bag and with the list.
use Rattle.std.proofs.Common.{◌≡◌, ℕ, suc, zero, ◌+◌, ◌-◌, ◌*◌, ◌^◌, ◌<◌, ◌≤◌, List, [], ◌∷◌, ◌++◌, refl, arith, ap}
use Rattle.std.proofs.Common.{sym, ◌∙◌, length, get_or, take, drop, true, false, cond, subst}
use Rattle.std.specs.Prelude.{Bool, Option, Some, None, IfNone, IsSome, ℤ, ◌<ℤ◌}
use Rattle.std.specs.Bool.{OnTrue, OnFalse}
use Rattle.std.proofs.lemmas.Int.{ints}
use Rattle.std.specs.Ordering.{int_eq}
use Rattle.std.proofs.lemmas.List.{drop_all, take_all, take-append-le}
use Rattle.std.proofs.lemmas.List.Sums.{sum_by-append, sum_by-cons, sum_by_push, sum_by-drop_more}
use Rattle.cube_values.specs.Bag.{Bag, weight_of, one_at, held_of, size_of, SameHeld, AddsBag, AddsTimes, AddsOne}
use Rattle.cube_values.specs.Bag.{HasEnds}
use Rattle.cube_values.specs.Narrow.{times_in, once_each}
use Rattle.cube_values.specs.Log.{without_one, without, Covers, TakesAll, Owes, IsOrdered, IsSettled}
use Rattle.cube_values.proofs.LogLaws.{int_eq-distinct}
use Rattle.cube_values.proofs.BagLaws.{part, weight_of-cons, one_at-refl, one_at-distinct, int_eq-same, size_of_same}
use Rattle.cube_values.proofs.BagLaws.{size_of_one, weight_of-bag}
use Rattle.cube_values.proofs.NarrowLaws.{held_of-once_each}

-- how often a number is held in a bag without one v
held_of-without_one : (v : ℤ) (bag : Bag) (x : ℤ) → held_of (without_one v bag) x ≡ held_of bag x - one_at x v
held_of-without_one v [] x = omega arith
held_of-without_one v ((y, zero) ∷ bag) x = omega (
  arith,
  weight_of-cons (one_at x) (y, zero) bag,
  weight_of-cons (one_at x) (y, zero) (without_one v bag),
  held_of-without_one v bag x,
)
held_of-without_one v ((y, suc n) ∷ bag) x = elim (int_eq v y) as (λ b. int_eq v y ≡ b
    → held_of (cond b ((y, n) ∷ bag) ((y, suc n) ∷ without_one v bag)) x ≡ held_of ((y, suc n) ∷ bag) x - one_at x v) [
      | true ↦ λ same. omega (
        arith,
        weight_of-cons (one_at x) (y, suc n) bag,
        weight_of-cons (one_at x) (y, n) bag,
        ap (one_at x) (int_eq-same v y same),
      )
      | false ↦ λ apart. one_of apart (held_of-without_one v bag x)
    ] refl where
      one_of : int_eq v y ≡ false → held_of (without_one v bag) x ≡ held_of bag x - one_at x v
          → held_of ((y, suc n) ∷ without_one v bag) x ≡ held_of ((y, suc n) ∷ bag) x - one_at x v
      one_of apart rest = elim (int_eq x v) as
          (λ b. int_eq x v ≡ b
          → held_of ((y, suc n) ∷ without_one v bag) x ≡ held_of ((y, suc n) ∷ bag) x - one_at x v) [
            | true ↦ λ same. omega (
              arith,
              rest,
              weight_of-cons (one_at x) (y, suc n) bag,
              weight_of-cons (one_at x) (y, suc n) (without_one v bag),
              ap (λ m. m * suc n) (ap (λ z. one_at z y) (int_eq-same x v same) ∙ one_at-distinct v y apart),
            )
            | false ↦ λ other. omega (
              arith,
              rest,
              weight_of-cons (one_at x) (y, suc n) bag,
              weight_of-cons (one_at x) (y, suc n) (without_one v bag),
              one_at-distinct x v other,
            )
          ] refl

-- how often a number is held in a bag without those of a list
held_of-without : (numbers : List ℤ) (bag : Bag) (x : ℤ)
    → held_of (without numbers bag) x ≡ held_of bag x - times_in numbers x
held_of-without [] bag x = omega arith
held_of-without (v ∷ numbers) bag x = omega (
  arith,
  held_of-without numbers (without_one v bag) x,
  held_of-without_one v bag x,
  sum_by-cons (one_at x) v numbers,
)

-- ---- pairs are added, or one number more is owed
-- what is added to the pairs is added to what is left
pub AddsBag-without : (owed : List ℤ) (bag more : Bag) → Covers bag owed
    → AddsBag (without owed bag) (without owed (bag ++ more)) more
AddsBag-without owed bag more covers = record {
  held = λ x. omega (
    arith,
    held_of-without owed bag x,
    held_of-without owed (bag ++ more) x,
    sum_by-append (part (one_at x)) bag more,
    covers.times x,
  );
}

-- more pairs cover as much
Covers-append : (owed : List ℤ) (bag more : Bag) → Covers bag owed → Covers (bag ++ more) owed
Covers-append owed bag more covers =
    record { times = λ x. omega (arith, sum_by-append (part (one_at x)) bag more, covers.times x) }

-- one of a pair
pub AddsTimes-AddsBag_pair : (old new : Bag) (v : ℤ) (n : ℕ) → AddsBag old new ((v, n) ∷ []) → AddsTimes old new v n
AddsTimes-AddsBag_pair old new v n adds =
    record { held = λ x. omega (arith, adds.held x, weight_of-cons (one_at x) (v, n) []) }

-- one number more is owed
pub AddsOne-owed : (owed : List ℤ) (bag : Bag) (v : ℤ) → 0 < held_of (without owed bag) v
    → AddsOne (without (owed ++ v ∷ []) bag) (without owed bag) v
AddsOne-owed owed bag v some = record {
  held = λ x. elim (int_eq x v)
      as (λ b. int_eq x v ≡ b → held_of (without owed bag) x ≡ held_of (without (owed ++ v ∷ []) bag) x + one_at x v) [
        | true ↦ λ same. omega (
          arith,
          held_of-without owed bag x,
          held_of-without (owed ++ v ∷ []) bag x,
          sum_by_push (one_at x) owed v,
          some,
          ap (held_of (without owed bag)) (int_eq-same x v same),
          one_at-refl x,
          ap (one_at x) (int_eq-same x v same),
        )
        | false ↦ λ other. omega (
          arith,
          held_of-without owed bag x,
          held_of-without (owed ++ v ∷ []) bag x,
          sum_by_push (one_at x) owed v,
          one_at-distinct x v other,
        )
      ] refl;
}

-- which the bag covers
Covers-owed : (owed : List ℤ) (bag : Bag) (v : ℤ) → Covers bag owed → 0 < held_of (without owed bag) v
    → Covers bag (owed ++ v ∷ [])
Covers-owed owed bag v covers some = record {
  times = λ x. elim (int_eq x v) as (λ b. int_eq x v ≡ b → times_in (owed ++ v ∷ []) x ≤ held_of bag x) [
    | true ↦ λ same. omega (
      arith,
      held_of-without owed bag x,
      sum_by_push (one_at x) owed v,
      some,
      ap (held_of (without owed bag)) (int_eq-same x v same),
      one_at-refl x,
      ap (one_at x) (int_eq-same x v same),
    )
    | false ↦ λ other. omega (arith, sum_by_push (one_at x) owed v, one_at-distinct x v other, covers.times x)
  ] refl;
}

-- the ends stay where a number between them goes
pub HasEnds-taken : (old new : Bag) (v low high : ℤ) → HasEnds old low high → AddsOne new old v → low <ℤ v → v <ℤ high
    → HasEnds new low high
HasEnds-taken old new v low high ends taken above below = record {
  least = record {
    held = omega (arith, taken.held low, ends.least.held, apart low (λ same. omega (arith, ints, above, same)));
    below = λ x some. ends.least.below x (omega (arith, taken.held x, some));
  };
  greatest = record {
    held = omega (arith, taken.held high, ends.greatest.held, apart high (λ same. omega (arith, ints, below, same)));
    above = λ x some. ends.greatest.above x (omega (arith, taken.held x, some));
  };
} where
  apart : (x : ℤ) → (x ≡ v → ⊥) → one_at x v ≡ 0
  apart x other = one_at-distinct x v (int_eq-distinct x v other)

-- ---- what is owed is taken, number by number
-- the number at a place is among those from it on
times_in-drop_more : (numbers : List ℤ) (i : ℕ) (d x : ℤ) → i < length numbers
    → times_in (drop i numbers) x ≡ one_at x (get_or numbers i d) + times_in (drop (i + 1) numbers) x
times_in-drop_more numbers i d x within = sum_by-drop_more (one_at x) numbers i d within

-- the numbers before this place were taken from the pairs
pub record IsTaking (old now : Bag) (numbers : List ℤ) (i : ℕ) : Type 0 where
  pub held : (x : ℤ) → held_of old x + times_in (drop i numbers) x ≡ held_of now x + times_in numbers x

-- one more was taken
pub IsTaking-more : (old now new : Bag) (numbers : List ℤ) (i : ℕ) (d : ℤ) → i < length numbers
    → IsTaking old now numbers i → AddsOne new now (get_or numbers i d) → IsTaking old new numbers (i + 1)
IsTaking-more old now new numbers i d within is taken =
    record { held = λ x. omega (arith, is.held x, times_in-drop_more numbers i d x within, taken.held x) }

-- which is held
pub IsTaking-held : (old now : Bag) (numbers : List ℤ) (i : ℕ) (d : ℤ) → i < length numbers → IsTaking old now numbers i
    → Covers old numbers → 0 < held_of now (get_or numbers i d)
IsTaking-held old now numbers i d within is covers = omega (
  arith,
  is.held (get_or numbers i d),
  times_in-drop_more numbers i d (get_or numbers i d) within,
  one_at-refl (get_or numbers i d),
  covers.times (get_or numbers i d),
)

-- all were taken
pub IsTaking-TakesAll : (old now : Bag) (numbers : List ℤ) (i : ℕ) → length numbers ≤ i → IsTaking old now numbers i
    → TakesAll old now numbers
IsTaking-TakesAll old now numbers i past is =
    record { held = λ x. omega (arith, is.held x, ap (λ (l : List ℤ). times_in l x) (drop_all i numbers past)) }

-- what was held is taken
pub AddsOne_held : (b : Bool) (new old : Bag) (v : ℤ) → OnTrue b (AddsOne new old v) → OnFalse b (held_of old v ≡ 0)
    → 0 < held_of old v → AddsOne new old v
AddsOne_held true new old v taken absent some = taken
AddsOne_held false new old v taken absent some = absurd (omega (arith, absent, some))

-- ---- what settling leaves
-- the pairs without what is owed
pub SameHeld-TakesAll : (old ordered new : Bag) (owed : List ℤ) → SameHeld old ordered → TakesAll ordered new owed
    → SameHeld (without owed old) new
SameHeld-TakesAll old ordered new owed same takes =
    record { held = λ x. omega (arith, held_of-without owed old x, same.held x, takes.held x) }

-- a bag that holds as much covers as much
pub Covers-SameHeld : (old new : Bag) (owed : List ℤ) → Covers old owed → SameHeld old new → Covers new owed
Covers-SameHeld old new owed covers same = record { times = λ x. omega (arith, covers.times x, same.held x) }

-- and as much is left of it
pub SameHeld-without : (old new : Bag) (owed : List ℤ) → SameHeld old new
    → SameHeld (without owed old) (without owed new)
SameHeld-without old new owed same = record {
  held = λ x. omega (arith, held_of-without owed old x, held_of-without owed new x, same.held x);
}

-- nothing is covered by any bag
Covers-nothing : (bag : Bag) → Covers bag []
Covers-nothing bag = record { times = λ x. omega arith }

-- no more is held without what is owed
size_of-without_one : (v : ℤ) (bag : Bag) → size_of (without_one v bag) ≤ size_of bag
size_of-without_one v [] = omega arith
size_of-without_one v ((y, zero) ∷ bag) = omega (
  arith,
  weight_of-cons (λ _. 1) (y, zero) bag,
  weight_of-cons (λ _. 1) (y, zero) (without_one v bag),
  size_of-without_one v bag,
)
size_of-without_one v ((y, suc n) ∷ bag) = elim (int_eq v y)
    as (λ b. size_of (cond b ((y, n) ∷ bag) ((y, suc n) ∷ without_one v bag)) ≤ size_of ((y, suc n) ∷ bag)) [
      | true ↦ omega (arith, weight_of-cons (λ _. 1) (y, suc n) bag, weight_of-cons (λ _. 1) (y, n) bag)
      | false ↦ omega (
        arith,
        weight_of-cons (λ _. 1) (y, suc n) bag,
        weight_of-cons (λ _. 1) (y, suc n) (without_one v bag),
        size_of-without_one v bag,
      )
    ]

size_of-without : (owed : List ℤ) (bag : Bag) → size_of (without owed bag) ≤ size_of bag
size_of-without [] bag = omega arith
size_of-without (v ∷ owed) bag = omega (arith, size_of-without owed (without_one v bag), size_of-without_one v bag)

-- ---- what a log keeps
-- the pairs are of a size of 64 bits
pub Owes-fits : (bag : Bag) (owed : List ℤ) (total : Option ℕ) → Owes bag owed total
    → size_of (without owed bag) < 2 ^ 64 → size_of bag < 2 ^ 64
Owes-fits bag owed (Some n) owes fits = omega (arith, owes.size.0, owes.size.1)
Owes-fits bag owed None owes fits = subst (λ (l : List ℤ). size_of (without l bag) < 2 ^ 64) owes.none fits

-- pairs are put behind the others
pub Owes-append : (bag more : Bag) (owed : List ℤ) (n m sum : ℕ) → Owes bag owed (Some n) → size_of more ≤ m
    → sum ≡ n + m → sum < 2 ^ 64 → Owes (bag ++ more) owed (Some sum)
Owes-append bag more owed n m sum owes size is fits = record {
  covered = Covers-append owed bag more owes.covered;
  size = (omega (arith, sum_by-append (part (λ _. 1)) bag more, owes.size.0, size, is), fits);
  none = tt;
}

-- one number more is owed
pub Owes-owed : (bag : Bag) (owed : List ℤ) (v : ℤ) (total : Option ℕ) → Owes bag owed total → IsSome total
    → 0 < held_of (without owed bag) v → Owes bag (owed ++ v ∷ []) total
Owes-owed bag owed v (Some n) owes is some =
    record { covered = Covers-owed owed bag v owes.covered some; size = owes.size; none = tt }
Owes-owed bag owed v None owes is some = cc

-- nothing is owed any more, and no more is held
pub Owes-nothing : (old new : Bag) (owed : List ℤ) (total : Option ℕ) → Owes old owed total → size_of new ≤ size_of old
    → Owes new [] total
Owes-nothing old new owed (Some n) owes less =
    record { covered = Covers-nothing new; size = (omega (arith, owes.size.0, less), owes.size.1); none = tt }
Owes-nothing old new owed None owes less = record { covered = Covers-nothing new; size = tt; none = refl }

-- what was owed and one v are gone from the pairs, and the new ones hold as much
pub size_of-settled : (old taken new : Bag) (owed : List ℤ) (v : ℤ) → AddsOne taken (without owed old) v
    → SameHeld taken new → size_of new ≤ size_of old
size_of-settled old taken new owed v adds left =
    omega (arith, size_of-without owed old, size_of_one taken (without owed old) v adds, size_of_same taken new left)

pub AddsOne-SameHeld_new : (old taken new : Bag) (v : ℤ) → AddsOne taken old v → SameHeld taken new → AddsOne new old v
AddsOne-SameHeld_new old taken new v adds left = record { held = λ x. omega (arith, adds.held x, left.held x) }

-- what was held before a payment is held after it
pub held_of-paid : (old new : Bag) (v : ℤ) → SameHeld old new → 0 < held_of old v → 0 < held_of new v
held_of-paid old new v same some = omega (arith, same.held v, some)

pub AddsOne-paid : (old paid new : Bag) (v : ℤ) → SameHeld old paid → AddsOne new paid v → AddsOne new old v
AddsOne-paid old paid new v same adds = record { held = λ x. omega (arith, same.held x, adds.held x) }

-- a list that is written back over another of its length
pub written_back : {X : Type 0} (new old : List X) (n : ℕ) → n ≡ length old → length new ≡ n
    → take n (new ++ drop (length new) old) ≡ new
written_back new old n of long =
    take-append-le n new (drop (length new) old) (omega (arith, long)) ∙ take_all n new (omega (arith, long))

-- pairs that stay in order are settled
pub IfNone-IsSettled : {E : Type 0} (ends : Option E) (bag : Bag) (owed : List ℤ) → owed ≡ []
    → IfNone ends (IsOrdered bag) → IfNone ends (IsSettled bag owed)
IfNone-IsSettled (Some e) bag owed none ordered = tt
IfNone-IsSettled None bag owed none ordered = record { ordered = ordered; none = none }

-- ---- whether more is held than is owed
pub OnTrue-without : (b : Bool) (owed : List ℤ) (bag : Bag) (v : ℤ) (n : ℕ) → n ≡ times_in owed v
    → OnTrue b (n < held_of bag v) → OnTrue b (0 < held_of (without owed bag) v)
OnTrue-without true owed bag v n is more = omega (arith, held_of-without owed bag v, is, more)
OnTrue-without false owed bag v n is more = tt

pub OnFalse-without : (b : Bool) (owed : List ℤ) (bag : Bag) (v : ℤ) (n : ℕ) → n ≡ times_in owed v
    → OnFalse b (held_of bag v ≤ n) → OnFalse b (held_of (without owed bag) v ≡ 0)
OnFalse-without true owed bag v n is other = tt
OnFalse-without false owed bag v n is other = omega (arith, held_of-without owed bag v, is, other)

-- ---- a number is counted in a list
-- where it stands at this place
pub times_in-yes : (numbers : List ℤ) (i count : ℕ) (d v : ℤ) → i < length numbers → get_or numbers i d ≡ v
    → count + times_in (drop i numbers) v ≡ times_in numbers v
    → count + 1 + times_in (drop (i + 1) numbers) v ≡ times_in numbers v
times_in-yes numbers i count d v within same is =
    omega (arith, is, times_in-drop_more numbers i d v within, ap (one_at v) same, one_at-refl v)

-- where another does
pub times_in-no : (numbers : List ℤ) (i count : ℕ) (d v : ℤ) → i < length numbers → (get_or numbers i d ≡ v → ⊥)
    → count + times_in (drop i numbers) v ≡ times_in numbers v
    → count + times_in (drop (i + 1) numbers) v ≡ times_in numbers v
times_in-no numbers i count d v within other is = omega (
  arith,
  is,
  times_in-drop_more numbers i d v within,
  one_at-distinct v (get_or numbers i d) (int_eq-distinct v (get_or numbers i d) (λ same. other (sym same))),
)

-- past the last place
pub times_in-past : (numbers : List ℤ) (i count : ℕ) (v : ℤ) → length numbers ≤ i
    → count + times_in (drop i numbers) v ≡ times_in numbers v → count ≡ times_in numbers v
times_in-past numbers i count v past is = omega (arith, is, ap (λ (l : List ℤ). times_in l v) (drop_all i numbers past))

-- ---- settled pairs in the place of a log
pub SameHeld-both : (a b c : Bag) → SameHeld a b → SameHeld b c → SameHeld a c
SameHeld-both a b c first second = record { held = λ x. omega (arith, first.held x, second.held x) }

pub AddsBag-SameHeld : (old new a b : Bag) → SameHeld a b → AddsBag old new b → AddsBag old new a
AddsBag-SameHeld old new a b same adds = record { held = λ x. omega (arith, same.held x, adds.held x) }

-- ---- what is owed is beside what is left
pub AddsBag-owed : (owed : List ℤ) (bag : Bag) → Covers bag owed → AddsBag (without owed bag) bag (once_each owed)
AddsBag-owed owed bag covers = record {
  held = λ x. omega (arith, held_of-without owed bag x, held_of-once_each owed x, covers.times x);
}

-- so each weight of the pairs is that of both
pub weight_of-owed : (f : ℤ → ℕ) (owed : List ℤ) (bag : Bag) → Covers bag owed
    → weight_of f bag ≡ weight_of f (without owed bag) + weight_of f (once_each owed)
weight_of-owed f owed bag covers =
    weight_of-bag f (without owed bag) bag (once_each owed) (AddsBag-owed owed bag covers)
