-- Laws of logs: what sorting, joining and counting down leave held, and where a number is counted in a list in order.
use Rattle.std.proofs.Common.{◌≡◌, ℕ, ◌+◌, ◌-◌, ◌*◌, ◌<◌, ◌≤◌, [], ◌∷◌, refl, arith, ap, sym, ◌∙◌, length, get_or}
use Rattle.std.proofs.Common.{set, true, false, cond, subst, not}
use Rattle.std.specs.Prelude.{ℤ, ◌≤ℤ◌, All, int_lt, nat_lt, filter}
use Rattle.std.specs.List.Sorted.{IsPartitionedBy, IsPartitionPoint, IsSortedByKey}
use Rattle.std.specs.List.{HoldsAt, AllWithin}
use Rattle.std.specs.Ordering.{int_eq, int_cmp, is_lt}
use Rattle.std.proofs.Math.Logic.{⊎_elim}
use Rattle.std.proofs.lemmas.Bool.{cases_eq, cases_lt, false_from_ne_true}
use Rattle.std.proofs.lemmas.Int.{ints}
use Rattle.std.proofs.lemmas.List.{get_or_default, get_or-set_same, get_or-set_other, length-set}
use Rattle.std.proofs.lemmas.List.Elements.{All-head, All-tail}
use Rattle.std.proofs.lemmas.List.Sorted.{sorted_far, ranks_by}
use Rattle.std.proofs.lemmas.Cmp.{int_cmp_total}
use Rattle.std.proofs.lemmas.List.Sums.{sum_by-le}
use Rattle.cube_values.specs.Bag.{Bag, one_at, held_of, size_of, SameHeld, AddsOne, HasLeast, HasGreatest}
use Rattle.cube_values.specs.Log.{Rises, IsJoined, IsOrdered, IsLastOf, IsCut}
use Rattle.cube_values.proofs.BagLaws.{part, weight_of-cons, weight_of-set, one_at-refl, one_at-distinct, int_eq-same}
use Rattle.cube_values.proofs.BagLaws.{held_of-absent, held_of-get_or}
use Rattle.cube_values.proofs.BagLaws.{AddsOne-set, count_at}

-- ---- pairs that count nothing
-- without them each number is held as often
held_of-filter : (bag : Bag) (x : ℤ) → held_of (filter (λ e. nat_lt 0 e.1) bag) x ≡ held_of bag x
held_of-filter [] x = refl
held_of-filter ((y, n) ∷ bag) x = elim (nat_lt 0 n) as (λ b. nat_lt 0 n ≡ b
    → held_of (cond b ((y, n) ∷ filter (λ (e : ℤ × ℕ). nat_lt 0 e.1) bag) (filter (λ (e : ℤ × ℕ). nat_lt 0 e.1) bag)) x
    ≡ held_of ((y, n) ∷ bag) x) [
      | true ↦ λ counts. omega (
        arith,
        held_of-filter bag x,
        weight_of-cons (one_at x) (y, n) bag,
        weight_of-cons (one_at x) (y, n) (filter (λ (e : ℤ × ℕ). nat_lt 0 e.1) bag),
      )
      | false ↦ λ none. omega (
        arith,
        held_of-filter bag x,
        weight_of-cons (one_at x) (y, n) bag,
        ap (λ m. one_at x y * m) (zero_from none),
      )
    ] refl where
      zero_from : nat_lt 0 n ≡ false → n ≡ 0
      zero_from none = grind (arith, none)

pub SameHeld-filter : (bag : Bag) → SameHeld bag (filter (λ e. nat_lt 0 e.1) bag)
SameHeld-filter bag = record { held = λ x. sym (held_of-filter bag x) }

-- ---- the ends
-- what is said of each pair that counts holds of each number that is held
All-held_of : (P : ℤ → Type 0) (bag : Bag) (x : ℤ) → All (λ e. 0 < e.1 → P e.0) bag → 0 < held_of bag x → P x
All-held_of P [] x all some = absurd (omega arith)
All-held_of P (e ∷ bag) x all some =
    let rest = All-tail (λ (z : ℤ × ℕ). 0 < z.1 → P z.0) e bag all in
    elim (int_eq x e.0) as (λ b. int_eq x e.0 ≡ b → P x) [
      | true ↦ λ same. ⊎_elim
          (λ counts.
          subst P (sym (int_eq-same x e.0 same)) (All-head (λ (z : ℤ × ℕ). 0 < z.1 → P z.0) e bag all counts))
          (λ none. All-held_of P bag x rest
          (omega (arith, some, weight_of-cons (one_at x) e bag, ap (λ n. one_at x e.0 * n) (zero_from none))))
          (cases_lt 0 e.1)
      | false ↦ λ t. All-held_of P bag x rest
          (omega (arith, some, weight_of-cons (one_at x) e bag, ap (λ n. n * e.1) (one_at-distinct x e.0 t)))
    ] refl where
      zero_from : e.1 ≤ 0 → e.1 ≡ 0
      zero_from le = omega (arith, le)

-- the first pair in order that counts is of the least number
pub HasLeast-Rises : (bag : Bag) (p : ℕ) (d : ℤ × ℕ) → Rises bag → p < length bag → HoldsAt (λ e. 0 < e.1) bag p
    → AllWithin (λ e. e.1 ≡ 0) bag 0 p → HasLeast bag (get_or bag p d).0
HasLeast-Rises bag p d rises within counts before = record {
  held = held_of-get_or bag p d within (counts d);
  below = λ x some. All-held_of (λ y. (get_or bag p d).0 ≤ℤ y) bag x (λ k z inside positive. ⊎_elim
      (λ low. absurd (omega (arith, positive, before k z (omega arith) low)))
      (λ up. omega (arith, ints, rises p k z up inside, ap (λ (e : ℤ × ℕ). e.0) (get_or_default bag p z d within)))
      (cases_lt k p)) some;
}

-- the last one is of the greatest
pub HasGreatest-Rises : (bag : Bag) (p : ℕ) (d : ℤ × ℕ) → Rises bag → p < length bag → HoldsAt (λ e. 0 < e.1) bag p
    → AllWithin (λ e. e.1 ≡ 0) bag (p + 1) (length bag) → HasGreatest bag (get_or bag p d).0
HasGreatest-Rises bag p d rises within counts after = record {
  held = held_of-get_or bag p d within (counts d);
  above = λ x some. All-held_of (λ y. y ≤ℤ (get_or bag p d).0) bag x (λ k z inside positive. ⊎_elim
      (λ up. absurd (omega (arith, positive, after k z (omega (arith, up)) inside)))
      (λ low. omega (arith, ints, rises k p z low within, ap (λ (e : ℤ × ℕ). e.0) (get_or_default bag p z d within)))
      (cases_lt p k)) some;
}

-- where no pair counts, nothing is held
pub size_of-AllWithin : (bag : Bag) → AllWithin (λ e. e.1 ≡ 0) bag 0 (length bag) → size_of bag ≡ 0
size_of-AllWithin bag none =
    omega (arith, sum_by-le (part (λ _. 1)) 0 bag (λ k d within. omega (arith, none k d (omega arith) within)))

-- ---- where a number is counted in a list in order
pub int_eq-distinct : (v x : ℤ) → (v ≡ x → ⊥) → int_eq v x ≡ false
int_eq-distinct v x h = false_from_ne_true (int_eq v x) (λ t. h (int_eq-same v x t))

-- no other pair counts: the number is held as often as this one says
held_of-only_pair : (bag : Bag) (v : ℤ) (i : ℕ) (e : ℤ × ℕ) → i < length bag → e ≡ get_or bag i e → e.0 ≡ v
    → ((k : ℕ) (d : ℤ × ℕ) → k < length bag → (k ≡ i → ⊥) → part (one_at v) (get_or bag k d) ≡ 0) → held_of bag v ≡ e.1
held_of-only_pair bag v i e within is of others =
    omega (
      arith,
      weight_of-set (one_at v) bag i e 0 within is,
      none,
      ap (λ y. one_at v y * e.1) of,
      ap (λ n. n * e.1) (one_at-refl v),
    ) where
      each : (k : ℕ) (d : ℤ × ℕ) → k < length (set bag i (e.0, 0))
          → part (one_at v) (get_or (set bag i (e.0, 0)) k d) ≤ 0
      each k d inside = ⊎_elim
          (λ same. subst (λ n. part (one_at v) (get_or (set bag i (e.0, 0)) n d) ≤ 0) (sym same)
          (rw (get_or-set_same bag i (e.0, 0) d within) (omega arith)))
          (λ other. rw (get_or-set_other bag i k (e.0, 0) d other)
          (omega (arith, others k d (omega (arith, length-set bag i (e.0, 0), inside)) other)))
          (cases_eq k i)

      none : held_of (set bag i (e.0, 0)) v ≡ 0
      none = omega (arith, sum_by-le (part (one_at v)) 0 (set bag i (e.0, 0)) each)

-- a pair before one of the same number counts nothing
pub IsOrdered-count_before : (bag : Bag) → IsOrdered bag → (k p : ℕ) (d : ℤ × ℕ) → k < p → p < length bag
    → (get_or bag k d).0 ≡ (get_or bag p d).0 → (get_or bag k d).1 ≡ 0
IsOrdered-count_before bag ordered k p d before within same =
    let up : (get_or bag k d).0 ≤ℤ (get_or bag (k + 1) d).0 = ordered.rises k (k + 1) d (omega arith) (omega arith) in
    let on : (get_or bag (k + 1) d).0 ≤ℤ (get_or bag p d).0 = ordered.rises (k + 1) p d (omega arith) within in
    ordered.joined k d (omega arith) (omega (arith, ints, up, on, same))

-- the last pair up to a number, where it is of that number
pub held_of-IsCut : (bag : Bag) (v : ℤ) (past : ℕ) (d : ℤ × ℕ) → IsOrdered bag → IsCut bag v past → 0 < past
    → (get_or bag (past - 1) d).0 ≡ v → held_of bag v ≡ (get_or bag (past - 1) d).1
held_of-IsCut bag v past d ordered cut some of =
    let p : ℕ = past - 1 in
    let within : p < length bag = omega (arith, cut.within) in
    held_of-only_pair bag v p (get_or bag p d) within (get_or_default bag p d (get_or bag p d) within) of
    (λ k z inside other. ⊎_elim (before k z inside) (λ up. after k z inside (omega (arith, up, other))) (cases_lt k p))
  where
    nothing : (k : ℕ) (z : ℤ × ℕ) → (v ≡ (get_or bag k z).0 → (get_or bag k z).1 ≡ 0)
        → part (one_at v) (get_or bag k z) ≡ 0
    nothing k z counts = elim (int_eq v (get_or bag k z).0)
        as (λ b. int_eq v (get_or bag k z).0 ≡ b → part (one_at v) (get_or bag k z) ≡ 0) [
          | true ↦ λ t. omega (
            arith,
            ap (λ n. one_at v (get_or bag k z).0 * n) (counts (int_eq-same v (get_or bag k z).0 t)),
          )
          | false ↦ λ t. omega (arith, ap (λ n. n * (get_or bag k z).1) (one_at-distinct v (get_or bag k z).0 t))
        ] refl

    before : (k : ℕ) (z : ℤ × ℕ) → k < length bag → k < past - 1 → part (one_at v) (get_or bag k z) ≡ 0
    before k z inside below =
        let within : past - 1 < length bag = omega (arith, cut.within, some) in
        let last : (get_or bag (past - 1) z).0 ≡ v =
        ap (λ (e : ℤ × ℕ). e.0) (get_or_default bag (past - 1) z d within) ∙ of in
        nothing k z (λ same. IsOrdered-count_before bag ordered k (past - 1) z below within (sym same ∙ sym last))

    after : (k : ℕ) (z : ℤ × ℕ) → k < length bag → past ≤ k → part (one_at v) (get_or bag k z) ≡ 0
    after k z inside past_it = nothing k z (λ same. absurd (omega (arith, ints, cut.above k z past_it inside, same)))

-- where it is of another one, or there is none, the number is not held
pub held_of-IsCut_other : (bag : Bag) (v : ℤ) (past : ℕ) (d : ℤ × ℕ) → IsOrdered bag → IsCut bag v past → 0 < past
    → ((get_or bag (past - 1) d).0 ≡ v → ⊥) → held_of bag v ≡ 0
held_of-IsCut_other bag v past d ordered cut some other =
    held_of-absent bag v (λ k z inside. int_eq-distinct v (get_or bag k z).0 (λ same. ⊎_elim
    (λ below.
    let within : past - 1 < length bag = omega (arith, cut.within) in
    let last : (get_or bag (past - 1) z).0 ≡ (get_or bag (past - 1) d).0 =
    ap (λ (e : ℤ × ℕ). e.0) (get_or_default bag (past - 1) z d within) in
    let up : (get_or bag k z).0 ≤ℤ (get_or bag (past - 1) z).0 = ordered.rises k (past - 1) z (omega arith) within in
    let least : (get_or bag (past - 1) z).0 ≤ℤ v = cut.below (past - 1) z (omega arith) (omega arith) in
    other (omega (arith, ints, last, up, least, same)))
    (λ past_it. absurd (omega (arith, ints, cut.above k z past_it inside, same)))
    (cases_lt k past)))

pub held_of-IsCut_front : (bag : Bag) (v : ℤ) (past : ℕ) → IsCut bag v past → past ≡ 0 → held_of bag v ≡ 0
held_of-IsCut_front bag v past cut none = held_of-absent bag v (λ k z inside. int_eq-distinct v (get_or bag k z).0
    (λ same. absurd (omega (arith, ints, cut.above k z (omega (arith, none)) inside, same))))

-- ---- a list in order from which one is taken
-- the numbers stay where a count changes
numbers-set : (bag : Bag) (i : ℕ) (e : ℤ × ℕ) (n k : ℕ) (d : ℤ × ℕ) → i < length bag → e ≡ get_or bag i e
    → (get_or (set bag i (e.0, n)) k d).0 ≡ (get_or bag k d).0
numbers-set bag i e n k d within is = ⊎_elim
    (λ same. subst (λ m. (get_or (set bag i (e.0, n)) m d).0 ≡ (get_or bag m d).0) (sym same)
    (rw (get_or-set_same bag i (e.0, n) d within) (ap (λ (z : ℤ × ℕ). z.0) (is ∙ get_or_default bag i e d within))))
    (λ other. ap (λ (z : ℤ × ℕ). z.0) (get_or-set_other bag i k (e.0, n) d other))
    (cases_eq k i)

rises-set : (bag : Bag) (i : ℕ) (e : ℤ × ℕ) (n : ℕ) → i < length bag → e ≡ get_or bag i e → Rises bag
    → Rises (set bag i (e.0, n))
rises-set bag i e n within is rises j k d before inside =
    rw (
      numbers-set bag i e n j d within is,
      numbers-set bag i e n k d within is,
    ) (rises j k d before (omega (arith, length-set bag i (e.0, n), inside)))

-- the counted pair of v holds one less
pub AddsOne-set_from_IsLastOf : (bag : Bag) (v : ℤ) (i : ℕ) (e : ℤ × ℕ) → e ≡ get_or bag i e → IsLastOf bag v i
    → AddsOne (set bag i (e.0, e.1 - 1)) bag v
AddsOne-set_from_IsLastOf bag v i e is last = AddsOne-set bag i e v last.within is
    (ap (λ (z : ℤ × ℕ). z.0) is ∙ last.number e) (omega (arith, last.some, last.count e, ap (λ (z : ℤ × ℕ). z.1) is))

pub IsOrdered-set_from_IsLastOf : (bag : Bag) (v : ℤ) (i : ℕ) (e : ℤ × ℕ) → e ≡ get_or bag i e → IsLastOf bag v i
    → IsOrdered bag → IsOrdered (set bag i (e.0, e.1 - 1))
IsOrdered-set_from_IsLastOf bag v i e is last ordered = record {
  rises = rises-set bag i e (e.1 - 1) last.within is ordered.rises;
  joined = λ k d before same.
      let inside : k + 1 < length bag = omega (arith, length-set bag i (e.0, e.1 - 1), before) in
      let old : (get_or bag k d).1 ≡ 0 = ordered.joined k d inside
      (sym (numbers-set bag i e (e.1 - 1) k d last.within is) ∙ same
      ∙ numbers-set bag i e (e.1 - 1) (k + 1) d last.within is) in
      ⊎_elim
      (λ here. absurd (omega (arith, old, ap (λ n. (get_or bag n d).1) here, last.count d, last.some)))
      (λ other. ap (λ (z : ℤ × ℕ). z.1) (get_or-set_other bag i k (e.0, e.1 - 1) d other) ∙ old)
      (cases_eq k i);
}

-- ---- what a search by halves finds
-- the numbers up to v come first
pub Rises-IsPartitionedBy : (bag : Bag) (v : ℤ) → Rises bag → IsPartitionedBy (λ e. not (int_lt v e.0)) bag
Rises-IsPartitionedBy bag v rises i j d before within passes =
    let up : (get_or bag i d).0 ≤ℤ (get_or bag j d).0 = rises i j d before within in
    grind (arith, ints, up, passes)

pub IsPartitionPoint-IsCut : (bag : Bag) (v : ℤ) (past : ℕ) → past ≤ length bag
    → IsPartitionPoint (λ e. not (int_lt v e.0) ≡ true) (λ e. not (int_lt v e.0) ≡ false) bag past → IsCut bag v past
IsPartitionPoint-IsCut bag v past within point = record {
  within = within;
  below = λ k d from to. let t = point.0 k d from to in grind (arith, ints, t);
  above = λ k d from to. let t = point.1 k d from to in grind (arith, ints, t);
}

-- the pair before the cut is the counted one of its number
pub IsCut-IsLastOf : (bag : Bag) (v : ℤ) (past : ℕ) (d : ℤ × ℕ) → IsOrdered bag → IsCut bag v past → 0 < past
    → (get_or bag (past - 1) d).0 ≡ v → 0 < (get_or bag (past - 1) d).1 → IsLastOf bag v (past - 1)
IsCut-IsLastOf bag v past d ordered cut some of counts =
    let inside : past - 1 < length bag = omega (arith, cut.within, some) in
    let held : held_of bag v ≡ (get_or bag (past - 1) d).1 = held_of-IsCut bag v past d ordered cut some of in
    record {
      within = inside;
      number = λ z. ap (λ (e : ℤ × ℕ). e.0) (get_or_default bag (past - 1) z d inside) ∙ of;
      count = λ z. ap (λ (e : ℤ × ℕ). e.1) (get_or_default bag (past - 1) z d inside) ∙ sym held;
      some = omega (arith, held, counts);
    }

-- ---- equal numbers side by side are counted in the last
-- the list after the count at a place went to the next
abbrev pub moved_to : Bag → ℕ → ℤ × ℕ → ℤ × ℕ → Bag
moved_to bag p a b = set (set bag (p - 1) (a.0, 0)) p (b.0, b.1 + a.1)

-- what stands at the place still does where the one before it counts nothing
get_or-set_before : (bag : Bag) (p : ℕ) (a b : ℤ × ℕ) → 0 < p → p < length bag → b ≡ get_or bag p b
    → b ≡ get_or (set bag (p - 1) (a.0, 0)) p b
get_or-set_before bag p a b some within is =
    is ∙ sym (get_or-set_other bag (p - 1) p (a.0, 0) b (λ same. omega (arith, some, same)))

pub rises-moved : (bag : Bag) (p : ℕ) (a b : ℤ × ℕ) → 0 < p → p < length bag → a ≡ get_or bag (p - 1) a
    → b ≡ get_or bag p b → Rises bag → Rises (moved_to bag p a b)
rises-moved bag p a b some within first second rises =
    let bare : Bag = set bag (p - 1) (a.0, 0) in
    rises-set bare p b (b.1 + a.1) (omega (arith, length-set bag (p - 1) (a.0, 0), within))
    (get_or-set_before bag p a b some within second) (rises-set bag (p - 1) a 0 (omega (arith, within)) first rises)

pub joined-moved : (bag : Bag) (p : ℕ) (a b : ℤ × ℕ) → 0 < p → p < length bag → a ≡ get_or bag (p - 1) a
    → b ≡ get_or bag p b → IsJoined bag p → IsJoined (moved_to bag p a b) (p + 1)
joined-moved bag p a b some within first second joined k d before same = ⊎_elim
    (λ here. ap (λ (z : ℤ × ℕ). z.1) (far k (omega (arith, here)) ∙ subst (λ n. get_or bare n d ≡ (a.0, 0)) (sym here)
    (get_or-set_same bag (p - 1) (a.0, 0) d (omega (arith, within)))))
    (λ other.
    let old : (get_or bag k d).0 ≡ (get_or bag (k + 1) d).0 = sym (numbers k) ∙ same ∙ numbers (k + 1) in
    ap (λ (z : ℤ × ℕ). z.1) (far k (omega (arith, before)) ∙ get_or-set_other bag (p - 1) k (a.0, 0) d other)
    ∙ joined k d (omega (arith, before, other)) old)
    (cases_eq k (p - 1)) where
      bare : Bag
      bare = set bag (p - 1) (a.0, 0)

      inside : p < length bare
      inside = omega (arith, length-set bag (p - 1) (a.0, 0), within)

      far : (m : ℕ) → m < p → get_or (moved_to bag p a b) m d ≡ get_or bare m d
      far m below = get_or-set_other bare p m (b.0, b.1 + a.1) d (λ at. omega (arith, below, at))

      numbers : (m : ℕ) → (get_or (moved_to bag p a b) m d).0 ≡ (get_or bag m d).0
      numbers m = numbers-set bare p b (b.1 + a.1) m d inside (get_or-set_before bag p a b some within second)
          ∙ numbers-set bag (p - 1) a 0 m d (omega (arith, within)) first

-- a neighbour with another number needs no move
pub IsJoined-more : (bag : Bag) (p : ℕ) (e : ℤ × ℕ) → 0 < p → p < length bag
    → ((get_or bag (p - 1) e).0 ≡ (get_or bag p e).0 → ⊥) → IsJoined bag p → IsJoined bag (p + 1)
IsJoined-more bag p e some within other joined k d before same = ⊎_elim
    (λ here. absurd (other (
    let next : k + 1 ≡ p = omega (arith, here, some) in
    let low : (get_or bag (p - 1) e).0 ≡ (get_or bag (p - 1) d).0 =
    ap (λ (z : ℤ × ℕ). z.0) (get_or_default bag (p - 1) e d (omega (arith, within))) in
    let high : (get_or bag p d).0 ≡ (get_or bag p e).0 = ap (λ (z : ℤ × ℕ). z.0) (get_or_default bag p d e within) in
    low ∙ ap (λ n. (get_or bag n d).0) (sym here) ∙ same ∙ ap (λ n. (get_or bag n d).0) next ∙ high)))
    (λ apart_from. joined k d (omega (arith, before, apart_from)) same)
    (cases_eq k (p - 1))

-- the two counts are of the whole
pub counts-le-size_of : (bag : Bag) (p : ℕ) (a b : ℤ × ℕ) → 0 < p → p < length bag → a ≡ get_or bag (p - 1) a
    → b ≡ get_or bag p b → b.1 + a.1 ≤ size_of bag
counts-le-size_of bag p a b some within first second =
    let bare : Bag = set bag (p - 1) (a.0, 0) in
    let one = weight_of-set (λ _. 1) bag (p - 1) a 0 (omega (arith, within)) first in
    omega (
      arith,
      one,
      count_at bare p b (omega (arith, length-set bag (p - 1) (a.0, 0), within))
          (get_or-set_before bag p a b some within second),
    )

-- what is read at the place after the one before it was emptied
pub get_or-set_before_default : (bag : Bag) (p : ℕ) (a d : ℤ × ℕ) → 0 < p → p < length bag
    → get_or (set bag (p - 1) (a.0, 0)) p d ≡ get_or bag p (get_or (set bag (p - 1) (a.0, 0)) p d)
get_or-set_before_default bag p a d some within =
    get_or-set_other bag (p - 1) p (a.0, 0) d (λ same. omega (arith, some, same))
    ∙ get_or_default bag p d (get_or (set bag (p - 1) (a.0, 0)) p d) within

-- what a sort by number leaves
pub IsSortedByKey-Rises : (bag : Bag) → IsSortedByKey (λ e. e.0) int_cmp bag → Rises bag
IsSortedByKey-Rises bag sorted i j d before within =
    let far : is_lt (int_cmp (get_or bag j d).0 (get_or bag i d).0) ≡ false =
    sorted_far (λ (a b : ℤ × ℕ). is_lt (int_cmp a.0 b.0))
    (ranks_by int_cmp_total (λ (e : ℤ × ℕ). e.0)) bag sorted i j d before within in
    grind (arith, ints, far)
