-- Laws of bags: what a weight is after each edit of the pairs, and what equal counts say of every weight.
use Rattle.std.proofs.Common.{◌≡◌, ℕ, suc, zero, ◌+◌, ◌-◌, ◌*◌, ◌<◌, ◌≤◌, [], ◌∷◌, ◌++◌, refl, arith, ap, sym, ◌∙◌}
use Rattle.std.proofs.Common.{length, get_or, drop, set, true, false, cond, subst, rules}
use Rattle.std.specs.Prelude.{ℤ, ◌≤ℤ◌, Option, Some, None, All, Contains, IfSome, IfNone, IsSome, is_some}
use Rattle.std.specs.Bool.{OnTrue, OnFalse}
use Rattle.std.specs.List.{swap_remove, HoldsAt}
use Rattle.std.specs.List.Sorted.{IsPermutation}
use Rattle.std.specs.Map.{lookup, set_value, remove_entry, keys_of, values_of}
use Rattle.std.specs.Ordering.{int_eq}
use Rattle.std.proofs.lemmas.Cmp.{int_eq_equiv}
use Rattle.std.proofs.lemmas.Bool.Decides.{Decides-int_eq}
use Rattle.std.proofs.lemmas.Map.Views.{All-map-IsPermutation, All-map-remove_entry, All-values-set_value}
use Rattle.std.proofs.lemmas.Map.Views.{IfSome-lookup_from_All, Contains-keys_from_lookup, IsSome-lookup_from_Contains}
use Rattle.std.proofs.lemmas.Map.Entries.{All-lookup}
use Rattle.std.proofs.lemmas.List.{get_or_default, drop_all, at_drop_more}
use Rattle.std.proofs.lemmas.List.Elements.{All-cons, All-nil, All-head, All-tail, All-contains, All-map}
use Rattle.std.proofs.lemmas.List.Sorted.{sum_by-IsPermutation}
use Rattle.std.proofs.lemmas.List.Sums.{sum_by-append, sum_by-drop_more, sum_by-cons, sum_by-set, sum_by-swap_remove}
use Rattle.std.proofs.lemmas.List.Sums.{sum_by_push, sum_by-le, get_or-le-sum_by}
use Rattle.cube_values.specs.Bag.{Bag, weight_of, one_at, held_of, size_of, SameHeld, AddsBag, AddsTimes, AddsOne}
use Rattle.cube_values.specs.Bag.{HasLeast, HasGreatest}

-- what one pair comes to
abbrev pub part : (ℤ → ℕ) → ℤ × ℕ → ℕ
part f e = f e.0 * e.1

-- the first pair, and the others
pub weight_of-cons : (f : ℤ → ℕ) (e : ℤ × ℕ) (bag : Bag) → weight_of f (e ∷ bag) ≡ f e.0 * e.1 + weight_of f bag
weight_of-cons f e bag = sum_by-cons (part f) e bag

-- equal numbers, by the test
pub int_eq-same : (x v : ℤ) → int_eq x v ≡ true → x ≡ v
int_eq-same x v h = search (rules, Decides-int_eq)

pub one_at-refl : (x : ℤ) → one_at x x ≡ 1
one_at-refl x = ap (λ b. cond b 1 0) (int_eq_equiv.refl x)

pub one_at-distinct : (x v : ℤ) → int_eq x v ≡ false → one_at x v ≡ 0
one_at-distinct x v h = ap (λ b. cond b 1 0) h

-- one pair's count is changed in place
pub weight_of-set : (f : ℤ → ℕ) (bag : Bag) (i : ℕ) (e : ℤ × ℕ) (n : ℕ) → i < length bag → e ≡ get_or bag i e
    → weight_of f (set bag i (e.0, n)) + f e.0 * e.1 ≡ weight_of f bag + f e.0 * n
weight_of-set f bag i e n within is =
    let P : ℤ × ℕ → Type 0 = λ z. weight_of f (set bag i (e.0, n)) + part f z ≡ weight_of f bag + f e.0 * n in
    subst P (sym is) (sum_by-set (part f) bag i (e.0, n) e within)

-- one pair is taken out
pub weight_of-swap_remove : (f : ℤ → ℕ) (bag : Bag) (i : ℕ) (e : ℤ × ℕ) → i < length bag → e ≡ get_or bag i e
    → weight_of f (swap_remove bag i e) + f e.0 * e.1 ≡ weight_of f bag
weight_of-swap_remove f bag i e within is =
    let P : ℤ × ℕ → Type 0 = λ z. weight_of f (swap_remove bag i e) + part f z ≡ weight_of f bag in
    subst P (sym is) (sum_by-swap_remove (part f) bag i e within)

-- a pair's count is at most how often its number is held
pub held-le_at : (bag : Bag) (i : ℕ) (e : ℤ × ℕ) → i < length bag → e ≡ get_or bag i e → e.1 ≤ held_of bag e.0
held-le_at bag i e within is =
    let P : ℤ × ℕ → Type 0 = λ z. part (one_at e.0) z ≤ held_of bag e.0 in
    let le : part (one_at e.0) e ≤ held_of bag e.0 =
    subst P (sym is) (get_or-le-sum_by (part (one_at e.0)) bag i e within) in
    omega (arith, ap (λ n. n * e.1) (one_at-refl e.0), le)

-- the number of a pair that counts is held
pub held_of-get_or : (bag : Bag) (i : ℕ) (d : ℤ × ℕ) → i < length bag → 0 < (get_or bag i d).1
    → 0 < held_of bag (get_or bag i d).0
held_of-get_or bag i d within some =
    omega (arith, some, held-le_at bag i (get_or bag i d) within (get_or_default bag i d (get_or bag i d) within))

-- a number that stands in no pair is not held
pub held_of-absent : (bag : Bag) (x : ℤ) → All (λ e. int_eq x e.0 ≡ false) bag → held_of bag x ≡ 0
held_of-absent bag x none =
    omega (
      arith,
      sum_by-le (part (one_at x)) 0 bag (λ k d within. omega (
        arith,
        ap (λ n. n * (get_or bag k d).1) (one_at-distinct x (get_or bag k d).0 (none k d within)),
      )),
    )

-- the pair at i is of v, and n of v are added there
pub adds_at : (bag : Bag) (i : ℕ) (e : ℤ × ℕ) (v : ℤ) (n : ℕ) → i < length bag → e ≡ get_or bag i e → e.0 ≡ v
    → AddsTimes bag (set bag i (e.0, e.1 + n)) v n
adds_at bag i e v n within is same = record {
  held = λ x. omega (arith, weight_of-set (one_at x) bag i e (e.1 + n) within is, ap (λ y. one_at x y * n) same);
}

-- a pair of v is put at the end
pub adds_pair : (bag : Bag) (v : ℤ) (n : ℕ) → AddsTimes bag (bag ++ (v, n) ∷ []) v n
adds_pair bag v n = record { held = λ x. omega (arith, sum_by_push (part (one_at x)) bag (v, n)) }

-- n of v are added to the pair that is alone, which is of v, or counts nothing
pub adds_alone : (x v : ℤ) (c n : ℕ) → x ≡ v → AddsTimes ((x, c) ∷ []) ((v, c + n) ∷ []) v n
adds_alone x v c n same = record { held = λ y. omega (arith, ap (λ z. one_at y z * c) same) }

pub adds_first : (x v : ℤ) (c n : ℕ) → c ≤ 0 → AddsTimes ((x, c) ∷ []) ((v, c + n) ∷ []) v n
adds_first x v zero n none = record { held = λ y. omega arith }
adds_first x v (suc c) n none = absurd (omega arith)

-- n of v are added one by one
pub AddsTimes-more : (old now new : Bag) (v : ℤ) (n : ℕ) → AddsTimes old now v n → AddsTimes now new v 1
    → AddsTimes old new v (n + 1)
AddsTimes-more old now new v n before adds = record { held = λ x. omega (arith, before.held x, adds.held x) }

-- once is one
pub adds_once : (old new : Bag) (v : ℤ) → AddsTimes old new v 1 → AddsOne old new v
adds_once old new v adds = record { held = λ x. omega (arith, adds.held x) }

-- the pair at i is of v, and one of v is taken there
pub AddsOne-set : (bag : Bag) (i : ℕ) (e : ℤ × ℕ) (v : ℤ) → i < length bag → e ≡ get_or bag i e → e.0 ≡ v → 0 < e.1
    → AddsOne (set bag i (e.0, e.1 - 1)) bag v
AddsOne-set bag i e v within is same more = record {
  held = λ x.
      taken _ _ _ (one_at x e.0) e.1 (weight_of-set (one_at x) bag i e (e.1 - 1) within is) (ap (one_at x) same) more;
} where
  taken : (h k w o n : ℕ) → h + o * n ≡ k + o * (n - 1) → o ≡ w → 0 < n → k ≡ h + w
  taken h k w o zero a b l = absurd (omega arith)
  taken h k w o (suc n) a b l = let c : suc n - 1 ≡ n = omega arith in omega (arith, a, ap (λ m. o * m) c, b)

pub takes_alone : (x v : ℤ) (c : ℕ) → x ≡ v → 0 < c → AddsOne ((x, c - 1) ∷ []) ((x, c) ∷ []) v
takes_alone x v c same some = AddsOne-set ((x, c) ∷ []) 0 (x, c) v (omega arith) refl same some

pub takes_at : (bag : Bag) (i : ℕ) (e : ℤ × ℕ) (v : ℤ) → i < length bag → e ≡ get_or bag i e → e.0 ≡ v → 1 < e.1
    → AddsOne (set bag i (e.0, e.1 - 1)) bag v
takes_at bag i e v within is same more = AddsOne-set bag i e v within is same (omega (arith, more))

-- the pair at i, read as e and as r, holds one v alone, and is taken out
pub takes_pair : (bag : Bag) (i : ℕ) (e r : ℤ × ℕ) (v : ℤ) → i < length bag → e ≡ get_or bag i e → r ≡ get_or bag i r
    → HoldsAt (λ p. p.0 ≡ v) bag i → r.1 ≤ 1 → All (λ p. 0 < p.1) bag → AddsOne (swap_remove bag i e) bag v
takes_pair bag i e r v within is read key less some =
    let same : r ≡ e = read ∙ get_or_default bag i r e within ∙ sym is in
    let one : e.1 ≡ 1 =
    omega (arith, ap (λ (p : ℤ × ℕ). p.1) same, ap (λ (p : ℤ × ℕ). p.1) is, some i e within, less) in
    let of : e.0 ≡ v = ap (λ (p : ℤ × ℕ). p.0) is ∙ key e in
    record {
      held = λ x. omega (
        arith,
        weight_of-swap_remove (one_at x) bag i e within is,
        ap (one_at x) of,
        ap (λ n. one_at x e.0 * n) one,
      );
    }

-- ---- a table, whose keys are looked up
-- no entry is found: the number is not held
pub held_of_none : (x : ℤ) (bag : Bag) → lookup (int_eq x) bag ≡ None → held_of bag x ≡ 0
held_of_none x [] h = refl
held_of_none x (e ∷ bag) h = elim (int_eq x e.0)
    as (λ b. int_eq x e.0 ≡ b → cond b (Some e.1) (lookup (int_eq x) bag) ≡ None → held_of (e ∷ bag) x ≡ 0) [
      | true ↦ λ same k. cc
      | false ↦ λ apart k. omega (
        arith,
        weight_of-cons (one_at x) e bag,
        ap (λ n. n * e.1) (one_at-distinct x e.0 apart),
        held_of_none x bag k,
      )
    ] refl h

-- the count that a look-up finds is set
pub weight_of-set_value : (f : ℤ → ℕ) (x : ℤ) (n c : ℕ) (bag : Bag) → lookup (int_eq x) bag ≡ Some c
    → weight_of f (set_value (int_eq x) bag n) + f x * c ≡ weight_of f bag + f x * n
weight_of-set_value f x n c [] h = cc
weight_of-set_value f x n c (e ∷ bag) h = elim (int_eq x e.0) as
    (λ b. int_eq x e.0 ≡ b → cond b (Some e.1) (lookup (int_eq x) bag) ≡ Some c → weight_of f
    (cond b ((e.0, n) ∷ bag) (e ∷ set_value (int_eq x) bag n)) + f x * c ≡ weight_of f (e ∷ bag) + f x * n) [
      | true ↦ λ same k. let found : e.1 ≡ c = cc in omega (
        arith,
        weight_of-cons f e bag,
        weight_of-cons f (e.0, n) bag,
        ap f (int_eq-same x e.0 same),
        ap (λ m. f e.0 * m) found,
        ap (λ m. m * n) (ap f (int_eq-same x e.0 same)),
        ap (λ m. m * c) (ap f (int_eq-same x e.0 same)),
      )
      | false ↦ λ apart k. omega (
        arith,
        weight_of-cons f e bag,
        weight_of-cons f e (set_value (int_eq x) bag n),
        weight_of-set_value f x n c bag k,
      )
    ] refl h

-- the entry that a look-up finds is taken out
pub weight_of-remove_entry : (f : ℤ → ℕ) (x : ℤ) (c : ℕ) (bag : Bag) → lookup (int_eq x) bag ≡ Some c
    → weight_of f (remove_entry (int_eq x) bag) + f x * c ≡ weight_of f bag
weight_of-remove_entry f x c [] h = cc
weight_of-remove_entry f x c (e ∷ bag) h = elim (int_eq x e.0) as
    (λ b. int_eq x e.0 ≡ b → cond b (Some e.1) (lookup (int_eq x) bag) ≡ Some c
    → weight_of f (cond b bag (e ∷ remove_entry (int_eq x) bag)) + f x * c ≡ weight_of f (e ∷ bag)) [
      | true ↦ λ same k. let found : e.1 ≡ c = cc in omega (
        arith,
        weight_of-cons f e bag,
        ap (λ m. f e.0 * m) found,
        ap (λ m. m * c) (ap f (int_eq-same x e.0 same)),
      )
      | false ↦ λ apart k. omega (
        arith,
        weight_of-cons f e bag,
        weight_of-cons f e (remove_entry (int_eq x) bag),
        weight_of-remove_entry f x c bag k,
      )
    ] refl h

-- a count that a look-up finds is at most how often the number is held
pub held-le_found : (x : ℤ) (c : ℕ) (bag : Bag) → lookup (int_eq x) bag ≡ Some c → c ≤ held_of bag x
held-le_found x c bag h = omega (arith, weight_of-remove_entry (one_at x) x c bag h, ap (λ n. n * c) (one_at-refl x))

-- n of v are added to the count that is found
pub adds_found : (old new : Bag) (v : ℤ) (c n : ℕ) → lookup (int_eq v) old ≡ Some c
    → new ≡ set_value (int_eq v) old (c + n) → AddsTimes old new v n
adds_found old new v c n found is = record {
  held = λ x. omega (arith, weight_of-set_value (one_at x) v (c + n) c old found, ap (weight_of (one_at x)) is);
}

-- a new entry, in whatever place
pub adds_entry : (old new : Bag) (v : ℤ) (n : ℕ) → IsPermutation ((v, n) ∷ old) new → AddsTimes old new v n
adds_entry old new v n moved = record {
  held = λ x. omega (
    arith,
    weight_of-cons (one_at x) (v, n) old,
    sum_by-IsPermutation (part (one_at x)) ((v, n) ∷ old) new moved,
  );
}

-- one of v is taken from the count that is found
pub takes_found : (old new : Bag) (v : ℤ) (c : ℕ) → lookup (int_eq v) old ≡ Some c → 0 < c
    → new ≡ set_value (int_eq v) old (c - 1) → AddsOne new old v
takes_found old new v (suc c) found some is =
    let less : suc c - 1 ≡ c = omega arith in
    record {
      held = λ x. omega (
        arith,
        weight_of-set_value (one_at x) v (suc c - 1) (suc c) old found,
        ap (λ m. one_at x v * m) less,
        ap (weight_of (one_at x)) is,
      );
    }
takes_found old new v zero found some is = absurd (omega arith)

-- the entry of a count of one at most is taken out, where no count is 0
pub takes_entry : (old new : Bag) (v : ℤ) (c : ℕ) → lookup (int_eq v) old ≡ Some c → c ≤ 1
    → All (λ n. 0 < n) (values_of old) → IsPermutation (remove_entry (int_eq v) old) new → AddsOne new old v
takes_entry old new v c found less all moved =
    let some : 0 < c =
    subst (λ (o : Option ℕ). IfSome o (λ n. 0 < n)) found (IfSome-lookup_from_All (λ n. 0 < n) (int_eq v) old all) in
    let one : c ≡ 1 = omega arith in
    record {
      held = λ x. omega (
        arith,
        weight_of-remove_entry (one_at x) v c old found,
        ap (λ n. one_at x v * n) one,
        sum_by-IsPermutation (part (one_at x)) (remove_entry (int_eq v) old) new moved,
      );
    }

-- no count becomes 0
pub some_put : (old new : Bag) (v : ℤ) (n : ℕ) → IsPermutation ((v, n) ∷ old) new → 0 < n
    → All (λ c. 0 < c) (values_of old) → All (λ c. 0 < c) (values_of new)
some_put old new v n moved some all = All-map-IsPermutation (λ (e : ℤ × ℕ). e.1) (λ c. 0 < c) ((v, n) ∷ old) new moved
    (All-cons (λ c. 0 < c) n (values_of old) some all)

pub some_set : (old new : Bag) (v : ℤ) (n : ℕ) → new ≡ set_value (int_eq v) old n → 0 < n
    → All (λ c. 0 < c) (values_of old) → All (λ c. 0 < c) (values_of new)
some_set old new v n is some all = subst (λ (b : Bag). All (λ c. 0 < c) (values_of b)) (sym is)
    (All-values-set_value (int_eq v) (λ c. 0 < c) old n all some)

pub some_left : (old new : Bag) (v : ℤ) → IsPermutation (remove_entry (int_eq v) old) new
    → All (λ c. 0 < c) (values_of old) → All (λ c. 0 < c) (values_of new)
some_left old new v moved all = All-map-IsPermutation (λ (e : ℤ × ℕ). e.1) (λ c. 0 < c)
    (remove_entry (int_eq v) old) new moved (All-map-remove_entry (int_eq v) (λ (e : ℤ × ℕ). e.1) (λ c. 0 < c) old all)

-- ---- the ends
-- a number of some pair is held, where no count is 0
pub held-from_keys : (bag : Bag) (x : ℤ) → IfSome (lookup (int_eq x) bag) (λ c. 0 < c) → Contains (keys_of bag) x
    → 0 < held_of bag x
held-from_keys bag x some within =
    known (lookup (int_eq x) bag) refl some (IsSome-lookup_from_Contains int_eq_equiv x bag within)
  where
    known : (o : Option ℕ) → lookup (int_eq x) bag ≡ o → IfSome o (λ c. 0 < c) → IsSome o → 0 < held_of bag x
    known None is s h = cc
    known (Some c) is s h = omega (arith, held-le_found x c bag is, s)

-- a number that is held is that of some pair
pub keys-from_held : (bag : Bag) (x : ℤ) → 0 < held_of bag x → Contains (keys_of bag) x
keys-from_held bag x some = Contains-keys_from_lookup int_eq-same x bag (known (lookup (int_eq x) bag) refl) where
  known : (o : Option ℕ) → lookup (int_eq x) bag ≡ o → IsSome o
  known None is = absurd (omega (arith, held_of_none x bag is))
  known (Some c) is = refl

-- the least key is the least number held
pub least-from_keys : (bag : Bag) (m : ℤ) → ((x : ℤ) → IfSome (lookup (int_eq x) bag) (λ c. 0 < c))
    → Contains (keys_of bag) m → All (λ x. m ≤ℤ x) (keys_of bag) → HasLeast bag m
least-from_keys bag m some within all = record {
  held = held-from_keys bag m (some m) within;
  below = λ x h. All-contains (λ y. m ≤ℤ y) (keys_of bag) x all (keys-from_held bag x h);
}

-- the greatest key is the greatest number held
pub greatest-from_keys : (bag : Bag) (m : ℤ) → ((x : ℤ) → IfSome (lookup (int_eq x) bag) (λ c. 0 < c))
    → Contains (keys_of bag) m → All (λ x. x ≤ℤ m) (keys_of bag) → HasGreatest bag m
greatest-from_keys bag m some within all = record {
  held = held-from_keys bag m (some m) within;
  above = λ x h. All-contains (λ y. y ≤ℤ m) (keys_of bag) x all (keys-from_held bag x h);
}

-- ---- equal counts
-- nothing is held: every weight is 0
pub weight_of-nothing : (f : ℤ → ℕ) (bag : Bag) → ((x : ℤ) → held_of bag x ≡ 0) → weight_of f bag ≡ 0
weight_of-nothing f [] h = refl
weight_of-nothing f (e ∷ bag) h =
    let here : e.1 ≡ 0 = omega (arith, h e.0, weight_of-cons (one_at e.0) e bag, ap (λ n. n * e.1) (one_at-refl e.0)) in
    let rest : (x : ℤ) → held_of bag x ≡ 0 = λ x. omega (arith, h x, weight_of-cons (one_at x) e bag) in
    omega (arith, weight_of-cons f e bag, ap (λ n. f e.0 * n) here, weight_of-nothing f bag rest)

-- a bag with one v less
pub record OneLess (bag less : Bag) (v : ℤ) : Type 0 where
  pub weight : (f : ℤ → ℕ) → weight_of f bag ≡ weight_of f less + f v

-- what is held can be taken
pub OneLess-held_of : (bag : Bag) (v : ℤ) → 0 < held_of bag v → (less : Bag) × OneLess bag less v
OneLess-held_of [] v h = absurd (omega arith)
OneLess-held_of ((x, zero) ∷ bag) v h =
    let rest = OneLess-held_of bag v (omega (arith, weight_of-cons (one_at v) (x, zero) bag)) in
    (rest.0, record { weight = λ f. omega (arith, weight_of-cons f (x, zero) bag, rest.1.weight f) })
OneLess-held_of ((x, suc c) ∷ bag) v h =
    elim (int_eq v x) as (λ b. int_eq v x ≡ b → (less : Bag) × OneLess ((x, suc c) ∷ bag) less v) [
      | true ↦ λ same. (
        (x, c) ∷ bag,
        record {
          weight = λ f. omega (
            arith,
            weight_of-cons f (x, suc c) bag,
            weight_of-cons f (x, c) bag,
            ap f (int_eq-same v x same),
          );
        },
      )
      | false ↦ λ apart. let rest = OneLess-held_of bag v
          (omega (
            arith,
            weight_of-cons (one_at v) (x, suc c) bag,
            ap (λ n. n * suc c) (one_at-distinct v x apart),
          )) in (
            (x, suc c) ∷ rest.0,
            record {
              weight = λ f. omega (
                arith,
                weight_of-cons f (x, suc c) bag,
                weight_of-cons f (x, suc c) rest.0,
                rest.1.weight f,
              );
            },
          )
    ] refl

weight_of-same-cons : (f : ℤ → ℕ) (x : ℤ) (a : Bag) → ((b : Bag) → SameHeld a b → weight_of f a ≡ weight_of f b)
    → (c : ℕ) (b : Bag) → SameHeld ((x, c) ∷ a) b → weight_of f ((x, c) ∷ a) ≡ weight_of f b
weight_of-same-cons f x a others zero b h = omega (
  arith,
  weight_of-cons f (x, zero) a,
  others b (record { held = λ y. omega (arith, h.held y, weight_of-cons (one_at y) (x, zero) a) }),
)
weight_of-same-cons f x a others (suc c) b h =
    let less = OneLess-held_of b x
    (omega (arith, h.held x, weight_of-cons (one_at x) (x, suc c) a, ap (λ n. n * suc c) (one_at-refl x))) in
    let same : SameHeld ((x, c) ∷ a) less.0 = record {
      held = λ y. omega (
        arith,
        h.held y,
        weight_of-cons (one_at y) (x, suc c) a,
        weight_of-cons (one_at y) (x, c) a,
        less.1.weight (one_at y),
      );
    } in
    omega (
      arith,
      weight_of-cons f (x, suc c) a,
      weight_of-cons f (x, c) a,
      less.1.weight f,
      weight_of-same-cons f x a others c less.0 same,
    )

-- equal counts give every weight
pub weight_of-same : (f : ℤ → ℕ) (a b : Bag) → SameHeld a b → weight_of f a ≡ weight_of f b
weight_of-same f [] b h = sym (weight_of-nothing f b (λ x. sym (h.held x)))
weight_of-same f ((x, c) ∷ a) b h = weight_of-same-cons f x a (weight_of-same f a) c b h

-- what n more of v add to a weight
pub weight_of-times : (f : ℤ → ℕ) (old new : Bag) (v : ℤ) (n : ℕ) → AddsTimes old new v n
    → weight_of f new ≡ weight_of f old + f v * n
weight_of-times f old new v n adds =
    omega (
      arith,
      weight_of-cons f (v, n) old,
      weight_of-same f new ((v, n) ∷ old)
          (record { held = λ x. omega (arith, adds.held x, weight_of-cons (one_at x) (v, n) old) }),
    )

-- what one more v adds to a weight
pub weight_of-one : (f : ℤ → ℕ) (old new : Bag) (v : ℤ) → AddsOne old new v → weight_of f new ≡ weight_of f old + f v
weight_of-one f old new v adds =
    omega (arith, weight_of-times f old new v 1 (record { held = λ x. omega (arith, adds.held x) }))

-- what is added once is one more
pub size_of_once : (old new : Bag) (v : ℤ) → AddsTimes old new v 1 → size_of new ≡ size_of old + 1
size_of_once old new v adds = weight_of-times (λ _. 1) old new v 1 adds

pub size_of_one : (old new : Bag) (v : ℤ) → AddsOne old new v → size_of new ≡ size_of old + 1
size_of_one old new v adds = weight_of-one (λ _. 1) old new v adds

-- a number is held at most as often as all numbers together
pub held_le_size : (bag : Bag) (x : ℤ) → held_of bag x ≤ size_of bag
held_le_size [] x = omega arith
held_le_size (e ∷ bag) x = elim (int_eq x e.0) as (λ b. int_eq x e.0 ≡ b → held_of (e ∷ bag) x ≤ size_of (e ∷ bag)) [
  | true ↦ λ same. omega (
    arith,
    held_le_size bag x,
    weight_of-cons (one_at x) e bag,
    weight_of-cons (λ _. 1) e bag,
    ap (λ b. cond b 1 0 * e.1) same,
  )
  | false ↦ λ apart. omega (
    arith,
    held_le_size bag x,
    weight_of-cons (one_at x) e bag,
    weight_of-cons (λ _. 1) e bag,
    ap (λ b. cond b 1 0 * e.1) apart,
  )
] refl

-- ---- what the representations keep
-- no count of these pairs is 0
pub lookup-positive : (bag : Bag) → All (λ e. 0 < e.1) bag → (x : ℤ) → IfSome (lookup (int_eq x) bag) (λ c. 0 < c)
lookup-positive bag all x = All-lookup (λ c. 0 < c) (int_eq x) bag all

-- the least of the numbers of pairs
pub least_of_pairs : (bag : Bag) (r : Option ℤ) → All (λ e. 0 < e.1) bag → IfSome r (Contains (keys_of bag))
    → IfSome r (λ m. All (λ e. m ≤ℤ e.0) bag) → IfSome r (HasLeast bag)
least_of_pairs bag None all within least = tt
least_of_pairs bag (Some m) all within least =
    least-from_keys bag m (lookup-positive bag all) within (All-map (λ x. m ≤ℤ x) (λ (e : ℤ × ℕ). e.0) bag least)

-- the greatest of the numbers of pairs
pub greatest_of_pairs : (bag : Bag) (r : Option ℤ) → All (λ e. 0 < e.1) bag → IfSome r (Contains (keys_of bag))
    → IfSome r (λ m. All (λ e. e.0 ≤ℤ m) bag) → IfSome r (HasGreatest bag)
greatest_of_pairs bag None all within greatest = tt
greatest_of_pairs bag (Some m) all within greatest =
    greatest-from_keys bag m (lookup-positive bag all) within (All-map (λ x. x ≤ℤ m) (λ (e : ℤ × ℕ). e.0) bag greatest)

-- nothing is held exactly where there is no pair
pub no_pairs : (bag : Bag) → size_of bag ≡ 0 → All (λ e. 0 < e.1) bag → bag ≡ []
no_pairs [] h all = refl
no_pairs (e ∷ bag) h all = absurd (omega (arith, weight_of-cons (λ _. 1) e bag, all 0 e (omega arith)))

-- a pair's count is at most the size
pub count_at : (bag : Bag) (i : ℕ) (e : ℤ × ℕ) → i < length bag → e ≡ get_or bag i e → e.1 ≤ size_of bag
count_at bag i e within is = omega (arith, held-le_at bag i e within is, held_le_size bag e.0)

-- no count of a table is 0
pub lookup-positive_from_values_of : (bag : Bag) → All (λ n. 0 < n) (values_of bag) → (x : ℤ)
    → IfSome (lookup (int_eq x) bag) (λ c. 0 < c)
lookup-positive_from_values_of bag all x = IfSome-lookup_from_All (λ c. 0 < c) (int_eq x) bag all

-- a count that a look-up finds is at most the size
pub count_found : (bag : Bag) (x : ℤ) (c : ℕ) → lookup (int_eq x) bag ≡ Some c → c ≤ size_of bag
count_found bag x c found = omega (arith, held-le_found x c bag found, held_le_size bag x)

-- the least key of a table
pub least_of_table : (bag : Bag) (r : Option ℤ) → All (λ n. 0 < n) (values_of bag) → IfSome r (Contains (keys_of bag))
    → IfSome r (λ m. All (λ x. m ≤ℤ x) (keys_of bag)) → IfSome r (HasLeast bag)
least_of_table bag None all within least = tt
least_of_table bag (Some m) all within least =
    least-from_keys bag m (lookup-positive_from_values_of bag all) within least

-- the greatest key of a table
pub greatest_of_table : (bag : Bag) (r : Option ℤ) → All (λ n. 0 < n) (values_of bag)
    → IfSome r (Contains (keys_of bag)) → IfSome r (λ m. All (λ x. x ≤ℤ m) (keys_of bag)) → IfSome r (HasGreatest bag)
greatest_of_table bag None all within greatest = tt
greatest_of_table bag (Some m) all within greatest =
    greatest-from_keys bag m (lookup-positive_from_values_of bag all) within greatest

-- nothing is held exactly where the table is empty
pub no_entries : (bag : Bag) → size_of bag ≡ 0 → All (λ n. 0 < n) (values_of bag) → bag ≡ []
no_entries [] h all = refl
no_entries (e ∷ bag) h all =
    absurd (omega (arith, weight_of-cons (λ _. 1) e bag, All-head (λ n. 0 < n) e.1 (values_of bag) all))

-- ---- a bag that is added pair by pair
-- what was added and what is left are the whole
pub record IsSplit (pairs : Bag) (i : ℕ) (added : Bag) : Type 0 where
  pub held : (x : ℤ) → held_of added x + held_of (drop i pairs) x ≡ held_of pairs x

-- the sizes too
pub size_of-split : (pairs : Bag) (i : ℕ) (added : Bag) → IsSplit pairs i added
    → size_of added + size_of (drop i pairs) ≡ size_of pairs
size_of-split pairs i added split =
    let joined : (f : ℤ → ℕ) → weight_of f (added ++ drop i pairs) ≡ weight_of f added + weight_of f (drop i pairs) =
    λ f. sum_by-append (part f) added (drop i pairs) in
    omega (
      arith,
      joined (λ _. 1),
      weight_of-same (λ _. 1) (added ++ drop i pairs) pairs
          (record { held = λ x. omega (arith, joined (one_at x), split.held x) }),
    )

-- the pair at i is among what is left
pub weight_of-drop_more : (f : ℤ → ℕ) (pairs : Bag) (i : ℕ) (d : ℤ × ℕ) → i < length pairs
    → weight_of f (drop i pairs) ≡ f (get_or pairs i d).0 * (get_or pairs i d).1 + weight_of f (drop (i + 1) pairs)
weight_of-drop_more f pairs i d within = sum_by-drop_more (part f) pairs i d within

-- the pair at i has room
pub IsSplit-room : (pairs : Bag) (i : ℕ) (added : Bag) (d : ℤ × ℕ) → IsSplit pairs i added → i < length pairs
    → size_of added + (get_or pairs i d).1 ≤ size_of pairs
IsSplit-room pairs i added d split within =
    omega (arith, size_of-split pairs i added split, weight_of-drop_more (λ _. 1) pairs i d within)

-- the pair at i is added
pub IsSplit-more : (pairs : Bag) (i : ℕ) (added new : Bag) (d : ℤ × ℕ) → IsSplit pairs i added → i < length pairs
    → AddsTimes added new (get_or pairs i d).0 (get_or pairs i d).1 → IsSplit pairs (i + 1) new
IsSplit-more pairs i added new d split within adds =
    record { held = λ x. omega (arith, split.held x, weight_of-drop_more (one_at x) pairs i d within, adds.held x) }

-- nothing is left
pub IsSplit-SameHeld : (pairs : Bag) (i : ℕ) (added : Bag) → IsSplit pairs i added → length pairs ≤ i
    → SameHeld pairs added
IsSplit-SameHeld pairs i added split past =
    record { held = λ x. omega (arith, split.held x, ap (λ (b : Bag). held_of b x) (drop_all i pairs past)) }

pub size_of_same : (a b : Bag) → SameHeld a b → size_of a ≡ size_of b
size_of_same a b same = weight_of-same (λ _. 1) a b same

-- what is added to one of two equal bags is added to the other
pub adds_to_same : (a b new : Bag) (v : ℤ) (n : ℕ) → SameHeld a b → AddsTimes b new v n → AddsTimes a new v n
adds_to_same a b new v n same adds = record { held = λ x. omega (arith, same.held x, adds.held x) }

-- what was taken was held
pub held_before : (old new : Bag) (v : ℤ) → AddsOne new old v → 0 < held_of old v
held_before old new v adds = omega (arith, adds.held v, one_at-refl v)

-- the number of a pair is held, where no count is 0
pub held_of-HoldsAt : (bag : Bag) (i : ℕ) (v : ℤ) → i < length bag → HoldsAt (λ e. e.0 ≡ v) bag i
    → All (λ e. 0 < e.1) bag → 0 < held_of bag v
held_of-HoldsAt bag i v within of some =
    let e : ℤ × ℕ = get_or bag i (v, 0) in
    omega (
      arith,
      held-le_at bag i e within (get_or_default bag i (v, 0) e within),
      some i (v, 0) within,
      ap (held_of bag) (of (v, 0)),
    )

-- a number that a look-up finds is held
pub held_found : (bag : Bag) (x : ℤ) (c : ℕ) → lookup (int_eq x) bag ≡ Some c → All (λ n. 0 < n) (values_of bag)
    → 0 < held_of bag x
held_found bag x c found all =
    let some : 0 < c =
    subst (λ (o : Option ℕ). IfSome o (λ n. 0 < n)) found (lookup-positive_from_values_of bag all x) in
    omega (arith, held-le_found x c bag found)

-- by the place of the first pair of a number
pub held_by_place : (bag : Bag) (v : ℤ) (place : Option ℕ) → All (λ e. 0 < e.1) bag → IfSome place (λ i. i < length bag)
    → IfSome place (HoldsAt (λ e. e.0 ≡ v) bag) → OnTrue (is_some place) (0 < held_of bag v)
held_by_place bag v None some inside of = tt
held_by_place bag v (Some i) some inside of = held_of-HoldsAt bag i v inside of some

pub absent_by_place : (bag : Bag) (v : ℤ) (place : Option ℕ) → IfNone place (All (λ e. int_eq v e.0 ≡ false) bag)
    → OnFalse (is_some place) (held_of bag v ≡ 0)
absent_by_place bag v None none = held_of-absent bag v none
absent_by_place bag v (Some i) none = tt

-- ---- a bag that is added to another, part by part
-- what is in it now with what is left is the whole
pub record IsMerging (old more left now : Bag) : Type 0 where
  pub held : (x : ℤ) → held_of now x + held_of left x ≡ held_of old x + held_of more x

-- two bags as one
weight_of-append : (f : ℤ → ℕ) (a b : Bag) → weight_of f (a ++ b) ≡ weight_of f a + weight_of f b
weight_of-append f a b = sum_by-append (part f) a b

-- every weight
weight_of-merging : (f : ℤ → ℕ) (old more left now : Bag) → IsMerging old more left now
    → weight_of f now + weight_of f left ≡ weight_of f old + weight_of f more
weight_of-merging f old more left now is =
    let same : SameHeld (now ++ left) (old ++ more) = record {
      held = λ x. omega (arith, is.held x, weight_of-append (one_at x) now left, weight_of-append (one_at x) old more);
    } in
    omega (
      arith,
      weight_of-same f (now ++ left) (old ++ more) same,
      weight_of-append f now left,
      weight_of-append f old more,
    )

-- a pair more
pub IsMerging-more : (old more left now new : Bag) (e : ℤ × ℕ) → IsMerging old more (e ∷ left) now
    → AddsTimes now new e.0 e.1 → IsMerging old more left new
IsMerging-more old more left now new e is adds =
    record { held = λ x. omega (arith, is.held x, adds.held x, weight_of-cons (one_at x) e left) }

-- which has room
pub IsMerging-room : (old more left now : Bag) (e : ℤ × ℕ) → IsMerging old more (e ∷ left) now
    → size_of now + e.1 ≤ size_of old + size_of more
IsMerging-room old more left now e is =
    omega (arith, weight_of-merging (λ _. 1) old more (e ∷ left) now is, weight_of-cons (λ _. 1) e left)

-- all was added
pub IsMerging-AddsBag : (old more now : Bag) → IsMerging old more [] now → AddsBag old now more
IsMerging-AddsBag old more now is = record { held = λ x. omega (arith, is.held x) }

-- what a bag adds to every weight
pub weight_of-bag : (f : ℤ → ℕ) (old new more : Bag) → AddsBag old new more
    → weight_of f new ≡ weight_of f old + weight_of f more
weight_of-bag f old new more adds =
    omega (arith, weight_of-merging f old more [] new (record { held = λ x. omega (arith, adds.held x) }))

pub size_of-bag : (old new more : Bag) → AddsBag old new more → size_of new ≡ size_of old + size_of more
size_of-bag old new more adds = weight_of-bag (λ _. 1) old new more adds

-- the pairs from a place on: the one there, and those after it
pub drop-get_or : (pairs : Bag) (i : ℕ) (d : ℤ × ℕ) → i < length pairs
    → drop i pairs ≡ get_or pairs i d ∷ drop (i + 1) pairs
drop-get_or pairs i d within = at_drop_more (λ (bag : Bag). bag) pairs i d within

-- the pair at a place is added
pub IsMerging-more_at : (old pairs now new : Bag) (i : ℕ) (d : ℤ × ℕ) → i < length pairs
    → IsMerging old pairs (drop i pairs) now → AddsTimes now new (get_or pairs i d).0 (get_or pairs i d).1
    → IsMerging old pairs (drop (i + 1) pairs) new
IsMerging-more_at old pairs now new i d within is adds =
    let P : Bag → Type 0 = λ left. IsMerging old pairs left now in
    IsMerging-more old pairs (drop (i + 1) pairs) now new (get_or pairs i d)
    (subst P (drop-get_or pairs i d within) is) adds

-- which has room
pub IsMerging-room_at : (old pairs now : Bag) (i : ℕ) (d : ℤ × ℕ) → i < length pairs
    → IsMerging old pairs (drop i pairs) now → size_of now + (get_or pairs i d).1 ≤ size_of old + size_of pairs
IsMerging-room_at old pairs now i d within is =
    let P : Bag → Type 0 = λ left. IsMerging old pairs left now in
    IsMerging-room old pairs (drop (i + 1) pairs) now (get_or pairs i d) (subst P (drop-get_or pairs i d within) is)

-- past the last pair all were
pub IsMerging-AddsBag_past : (old pairs now : Bag) (i : ℕ) → length pairs ≤ i → IsMerging old pairs (drop i pairs) now
    → AddsBag old now pairs
IsMerging-AddsBag_past old pairs now i past is =
    let P : Bag → Type 0 = λ left. IsMerging old pairs left now in
    IsMerging-AddsBag old pairs now (subst P (drop_all i pairs past) is)

-- no count of entries is 0
pub some_entries : (bag : Bag) → All (λ n. 0 < n) (values_of bag) → All (λ e. 0 < e.1) bag
some_entries [] all = All-nil (λ (e : ℤ × ℕ). 0 < e.1)
some_entries (e ∷ bag) all = All-cons (λ (e : ℤ × ℕ). 0 < e.1) e bag (All-head (λ n. 0 < n) e.1 (values_of bag) all)
    (some_entries bag (All-tail (λ n. 0 < n) e.1 (values_of bag) all))
