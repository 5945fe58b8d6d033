-- Laws of the values of facts: bags that these are added to and taken from, and the tally of the facts.
use Rattle.std.proofs.Common.{◌≡◌, ℕ, suc, zero, ◌+◌, ◌-◌, ◌<◌, ◌≤◌, List, [], ◌∷◌, true, refl, arith, ap, sym, ◌∙◌}
use Rattle.std.proofs.Common.{subst, length, get_or, set, take, drop, ◌++◌}
use Rattle.std.specs.Prelude.{ℤ, nat_lt, All, Option, Some, None}
use Rattle.std.specs.Option.{ForSome}
use Rattle.std.proofs.lemmas.Bool.{cases_lt, cases_eq, and_parts, ltb-true}
use Rattle.std.proofs.Math.Logic.{⊎_elim}
use Rattle.std.proofs.lemmas.List.{get_or-set_same, get_or-set_other, get_or-take, get_or_default, get_or_past}
use Rattle.std.proofs.lemmas.List.{length-set, length-take, take-append-le, take_all}
use Rattle.cube_values.specs.Bag.{Bag, held_of, size_of}
use Rattle.cube_cells.specs.Tally.{Tally, bag_at, value_at, IsTallyOf, one_of, AddsValue, AddsValues, SameBags}
use Rattle.cube_cells.specs.Tally.{holds_value, hold_values, holds_fact}
use Rattle.cube_values.proofs.BagLaws.{size_of_one, size_of_same, one_at-refl, held_le_size}

-- the size of a bag after a value
pub size_of-value : (old new : Bag) (value : Option ℤ) → AddsValue old new value
    → (size_of old ≤ size_of new) × (size_of new ≤ size_of old + 1)
size_of-value old new None adds =
    let same = size_of_same new old (record { held = λ x. omega (arith, adds.held x) }) in
    (omega arith, omega arith)
size_of-value old new (Some v) adds =
    let more = size_of_one old new v (record { held = adds.held }) in
    (omega arith, omega arith)

-- of a list's first elements there is none past them
pub get_or-take_past : {X : Type 0} (more : List X) (none : X) (i m : ℕ) → i ≤ m → get_or (take i more) m none ≡ none
get_or-take_past more none i m past = get_or_past (take i more) m none (omega (arith, length-take i more))

-- of one element more, only its own place tells
get_or-take_other : {X : Type 0} (more : List X) (none : X) (i m : ℕ) → (m ≡ i → ⊥)
    → get_or (take (i + 1) more) m none ≡ get_or (take i more) m none
get_or-take_other more none i m apart = ⊎_elim
    (λ below. get_or-take (i + 1) more m none (omega arith) ∙ sym (get_or-take i more m none below))
    (λ past. get_or-take_past more none (i + 1) m (omega arith) ∙ sym (get_or-take_past more none i m past))
    (cases_lt m i)

-- what holds of each bag and what was put to it holds still where the bag at i is put in its place
pub each-set : {X : Type 0} (Holds : ℕ → Bag → X → Type 0) (bags : List Bag) (more : List X) (none : X) (i : ℕ)
    (bag : Bag) → i < length bags → ((m : ℕ) → Holds m (bag_at bags m) (get_or (take i more) m none))
    → Holds i bag (get_or more i none)
    → (m : ℕ) → Holds m (bag_at (set bags i bag) m) (get_or (take (i + 1) more) m none)
each-set Holds bags more none i bag inside others here m = ⊎_elim
    (λ same. subst (λ k. Holds k (bag_at (set bags i bag) k) (get_or (take (i + 1) more) k none)) (sym same)
    (rw (get_or-set_same bags i bag [] inside, get_or-take (i + 1) more i none (omega arith)) here))
    (λ apart. rw (get_or-set_other bags i m bag [] apart, get_or-take_other more none i m apart) (others m))
    (cases_eq m i)

-- two changes of a bag, the first of no value
AddsValue-after_none : (old bag new : Bag) (first_value value : Option ℤ) → first_value ≡ None
    → AddsValue old bag first_value → AddsValue bag new value → AddsValue old new value
AddsValue-after_none old bag new first_value value is first second =
    record { held = λ x. omega (arith, first.held x, second.held x, ap (one_of x) is) }

AddsValue-before_none : (old bag new : Bag) (second_value value : Option ℤ) → second_value ≡ None
    → AddsValue bag new second_value → AddsValue old bag value → AddsValue old new value
AddsValue-before_none old bag new second_value value is second first =
    record { held = λ x. omega (arith, first.held x, second.held x, ap (one_of x) is) }

-- the value at i is added after those before it
pub AddsValues-more : (old bags : List Bag) (values : List (Option ℤ)) (i : ℕ) (bag : Bag)
    → AddsValues old bags (take i values) → i < length bags → AddsValue (bag_at bags i) bag (value_at values i)
    → AddsValues old (set bags i bag) (take (i + 1) values)
AddsValues-more old bags values i bag adds inside value = record {
  same_length = omega (arith, length-set bags i bag, adds.same_length);
  each = each-set (λ m new of. AddsValue (bag_at old m) new of) bags values None i bag inside adds.each
      (AddsValue-after_none (bag_at old i) (bag_at bags i) bag (value_at (take i values) i) (value_at values i)
      (get_or-take_past values None i i (omega arith)) (adds.each i) value);
}

-- the value at i is taken after those before it
pub AddsValues-less : (old bags : List Bag) (values : List (Option ℤ)) (i : ℕ) (bag : Bag)
    → AddsValues bags old (take i values) → i < length bags → AddsValue bag (bag_at bags i) (value_at values i)
    → AddsValues (set bags i bag) old (take (i + 1) values)
AddsValues-less old bags values i bag adds inside value = record {
  same_length = omega (arith, length-set bags i bag, adds.same_length);
  each = each-set (λ m new of. AddsValue new (bag_at old m) of) bags values None i bag inside adds.each
      (AddsValue-before_none bag (bag_at bags i) (bag_at old i) (value_at (take i values) i) (value_at values i)
      (get_or-take_past values None i i (omega arith)) (adds.each i) value);
}

-- the bag at i is as large as it was
pub size_of-AddsValues : (old bags : List Bag) (values : List (Option ℤ)) (i : ℕ) → AddsValues old bags (take i values)
    → size_of (bag_at bags i) ≡ size_of (bag_at old i)
size_of-AddsValues old bags values i adds = size_of_same (bag_at bags i) (bag_at old i) (record {
  held = λ x. omega (arith, (adds.each i).held x, ap (one_of x) (get_or-take_past values None i i (omega arith)));
})

-- the bag at i holds what it held
pub held_of-AddsValues : (old bags : List Bag) (values : List (Option ℤ)) (i : ℕ) (x : ℤ)
    → AddsValues bags old (take i values) → held_of (bag_at bags i) x ≡ held_of (bag_at old i) x
held_of-AddsValues old bags values i x adds =
    omega (arith, (adds.each i).held x, ap (one_of x) (get_or-take_past values None i i (omega arith)))

-- values that were added can be taken
pub AddsValues-value_at : (old new : List Bag) (values : List (Option ℤ)) → AddsValues old new values → (m : ℕ)
    → ForSome (value_at values m) (λ v. 0 < held_of (bag_at new m) v)
AddsValues-value_at old new values adds m = λ v is. omega (arith, (adds.each m).held v, ap (one_of v) is, one_at-refl v)

-- values that were added and taken leave the bags the same
pub AddsValues-SameBags : (old bags new : List Bag) (values : List (Option ℤ)) → AddsValues old bags values
    → AddsValues new bags values → SameBags old new
AddsValues-SameBags old bags new values adds takes = record {
  same_length = omega (arith, adds.same_length, takes.same_length);
  bags = λ m. record { held = λ x. omega (arith, (adds.each m).held x, (takes.each m).held x) };
}

-- ---- the sizes
-- no bag is larger than there are facts
abbrev pub AreWithin : ℕ → List Bag → Type 0
AreWithin facts bags = All (λ bag. size_of bag ≤ facts) bags

pub AreWithin-AddsValues : (facts : ℕ) (old new : List Bag) (values : List (Option ℤ)) → AddsValues old new values
    → AreWithin facts old → AreWithin (facts + 1) new
AreWithin-AddsValues facts old new values adds within = λ k d inside.
    let there : k < length old = omega (arith, adds.same_length) in
    omega (
      arith,
      (size_of-value (bag_at old k) (bag_at new k) (value_at values k) (adds.each k)).1,
      within k [] there,
      ap size_of (get_or_default new k d [] inside),
    )

pub AreWithin-SameBags : (facts : ℕ) (old new : List Bag) → SameBags old new → AreWithin facts old → AreWithin facts new
AreWithin-SameBags facts old new same within = λ k d inside.
    let there : k < length old = omega (arith, same.same_length) in
    omega (
      arith,
      size_of_same (bag_at old k) (bag_at new k) (same.bags k),
      within k [] there,
      ap size_of (get_or_default new k d [] inside),
    )

-- ---- the tally of facts
-- empty bags are the tally of no fact
pub IsTallyOf-nil : (bags : List Bag) → All (λ bag. size_of bag ≡ 0) bags
    → IsTallyOf [] (record { facts = 0; bags = bags })
IsTallyOf-nil bags empty = record {
  count = refl;
  bags = λ m inside. record { held = λ x. omega (arith, held_le_size (bag_at bags m) x, empty m [] inside) };
}

-- what a tally that holds a fact says of each measure
hold_values-holds_value : (facts : ℕ) (bags : List Bag) (values : List (Option ℤ))
    → hold_values facts bags values ≡ true → (length values ≡ length bags)
    × ((m : ℕ) → m < length bags → holds_value facts (bag_at bags m) (value_at values m) ≡ true)
hold_values-holds_value facts [] [] h = (refl, λ m inside. absurd (omega arith))
hold_values-holds_value facts [] (value ∷ values) h = cc
hold_values-holds_value facts (bag ∷ bags) [] h = cc
hold_values-holds_value facts (bag ∷ bags) (value ∷ values) h =
    let both = and_parts (holds_value facts bag value) (hold_values facts bags values) h in
    let rest = hold_values-holds_value facts bags values both.1 in
    (ap suc rest.0, at both.0 rest.1) where
      at : holds_value facts bag value ≡ true
          → ((m : ℕ) → m < length bags → holds_value facts (bag_at bags m) (value_at values m) ≡ true) → (m : ℕ)
          → m < suc (length bags) → holds_value facts (bag_at (bag ∷ bags) m) (value_at (value ∷ values) m) ≡ true
      at first others zero inside = first
      at first others (suc m) inside = others m (omega arith)

-- a fact that is held is as wide as the tally
pub holds_fact-length : (t : Tally) (values : List (Option ℤ)) → holds_fact t values ≡ true
    → length values ≡ length t.bags
holds_fact-length t values h = (hold_values-holds_value t.facts t.bags values
    (and_parts (nat_lt 0 t.facts) (hold_values t.facts t.bags values) h).1).0

-- the values of a held fact are held
pub holds_fact-value_at : (t : Tally) (values : List (Option ℤ)) → holds_fact t values ≡ true → (m : ℕ)
    → ForSome (value_at values m) (λ v. 0 < held_of (bag_at t.bags m) v)
holds_fact-value_at t values h m = λ v is. ⊎_elim
    (λ inside. ltb-true 0 (held_of (bag_at t.bags m) v) (rw is at (all.1 m inside)))
    (λ past. let none : value_at values m ≡ None = get_or_past values m None (omega (arith, all.0)) in cc)
    (cases_lt m (length t.bags)) where
      all : (length values ≡ length t.bags)
          × ((k : ℕ) → k < length t.bags → holds_value t.facts (bag_at t.bags k) (value_at values k) ≡ true)
      all = hold_values-holds_value t.facts t.bags values
          (and_parts (nat_lt 0 t.facts) (hold_values t.facts t.bags values) h).1

-- after a value that is held is taken there is room for one fact less
size_of-taken : (facts : ℕ) (old new : Bag) (value : Option ℤ) → holds_value facts old value ≡ true
    → AddsValue new old value → size_of old ≤ facts → size_of new ≤ facts - 1
size_of-taken facts old new None held adds within = omega (
  arith,
  ltb-true (size_of old) facts held,
  size_of_same old new (record { held = λ x. omega (arith, adds.held x) }),
)
size_of-taken facts old new (Some v) held adds within =
    omega (arith, within, size_of_one new old v (record { held = adds.held }))

-- after a held fact is taken no bag is larger than there are facts
pub AreWithin-holds_fact : (t : Tally) (new : List Bag) (values : List (Option ℤ)) → holds_fact t values ≡ true
    → AddsValues new t.bags values → AreWithin t.facts t.bags → AreWithin (t.facts - 1) new
AreWithin-holds_fact t new values h adds within = λ k d inside.
    let there : k < length t.bags = omega (arith, adds.same_length) in
    let held = (hold_values-holds_value t.facts t.bags values
    (and_parts (nat_lt 0 t.facts) (hold_values t.facts t.bags values) h).1).1 k there in
    omega (
      arith,
      size_of-taken t.facts (bag_at t.bags k) (bag_at new k) (value_at values k) held (adds.each k) (within k [] there),
      ap size_of (get_or_default new k d [] inside),
    )

-- ---- a list that is written back whole
pub take-append-drop : {A : Type 0} (items new : List A) (n : ℕ) → length items ≡ n → length new ≡ length items
    → take n (new ++ drop (length new) items) ≡ new
take-append-drop items new n is same =
    take-append-le n new (drop (length new) items) (omega arith) ∙ take_all n new (omega arith)
