-- Cells that share the facts of a group out among them have that group's facts, up to order.
use Rattle.std.proofs.Common.{◌≡◌, ◌+◌, Bool, true, false, cond, List, [], ◌∷◌, ◌++◌, filter, count_by, flat_map}
use Rattle.std.proofs.Common.{Contains, Ordering, refl, sym, ap, ◌∙◌, subst, arith, inl, inr}
use Rattle.std.specs.List.{AllByRecursion}
use Rattle.std.specs.List.Sorted.{IsStrictlySortedBy}
use Rattle.std.specs.Cmp.{IsTotalOrder}
use Rattle.std.proofs.lemmas.Bool.{cases_Bool, false_from_ne_true}
use Rattle.std.proofs.lemmas.Map.Keys.{sorted_tail}
use Rattle.cube_core.specs.Covers.{covers}
use Rattle.cube_core.specs.Group.{group_of}
use Rattle.cube_core.specs.declared.fact.Fact.{Fact}
use Rattle.cube_core.specs.declared.key.Key.{Key}
use Rattle.cube_laws.proofs.SortedLaws.{IsStrictlySortedBy-head}
use Rattle.cube_core.proofs.ReorderedLaws.{Reordered, none, next, exchange, both, Reordered-refl}
use Rattle.cube_core.proofs.ReorderedLaws.{Reordered-sym}
use Rattle.cube_core.proofs.ListLaws.{Contains-cases, Contains-head, Contains-tail, count_by-failed, count_by-none}
use Rattle.cube_core.proofs.ListLaws.{count_by-passed, filter-failed, filter-passed}

-- where one element of a strictly sorted list passes, the count is 1
pub count_by-one : {X : Type 0} {c : X → X → Ordering} → IsTotalOrder c → (p : X → Bool) (one : X) (xs : List X) →
    IsStrictlySortedBy c xs → Contains xs one → p one ≡ true → ((x : X) → Contains xs x → p x ≡ true → x ≡ one) →
    count_by p xs ≡ 1
count_by-one o p one [] sorted among passes alone = absurd (omega (arith, among.1))
count_by-one {X} {c} o p one (x ∷ xs) sorted among passes alone = elim (Contains-cases x xs one among) [
  | inl here ↦
      count_by-passed p x xs (ap p here ∙ passes)
      ∙ ap (λ n. 1 + n) (count_by-none p xs (λ y after. false_from_ne_true (p y) (λ passes_too.
      IsStrictlySortedBy-head o x xs sorted
      (subst (Contains xs) (alone y (Contains-tail x xs y after) passes_too ∙ sym here) after))))
  | inr after ↦
      count_by-failed p x xs (false_from_ne_true (p x) (λ passes_too.
      IsStrictlySortedBy-head o x xs sorted
      (subst (Contains xs) (sym (alone x (Contains-head x xs) passes_too)) after)))
      ∙ count_by-one o p one xs (sorted_tail c x xs sorted) after passes
      (λ y y_after. alone y (Contains-tail x xs y y_after))
]

-- an element from behind a list comes before it
Reordered-middle : {X : Type 0} (x : X) (xs ys : List X) → Reordered (xs ++ x ∷ ys) (x ∷ (xs ++ ys))
Reordered-middle x [] ys = Reordered-refl (x ∷ ys)
Reordered-middle x (y ∷ xs) ys = both (next (Reordered-middle x xs ys)) exchange

-- the lists behind a list are in another order
Reordered-append : {X : Type 0} (zs : List X) {xs ys : List X} → Reordered xs ys → Reordered (zs ++ xs) (zs ++ ys)
Reordered-append [] r = r
Reordered-append (z ∷ zs) r = next (Reordered-append zs r)

-- so are those before a list
Reordered-append_front : {X : Type 0} (zs : List X) {xs ys : List X} → Reordered xs ys
    → Reordered (xs ++ zs) (ys ++ zs)
Reordered-append_front zs none = Reordered-refl zs
Reordered-append_front zs (next r) = next (Reordered-append_front zs r)
Reordered-append_front zs exchange = exchange
Reordered-append_front zs (both r t) = both (Reordered-append_front zs r) (Reordered-append_front zs t)

-- two lists that begin a list change places
Reordered-exchange : {X : Type 0} (xs ys zs : List X) → Reordered (xs ++ (ys ++ zs)) (ys ++ (xs ++ zs))
Reordered-exchange [] ys zs = Reordered-refl (ys ++ zs)
Reordered-exchange (x ∷ xs) ys zs =
    both (next (Reordered-exchange xs ys zs)) (Reordered-sym (Reordered-middle x ys (xs ++ zs)))

-- lists in another order, joined, are joined in another order
pub flat_map-Reordered : {X Y : Type 0} (f : X → List Y) {xs ys : List X} → Reordered xs ys
    → Reordered (flat_map f xs) (flat_map f ys)
flat_map-Reordered f none = none
flat_map-Reordered f (next {x} r) = Reordered-append (f x) (flat_map-Reordered f r)
flat_map-Reordered f (exchange {x} {y} {xs}) = Reordered-exchange (f x) (f y) (flat_map f xs)
flat_map-Reordered f (both r t) = both (flat_map-Reordered f r) (flat_map-Reordered f t)

-- and so are lists each of which is in another order
pub flat_map-each_Reordered : {X Y : Type 0} (f g : X → List Y) (xs : List X)
    → AllByRecursion (λ x. Reordered (f x) (g x)) xs → Reordered (flat_map f xs) (flat_map g xs)
flat_map-each_Reordered f g [] each = none
flat_map-each_Reordered f g (x ∷ xs) each =
    both (Reordered-append_front (flat_map f xs) each.0)
    (Reordered-append (g x) (flat_map-each_Reordered f g xs each.1))

module _ {X A : Type 0} (p : A → Bool) (x : X) (g : A → List X) where
  -- the list of an element, with x before it where the element passes
  with_x : A → List X
  with_x a = cond (p a) (x ∷ g a) (g a)

  -- where no element passes, x is in no list
  with_x-none : (as' : List A) → count_by p as' ≡ 0 → flat_map with_x as' ≡ flat_map g as'
  unfolding with_x
  with_x-none [] h = refl
  with_x-none (a ∷ as') h = elim (cases_Bool (p a)) [
    | inl passes ↦ absurd (omega (arith, h, count_by-passed p a as' passes))
    | inr fails ↦
        ap (λ b. cond b (x ∷ g a) (g a) ++ flat_map with_x as') fails
        ∙ ap (λ xs. g a ++ xs) (with_x-none as' (sym (count_by-failed p a as' fails) ∙ h))
  ]

  -- where one element passes, x is in one list
  with_x-one : (as' : List A) → count_by p as' ≡ 1 → Reordered (flat_map with_x as') (x ∷ flat_map g as')
  unfolding with_x
  with_x-one [] h = absurd (omega arith)
  with_x-one (a ∷ as') h = elim (cases_Bool (p a)) [
    | inl passes ↦
        let rest : count_by p as' ≡ 0 = omega (arith, h, count_by-passed p a as' passes) in
        let same : flat_map with_x (a ∷ as') ≡ x ∷ flat_map g (a ∷ as')
        = ap (λ b. cond b (x ∷ g a) (g a) ++ flat_map with_x as') passes
        ∙ ap (λ xs. (x ∷ g a) ++ xs) (with_x-none as' rest) in
        subst (λ xs. Reordered xs (x ∷ flat_map g (a ∷ as'))) (sym same) (Reordered-refl (x ∷ flat_map g (a ∷ as')))
    | inr fails ↦
        let rest : count_by p as' ≡ 1 = sym (count_by-failed p a as' fails) ∙ h in
        let same : flat_map with_x (a ∷ as') ≡ g a ++ flat_map with_x as'
        = ap (λ b. cond b (x ∷ g a) (g a) ++ flat_map with_x as') fails in
        subst (λ xs. Reordered xs (x ∷ flat_map g (a ∷ as'))) (sym same)
        (both (Reordered-append (g a) (with_x-one as' rest)) (Reordered-middle x (g a) (flat_map g as')))
  ]

-- the facts of keys' groups, one group after the other
abbrev pub joined_groups : List Key → List Fact → List Fact
joined_groups keys facts = flat_map (λ key. group_of key facts) keys

-- of the facts that pass a test one of these keys covers each, and of the others none
pub record SharedOut (keys : List Key) (test : Fact → Bool) (fact : Fact) : Type 0 where
  pub one : test fact ≡ true → count_by (λ key. covers key fact) keys ≡ 1
  pub no_other : test fact ≡ false → count_by (λ key. covers key fact) keys ≡ 0

-- the groups of no facts
joined_groups-nil : (keys : List Key) → joined_groups keys [] ≡ []
joined_groups-nil [] = refl
joined_groups-nil (key ∷ keys) = joined_groups-nil keys

-- the groups of keys that share out what passes a test, joined
pub joined_groups-filter : (keys : List Key) (test : Fact → Bool) (facts : List Fact) →
    AllByRecursion (SharedOut keys test) facts → Reordered (joined_groups keys facts) (filter test facts)
unfolding with_x
joined_groups-filter keys test [] shared = subst (λ xs. Reordered xs []) (sym (joined_groups-nil keys)) none
joined_groups-filter keys test (fact ∷ facts) shared = elim (cases_Bool (test fact)) [
  | inl passes ↦
      subst (Reordered (joined_groups keys (fact ∷ facts))) (sym (filter-passed test fact facts passes))
      (both (one_more (shared.0.one passes)) (next (joined_groups-filter keys test facts shared.1)))
  | inr fails ↦
      subst (Reordered (joined_groups keys (fact ∷ facts))) (sym (filter-failed test fact facts fails))
      (subst (λ xs. Reordered xs (filter test facts)) (sym (none_more (shared.0.no_other fails)))
      (joined_groups-filter keys test facts shared.1))
]
  where
    one_more : count_by (λ key. covers key fact) keys ≡ 1 →
        Reordered (joined_groups keys (fact ∷ facts)) (fact ∷ joined_groups keys facts)
    one_more h = with_x-one (λ key. covers key fact) fact (λ key. group_of key facts) keys h

    none_more : count_by (λ key. covers key fact) keys ≡ 0 →
        joined_groups keys (fact ∷ facts) ≡ joined_groups keys facts
    none_more h = with_x-none (λ key. covers key fact) fact (λ key. group_of key facts) keys h
