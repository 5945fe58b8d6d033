-- Laws of tallies that are joined: the bags of one added to those of another, and the tally of the facts of both.
use Rattle.std.proofs.Common.{◌≡◌, ℕ, ◌+◌, ◌<◌, ◌≤◌, List, [], ◌∷◌, ◌++◌, refl, arith, ap, subst, length, set, take}
use Rattle.std.proofs.lemmas.Bool.{cases_lt, cases_eq}
use Rattle.std.proofs.Math.Logic.{⊎_elim}
use Rattle.std.proofs.lemmas.List.{get_or-set_same, get_or-set_other, get_or-take, get_or_default, get_or_past, get_or_push}
use Rattle.std.proofs.lemmas.List.{get_or_append_left, length-append, length-set}
use Rattle.cube_values.specs.Bag.{Bag, AddsBag, SameHeld, size_of}
use Rattle.cube_cells.specs.Tally.{bag_at, AddsBags, SameBags}
use Rattle.cube_values.proofs.BagLaws.{size_of-bag}
use Rattle.cube_cells.proofs.Tallies.ValueLaws.{AreWithin, each-set, get_or-take_past}

-- a bag is as it was where nothing was added yet
AddsBags-bag_at : (old bags more : List Bag) (i : ℕ) → AddsBags old bags (take i more)
    → AddsBag (bag_at old i) (bag_at bags i) []
AddsBags-bag_at old bags more i adds =
    subst (AddsBag (bag_at old i) (bag_at bags i)) (get_or-take_past more [] i i (omega arith)) (adds.each i)

AddsBag-after_nil : (old bag new more : Bag) → AddsBag old bag [] → AddsBag bag new more → AddsBag old new more
AddsBag-after_nil old bag new more first second = record { held = λ x. omega (arith, first.held x, second.held x) }

-- the bag at i is added after those before it
pub AddsBags-more : (old bags more : List Bag) (i : ℕ) (bag : Bag) → AddsBags old bags (take i more) → i < length bags
    → AddsBag (bag_at bags i) bag (bag_at more i) → AddsBags old (set bags i bag) (take (i + 1) more)
AddsBags-more old bags more i bag adds inside adds_here = record {
  same_length = omega (arith, length-set bags i bag, adds.same_length);
  each = each-set (λ m new of. AddsBag (bag_at old m) new of) bags more [] i bag inside adds.each
      (AddsBag-after_nil (bag_at old i) (bag_at bags i) bag (bag_at more i) (AddsBags-bag_at old bags more i adds)
      adds_here);
}

-- the bag at i is as large as it was
pub size_of-AddsBags : (old bags more : List Bag) (i : ℕ) → AddsBags old bags (take i more)
    → size_of (bag_at bags i) ≡ size_of (bag_at old i)
size_of-AddsBags old bags more i adds =
    omega (arith, size_of-bag (bag_at old i) (bag_at bags i) [] (AddsBags-bag_at old bags more i adds))

-- no bag is larger than both
size_of-take : (more : List Bag) (i m : ℕ) → size_of (bag_at (take i more) m) ≤ size_of (bag_at more m)
size_of-take more i m = ⊎_elim
    (λ below. omega (arith, ap size_of (get_or-take i more m [] below)))
    (λ past. omega (arith, ap size_of (get_or-take_past more [] i m past)))
    (cases_lt m i)

pub AddsBags-bound : (old bags more : List Bag) (i : ℕ) → AddsBags old bags (take i more) → (m : ℕ)
    → size_of (bag_at bags m) ≤ size_of (bag_at old m) + size_of (bag_at more m)
AddsBags-bound old bags more i adds m = omega (
  arith,
  size_of-bag (bag_at old m) (bag_at bags m) (bag_at (take i more) m) (adds.each m),
  size_of-take more i m,
)

-- also where the bag at i was lost
pub AddsBags-bound_set : (old bags more : List Bag) (i : ℕ) (bag : Bag) → AddsBags old bags (take i more)
    → i < length bags → size_of bag ≡ 0 → (m : ℕ)
    → size_of (bag_at (set bags i bag) m) ≤ size_of (bag_at old m) + size_of (bag_at more m)
AddsBags-bound_set old bags more i bag adds inside empty m = ⊎_elim
    (λ same. omega (
      arith,
      ap (λ k. size_of (bag_at (set bags i bag) k)) same,
      ap size_of (get_or-set_same bags i bag [] inside),
      empty,
    ))
    (λ apart. omega (arith, ap size_of (get_or-set_other bags i m bag [] apart), AddsBags-bound old bags more i adds m))
    (cases_eq m i)

-- the size of a bag at most the facts, also past the last bag
AreWithin-bag_at : (facts : ℕ) (bags : List Bag) (m : ℕ) → AreWithin facts bags → size_of (bag_at bags m) ≤ facts
AreWithin-bag_at facts bags m within = ⊎_elim
    (λ inside. within m [] inside)
    (λ past. omega (arith, ap size_of (get_or_past bags m [] past)))
    (cases_lt m (length bags))

-- no bag of both is larger than the facts of both
pub AreWithin-both : (facts others : ℕ) (old new more : List Bag) → AreWithin facts old → AreWithin others more
    → ((m : ℕ) → size_of (bag_at new m) ≤ size_of (bag_at old m) + size_of (bag_at more m))
    → AreWithin (facts + others) new
AreWithin-both facts others old new more within_old within_more sizes = λ k d inside.
    omega (
      arith,
      sizes k,
      AreWithin-bag_at facts old k within_old,
      AreWithin-bag_at others more k within_more,
      ap size_of (get_or_default new k d [] inside),
    )

-- and both fit where the facts do
pub AreWithin-room : (facts others : ℕ) (old more : List Bag) → AreWithin facts old → AreWithin others more → (m : ℕ)
    → size_of (bag_at old m) + size_of (bag_at more m) ≤ facts + others
AreWithin-room facts others old more within_old within_more m =
    omega (arith, AreWithin-bag_at facts old m within_old, AreWithin-bag_at others more m within_more)

-- a bag more behind the same bags
pub SameBags-push : (bags copies : List Bag) (bag copy : Bag) → SameBags bags copies → SameHeld bag copy
    → SameBags (bags ++ bag ∷ []) (copies ++ copy ∷ [])
SameBags-push bags copies bag copy same here = record {
  same_length = omega (arith, same.same_length, longer bags bag, longer copies copy);
  bags = λ m. ⊎_elim
      (λ before. rw (
        get_or_append_left bags (bag ∷ []) [] m before,
        get_or_append_left copies (copy ∷ []) [] m (omega (arith, before, same.same_length)),
      ) (same.bags m))
      (λ past. ⊎_elim
      (λ last. rw (
        get_or_push bags bag [] m (omega (arith, last)),
        get_or_push copies copy [] m (omega (arith, last, same.same_length)),
      ) here)
      (λ apart. rw (
        get_or_past (bags ++ bag ∷ []) m [] (omega (arith, past, apart, longer bags bag)),
        get_or_past (copies ++ copy ∷ []) m [] (omega (arith, past, apart, longer copies copy, same.same_length)),
      )
      (record { held = λ x. refl }))
      (cases_eq m (length bags)))
      (cases_lt m (length bags));
} where
  longer : (xs : List Bag) (x : Bag) → length (xs ++ x ∷ []) ≡ length xs + 1
  longer xs x = length-append xs (x ∷ [])
