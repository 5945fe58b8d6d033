-- What a log keeps of its pairs: of those that were added, of the numbers that were taken away, and of pairs in order.
use Rattle.std.specs.Prelude.{◌≡◌, ℕ, ◌+◌, ◌^◌, ◌<◌, ◌≤◌, ◌≤ℤ◌, ◌<ℤ◌, ℤ, List, [], ◌∷◌, suc, zero, Option, IfSome}
use Rattle.std.specs.Prelude.{IfNone, length, slice_index_or, if◌then◌else◌}
use Rattle.std.specs.Ordering.{int_eq}
use Rattle.std.specs.List.{AllWithin}
use Rattle.cube_values.specs.Bag.{Bag, held_of, size_of}
use Rattle.cube_values.specs.Narrow.{times_in}

-- the bag without one v, where it holds one
abbrev pub without_one : ℤ → Bag → Bag
without_one v [] = []
without_one v ((x, zero) ∷ bag) = (x, zero) ∷ without_one v bag
without_one v ((x, suc n) ∷ bag) = if int_eq v x then (x, n) ∷ bag else (x, suc n) ∷ without_one v bag

-- the bag without each of the numbers of a list
abbrev pub without : List ℤ → Bag → Bag
without [] bag = bag
without (v ∷ numbers) bag = without numbers (without_one v bag)

-- the bag holds each number at least as often as the list does
pub record Covers (bag : Bag) (numbers : List ℤ) : Type 0 where
  pub times : (x : ℤ) → times_in numbers x ≤ held_of bag x

-- the old bag holds each number as often as the new one and the list together
pub record TakesAll (old new : Bag) (numbers : List ℤ) : Type 0 where
  pub held : (x : ℤ) → held_of old x ≡ held_of new x + times_in numbers x

-- what is owed is held, and the total, of 64 bits, is no less than the size of the bag;
-- where there is none, nothing is owed
pub record Owes (bag : Bag) (owed : List ℤ) (total : Option ℕ) : Type 0 where
  pub covered : Covers bag owed
  pub size : IfSome total (λ n. (size_of bag ≤ n) × (n < 2 ^ 64))
  pub none : IfNone total (owed ≡ [])

-- the numbers of the pairs rise, equal ones side by side
abbrev pub Rises : Bag → Type 0
Rises bag = (i j : ℕ) (d : ℤ × ℕ) → i ≤ j → j < length bag → (slice_index_or bag i d).0 ≤ℤ (slice_index_or bag j d).0

-- below this place a pair with an equal number next to it counts nothing
abbrev pub IsJoined : Bag → ℕ → Type 0
IsJoined bag n = (k : ℕ) (d : ℤ × ℕ) → k + 1 < n → (slice_index_or bag k d).0 ≡ (slice_index_or bag (k + 1) d).0
    → (slice_index_or bag k d).1 ≡ 0

-- the numbers rise, and each is counted in the last of its pairs
pub record IsOrdered (bag : Bag) : Type 0 where
  pub rises : Rises bag
  pub joined : IsJoined bag (length bag)

-- the pairs are in order, and nothing is owed
pub record IsSettled (bag : Bag) (owed : List ℤ) : Type 0 where
  pub ordered : IsOrdered bag
  pub none : owed ≡ []

-- the pair at this place is of the number, which is held as often as it says
pub record IsLastOf (bag : Bag) (v : ℤ) (place : ℕ) : Type 0 where
  pub within : place < length bag
  pub number : (d : ℤ × ℕ) → (slice_index_or bag place d).0 ≡ v
  pub count : (d : ℤ × ℕ) → (slice_index_or bag place d).1 ≡ held_of bag v
  pub some : 0 < held_of bag v

-- the numbers before this place are at most v, and those from it on above
pub record IsCut (bag : Bag) (v : ℤ) (past : ℕ) : Type 0 where
  pub within : past ≤ length bag
  pub below : AllWithin (λ e. e.0 ≤ℤ v) bag 0 past
  pub above : AllWithin (λ e. v <ℤ e.0) bag past (length bag)
