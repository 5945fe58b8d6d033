-- A bag (multiset) of whole numbers, kept as numbers with how often each is held:
-- this project's choice. Nothing speaks of its order.
use Rattle.std.specs.Prelude.{◌≡◌, ℕ, ◌*◌, ◌+◌, ◌<◌, ◌≤ℤ◌, ℤ, List, sum_by, if◌then◌else◌}
use Rattle.std.specs.Ordering.{int_eq}

-- pairs of a number and a count; a number may stand in several pairs, and its counts then add up
abbrev pub Bag : Type 0
Bag = List (ℤ × ℕ)

-- what the numbers of a bag come to where each counts as much as f says of it
abbrev pub weight_of : (ℤ → ℕ) → Bag → ℕ
weight_of f bag = sum_by (λ e. f e.0 * e.1) bag

-- 1 where v is the number x, else 0
abbrev pub one_at : ℤ → ℤ → ℕ
one_at x v = if int_eq x v then 1 else 0

-- how often a number is held
abbrev pub held_of : Bag → ℤ → ℕ
held_of bag x = weight_of (one_at x) bag

-- how many numbers are held, each counted as often as it is held
abbrev pub size_of : Bag → ℕ
size_of bag = weight_of (λ _. 1) bag

-- the two bags hold each number equally often
pub record SameHeld (a b : Bag) : Type 0 where
  pub held : (x : ℤ) → held_of a x ≡ held_of b x

-- the new bag holds v n times more than the old one, and each other number as often
pub record AddsTimes (old new : Bag) (v : ℤ) (n : ℕ) : Type 0 where
  pub held : (x : ℤ) → held_of new x ≡ held_of old x + one_at x v * n

-- the new bag holds one v more than the old one, and each other number as often
pub record AddsOne (old new : Bag) (v : ℤ) : Type 0 where
  pub held : (x : ℤ) → held_of new x ≡ held_of old x + one_at x v

-- the new bag holds each number as often as the old one and the other together
pub record AddsBag (old new more : Bag) : Type 0 where
  pub held : (x : ℤ) → held_of new x ≡ held_of old x + held_of more x

-- the bag holds m, and nothing below it
pub record HasLeast (bag : Bag) (m : ℤ) : Type 0 where
  pub held : 0 < held_of bag m
  pub below : (x : ℤ) → 0 < held_of bag x → m ≤ℤ x

-- the bag holds m, and nothing above it
pub record HasGreatest (bag : Bag) (m : ℤ) : Type 0 where
  pub held : 0 < held_of bag m
  pub above : (x : ℤ) → 0 < held_of bag x → x ≤ℤ m

-- these are the ends of the bag
pub record HasEnds (bag : Bag) (low high : ℤ) : Type 0 where
  pub least : HasLeast bag low
  pub greatest : HasGreatest bag high
