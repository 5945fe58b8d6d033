-- Laws of values that are put in another form.
use Rattle.std.proofs.Common.{◌≡◌, arith, ap, sym}
use Rattle.cube_values.specs.Bag.{Bag, held_of, SameHeld, AddsBag}

-- a copy
pub SameHeld-from_equal : (a b : Bag) → b ≡ a → SameHeld a b
SameHeld-from_equal a b is = record { held = λ x. ap (λ (bag : Bag). held_of bag x) (sym is) }

-- what is added to a copy of one bag is added to the other one
pub AddsBag-of_copy : (a b copy new : Bag) → SameHeld b copy → AddsBag copy new a → AddsBag a new b
AddsBag-of_copy a b copy new same adds = record { held = λ x. omega (arith, same.held x, adds.held x) }
