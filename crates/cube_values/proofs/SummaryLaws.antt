-- Laws of summaries: what is kept of the numbers of two of them together.
use Rattle.std.proofs.Common.{◌≡◌, ◌+◌, ◌++◌, arith}
use Rattle.std.specs.Prelude.{ℤ}
use Rattle.std.specs.Int.{int_min, int_max}
use Rattle.cube_values.specs.Bag.{Bag, size_of, HasEnds}
use Rattle.cube_values.proofs.BagLaws.{held_le_size, size_of-bag}
use Rattle.cube_values.proofs.EndLaws.{AddsBag-append, HasEnds-AddsBag, HasEnds-SameHeld}

-- the sizes add up
pub size_of-append : (old more : Bag) → size_of (old ++ more) ≡ size_of old + size_of more
size_of-append old more = size_of-bag old (old ++ more) more (AddsBag-append old more)

-- the first bag is empty: the ends are those of the second
pub HasEnds-first_empty : (old more : Bag) (l g : ℤ) → size_of old ≡ 0 → HasEnds more l g → HasEnds (old ++ more) l g
HasEnds-first_empty old more l g none ends = HasEnds-SameHeld more (old ++ more) l g
    (record { held = λ x. omega (arith, none, held_le_size old x, (AddsBag-append old more).held x) }) ends

-- the second bag is empty: the ends stay
pub HasEnds-second_empty : (old more : Bag) (l g : ℤ) → size_of more ≡ 0 → HasEnds old l g → HasEnds (old ++ more) l g
HasEnds-second_empty old more l g none ends = HasEnds-SameHeld old (old ++ more) l g
    (record { held = λ x. omega (arith, none, held_le_size more x, (AddsBag-append old more).held x) }) ends

-- the ends of both
pub HasEnds-append : (old more : Bag) (k l g h : ℤ) → HasEnds old k l → HasEnds more g h
    → HasEnds (old ++ more) (int_min k g) (int_max l h)
HasEnds-append old more k l g h first second =
    HasEnds-AddsBag old (old ++ more) more k l g h (AddsBag-append old more) first second
