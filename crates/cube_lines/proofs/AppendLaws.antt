-- How the beginning of a text grows in a writer.
use Rattle.std.proofs.Common.{◌≡◌, ℕ, ◌+◌, ◌-◌, List, ◌++◌, length, take, drop, sym, arith, length-drop}
use Rattle.std.proofs.Common.{take-append-drop}
use Rattle.std.specs.Prelude.{Option}
use Rattle.std.specs.Io.KnownBytes.{Appends}
use Rattle.std.proofs.KnownBytes.{Appends-trans}
use Rattle.std.proofs.lemmas.List.{drop-take, take-take, take_all}

-- the first i elements, and n of what is left after them
take-plus : (i n : ℕ) (xs : List ℕ) → take (i + n) xs ≡ take i xs ++ take n (drop i xs)
take-plus i n xs =
    let front = take-take i (i + n) xs (omega arith) in
    rw (front, drop-take i n xs) at (sym (take-append-drop i (take (i + n) xs)))

-- after a text's first i bytes, n more of what a slice from i on holds
pub Appends-take : (old mid new : Option (List ℕ)) (text : List ℕ) (i n : ℕ)
    → Appends old mid (take i text) → Appends mid new (take n (take (length text - i) (drop i text)))
    → Appends old new (take (i + n) text)
Appends-take old mid new text i n before more =
    let size = length-drop i text in
    let rest = take_all (length text - i) (drop i text) (omega arith) in
    rw (take-plus i n text) (Appends-trans old mid new _ _ before (rw rest at more))
