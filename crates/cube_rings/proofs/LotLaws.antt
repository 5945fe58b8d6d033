-- Laws of lots: what has gone over a link of them, and what was taken of that.
use Rattle.std.proofs.Common.{append_assoc, ◌≡◌, List, [], ◌∷◌, ◌++◌, length, take, ap, sym, subst, ◌∙◌, arith, refl}
use Rattle.std.specs.Prelude.{◌-◌, Option, Some, None, IfSome, IfNone}
use Rattle.std.specs.Option.{option_to_list}
use Rattle.std.proofs.Math.Seq.{take-append_seam}
use Rattle.std.proofs.lemmas.List.{length-append, map-append}
use Rattle.cube_core.specs.declared.change.Item.{Item}
use Rattle.cube_rings.specs.Lots.{all_but, EndsIn}
use Rattle.cube_rings.specs.Parcels.{lines_of}
use Rattle.cube_rings.specs.declared.parcel.Parcel.{Parcel}
use Rattle.cube_rings.specs.declared.parcel.Parcel.TheVariants.{Line}

-- a list whose last elements are known
pub all_but-known : {X : Type 0} (whole front last : List X) → whole ≡ front ++ last → all_but last whole ≡ front
all_but-known whole front last is =
    let count : length (front ++ last) - length last ≡ length front = omega (arith, length-append front last) in
    subst (λ xs. all_but last xs ≡ front) (sym is)
    (ap (λ n. take n (front ++ last)) count ∙ take-append_seam front last)

pub EndsIn-known : {X : Type 0} (whole front last : List X) → whole ≡ front ++ last → EndsIn last whole
EndsIn-known whole front last is = is ∙ ap (λ xs. xs ++ last) (sym (all_but-known whole front last is))

-- the first lines of a lot are taken
pub whole-front : (whole : List Parcel) (first rest : List Item) → EndsIn (lines_of (first ++ rest)) whole
    → whole ≡ (all_but (lines_of (first ++ rest)) whole ++ lines_of first) ++ lines_of rest
whole-front whole first rest ends =
    ends
    ∙ ap (λ (xs : List Parcel). all_but (lines_of (first ++ rest)) whole ++ xs) (map-append Line first rest)
    ∙ sym (append_assoc (all_but (lines_of (first ++ rest)) whole) (lines_of first) (lines_of rest))

-- what was taken once the next line of a lot is, where one is left
pub line-taken : (whole : List Parcel) (before : List Item) (next : Option Item) (rest : List Item)
    → before ≡ option_to_list next ++ rest → EndsIn (lines_of before) whole
    → IfSome next (λ item. all_but (lines_of rest) whole ≡ all_but (lines_of before) whole ++ Line item ∷ [])
line-taken whole before None rest is ends = tt
line-taken whole before (Some item) rest is ends =
    rw is (all_but-known whole _ (lines_of rest) (whole-front whole (item ∷ []) rest (rw is at ends)))

pub none-taken : (whole : List Parcel) (before : List Item) (next : Option Item) (rest : List Item)
    → before ≡ option_to_list next ++ rest
    → IfNone next (all_but (lines_of rest) whole ≡ all_but (lines_of before) whole)
none-taken whole before None rest is = rw is refl
none-taken whole before (Some item) rest is = tt
