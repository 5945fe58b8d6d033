-- Laws of ranks that stand two in a word: words compare as the ranks do.
use Rattle.std.proofs.Common.{◌≡◌, ◌∙◌, ◌<◌, ◌/◌, ◌%◌, ◌∷◌, [], ℕ, List, refl, sym, ap, arith, inl, inr}
use Rattle.std.specs.Cmp.Lexicographic.{slice_cmp}
use Rattle.std.specs.Ordering.{nat_cmp, ordering_then}
use Rattle.std.specs.declared.cmp.Ordering.{Ordering}
use Rattle.std.specs.declared.cmp.Ordering.TheVariants.{Less, Equal, Greater}
use Rattle.std.proofs.lemmas.Bool.{cases_lt}
use Rattle.std.proofs.lemmas.Cmp.{nat_cmp_total, tied_itself}
use Rattle.cube_cells.specs.Ranks.{halves}
use Rattle.cube_cells.proofs.Codes.RankLaws.{Greater-from_Less, nat_cmp-Less}

nat_cmp-Greater : (x y : ℕ) → y < x → nat_cmp x y ≡ Greater
nat_cmp-Greater x y above = Greater-from_Less nat_cmp_total x y (nat_cmp-Less y x above)

nat_cmp-Equal : (x y : ℕ) → x ≡ y → nat_cmp x y ≡ Equal
nat_cmp-Equal x y same = ap (λ n. nat_cmp n y) same ∙ tied_itself nat_cmp_total y

-- words whose higher halves are the same compare as their lower halves do
low-cmp : (x y : ℕ) → x / 4294967296 ≡ y / 4294967296 → nat_cmp (x % 4294967296) (y % 4294967296) ≡ nat_cmp x y
low-cmp x y same = elim (cases_lt (x % 4294967296) (y % 4294967296)) [
  | inl below ↦
      nat_cmp-Less (x % 4294967296) (y % 4294967296) below ∙ sym (nat_cmp-Less x y (omega (arith, below, same)))
  | inr not_below ↦ elim (cases_lt (y % 4294967296) (x % 4294967296)) [
    | inl above ↦
        nat_cmp-Greater (x % 4294967296) (y % 4294967296) above
        ∙ sym (nat_cmp-Greater x y (omega (arith, above, same)))
    | inr not_above ↦
        nat_cmp-Equal (x % 4294967296) (y % 4294967296) (omega (arith, not_below, not_above))
        ∙ sym (nat_cmp-Equal x y (omega (arith, not_below, not_above, same)))
  ]
]

-- a word compares by its higher half, and then by its lower
word-cmp : (x y : ℕ)
    → ordering_then (nat_cmp (x / 4294967296) (y / 4294967296)) (nat_cmp (x % 4294967296) (y % 4294967296)) ≡ nat_cmp x y
word-cmp x y =
    let low = nat_cmp (x % 4294967296) (y % 4294967296) in
    elim (cases_lt (x / 4294967296) (y / 4294967296)) [
      | inl below ↦
          ap (λ r. ordering_then r low) (nat_cmp-Less (x / 4294967296) (y / 4294967296) below)
          ∙ sym (nat_cmp-Less x y (omega (arith, below)))
      | inr not_below ↦ elim (cases_lt (y / 4294967296) (x / 4294967296)) [
        | inl above ↦
            ap (λ r. ordering_then r low) (nat_cmp-Greater (x / 4294967296) (y / 4294967296) above)
            ∙ sym (nat_cmp-Greater x y (omega (arith, above)))
        | inr not_above ↦
            let same : x / 4294967296 ≡ y / 4294967296 = omega (arith, not_below, not_above) in
            ap (λ r. ordering_then r low) (nat_cmp-Equal (x / 4294967296) (y / 4294967296) same) ∙ low-cmp x y same
      ]
    ]

then-assoc : (a b c : Ordering) → ordering_then (ordering_then a b) c ≡ ordering_then a (ordering_then b c)
then-assoc Less b c = refl
then-assoc Equal b c = refl
then-assoc Greater b c = refl

-- words compare as the numbers in them do
pub halves-cmp : (xs ys : List ℕ) → slice_cmp nat_cmp xs ys ≡ slice_cmp nat_cmp (halves xs) (halves ys)
halves-cmp [] [] = refl
halves-cmp [] (y ∷ ys) = refl
halves-cmp (x ∷ xs) [] = refl
halves-cmp (x ∷ xs) (y ∷ ys) =
    let rest = slice_cmp nat_cmp (halves xs) (halves ys) in
    ap (λ r. ordering_then (nat_cmp x y) r) (halves-cmp xs ys)
    ∙ ap (λ r. ordering_then r rest) (sym (word-cmp x y))
    ∙ then-assoc (nat_cmp (x / 4294967296) (y / 4294967296)) (nat_cmp (x % 4294967296) (y % 4294967296)) rest
