-- Laws of keys that are compared by their texts: codes compare as their coordinates do.
use Rattle.std.proofs.Common.{◌≡◌, ℕ, ◌<◌, ◌≤◌, List, [], ◌∷◌, refl, ap, ◌∙◌, arith, inl, inr, ◌⊎◌, get_or, drop}
use Rattle.std.specs.Cmp.Lexicographic.{slice_cmp}
use Rattle.std.specs.Ordering.{nat_cmp}
use Rattle.std.specs.declared.cmp.Ordering.TheVariants.{Equal}
use Rattle.std.proofs.lemmas.Bool.{cases_eq}
use Rattle.std.proofs.lemmas.Cmp.{nat_cmp_total, nat_list_cmp_total, tied_itself}
use Rattle.cube_core.specs.Order.{coord_cmp}
use Rattle.cube_core.specs.declared.key.Coord.{Coord}
use Rattle.cube_core.specs.declared.key.Coord.TheVariants as coord
use Rattle.cube_cells.specs.Codes.{Dictionaries, coord_at, coords_at, all_code, null_code}
use Rattle.cube_cells.proofs.Codes.RankLaws.{nat_cmp-Less, Greater-from_Less}
use Rattle.cube_cells.proofs.Codes.DictionaryLaws.{coord_at-place}

-- the first coordinate of codes, and the others
pub first_coord : (texts : List (List ℕ)) (dictionaries : Dictionaries) (codes : List ℕ)
    → coords_at (texts ∷ dictionaries) codes
    ≡ coord_at texts (get_or codes 0 all_code) ∷ coords_at dictionaries (drop 1 codes)
first_coord texts dictionaries [] = refl
first_coord texts dictionaries (code ∷ codes) = refl

-- what a code is: ALL's, null's, or below them
all_code-cases : (code : ℕ) → code ≤ all_code → (code ≡ all_code) ⊎ ((code ≡ null_code) ⊎ (code < null_code))
all_code-cases code small = elim (cases_eq code all_code) [
  | inl all ↦ inl all
  | inr other ↦ elim (cases_eq code null_code) [
    | inl null ↦ inr (inl null)
    | inr low ↦ inr (inr (omega (arith, small, other, low)))
  ]
]

-- codes of which one is null's or ALL's compare as their coordinates do
pub compared_high : (texts others : List (List ℕ)) (a b : ℕ) → a ≤ all_code → b ≤ all_code
    → (null_code ≤ a) ⊎ (null_code ≤ b) → nat_cmp a b ≡ coord_cmp (coord_at texts a) (coord_at others b)
compared_high texts others a b small_a small_b high = by_kind (all_code-cases a small_a) (all_code-cases b small_b)
  where
    between : (x y : ℕ) (ca cb : Coord) → a ≡ x → b ≡ y → coord_at texts a ≡ ca → coord_at others b ≡ cb
        → nat_cmp x y ≡ coord_cmp ca cb → nat_cmp a b ≡ coord_cmp (coord_at texts a) (coord_at others b)
    between x y ca cb is_a is_b at_a at_b same =
        rw (at_a, at_b) (ap (λ n. nat_cmp n b) is_a ∙ ap (nat_cmp x) is_b ∙ same)

    text : List (List ℕ) → ℕ → Coord
    text from code = coord.Text (get_or from code [])

    by_kind : (a ≡ all_code) ⊎ ((a ≡ null_code) ⊎ (a < null_code)) → (b ≡ all_code)
        ⊎ ((b ≡ null_code) ⊎ (b < null_code)) → nat_cmp a b ≡ coord_cmp (coord_at texts a) (coord_at others b)
    by_kind (inl all_a) (inl all_b) = between all_code all_code coord.All coord.All all_a all_b
        (ap (coord_at texts) all_a) (ap (coord_at others) all_b) (tied_itself nat_cmp_total all_code)
    by_kind (inl all_a) (inr (inl null_b)) = between all_code null_code coord.All coord.Null all_a null_b
        (ap (coord_at texts) all_a) (ap (coord_at others) null_b)
        (Greater-from_Less nat_cmp_total all_code null_code (nat_cmp-Less null_code all_code (omega arith)))
    by_kind (inl all_a) (inr (inr low_b)) = between all_code b coord.All (text others b) all_a refl
        (ap (coord_at texts) all_a) (coord_at-place others b low_b)
        (Greater-from_Less nat_cmp_total all_code b (nat_cmp-Less b all_code (omega (arith, low_b))))
    by_kind (inr (inl null_a)) (inl all_b) = between null_code all_code coord.Null coord.All null_a all_b
        (ap (coord_at texts) null_a) (ap (coord_at others) all_b) (nat_cmp-Less null_code all_code (omega arith))
    by_kind (inr (inl null_a)) (inr (inl null_b)) = between null_code null_code coord.Null coord.Null null_a null_b
        (ap (coord_at texts) null_a) (ap (coord_at others) null_b) (tied_itself nat_cmp_total null_code)
    by_kind (inr (inl null_a)) (inr (inr low_b)) =
        between null_code b coord.Null (text others b) null_a refl (ap (coord_at texts) null_a)
        (coord_at-place others b low_b) (Greater-from_Less nat_cmp_total null_code b (nat_cmp-Less b null_code low_b))
    by_kind (inr (inr low_a)) (inl all_b) = between a all_code (text texts a) coord.All refl all_b
        (coord_at-place texts a low_a) (ap (coord_at others) all_b) (nat_cmp-Less a all_code (omega (arith, low_a)))
    by_kind (inr (inr low_a)) (inr (inl null_b)) = between a null_code (text texts a) coord.Null refl null_b
        (coord_at-place texts a low_a) (ap (coord_at others) null_b) (nat_cmp-Less a null_code low_a)
    by_kind (inr (inr low_a)) (inr (inr low_b)) =
        absurd (elim high [ inl up ↦ omega (arith, up, low_a) | inr up ↦ omega (arith, up, low_b) ])

-- a coordinate ties with itself
pub coord_cmp-refl : (c : Coord) → coord_cmp c c ≡ Equal
coord_cmp-refl (coord.Text a) = tied_itself nat_list_cmp_total a
coord_cmp-refl coord.Null = refl
coord_cmp-refl coord.All = refl

-- other codes compare as their texts do
pub compared_texts : (texts others : List (List ℕ)) (a b : ℕ) → a < null_code → b < null_code
    → slice_cmp nat_cmp (get_or texts a []) (get_or others b []) ≡ coord_cmp (coord_at texts a) (coord_at others b)
compared_texts texts others a b low_a low_b = rw (coord_at-place texts a low_a, coord_at-place others b low_b) refl
