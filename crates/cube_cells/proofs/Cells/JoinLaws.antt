-- Laws of cells that stand behind others: what is found in them, and that their codes differ.
use Rattle.std.proofs.Common.{◌≡◌, [], ◌∷◌, ◌++◌, false, ◌||◌, refl, sym, Option, Some, None, inl, inr}
use Rattle.std.specs.Prelude.{All, is_some}
use Rattle.std.specs.List.{AllByRecursion, IsDistinct}
use Rattle.std.specs.Map.{keys_of}
use Rattle.std.specs.Ordering.{eq_by_cmp}
use Rattle.std.proofs.lemmas.Bool.{cases_Bool}
use Rattle.std.proofs.lemmas.List.Elements.{All-head, All-tail}
use Rattle.std.proofs.lemmas.Map.Keys.{IsDistinct-cons, IsDistinct-head, IsDistinct-tail}
use Rattle.cube_core.specs.Order.{key_cmp}
use Rattle.cube_core.specs.declared.key.Key.{Key}
use Rattle.cube_cells.specs.Codes.{Dictionaries, key_at}
use Rattle.cube_cells.specs.Coded.{CodedCells, same_codes, coded_at, decoded}
use Rattle.cube_cells.specs.Cube.{cell_at}
use Rattle.cube_cells.specs.Tally.{Tally}
use Rattle.cube_cells.specs.Walk.{AreApart}
use Rattle.cube_cells.specs.declared.cube.codes.Codes.{Codes}

-- ---- cells of two lists
-- the first that is there
abbrev pub either : Option Tally → Option Tally → Option Tally
either None b = b
either (Some t) b = Some t

pub coded_at-append : (a b : CodedCells) (k : Codes) → coded_at (a ++ b) k ≡ either (coded_at a k) (coded_at b k)
coded_at-append [] b k = refl
coded_at-append (e ∷ a) b k = elim (cases_Bool (same_codes k e.0)) [
  | inl same ↦ rw same refl
  | inr other ↦ rw other (coded_at-append a b k)
]

pub cell_at-append : (dictionaries : Dictionaries) (a b : CodedCells) (key : Key)
    → cell_at (decoded dictionaries (a ++ b)) key
    ≡ either (cell_at (decoded dictionaries a) key) (cell_at (decoded dictionaries b) key)
cell_at-append dictionaries [] b key = refl
cell_at-append dictionaries (e ∷ a) b key = elim (cases_Bool (eq_by_cmp key_cmp key (key_at dictionaries e.0.codes))) [
  | inl same ↦ rw same refl
  | inr other ↦ rw other (cell_at-append dictionaries a b key)
]

pub is_some-either : (a b : Option Tally) → is_some (either a b) ≡ (is_some a || is_some b)
is_some-either None b = refl
is_some-either (Some t) b = refl

-- codes that no cell has differ from those of each
keys_of-coded_at : (k : Codes) (cells : CodedCells) → coded_at cells k ≡ None
    → AllByRecursion (λ y. same_codes k y ≡ false) (keys_of cells)
keys_of-coded_at k [] none = tt
keys_of-coded_at k (e ∷ cells) none = elim (cases_Bool (same_codes k e.0)) [
  | inl same ↦ cc (sym (rw same at none))
  | inr other ↦ (other, keys_of-coded_at k cells (rw other at none))
]

AllByRecursion-keys_of_append : (k : Codes) (a b : CodedCells)
    → AllByRecursion (λ y. same_codes k y ≡ false) (keys_of a)
    → AllByRecursion (λ y. same_codes k y ≡ false) (keys_of b)
    → AllByRecursion (λ y. same_codes k y ≡ false) (keys_of (a ++ b))
AllByRecursion-keys_of_append k [] b in_a in_b = in_b
AllByRecursion-keys_of_append k (e ∷ a) b in_a in_b = (in_a.0, AllByRecursion-keys_of_append k a b in_a.1 in_b)

pub AreApart-append : (a b : CodedCells) → AreApart a → AreApart b → All (λ cell. coded_at b cell.0 ≡ None) a
    → AreApart (a ++ b)
AreApart-append [] b of_a of_b none = of_b
AreApart-append (e ∷ a) b of_a of_b none =
    let P : Codes × Tally → Type 0 = λ cell. coded_at b cell.0 ≡ None in
    IsDistinct-cons same_codes e.0 (keys_of (a ++ b))
    (AllByRecursion-keys_of_append e.0 a b (IsDistinct-head same_codes e.0 (keys_of a) of_a)
    (keys_of-coded_at e.0 b (All-head P e a none)))
    (AreApart-append a b (IsDistinct-tail same_codes e.0 (keys_of a) of_a) of_b (All-tail P e a none))

-- the codes of the first cells and of the last differ too
AllByRecursion-keys_of_append_left : (k : Codes) (a b : CodedCells)
    → AllByRecursion (λ y. same_codes k y ≡ false) (keys_of (a ++ b))
    → AllByRecursion (λ y. same_codes k y ≡ false) (keys_of a)
AllByRecursion-keys_of_append_left k [] b all = tt
AllByRecursion-keys_of_append_left k (e ∷ a) b all = (all.0, AllByRecursion-keys_of_append_left k a b all.1)

pub AreApart-nil : AreApart []
unfolding IsDistinct
AreApart-nil = tt

pub AreApart-append_left : (a b : CodedCells) → AreApart (a ++ b) → AreApart a
AreApart-append_left [] b apart = AreApart-nil
AreApart-append_left (e ∷ a) b apart =
    IsDistinct-cons same_codes e.0 (keys_of a)
    (AllByRecursion-keys_of_append_left e.0 a b (IsDistinct-head same_codes e.0 (keys_of (a ++ b)) apart))
    (AreApart-append_left a b (IsDistinct-tail same_codes e.0 (keys_of (a ++ b)) apart))

pub AreApart-append_right : (a b : CodedCells) → AreApart (a ++ b) → AreApart b
AreApart-append_right [] b apart = apart
AreApart-append_right (e ∷ a) b apart =
    AreApart-append_right a b (IsDistinct-tail same_codes e.0 (keys_of (a ++ b)) apart)
