-- Laws of grouping sets that aren't kept: where none is that a walk could come to, it hands nothing over.
use Rattle.std.proofs.Common.{◌≡◌, ℕ, zero, suc, ◌+◌, ◌-◌, ◌*◌, ◌/◌, ◌%◌, ◌^◌, ◌<◌, ◌≤◌, ◌==◌, List, [], ◌∷◌, ◌++◌, Bool, true, false}
use Rattle.std.proofs.Common.{refl, sym, ap, ◌∙◌, subst, arith, inl, inr, add-one, get_or, length, take, if◌then◌else◌}
use Rattle.std.specs.Prelude.{All}
use Rattle.std.specs.List.Sorted.{IsStrictlySortedBy}
use Rattle.std.proofs.Math.Nat.{add-mul, mod-add-div', mod-le, mod-lt, mod-mod, mod-one, mul_assoc, mul_comm, pow-succ'}
use Rattle.std.proofs.lemmas.Bool.{cases_lt}
use Rattle.std.proofs.lemmas.List.{get_or-map, get_or_past, take-set, take_more_set}
use Rattle.std.proofs.lemmas.List.Elements.{All-nil, All-weaker}
use Rattle.std.proofs.lemmas.Nat.{mod-mul-add}
use Rattle.cube_cells.specs.BottomUp.{AreRunsOf, CanWalk, IsItem, IsNoneKept, IsWalkOf, IsWalkable}
use Rattle.cube_cells.specs.BottomUp.{TakesRuns, TakesWalk, all_at, cells_of_items, codes_cmp, is_kept_by, only, spread, weigh}
use Rattle.cube_cells.specs.Codes.{all_code}
use Rattle.cube_cells.specs.Coded.{CodedCells}
use Rattle.cube_cells.specs.Levels.{mask_of_codes}
use Rattle.cube_cells.specs.Tally.{Tally}
use Rattle.cube_cells.specs.declared.cube.bottom_up.Item.{Item}
use Rattle.cube_cells.specs.declared.cube.codes.Codes.{Codes}
use Rattle.cube_cells.proofs.Filling.BottomUpCellLaws.{weigh-none}
use Rattle.cube_cells.proofs.Filling.BottomUpCubeLaws.{pow-positive}
use Rattle.cube_cells.proofs.Filling.BottomUpLaws.{CanWalk-left, weigh-both}

-- ---- first codes
-- lists that agree in more agree in fewer
take-fewer : (n : ℕ) (a b : List ℕ) → take (suc n) a ≡ take (suc n) b → take n a ≡ take n b
take-fewer zero a b same = refl
take-fewer (suc n) [] [] same = refl
take-fewer (suc n) [] (y ∷ b) same = cc same
take-fewer (suc n) (x ∷ a) [] same = cc same
take-fewer (suc n) (x ∷ a) (y ∷ b) same =
    let head : x ≡ y = cc same in
    let tail : take (suc n) a ≡ take (suc n) b = cc same in
    ap (λ (z : ℕ). z ∷ take n a) head ∙ ap (λ (zs : List ℕ). y ∷ zs) (take-fewer n a b tail)

-- a mask without its higher bits
mod-bit : (bit m p : ℕ) → bit ≤ 1 → 0 < p → (bit + 2 * m) % (2 * p) ≡ bit + 2 * (m % p)
mod-bit bit m p small some =
    let q : ℕ = m / p in
    let low : m % p < p = mod-lt m some in
    let turned : q * (2 * p) ≡ 2 * (q * p) =
    sym (mul_assoc q 2 p) ∙ ap (λ (n : ℕ). n * p) (mul_comm q 2) ∙ mul_assoc 2 q p in
    let split : bit + 2 * m ≡ q * (2 * p) + (bit + 2 * (m % p)) = omega (arith, mod-add-div' m p, turned) in
    ap (λ (n : ℕ). n % (2 * p)) split ∙ mod-mul-add q (2 * p) (bit + 2 * (m % p)) (omega (arith, low, small))

bit-small : (b : Bool) → (if b then 0 else 1) ≤ 1
bit-small true = omega arith
bit-small false = omega arith

-- codes that agree in the first dimensions have masks that agree in them
mask-prefix : (from : ℕ) (a b : List ℕ) → take from a ≡ take from b
    → mask_of_codes a % 2 ^ from ≡ mask_of_codes b % 2 ^ from
mask-prefix zero a b same = mod-one (mask_of_codes a) ∙ sym (mod-one (mask_of_codes b))
mask-prefix (suc from) [] [] same = refl
mask-prefix (suc from) [] (y ∷ b) same = cc same
mask-prefix (suc from) (x ∷ a) [] same = cc same
mask-prefix (suc from) (x ∷ a) (y ∷ b) same =
    let head : x ≡ y = cc same in
    let tail : take from a ≡ take from b = cc same in
    let bit : ℕ → ℕ = λ code. if code == all_code then 0 else 1 in
    let power : 2 ^ suc from ≡ 2 * 2 ^ from = pow-succ' 2 from in
    rw power (
    mod-bit (bit x) (mask_of_codes a) (2 ^ from) (bit-small (x == all_code)) (pow-positive from)
    ∙ ap (λ (n : ℕ). bit x + 2 * n) (mask-prefix from a b tail)
    ∙ ap (λ (code : ℕ). bit code + 2 * (mask_of_codes b % 2 ^ from)) head
    ∙ sym (mod-bit (bit y) (mask_of_codes b) (2 ^ from) (bit-small (y == all_code)) (pow-positive from))
    )

-- numbers of one rest that are less than a step apart are the same
same_rest : (a b step : ℕ) → a ≤ b → b < a + step → a % step ≡ b % step → a ≡ b
same_rest a b step up below same = elim (cases_lt (a % step + (b - a)) step) [
  | inl small ↦
      let split : b ≡ a / step * step + (a % step + (b - a)) = omega (arith, mod-add-div' a step, up) in
      let rest : b % step ≡ a % step + (b - a) =
      ap (λ (n : ℕ). n % step) split ∙ mod-mul-add (a / step) step (a % step + (b - a)) small in
      omega (arith, rest, same, up)
  | inr large ↦
      let some : 0 < step = omega (arith, up, below) in
      let low : a % step < step = mod-lt a some in
      let split : b ≡ (a / step + 1) * step + (a % step + (b - a) - step) =
      omega (arith, mod-add-div' a step, up, large, add-mul (a / step) 1 step) in
      let rest : b % step ≡ a % step + (b - a) - step =
      ap (λ (n : ℕ). n % step) split
      ∙ mod-mul-add (a / step + 1) step (a % step + (b - a) - step) (omega (arith, low, below, up)) in
      omega (arith, rest, same, up, below, large)
]

-- while kept masks of one rest are looked for: none is below a mask
pub record IsLooking (kept : List Bool) (from : ℕ) (codes : Codes) (mask : ℕ) : Type 0 where
  pub rest : mask % 2 ^ from ≡ mask_of_codes codes.codes % 2 ^ from
  pub below : (m : ℕ) → m < mask → m % 2 ^ from ≡ mask_of_codes codes.codes % 2 ^ from → get_or kept m false ≡ false

pub IsLooking-start : (kept : List Bool) (from : ℕ) (codes : Codes)
    → IsLooking kept from codes (mask_of_codes codes.codes % 2 ^ from)
IsLooking-start kept from codes = record {
  rest = mod-mod (mask_of_codes codes.codes) (2 ^ from);
  below = λ m small rest. absurd (omega (arith, small, rest, mod-le m (2 ^ from)));
}

pub IsLooking-next : (kept : List Bool) (from : ℕ) (codes : Codes) (mask next : ℕ) → IsLooking kept from codes mask
    → get_or kept mask false ≡ false → next ≡ mask + 2 ^ from → IsLooking kept from codes next
IsLooking-next kept from codes mask next looking none is = record {
  rest =
      let step : ℕ = 2 ^ from in
      let split : mask + step ≡ (mask / step + 1) * step + mask % step =
      omega (arith, mod-add-div' mask step, add-mul (mask / step) 1 step) in
      ap (λ (n : ℕ). n % step) (is ∙ split)
      ∙ mod-mul-add (mask / step + 1) step (mask % step) (mod-lt mask (pow-positive from)) ∙ looking.rest;
  below = λ m small rest. elim (cases_lt m mask) [
    | inl before ↦ looking.below m before rest
    | inr past ↦
        let here : mask ≡ m = same_rest mask m (2 ^ from) past (omega (arith, small, is)) (looking.rest ∙ sym rest) in
        subst (λ (n : ℕ). get_or kept n false ≡ false) here none
  ];
}

pub IsNoneKept-IsLooking : (kept : List Bool) (from : ℕ) (codes : Codes) (mask : ℕ) → IsLooking kept from codes mask
    → length kept ≤ mask → IsNoneKept (is_kept_by kept) from codes
IsNoneKept-IsLooking kept from codes mask looking past = record {
  none = λ other same. elim (cases_lt (mask_of_codes other.codes) mask) [
    | inl before ↦ looking.below (mask_of_codes other.codes) before (mask-prefix from other.codes codes.codes same)
    | inr after ↦ get_or_past kept (mask_of_codes other.codes) false (omega (arith, after, past))
  ];
}

-- ---- codes of which no set is kept
IsNoneKept-same : (is_kept : Codes → Bool) (from : ℕ) (codes other : Codes) → IsNoneKept is_kept from codes
    → take from other.codes ≡ take from codes.codes → IsNoneKept is_kept from other
IsNoneKept-same is_kept from codes other none same = record { none = λ one is. none.none one (is ∙ same) }

IsNoneKept-more : (is_kept : Codes → Bool) (from : ℕ) (codes : Codes) → IsNoneKept is_kept from codes
    → IsNoneKept is_kept (from + 1) codes
IsNoneKept-more is_kept from codes none = record {
  none = λ other same. none.none other (take-fewer from other.codes codes.codes (rw add-one at same));
}

-- they come to nothing
spread-none : (is_kept : Codes → Bool) (weight : Codes → ℕ) (left from : ℕ) (codes : Codes)
    → IsNoneKept is_kept from codes → spread (only is_kept weight) left from codes ≡ 0
spread-none is_kept weight zero from codes none = rw (none.none codes refl) refl
spread-none is_kept weight (suc left) from codes none = omega (
  arith,
  spread-none is_kept weight left (from + 1) codes (IsNoneKept-more is_kept from codes none),
  spread-none is_kept weight left (from + 1) (all_at from codes)
      (IsNoneKept-more is_kept from (all_at from codes) (IsNoneKept-same is_kept from codes (all_at from codes) none
      (take-set codes.codes from all_code))),
)

none-sorted : IsStrictlySortedBy codes_cmp []
unfolding IsStrictlySortedBy
none-sorted = tt

IsWalkOf-none : (is_kept : Codes → Bool) (left from : ℕ) (items : CodedCells)
    → All (λ item. IsNoneKept is_kept from item.0) items → IsWalkOf is_kept left from items []
IsWalkOf-none is_kept left from items none = record {
  in_order = none-sorted;
  weighs = λ part is weight. sym (weigh-none (spread (only is_kept weight) left from) part items
      (All-weaker (λ item. IsNoneKept is_kept from item.0)
      (λ item. spread (only is_kept weight) left from item.0 ≡ 0)
      (λ item at. spread-none is_kept weight left from item.0 at) items none));
  under = λ prefix all. All-nil (λ cell. take from cell.0.codes ≡ prefix);
  each = λ measures all. All-nil (IsItem measures);
}

-- the same of each item as of the first
All-IsNoneKept : (is_kept : Codes → Bool) (measures left from : ℕ) (items : CodedCells) (first : Codes × Tally)
    → IsWalkable measures left from items → IsNoneKept is_kept from (get_or items 0 first).0
    → All (λ item. IsNoneKept is_kept from item.0) items
All-IsNoneKept is_kept measures left from items first walkable none k d inside =
    IsNoneKept-same is_kept from (get_or items 0 first).0 (get_or items k d).0 none
    (walkable.under k d inside ∙ sym (walkable.under 0 first (omega (arith, inside))))

pub TakesWalk-none : {S : Type 0} (takes : S → Codes → Tally → S → Type 0) (kept : List Bool) (dimensions from : ℕ)
    (items : CodedCells) (first : Codes × Tally) (old : S) → CanWalk dimensions from items
    → IsNoneKept (is_kept_by kept) from (get_or items 0 first).0
    → TakesWalk takes kept dimensions from items old old
TakesWalk-none takes kept dimensions from items first old can none = record {
  cells = [];
  are = IsWalkOf-none (is_kept_by kept) (dimensions - from) from items
      (All-IsNoneKept (is_kept_by kept) can.0 (dimensions - from) from items first can.1 none);
  taken = refl;
}

-- ---- where no set is kept that is ALL in a dimension
All-above : (is_kept : Codes → Bool) (measures left from : ℕ) (items : CodedCells) (first : Codes × Tally)
    → IsWalkable measures (suc left) from items
    → IsNoneKept is_kept (from + 1) (all_at from (get_or items 0 first).0)
    → All (λ item. IsNoneKept is_kept (from + 1) (all_at from item.0)) items
All-above is_kept measures left from items first walkable none k d inside =
    let a : Codes = (get_or items k d).0 in
    let b : Codes = (get_or items 0 first).0 in
    let some : 0 < length items = omega (arith, inside) in
    let room : from < 8 = omega (arith, walkable.within) in
    let long_a : from < length a.codes = omega (arith, room, (walkable.each k d inside).eight) in
    let long_b : from < length b.codes = omega (arith, room, (walkable.each 0 first some).eight) in
    let same : take from a.codes ≡ take from b.codes =
    walkable.under k d inside ∙ sym (walkable.under 0 first some) in
    IsNoneKept-same is_kept (from + 1) (all_at from b) (all_at from a) none
    (take_more_set a.codes from all_code long_a
    ∙ ap (λ (codes : List ℕ). codes ++ all_code ∷ []) same ∙ sym (take_more_set b.codes from all_code long_b))

IsWalkOf-runs : (is_kept : Codes → Bool) (left from : ℕ) (items cells : CodedCells)
    → AreRunsOf is_kept left from items cells
    → All (λ item. IsNoneKept is_kept (from + 1) (all_at from item.0)) items
    → IsWalkOf is_kept (suc left) from items cells
IsWalkOf-runs is_kept left from items cells runs none = record {
  in_order = runs.in_order;
  weighs = λ part is weight.
      let w : Codes → ℕ = only is_kept weight in
      let above : Codes → ℕ = λ codes. spread w left (from + 1) (all_at from codes) in
      let zero_above : weigh above part items ≡ 0 = weigh-none above part items
      (All-weaker (λ item. IsNoneKept is_kept (from + 1) (all_at from item.0)) (λ item. above item.0 ≡ 0)
      (λ item at. spread-none is_kept weight left (from + 1) (all_at from item.0) at) items none) in
      omega (
        arith,
        runs.weighs part is weight,
        weigh-both (spread w left (from + 1)) above part items,
        zero_above,
      );
  under = runs.under;
  each = runs.each;
}

-- the same from a dimension on of so many
pub IsWalkOf-none_above : (kept : List Bool) (dimensions from : ℕ) (items cells : CodedCells) (first : Codes × Tally)
    → CanWalk dimensions from items → from < dimensions
    → AreRunsOf (is_kept_by kept) (dimensions - (from + 1)) from items cells
    → IsNoneKept (is_kept_by kept) (from + 1) (all_at from (get_or items 0 first).0)
    → IsWalkOf (is_kept_by kept) (dimensions - from) from items cells
IsWalkOf-none_above kept dimensions from items cells first can below runs none =
    let left : suc (dimensions - (from + 1)) ≡ dimensions - from = omega (arith, below) in
    subst (λ (n : ℕ). IsWalkOf (is_kept_by kept) n from items cells) left
    (IsWalkOf-runs (is_kept_by kept) (dimensions - (from + 1)) from items cells runs
    (All-above (is_kept_by kept) can.0 (dimensions - (from + 1)) from items first
    (CanWalk-left dimensions from items can below) none))

-- ---- items
pub TakesWalk-empty : {S : Type 0} (takes : S → Codes → Tally → S → Type 0) (kept : List Bool) (dimensions from : ℕ)
    (items : CodedCells) (old : S) → length items ≡ 0 → TakesWalk takes kept dimensions from items old old
TakesWalk-empty takes kept dimensions from items old none = record {
  cells = [];
  are = IsWalkOf-none (is_kept_by kept) (dimensions - from) from items
      (λ k d inside. absurd (omega (arith, inside, none)));
  taken = refl;
}

-- the cell of an item
abbrev cell_of : {N : Type 0} → Item N → Codes × Tally
cell_of item = (item.codes, item.cell)

pub TakesWalk-none_first : {S N : Type 0} (takes : S → Codes → Tally → S → Type 0) (kept : List Bool)
    (dimensions from : ℕ) (items : List (Item N)) (item : Item N) (old : S)
    → CanWalk dimensions from (cells_of_items items) → item ≡ get_or items 0 item
    → IsNoneKept (is_kept_by kept) from item.codes
    → TakesWalk takes kept dimensions from (cells_of_items items) old old
TakesWalk-none_first takes kept dimensions from [] item old can is none =
    TakesWalk-empty takes kept dimensions from [] old refl
TakesWalk-none_first takes kept dimensions from (one ∷ items) item old can is none =
    TakesWalk-none takes kept dimensions from (cells_of_items (one ∷ items)) (one.codes, one.cell) old can
    (subst (λ (cell : Codes × Tally). IsNoneKept (is_kept_by kept) from cell.0) (ap cell_of is)
    none)

pub TakesWalk-runs_first : {S N : Type 0} (takes : S → Codes → Tally → S → Type 0) (kept : List Bool)
    (dimensions from : ℕ) (items : List (Item N)) (item : Item N) (old now : S)
    → CanWalk dimensions from (cells_of_items items) → from < dimensions
    → TakesRuns takes kept dimensions from (cells_of_items items) old now → item ≡ get_or items 0 item
    → 0 < length items → IsNoneKept (is_kept_by kept) (from + 1) (all_at from item.codes)
    → TakesWalk takes kept dimensions from (cells_of_items items) old now
TakesWalk-runs_first takes kept dimensions from items item old now can below runs is some none = record {
  cells = runs.cells;
  are = IsWalkOf-none_above kept dimensions from (cells_of_items items) runs.cells (cell_of item) can below runs.are
      (subst (λ (cell : Codes × Tally). IsNoneKept (is_kept_by kept) (from + 1) (all_at from cell.0))
      (sym (get_or-map {Y = Codes × Tally} cell_of items 0 item (cell_of item) some ∙ sym (ap cell_of is))) none);
  taken = runs.taken;
}
