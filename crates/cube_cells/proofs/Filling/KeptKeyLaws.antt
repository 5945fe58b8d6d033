-- Laws of the kept keys above codes: a cell that is taken under all of them is walked over.
use Rattle.std.proofs.Common.{◌≡◌, ℕ, suc, ◌+◌, ◌-◌, ◌*◌, ◌^◌, ◌<◌, List, [], ◌∷◌, ◌++◌, Bool, true, false}
use Rattle.std.proofs.Common.{if◌then◌else◌, refl, ap, ◌∙◌, subst, arith}
use Rattle.std.proofs.Math.Nat.{pow-succ'}
use Rattle.std.proofs.lemmas.List.{append-nil}
use Rattle.cube_cells.specs.BottomUp.{CanWalk, IsNoneKept, PutsCell, PutsKept, TakesAll, TakesWalk, all_at, is_kept_by}
use Rattle.cube_cells.specs.BottomUp.{under_keys}
use Rattle.cube_cells.specs.Coded.{CodedCells}
use Rattle.cube_cells.specs.Tally.{Tally}
use Rattle.cube_cells.specs.declared.cube.codes.Codes.{Codes}
use Rattle.cube_cells.proofs.Cells.TakenLaws.{TakesAll-PutsCell, under_keys-push}
use Rattle.cube_cells.proofs.Filling.BottomUpLaws.{CanWalk-one, CanWalk-one_raised, TakesWalk-one, TakesWalk-one_kept}
use Rattle.cube_cells.proofs.Filling.PruneLaws.{TakesWalk-none}

-- with each dimension there are twice as many keys
pub keys_left : (dimensions from : ℕ) → from < dimensions
    → 2 ^ (dimensions - from) ≡ 2 * 2 ^ (dimensions - (from + 1))
keys_left dimensions from below =
    let left : dimensions - from ≡ suc (dimensions - (from + 1)) = omega (arith, below) in
    rw left (pow-succ' 2 (dimensions - (from + 1)))

-- where no dimension is left
pub PutsKept-if : (kept : List Bool) (dimensions from : ℕ) (codes : Codes) (old new : List Codes) → from ≡ dimensions
    → new ≡ old ++ (if is_kept_by kept codes then codes ∷ [] else []) → PutsKept kept dimensions from codes old new
PutsKept-if kept dimensions from codes old new all is = record {
  walk = λ cell can. TakesWalk-one_kept PutsCell kept dimensions from (codes, cell) (under_keys cell old)
      (under_keys cell new) all can (put cell (is_kept_by kept codes) is);
} where
  put : (cell : Tally) (b : Bool) → new ≡ old ++ (if b then codes ∷ [] else [])
      → TakesAll PutsCell (under_keys cell old) (if b then (codes, cell) ∷ [] else []) (under_keys cell new)
  put cell true is = (under_keys cell new, ap (under_keys cell) is ∙ under_keys-push cell old codes, refl)
  put cell false is = ap (under_keys cell) (is ∙ append-nil old)

-- where no set is kept
pub PutsKept-none : (kept : List Bool) (dimensions from : ℕ) (codes : Codes) (keys : List Codes)
    → IsNoneKept (is_kept_by kept) from codes → PutsKept kept dimensions from codes keys keys
PutsKept-none kept dimensions from codes keys none = record {
  walk = λ cell can. TakesWalk-none PutsCell kept dimensions from ((codes, cell) ∷ []) (codes, cell)
      (under_keys cell keys) can none;
}

-- those that aren't ALL in a dimension, and those that are
pub PutsKept-both : (kept : List Bool) (dimensions from : ℕ) (codes : Codes) (old mid new : List Codes)
    → from < dimensions → PutsKept kept dimensions (from + 1) codes old mid
    → PutsKept kept dimensions (from + 1) (all_at from codes) mid new → PutsKept kept dimensions from codes old new
PutsKept-both kept dimensions from codes old mid new below first second = record {
  walk = λ cell can. TakesWalk-one PutsCell kept dimensions from (codes, cell) (under_keys cell old)
      (under_keys cell mid) (under_keys cell new) can below
      (first.walk cell (CanWalk-one dimensions from (codes, cell) can below))
      (second.walk cell (CanWalk-one_raised dimensions from (codes, cell) can below));
}

-- a cell that is taken under all of them is walked over
pub TakesWalk-PutsKept : {S : Type 0} (takes : S → Codes → Tally → S → Type 0) (kept : List Bool) (dimensions from : ℕ)
    (codes : Codes) (cell : Tally) (keys : List Codes) (old new : S) → CanWalk dimensions from ((codes, cell) ∷ [])
    → PutsKept kept dimensions from codes [] keys → TakesAll takes old (under_keys cell keys) new
    → TakesWalk takes kept dimensions from ((codes, cell) ∷ []) old new
TakesWalk-PutsKept takes kept dimensions from codes cell keys old new can puts taken =
    let walk = puts.walk cell can in
    record {
      cells = walk.cells;
      are = walk.are;
      taken = subst (λ (cells : CodedCells). TakesAll takes old cells new)
          (TakesAll-PutsCell walk.cells [] (under_keys cell keys) walk.taken) taken;
    }
