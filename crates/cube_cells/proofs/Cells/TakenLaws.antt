-- Laws of cells that are taken: one after another, and one cell under each of some keys.
use Rattle.std.proofs.Common.{◌≡◌, ℕ, ◌+◌, ◌<◌, List, [], ◌∷◌, ◌++◌}
use Rattle.std.proofs.Common.{refl, sym, ap, ◌∙◌, subst, append_assoc, get_or, length, take}
use Rattle.std.proofs.lemmas.List.{append-nil, map-append, take_more}
use Rattle.cube_cells.specs.BottomUp.{PutsCell, TakesAll, under_keys}
use Rattle.cube_cells.specs.Coded.{CodedCells}
use Rattle.cube_cells.specs.Tally.{Tally}
use Rattle.cube_cells.specs.declared.cube.codes.Codes.{Codes}

-- cells that are taken one after another
pub TakesAll-append : {S : Type 0} (takes : S → Codes → Tally → S → Type 0) (a b : CodedCells) (old mid new : S)
    → TakesAll takes old a mid → TakesAll takes mid b new → TakesAll takes old (a ++ b) new
TakesAll-append takes [] b old mid new first second = subst (λ (s : _). TakesAll takes s b new) first second
TakesAll-append takes (cell ∷ a) b old mid new first second =
    (first.0, first.1, TakesAll-append takes a b first.0 mid new first.2 second)

-- a key more
pub under_keys-push : (cell : Tally) (keys : List Codes) (codes : Codes)
    → under_keys cell (keys ++ codes ∷ []) ≡ under_keys cell keys ++ (codes, cell) ∷ []
under_keys-push cell keys codes = map-append (λ (one : Codes). (one, cell)) keys (codes ∷ [])

-- a cell is taken under a key more
pub TakesAll-key : {S : Type 0} (takes : S → Codes → Tally → S → Type 0) (cell : Tally) (keys : List Codes) (i : ℕ)
    (codes : Codes) (old mid new : S) → codes ≡ get_or keys i codes → i < length keys
    → TakesAll takes old (under_keys cell (take i keys)) mid → takes mid codes cell new
    → TakesAll takes old (under_keys cell (take (i + 1) keys)) new
TakesAll-key {S} takes cell keys i codes old mid new is inside before here =
    let more : under_keys cell (take (i + 1) keys) ≡ under_keys cell (take i keys) ++ (codes, cell) ∷ [] =
    ap (under_keys cell) (take_more keys i codes inside) ∙ under_keys-push cell (take i keys) (get_or keys i codes)
    ∙ ap (λ (one : Codes). under_keys cell (take i keys) ++ (one, cell) ∷ []) (sym is) in
    subst (λ (cells : CodedCells). TakesAll takes old cells new) (sym more)
    (TakesAll-append takes (under_keys cell (take i keys)) ((codes, cell) ∷ []) old mid new before (new, here, refl))

-- what a cell leaves as it is under each key
pub TakesAll-same : {S : Type 0} (takes : S → Codes → Tally → S → Type 0) (cell : Tally) (keys : List Codes) (sink : S)
    → ((codes : Codes) → takes sink codes cell sink) → TakesAll takes sink (under_keys cell keys) sink
TakesAll-same takes cell [] sink same = refl
TakesAll-same takes cell (codes ∷ keys) sink same = (sink, same codes, TakesAll-same takes cell keys sink same)

-- cells that are put one behind another
pub TakesAll-PutsCell : (cells old new : CodedCells) → TakesAll PutsCell old cells new → new ≡ old ++ cells
TakesAll-PutsCell [] old new taken = taken ∙ sym (append-nil old)
TakesAll-PutsCell (cell ∷ cells) old new taken = TakesAll-PutsCell cells taken.0 new taken.2
    ∙ ap (λ (mid : CodedCells). mid ++ cells) taken.1 ∙ append_assoc old (cell ∷ []) cells
