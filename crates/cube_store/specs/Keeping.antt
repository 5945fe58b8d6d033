-- What a journal of changes keeps from some first moment on, and what a crash may leave of it.
use Rattle.std.specs.Prelude.{◌≡◌, ◌⊎◌, ◌+◌, ◌≤◌, ℕ, false, List, ◌++◌, length, take, IsTrue}
use Rattle.std.specs.Coded.{Coded, code_by, coded×, coded_ℕ}
use Rattle.std.specs.Prelude.{refl}
use Rattle.sqlite_trees.specs.Tree.{Trees}
use Rattle.sqlite_trees.specs.View.{View, IsClean}
use Rattle.cube_store.specs.Rows.{Entry}
use Rattle.cube_store.specs.State.{held_in, stored_in, noted_in, form_in, Holds, CantAppend}

-- a store with the number of the changes that wait for a commit, and that of those that may
pub record Batch (S : Type 0) : Type 0 where
  pub store : S
  pub waiting : ℕ
  pub most : ℕ

-- a journal as a pair
abbrev pub batch_code : {S : Type 0} → Coded S → Coded (Batch S)
batch_code {S} store =
    code_by (S × (ℕ × ℕ)) (coded× store (coded× coded_ℕ coded_ℕ))
    (λ batch. (batch.store, (batch.waiting, batch.most)))
    (λ parts. record { store = parts.0; waiting = parts.1.0; most = parts.1.1 }) (λ _. refl)

-- a crash leaves the changes that were stored first and a first part of these after them, so many
-- at least, byte for byte, in their order and in the form that the store had first, with right
-- digests if they have any
pub record LeavesPart (first : View) (changes : List Entry) (sure : ℕ) (db : Trees) : Type 0 where
  pub count : ℕ
  pub at_least : sure ≤ count
  pub at_most : count ≤ length changes
  pub holds : Holds (form_in first) db (stored_in first ++ take count changes) (noted_in first)

-- why a change can't be stored: a fault has shut the store, it isn't of a source, or its row has no
-- room behind the changes so far
abbrev pub CantStore : View → Entry → Type 0
CantStore v change = (v.is_open ≡ false) ⊎ CantAppend (v.reals 0) (length (held_in v) + 1) change

-- a store takes the changes that it took: it isn't shut, and has the same changes so far
pub record TakesAsBefore (old new : View) : Type 0 where
  pub stays : new.is_open ≡ false → old.is_open ≡ false
  pub held : held_in new ≡ held_in old
  pub reals : new.reals ≡ old.reals

module _ {S : Type 0} (view : S → View) (recovers : S → Trees → Type 0) where
  -- an honest disk has these changes after those that were stored first, so many of them for
  -- certain
  pub record Stands (first : View) (now : Batch S) (changes : List Entry) (sure : ℕ) : Type 0 where
    pub is_open : IsTrue (view now.store).is_open
    pub held : held_in (view now.store) ≡ stored_in first ++ changes
    pub noted : noted_in (view now.store) ≡ noted_in first
    pub form : form_in (view now.store) ≡ form_in first
    pub leaves : (db : Trees) → recovers now.store db → LeavesPart first changes sure db
    pub settled : now.waiting ≡ 0 → (db : Trees) → recovers now.store db
        → LeavesPart first changes (length changes) db

  -- a journal was told of these changes from some first moment on, and has made sure of so many
  pub record HasKept (first now : Batch S) (changes : List Entry) (sure : ℕ) : Type 0 where
    pub was_clean : IsClean (view now.store) → IsClean (view first.store)
    pub within : sure ≤ length changes
    pub stands : IsClean (view now.store) → Stands (view first.store) now changes sure

  -- the same, but a call failed since: a crash leaves a first part of these changes, so many at
  -- least
  pub record HasBroken (first now : Batch S) (changes : List Entry) (sure : ℕ) : Type 0 where
    pub was_clean : IsClean (view now.store) → IsClean (view first.store)
    pub leaves : IsClean (view now.store) → (db : Trees) → recovers now.store db
        → LeavesPart (view first.store) changes sure db

  -- a journal that kept so much from some first moment on goes on to keep this
  abbrev pub BatchKeepsOn : (Batch S → Batch S → List Entry → ℕ → Type 0) → Batch S → Batch S
      → (List Entry → List Entry) → (List Entry → ℕ → ℕ) → Type 0
  BatchKeepsOn after old new told sure = (first : Batch S) → (changes : List Entry) → (so_many : ℕ)
      → HasKept first old changes so_many → after first new (told changes) (sure changes so_many)
