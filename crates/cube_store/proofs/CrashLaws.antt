-- What is opened after a crash.
use Rattle.std.proofs.Common.{◌≡◌, ◌⊎◌, inl, inr, ℕ, ◌≤◌, false, List, IsTrue, refl, sym, ap, subst, ◌∙◌, arith}
use Rattle.std.proofs.Common.{true≢false}
use Rattle.std.specs.Prelude.{⊤}
use Rattle.sqlite_disk.specs.Disk.{MoreFaults}
use Rattle.sqlite_trees.specs.declared.store.Shape.{Shape}
use Rattle.sqlite_trees.specs.Objects.{catalog_tree}
use Rattle.sqlite_trees.specs.Tree.{Trees}
use Rattle.sqlite_trees.specs.View.{View, IsClean, IsReopened}
use Rattle.cube_store.specs.declared.fault.OpenFault.{OpenFault}
use Rattle.cube_store.specs.Rows.{Entry, entries_in}
use Rattle.cube_store.specs.State.{form_by, form_in, stored_form, Holds, HasTables, IsStore, IsFailedCall, ExplainsUnopened}
use Rattle.cube_store.specs.Rows.{no_digest}
use Rattle.cube_store.proofs.ChainLaws.{chain_entries}
use Rattle.cube_store.proofs.OpenLaws.{explains_then}
use Rattle.cube_store.proofs.ViewLaws.{open_if_sound}

module _ (old mid : View) (have : IsClean old → HasTables old) (was_clean : IsClean old) (clean : IsClean mid)
    (fresh : IsReopened old mid) (broken : mid.is_open ≡ false → IsTrue mid.is_broken)
    (unaltered : mid.is_broken ≡ false → mid.trees catalog_tree ≡ mid.committed catalog_tree
    → (mid.shape ≡ mid.committed_shape) × (mid.reals ≡ mid.committed_reals)) where
  sound : mid.is_broken ≡ false
  sound = fresh.sound clean

  before : HasTables old
  before = have was_clean

  law : (mid.shape ≡ mid.committed_shape) × (mid.reals ≡ mid.committed_reals)
  law = unaltered sound (ap (λ (t : Trees). t catalog_tree) fresh.clean)

  shape : mid.shape ≡ old.shape
  shape = fresh.shape (sym before.unaltered)

  pub reopened_on : IsTrue mid.is_open
  reopened_on = open_if_sound mid broken sound

  pub reopened_form : form_in old ≡ stored_form mid
  reopened_form = ap (λ (r : ℕ → ℕ). form_by (r 0)) (sym (fresh.reals (sym before.same_form)) ∙ law.1)

  pub reopened_tables : HasTables mid
  reopened_tables = record {
    changes = ap (λ (s : ℕ → Shape). s 0) shape ∙ before.changes;
    feeds = ap (λ (s : ℕ → Shape). s 1) shape ∙ before.feeds;
    unaltered = sym law.0;
    same_form = sym law.1;
  }

  -- a store that is opened again on what is one of changes and of these notes
  pub reopened_store : (notes : List Entry) → (changes : List Entry) × Holds (form_in old) mid.committed changes notes
      → IsStore mid notes
  reopened_store notes found =
      let same : entries_in (mid.committed 0) ≡ found.0 =
      ap entries_in found.1.changes_are ∙ chain_entries (form_in old) no_digest 1 found.0 in
      record {
        is_open = reopened_on;
        tables = reopened_tables;
        holds = subst (λ f. Holds f mid.committed (entries_in (mid.committed 0)) notes) reopened_form
            (subst (λ es. Holds (form_in old) mid.committed es notes) (sym same) found.1);
      }

  -- why a store that is opened again isn't taken, by what the crash left
  pub reopened_explains : (a b c : ℕ) (notes : List Entry) (e : OpenFault) → a ≤ b
      → ExplainsUnopened (MoreFaults b c) ((mid.is_open ≡ false) ⊎ MoreFaults b c) (IsTrue mid.is_open) (HasTables mid)
      (stored_form mid) mid.committed notes e
      → ExplainsUnopened (MoreFaults a c) (MoreFaults a c) ⊤ ⊤ (form_in old) mid.committed notes e
  reopened_explains a b c notes e up h =
      explains_then (MoreFaults b c) (MoreFaults a c) ((mid.is_open ≡ false) ⊎ MoreFaults b c) (MoreFaults a c)
      (IsTrue mid.is_open) ⊤ (HasTables mid) ⊤ (stored_form mid) (form_in old) mid.committed mid.committed notes e
      wide back (λ _. tt) (λ _. reopened_tables) (λ _. refl) (λ _. sym reopened_form) h
    where
      wide : MoreFaults b c → MoreFaults a c
      wide f = omega arith

      back : (mid.is_open ≡ false) ⊎ MoreFaults b c → MoreFaults a c
      back (inl shut) = absurd (true≢false (sym reopened_on ∙ shut))
      back (inr f) = wide f

-- a call failed, as of before another
pub failed_since : (a b c : ℕ) (e : OpenFault) → a ≤ b → IsFailedCall (MoreFaults b c) e
    → IsFailedCall (MoreFaults a c) e
failed_since a b c e up h = (h.0, h.1, widen h.2)
  where
    wide : MoreFaults b c → MoreFaults a c
    wide f = omega arith

    widen : {P : Type 0} → P ⊎ MoreFaults b c → P ⊎ MoreFaults a c
    widen (inl none) = inl none
    widen (inr f) = inr (wide f)
