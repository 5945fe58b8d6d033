-- What a journal keeps, call by call.
use Rattle.std.proofs.Common.{◌≡◌, ◌⊎◌, inl, inr, ◌<◌, ◌≤◌, ◌^◌, ℕ, Bool, true, false, List, [], ◌∷◌, ◌++◌, length}
use Rattle.std.proofs.Common.{IsTrue, refl, sym, ap, subst, ◌∙◌, arith, append_assoc, length-append}
use Rattle.std.specs.Prelude.{◌+◌, Result, Ok, Err, IfErr, OnErr}
use Rattle.std.specs.Result.{IsErrAnd}
use Rattle.std.proofs.lemmas.List.{append-nil, take_all, take-append-le}
use Rattle.sqlite_disk.specs.Disk.{MoreFaults}
use Rattle.sqlite_trees.specs.declared.error.StoreError.{StoreError}
use Rattle.sqlite_trees.specs.declared.error.StoreError.TheVariants as cause
use Rattle.sqlite_trees.specs.Tree.{Trees}
use Rattle.sqlite_trees.specs.View.{View, IsClean}
use Rattle.cube_store.specs.Rows.{Entry, IsOfSource}
use Rattle.cube_store.specs.State.{held_in, stored_in, noted_in, form_in, Holds, CantHold, Appends, Commits}
use Rattle.cube_store.specs.State.{ForgetsNothing, IsCause}
use Rattle.cube_store.specs.Keeping.{Batch, LeavesPart, Stands, HasKept, HasBroken, CantStore, TakesAsBefore}

-- what holds in any case holds where a result is an error
pub OnErr-always : {T E X : Type 0} (r : Result T E) → X → OnErr r X
OnErr-always (Ok value) holds = tt
OnErr-always (Err fault) holds = holds

-- what holds of an error holds of what a `?` makes of it
pub IfErr-same : {T E : Type 0} (r : Result T E) (fault : E) (P : E → Type 0) → IsErrAnd r (λ e. e ≡ fault) → P fault
    → IfErr r P
IfErr-same (Ok value) fault P same holds = absurd same
IfErr-same (Err e) fault P same holds = subst P (sym same) holds

pub more_waits : (waiting : ℕ) → waiting + 1 ≡ 0 → ⊥
more_waits waiting none = omega (arith, none)

-- ---- why a call fails
abbrev HasNoRoom : Entry → (ℕ → ℕ) → ℕ → Type 0
HasNoRoom change reals count =
    CantHold (reals 0) (count + 1) change ⊎ ((2 ^ 62 < count + 1) ⊎ (IsOfSource change → ⊥))

cant_store : (old mid : View) (count : ℕ) (change : Entry) → TakesAsBefore old mid
    → (IsTrue mid.is_open → length (held_in mid) ≡ count) → HasNoRoom change mid.reals count
    → (is_open : Bool) → mid.is_open ≡ is_open → CantStore old change
cant_store old mid count change same long none false shut = inl (same.stays shut)
cant_store old mid count change same long none true is_open =
    let counted : length (held_in old) ≡ count = ap length (sym same.held) ∙ long is_open in
    inr (subst (λ n. HasNoRoom change old.reals n) (sym counted)
    (subst (λ (r : ℕ → ℕ). HasNoRoom change r count) same.reals none))

-- an append that fails behind a call that went well
pub append_fails : (a b c : ℕ) (old mid : View) (count : ℕ) (change : Entry) (e : StoreError) → a ≤ b
    → TakesAsBefore old mid → (IsTrue mid.is_open → length (held_in mid) ≡ count)
    → IsCause (MoreFaults b c) (mid.is_open ≡ false) (HasNoRoom change mid.reals count) e
    → IsCause (MoreFaults a c) (old.is_open ≡ false) (CantStore old change) e
append_fails a b c old mid count change cause.OutOfMemory up same long h = tt
append_fails a b c old mid count change cause.Io up same long h = omega arith
append_fails a b c old mid count change cause.Corrupt up same long h = omega arith
append_fails a b c old mid count change cause.Full up same long h = omega arith
append_fails a b c old mid count change cause.Broken up same long h = same.stays h
append_fails a b c old mid count change cause.Unstorable up same long h =
    cant_store old mid count change same long h mid.is_open refl

-- ---- what a crash leaves
LeavesPart-whole : (first : View) (changes : List Entry) (db : Trees)
    → Holds (form_in first) db (stored_in first ++ changes) (noted_in first) → LeavesPart first changes (length changes) db
LeavesPart-whole first changes db holds = record {
  count = length changes;
  at_least = omega arith;
  at_most = omega arith;
  holds = subst (λ es. Holds (form_in first) db (stored_in first ++ es) (noted_in first))
      (sym (take_all (length changes) changes (omega arith))) holds;
}

LeavesPart-more : (first : View) (changes more : List Entry) (sure : ℕ) (db : Trees) → LeavesPart first changes sure db
    → LeavesPart first (changes ++ more) sure db
LeavesPart-more first changes more sure db part = record {
  count = part.count;
  at_least = part.at_least;
  at_most = omega (arith, part.at_most, length-append changes more);
  holds = subst (λ es. Holds (form_in first) db (stored_in first ++ es) (noted_in first))
      (sym (take-append-le part.count changes more part.at_most)) part.holds;
}

LeavesPart-least : (first : View) (changes : List Entry) (sure less : ℕ) (db : Trees) → less ≤ sure
    → LeavesPart first changes sure db → LeavesPart first changes less db
LeavesPart-least first changes sure less db fewer part = record {
  count = part.count;
  at_least = omega (arith, fewer, part.at_least);
  at_most = part.at_most;
  holds = part.holds;
}

module _ {S : Type 0} (view : S → View) (recovers : S → Trees → Type 0) where
  -- ---- where nothing came yet
  pub HasKept-none : (now : Batch S) → (IsClean (view now.store)
      → IsTrue (view now.store).is_open × (held_in (view now.store) ≡ stored_in (view now.store)))
      → (IsTrue (view now.store).is_open → (db : Trees) → recovers now.store db
      → Holds (form_in (view now.store)) db (stored_in (view now.store)) (noted_in (view now.store))) → HasKept view recovers now now [] 0
  HasKept-none now opened settled =
      let first = view now.store in
      let whole : IsTrue first.is_open → (db : Trees) → recovers now.store db → LeavesPart first [] 0 db =
      λ opened_now db may.
      LeavesPart-whole first [] db
      (subst (λ es. Holds (form_in first) db es (noted_in first)) (sym (append-nil (stored_in first))) (settled opened_now db may)) in
      record {
        was_clean = λ clean. clean;
        within = omega arith;
        stands = λ clean. record {
          is_open = (opened clean).0;
          held = (opened clean).1 ∙ sym (append-nil (stored_in first));
          noted = refl;
          form = refl;
          leaves = whole (opened clean).0;
          settled = λ _. whole (opened clean).0;
        };
      }

  -- ---- less than is kept
  pub HasKept-least : (first now : Batch S) (changes : List Entry) (sure less : ℕ) → less ≤ sure
      → HasKept view recovers first now changes sure → HasKept view recovers first now changes less
  HasKept-least first now changes sure less fewer kept = record {
    was_clean = kept.was_clean;
    within = omega (arith, fewer, kept.within);
    stands = λ clean. let s = kept.stands clean in record {
      is_open = s.is_open;
      held = s.held;
      noted = s.noted;
      form = s.form;
      leaves = λ db may. LeavesPart-least (view first.store) changes sure less db fewer (s.leaves db may);
      settled = s.settled;
    };
  }

  pub HasBroken-more : (first now : Batch S) (changes more : List Entry) (sure : ℕ)
      → HasBroken view recovers first now changes sure → HasBroken view recovers first now (changes ++ more) sure
  HasBroken-more first now changes more sure broken = record {
    was_clean = broken.was_clean;
    leaves = λ clean db may. LeavesPart-more (view first.store) changes more sure db (broken.leaves clean db may);
  }

  -- ---- one call more
  module _ (faults : S → ℕ) (first old new : Batch S) (changes : List Entry) (sure : ℕ)
      (kept : HasKept view recovers first old changes sure) where
    before : ForgetsNothing view faults old.store new.store → IsClean (view new.store) → IsClean (view old.store)
    before goes clean = omega (arith, goes.clean, clean)

    pub HasKept-append : (change : Entry) → ForgetsNothing view faults old.store new.store
        → (IsClean (view new.store) → Appends (view old.store) (view new.store) change)
        → ((db : Trees) → recovers new.store db → recovers old.store db) → (new.waiting ≡ 0 → ⊥)
        → HasKept view recovers first new (changes ++ change ∷ []) sure
    HasKept-append change goes appends crash some = record {
      was_clean = λ clean. kept.was_clean (before goes clean);
      within = omega (arith, kept.within, length-append changes (change ∷ []));
      stands = λ clean. let s = kept.stands (before goes clean) in let a = appends clean in record {
        is_open = a.is_open;
        held = a.held ∙ ap (λ es. es ++ change ∷ []) s.held
            ∙ append_assoc (stored_in (view first.store)) changes (change ∷ []);
        noted = a.noted ∙ s.noted;
        form = a.form ∙ s.form;
        leaves =
            λ db may. LeavesPart-more (view first.store) changes (change ∷ []) sure db (s.leaves db (crash db may));
        settled = λ none. absurd (some none);
      };
    }

    pub HasBroken-append : ForgetsNothing view faults old.store new.store
        → ((db : Trees) → recovers new.store db → recovers old.store db)
        → HasBroken view recovers first new changes sure
    HasBroken-append goes crash = record {
      was_clean = λ clean. kept.was_clean (before goes clean);
      leaves = λ clean db may. (kept.stands (before goes clean)).leaves db (crash db may);
    }

    pub HasKept-commit : ForgetsNothing view faults old.store new.store
        → (IsClean (view new.store) → Commits (view old.store) (view new.store))
        → (IsClean (view new.store) → (db : Trees)
        → recovers new.store db
        → Holds (form_in (view old.store)) db (held_in (view old.store)) (noted_in (view old.store)))
        → HasKept view recovers first new changes (length changes)
    HasKept-commit goes commits durable = record {
      was_clean = λ clean. kept.was_clean (before goes clean);
      within = omega arith;
      stands = λ clean.
          let s = kept.stands (before goes clean) in
          let c = commits clean in
          let whole : (db : Trees) → recovers new.store db → LeavesPart (view first.store) changes (length changes) db =
          λ db may.
          LeavesPart-whole (view first.store) changes db (rw (s.held, s.noted, s.form) at (durable clean db may)) in
          record {
            is_open = c.is_open;
            held = c.held ∙ s.held;
            noted = c.noted ∙ s.noted;
            form = c.form ∙ s.form;
            leaves = whole;
            settled = λ _. whole;
          };
    }

    pub HasBroken-commit : ForgetsNothing view faults old.store new.store
        → ((db : Trees) → recovers new.store db
        → (IsClean (view old.store)
        × Holds (form_in (view old.store)) db (held_in (view old.store)) (noted_in (view old.store)))
        ⊎ recovers old.store db) → HasBroken view recovers first new changes sure
    HasBroken-commit goes crash = record {
      was_clean = λ clean. kept.was_clean (before goes clean);
      leaves = λ clean db may. left (kept.stands (before goes clean)) db (crash db may);
    } where
      left : Stands view recovers (view first.store) old changes sure → (db : Trees)
          → (IsClean (view old.store)
          × Holds (form_in (view old.store)) db (held_in (view old.store)) (noted_in (view old.store)))
          ⊎ recovers old.store db → LeavesPart (view first.store) changes sure db
      left s db (inl made) =
          LeavesPart-least (view first.store) changes (length changes) sure db kept.within
          (LeavesPart-whole (view first.store) changes db (rw (s.held, s.noted, s.form) at made.1))
      left s db (inr was) = s.leaves db was

  -- where nothing waits, all is certain
  pub HasKept-settled : (first now : Batch S) (changes : List Entry) (sure : ℕ) → now.waiting ≡ 0
      → HasKept view recovers first now changes sure → HasKept view recovers first now changes (length changes)
  HasKept-settled first now changes sure none kept = record {
    was_clean = kept.was_clean;
    within = omega arith;
    stands = λ clean. let s = kept.stands clean in record {
      is_open = s.is_open;
      held = s.held;
      noted = s.noted;
      form = s.form;
      leaves = s.settled none;
      settled = s.settled;
    };
  }
