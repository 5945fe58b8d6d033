-- What a session over a store keeps, from what its journal keeps.
use Rattle.std.proofs.Common.{◌≡◌, ◌⊎◌, inl, inr, ◌+◌, ◌≤◌, ℕ, Bool, true, false, zero, suc, List, [], ◌∷◌, ◌++◌}
use Rattle.std.proofs.Common.{length, take, drop, refl, sym, ap, subst, ◌∙◌, add-one, arith, length-append}
use Rattle.std.specs.Prelude.{Option, None, Some, IfSome, if◌then◌else◌}
use Rattle.std.proofs.lemmas.List.{append-nil, length-map, take_all, take-append-le}
use Rattle.sqlite_trees.specs.Tree.{Trees}
use Rattle.sqlite_trees.specs.View.{View, IsClean}
use Rattle.cube_core.specs.FeedRecords.{is_read}
use Rattle.cube_core.specs.Layout.{Layout}
use Rattle.cube_store.specs.Making.{LeavesNotes}
use Rattle.cube_store.specs.Rows.{Entry}
use Rattle.cube_store.specs.State.{Holds, LeadsTo, stored_in, noted_in, form_in, stored_form}
use Rattle.cube_live.specs.Keeping.{FailsKept, Keeping, KeepsBy, KeepsOn, KeepsPart, LeavesAt, Noted, keeping_after}
use Rattle.cube_live.specs.Keeping.{keeping_by, keeping_with, made_sure, with_change}
use Rattle.cube_live.specs.Live.{LiveView}
use Rattle.cube_live.specs.Request.{request_of}
use Rattle.cube_live.specs.Serving.{Serves}
use Rattle.cube_live.specs.declared.request.Request.{Request}
use Rattle.cube_live.specs.declared.request.Request.TheVariants.{Change, Ask, Wrong}
use Rattle.cube_live.specs.declared.session.SessionFault.{SessionFault}
use Rattle.cube_live.specs.declared.session.SessionFault.TheVariants.{Read, TooMany, Full, Write, Journal}
use Rattle.cube_live.proofs.KeepingLaws.{keeping_after-append}
use Rattle.cube_store.specs.Keeping.{Batch, HasKept, LeavesPart}
use Rattle.cube_store_commands.specs.Kept.{FailsStored, keeps, breaks}
use Rattle.cube_store_commands.specs.Records.{stored_all, stored_as}
use Rattle.cube_store_commands.specs.Replay.{TakesStored, arrivals_from}
use Rattle.cube_store.specs.Codes.{TellsFailedCall}
use Rattle.cube_store.specs.declared.store_fault.StoreFault.{StoreFault}
use Rattle.cube_store_commands.specs.Serving.{BreaksSession, BreaksStored, ExplainsResume, LeavesFirst, ServesStored}
use Rattle.cube_store_commands.specs.Serving.{IfRefused, IfUntaken, WritesNothing}
use Rattle.cube_store_commands.specs.Serving.{changes_in, nothing, stored_fault_of}
use Rattle.cube_store_commands.specs.declared.session.ResumeFault.{ResumeFault}
use Rattle.cube_store_commands.specs.declared.session.ResumeFault.TheVariants as resume
use Rattle.cube_store_commands.proofs.KeepingLaws.{stored_all-append}
use Rattle.cube_store_commands.proofs.ReplayLaws.{LeadsTo-schema, LeadsTo-stands}

-- ---- what one record more adds
-- more was told, and no less is certain
record Grows (k next : Keeping) : Type 0 where
  more : List Noted
  told_is : next.told ≡ k.told ++ more
  surer : k.sure ≤ next.sure

Grows-same : (k : Keeping) → Grows k k
Grows-same k = record { more = []; told_is = sym (append-nil k.told); surer = omega arith }

Grows-changed : (k : Keeping) (source : ℕ) (fields : List (List ℕ)) (read : Bool)
    → Grows k (if read then with_change k source fields else k)
Grows-changed k source fields true = record { more = (source, fields) ∷ []; told_is = refl; surer = omega arith }
Grows-changed k source fields false = Grows-same k

Grows-by : (s : Layout) (k : Keeping) (asks : Request) (fields : List (List ℕ)) → k.sure ≤ length k.told
    → Grows k (keeping_by s k asks fields)
Grows-by s k (Change source) fields within = Grows-changed k source fields (is_read s (drop 1 fields))
Grows-by s k (Ask question) fields within = record { more = []; told_is = sym (append-nil k.told); surer = within }
Grows-by s k (Wrong fault) fields within = record { more = []; told_is = sym (append-nil k.told); surer = within }

-- no more is certain than was told
within-changed : (k : Keeping) (source : ℕ) (fields : List (List ℕ)) (read : Bool) → k.sure ≤ length k.told
    → (if read then with_change k source fields else k).sure
    ≤ length (if read then with_change k source fields else k).told
within-changed k source fields true within = omega (arith, within, length-append k.told ((source, fields) ∷ []))
within-changed k source fields false within = within

within-by : (s : Layout) (k : Keeping) (asks : Request) (fields : List (List ℕ)) → k.sure ≤ length k.told
    → (keeping_by s k asks fields).sure ≤ length (keeping_by s k asks fields).told
within-by s k (Change source) fields within = within-changed k source fields (is_read s (drop 1 fields)) within
within-by s k (Ask question) fields within = omega arith
within-by s k (Wrong fault) fields within = omega arith

within-after : (s : Layout) (k : Keeping) (records : List (List (List ℕ))) → k.sure ≤ length k.told
    → (keeping_after s k records).sure ≤ length (keeping_after s k records).told
within-after s k [] within = within
within-after s k (fields ∷ records) within =
    within-after s (keeping_with s k fields) records (within-by s k (request_of s fields) fields within)

-- the first records, and one more if there is one
take-step : {A : Type 0} (count : ℕ) (records : List A) → (take (suc count) records ≡ take count records)
    ⊎ ((x : A) × (take (suc count) records ≡ take count records ++ x ∷ []))
take-step zero [] = inl refl
take-step zero (r ∷ records) = inr (r, refl)
take-step (suc count) [] = inl refl
take-step {A} (suc count) (r ∷ records) = longer (take-step count records)
  where
    longer : (take (suc count) records ≡ take count records)
        ⊎ ((x : A) × (take (suc count) records ≡ take count records ++ x ∷ []))
        → (take (suc (suc count)) (r ∷ records) ≡ take (suc count) (r ∷ records))
        ⊎ ((x : A) × (take (suc (suc count)) (r ∷ records) ≡ take (suc count) (r ∷ records) ++ x ∷ []))
    longer (inl same) = inl (ap (λ l. r ∷ l) same)
    longer (inr more) = inr (more.0, ap (λ l. r ∷ l) more.1)

Grows-take : (s : Layout) (records : List (List (List ℕ))) (count : ℕ)
    → Grows (keeping_after s nothing (take count records)) (keeping_after s nothing (take (count + 1) records))
Grows-take s records count =
    subst (λ n. Grows (keeping_after s nothing (take count records)) (keeping_after s nothing (take n records)))
    (sym (add-one count)) (grows (take-step count records))
  where
    grows : (take (suc count) records ≡ take count records)
        ⊎ ((x : List (List ℕ)) × (take (suc count) records ≡ take count records ++ x ∷ []))
        → Grows (keeping_after s nothing (take count records)) (keeping_after s nothing (take (suc count) records))
    grows (inl same) = subst (λ (rs : List (List (List ℕ))). Grows (keeping_after s nothing (take count records))
        (keeping_after s nothing rs)) (sym same) (Grows-same (keeping_after s nothing (take count records)))
    grows (inr more) =
        subst (λ (next : Keeping). Grows (keeping_after s nothing (take count records)) next)
        (sym (ap (keeping_after s nothing) more.1 ∙ keeping_after-append s nothing (take count records) (more.0 ∷ [])))
        (Grows-by s (keeping_after s nothing (take count records)) (request_of s more.0) more.0
        (within-after s nothing (take count records) (omega arith)))

module _ {S : Type 0} (view : S → View) (recovers : S → Trees → Type 0) where
  module _ (live resumed : LiveView) (was : View) (notes : List Entry) (begun now : Batch S)
      (fresh : HasKept view recovers begun begun [] 0)
      (taken : IsClean (view begun.store) → LeadsTo TakesStored live (stored_in was) resumed)
      (stored : IsClean (view begun.store) → stored_in (view begun.store) ≡ stored_in was)
      (noted : IsClean (view begun.store) → noted_in (view begun.store) ≡ notes)
      (formed : IsClean (view begun.store) → form_in (view begun.store) ≡ stored_form was) where
    -- what a crash leaves, said of the store as it was
    part-of : IsClean (view begun.store) → (changes : List Entry) (sure : ℕ) (db : Trees)
        → LeavesPart (view begun.store) changes sure db
        → (part : ℕ) × (sure ≤ part) × (part ≤ length changes) × Holds (stored_form was) db (stored_in was ++ take part changes) notes
    part-of clean changes sure db part =
        (part.count, part.at_least, part.at_most, rw (stored clean, noted clean, formed clean) at part.holds)

    -- ---- where it ended well
    served : (records : List (List (List ℕ))) (after : LiveView) (old new : Option (List ℕ))
        → Serves resumed.schema records resumed after old new
        → KeepsOn (keeps view recovers) (keeps view recovers) begun
        (λ k. made_sure (keeping_after resumed.schema k records)) now → IsClean (view now.store)
        → ServesStored live.schema was notes records live after (view now.store) (recovers now.store) old new
    served records after old new serves on clean =
        let kept = on begun nothing fresh in
        let clean_first = kept.was_clean clean in
        let schema = LeadsTo-schema live resumed (stored_in was) (taken clean_first) in
        let told : List Noted = (keeping_after resumed.schema nothing records).told in
        let stands = kept.stands clean in
        let same : stored_all told ≡ changes_in live.schema records =
        ap (λ (s : Layout). changes_in s records) schema in
        record {
          held =
              stands.held ∙ ap (λ es. es ++ stored_all told) (stored clean_first) ∙ ap (λ es. stored_in was ++ es) same;
          leaves = λ db may.
              let part = part-of clean_first (stored_all told) (length told) db (stands.leaves db may) in
              let whole : take part.0 (stored_all told) ≡ stored_all told =
              take_all part.0 (stored_all told) (omega (arith, part.1, length-map told stored_as)) in
              subst (λ es. Holds (stored_form was) db (stored_in was ++ es) notes) (whole ∙ same) part.3;
          answered = λ start here. (rw schema at (serves (arrivals_from live.schema start (stored_in was))
              (LeadsTo-stands live resumed (stored_in was) (taken clean_first) start here))).0;
          stands = λ start here. (rw schema at (serves (arrivals_from live.schema start (stored_in was))
              (LeadsTo-stands live resumed (stored_in was) (taken clean_first) start here))).1;
        }

    pub ServesStored-served : (left : Option (List (List (List ℕ)))) (after : LiveView) (old new : Option (List ℕ))
        → IfSome left (λ records. Serves resumed.schema records resumed after old new)
        → IfSome left (λ records. KeepsOn (keeps view recovers) (keeps view recovers) begun
        (λ k. made_sure (keeping_after resumed.schema k records)) now)
        → IfSome left (λ records. IsClean (view now.store)
        → ServesStored live.schema was notes records live after (view now.store) (recovers now.store) old new)
    ServesStored-served None after old new serves on = tt
    ServesStored-served (Some records) after old new serves on = λ clean. served records after old new serves on clean

    -- over the schema that it began with
    pub schema-served : (left : Option (List (List (List ℕ)))) (after : LiveView) → after.schema ≡ resumed.schema
        → IfSome left (λ records. KeepsOn (keeps view recovers) (keeps view recovers) begun
        (λ k. made_sure (keeping_after resumed.schema k records)) now)
        → IfSome left (λ records. IsClean (view now.store) → after.schema ≡ live.schema)
    schema-served None after same on = tt
    schema-served (Some records) after same on =
        λ clean. same ∙ LeadsTo-schema live resumed (stored_in was) (taken ((on begun nothing fresh).was_clean clean))

    -- ---- where it failed
    part_clean : (k next : Keeping) → KeepsPart (keeps view recovers) (breaks view recovers) begun now k next
        → IsClean (view now.store) → IsClean (view begun.store)
    part_clean k next (inl kept) clean = kept.was_clean clean
    part_clean k next (inr (inl kept)) clean = kept.was_clean clean
    part_clean k next (inr (inr broken)) clean = broken.was_clean clean

    first_clean : (k next : Keeping) → KeepsPart (keeps view recovers) (breaks view recovers) begun now k next
        ⊎ breaks view recovers begun now k → IsClean (view now.store) → IsClean (view begun.store)
    first_clean k next (inl part) clean = part_clean k next part clean
    first_clean k next (inr broken) clean = broken.was_clean clean

    -- what there is of some changes, said of these and more
    longer_part : (k next : Keeping) → Grows k next → (part : ℕ) → part ≤ length (stored_all k.told) → (db : Trees)
        → Holds (stored_form was) db (stored_in was ++ take part (stored_all k.told)) notes
        → Holds (stored_form was) db (stored_in was ++ take part (stored_all next.told)) notes
    longer_part k next grows part within db holds =
        let longer : take part (stored_all next.told) ≡ take part (stored_all k.told) =
        ap (λ told. take part (stored_all told)) grows.told_is
        ∙ ap (λ es. take part es) (stored_all-append k.told grows.more)
        ∙ take-append-le part (stored_all k.told) (stored_all grows.more) within in
        subst (λ es. Holds (stored_form was) db (stored_in was ++ es) notes) (sym longer) holds

    left_part : (k next : Keeping) → Grows k next
        → KeepsPart (keeps view recovers) (breaks view recovers) begun now k next → IsClean (view now.store)
        → (db : Trees) → recovers now.store db
        → (part : ℕ) × (k.sure ≤ part) × Holds (stored_form was) db (stored_in was ++ take part (stored_all next.told)) notes
    left_part k next grows (inl kept) clean db may =
        let part = part-of (kept.was_clean clean) (stored_all k.told) k.sure db ((kept.stands clean).leaves db may) in
        (part.0, part.1, longer_part k next grows part.0 part.2 db part.3)
    left_part k next grows (inr (inl kept)) clean db may =
        let part =
        part-of (kept.was_clean clean) (stored_all next.told) next.sure db ((kept.stands clean).leaves db may) in
        (part.0, omega (arith, grows.surer, part.1), part.3)
    left_part k next grows (inr (inr broken)) clean db may =
        let part = part-of (broken.was_clean clean) (stored_all next.told) k.sure db (broken.leaves clean db may) in
        (part.0, part.1, part.3)

    left_first : (k next : Keeping) → Grows k next
        → KeepsPart (keeps view recovers) (breaks view recovers) begun now k next ⊎ breaks view recovers begun now k
        → IsClean (view now.store) → (db : Trees) → recovers now.store db
        → (part : ℕ) × (k.sure ≤ part) × Holds (stored_form was) db (stored_in was ++ take part (stored_all next.told)) notes
    left_first k next grows (inl part) clean db may = left_part k next grows part clean db may
    left_first k next grows (inr broken) clean db may =
        let part = part-of (broken.was_clean clean) (stored_all k.told) k.sure db (broken.leaves clean db may) in
        (part.0, part.1, longer_part k next grows part.0 part.2 db part.3)

    -- what a journal kept up to a record, whatever the fault
    kept_part : (s : Layout) (records : List (List (List ℕ))) (fault : SessionFault) (count : ℕ)
        → KeepsBy (keeps view recovers) (breaks view recovers) begun now s records fault count
        → KeepsPart (keeps view recovers) (breaks view recovers) begun now
        (keeping_after s nothing (take count records)) (keeping_after s nothing (take (count + 1) records))
        ⊎ breaks view recovers begun now (keeping_after s nothing (take count records))
    kept_part s records Read count by = by begun nothing fresh
    kept_part s records (TooMany source) count by = by begun nothing fresh
    kept_part s records Full count by = by begun nothing fresh
    kept_part s records (Write sent) count by = inl (inl (by begun nothing fresh))
    kept_part s records (Journal fault) count by = by begun nothing fresh

    broken : (records : List (List (List ℕ))) (fault : SessionFault) (old new : Option (List ℕ))
        → FailsKept (keeps view recovers) (breaks view recovers) begun now resumed.schema records resumed fault old new
        → IsClean (view now.store)
        → BreaksSession live.schema was notes records live (recovers now.store) old new fault
    broken records fault old new fails clean =
        let count : ℕ = fails.0 in
        let part = kept_part resumed.schema records fault count fails.1 in
        let clean_first = first_clean (keeping_after resumed.schema nothing (take count records))
        (keeping_after resumed.schema nothing (take (count + 1) records)) part clean in
        let schema = LeadsTo-schema live resumed (stored_in was) (taken clean_first) in (
          count,
          subst (λ (s : Layout). LeavesFirst s was notes records count (recovers now.store)) schema
              (left_first (keeping_after resumed.schema nothing (take count records))
              (keeping_after resumed.schema nothing (take (count + 1) records))
              (Grows-take resumed.schema records count) part clean),
          (λ start here. subst
              (λ (s : Layout). LeavesAt s records (arrivals_from live.schema start (stored_in was)) fault count old new)
              schema
              (fails.2 (arrivals_from live.schema start (stored_in was))
              (LeadsTo-stands live resumed (stored_in was) (taken clean_first) start here))),
        )

    pub BreaksSession-broken : (left : Option (List (List (List ℕ)))) (fault : SessionFault) (old new : Option (List ℕ))
        → IfSome left (λ records.
        FailsKept (keeps view recovers) (breaks view recovers) begun now resumed.schema records resumed fault old new)
        → IfSome left (λ records. IsClean (view now.store)
        → BreaksSession live.schema was notes records live (recovers now.store) old new fault)
    BreaksSession-broken None fault old new fails = tt
    BreaksSession-broken (Some records) fault old new fails = λ clean. broken records fault old new fails clean

  -- a session that failed, and left this store
  pub BreaksSession-failed : (live resumed : LiveView) (was : View) (notes : List Entry) (begun : Batch S) (store : S)
      → HasKept view recovers begun begun [] 0
      → (IsClean (view begun.store) → LeadsTo TakesStored live (stored_in was) resumed)
      → (IsClean (view begun.store) → stored_in (view begun.store) ≡ stored_in was)
      → (IsClean (view begun.store) → noted_in (view begun.store) ≡ notes)
      → (IsClean (view begun.store) → form_in (view begun.store) ≡ stored_form was)
      → (left : Option (List (List (List ℕ)))) (fault : SessionFault) (old new : Option (List ℕ))
      → IfSome left (FailsStored view recovers resumed begun store fault old new)
      → IfSome left (λ records. IsClean (view store)
      → BreaksSession live.schema was notes records live (recovers store) old new fault)
  BreaksSession-failed live resumed was notes begun store fresh taken stored noted formed None fault old new fails = tt
  BreaksSession-failed live resumed was notes begun store fresh taken stored noted formed (Some records) fault old new fails =
      λ clean.
      subst (λ (it : S). BreaksSession live.schema was notes records live (recovers it) old new fault)
      (sym fails.store_is)
      (BreaksSession-broken live resumed was notes begun fails.ended fresh taken stored noted formed
      (Some records) fault old new fails.fails
      (subst (λ (it : S). IsClean (view it)) fails.store_is clean))

  -- and that it left this store, where its journal did
  pub FailsStored-made : (live : LiveView) (begun ended : Batch S) (store : S) (fault : SessionFault)
      (old new : Option (List ℕ)) (left : Option (List (List (List ℕ)))) → store ≡ ended.store
      → IfSome left (λ records.
      FailsKept (keeps view recovers) (breaks view recovers) begun ended live.schema records live fault old new)
      → IfSome left (FailsStored view recovers live begun store fault old new)
  FailsStored-made live begun ended store fault old new None is fails = tt
  FailsStored-made live begun ended store fault old new (Some records) is fails =
      record { ended = ended; store_is = is; fails = fails }

-- a session whose store wasn't taken
pub BreaksStored-refused : (live : LiveView) (was : View) (notes : List Entry) (Before Leaves : Trees → Type 0)
    (Clean taken : Type 0) (fault : ResumeFault) (old : Option (List ℕ)) (left : Option (List (List (List ℕ))))
    → ((db : Trees) → Leaves db → LeavesNotes was notes db ⊎ Before db) → (Clean → ExplainsResume live was taken fault)
    → IfSome left (λ records. Clean
    → BreaksStored live.schema was notes records live Before Leaves old old (stored_fault_of fault))
BreaksStored-refused live was notes Before Leaves Clean taken fault old None unharmed explains = tt
BreaksStored-refused live was notes Before Leaves Clean taken (resume.Store fault) old (Some records) unharmed explains =
    λ clean. (refl, unharmed)
BreaksStored-refused live was notes Before Leaves Clean taken (resume.TooMany source) old (Some records) unharmed explains =
    λ clean. (refl, unharmed, explains clean)

-- what is told of a store that wasn't taken
pub IfRefused-untaken : (holds : StoreFault → Type 0) (fault : ResumeFault) → IfUntaken holds fault
    → IfRefused holds (stored_fault_of fault)
IfRefused-untaken holds (resume.Store fault) is = is
IfRefused-untaken holds (resume.TooMany source) is = tt

pub IfRefused-explains : (live : LiveView) (was : View) (taken : Type 0) (fault : ResumeFault)
    → ExplainsResume live was taken fault → taken → IfRefused TellsFailedCall (stored_fault_of fault)
IfRefused-explains live was taken (resume.Store fault) explains may = explains may
IfRefused-explains live was taken (resume.TooMany source) explains may = tt

pub WritesNothing-refused : (fault : ResumeFault) (old : Option (List ℕ))
    → WritesNothing (stored_fault_of fault) old old
WritesNothing-refused (resume.Store fault) old = refl
WritesNothing-refused (resume.TooMany source) old = refl
