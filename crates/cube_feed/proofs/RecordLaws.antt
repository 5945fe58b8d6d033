-- The records of the rest of a text go on from one read to the next.
use Rattle.std.proofs.Common.{◌≡◌, ◌<◌, ◌+◌, ◌⊎◌, inl, inr, ℕ, Bool, true, false, List, [], ◌∷◌, ◌++◌, length, Option}
use Rattle.std.proofs.Common.{Some, None, refl, sym, ap, arith, add-one}
use Rattle.std.specs.Prelude.{zero, suc, option_map, if◌then◌else◌}
use Rattle.csv.specs.Machine.{Read, next_record, ends_at_end, is_end, step, fields_after, field_after}
use Rattle.csv.specs.Reading.{records_from, records_next, source_of, pending_of, reader_config, reader_trim}
use Rattle.csv.specs.Reading.{reader_state, has_failed, Ready, ReadRecord, NextIs, ReadsNext}
use Rattle.csv.specs.declared.reader.Reader.{Reader}
use Rattle.csv.specs.declared.reader.Trim.TheVariants as trim
use Rattle.cube_feed.specs.Reading.{Advances, ReadsPlainly, left_of, records_at}
use Rattle.csv.specs.declared.parser.Config.{Config}
use Rattle.csv.specs.declared.parser.State.{State}
use Rattle.csv.specs.declared.parser.State.TheVariants as st

-- a read takes bytes, or it has come to the end of the text
pub record Shrinks (before : List ℕ) (state : State) (left : List ℕ) : Type 0 where
  pub is : (length left < length before) ⊎ ((state ≡ st.StartRecord) × (left ≡ []))

Shrinks-cons : (c : ℕ) (rest : List ℕ) (state : State) (left : List ℕ) → Shrinks rest state left
    → Shrinks (c ∷ rest) state left
Shrinks-cons c rest state left h =
    elim h.is [ inl a ↦ record { is = inl (omega arith) } | inr b ↦ record { is = inr b } ]

next_record-Shrinks : (cfg : Config) (s : State) (fields : List (List ℕ)) (field xs : List ℕ) (r : Read)
    → next_record cfg s fields field xs ≡ Some r → Shrinks xs r.1 r.2
unfolding next_record
next_record-Shrinks cfg s fields field [] r h = by (ends_at_end s) h
  where
    by : (b : Bool) → (if b then Some (fields ++ (field ∷ []), st.StartRecord, []) else None) ≡ Some r
        → Shrinks [] r.1 r.2
    by true e = record { is = inr (cc, cc) }
    by false e = cc
next_record-Shrinks cfg s fields field (c ∷ rest) r h =
    by (is_end (step cfg s c).1) h (next_record-Shrinks cfg (step cfg s c).0
    (fields_after (step cfg s c).1 fields field) (field_after (step cfg s c).1 c field) rest r)
  where
    by : (b : Bool)
        → (if b then Some (fields_after (step cfg s c).1 fields field, (step cfg s c).0, rest)
        else next_record cfg (step cfg s c).0 (fields_after (step cfg s c).1 fields field)
        (field_after (step cfg s c).1 c field) rest) ≡ Some r
        → (next_record cfg (step cfg s c).0 (fields_after (step cfg s c).1 fields field)
        (field_after (step cfg s c).1 c field) rest ≡ Some r → Shrinks rest r.1 r.2)
        → Shrinks (c ∷ rest) r.1 r.2
    by true e more = let left : rest ≡ r.2 = cc in record { is = inl (omega (arith, ap length left)) }
    by false e more = Shrinks-cons c rest r.1 r.2 (more e)

-- no record follows the end
records_from-nil : (cfg : Config) (n : ℕ) → records_from cfg n st.StartRecord [] ≡ []
unfolding records_from next_record
records_from-nil cfg zero = refl
records_from-nil cfg (suc n) = refl

-- any number above the length of the text serves
records_from-fuel : (cfg : Config) (n m : ℕ) (s : State) (xs : List ℕ) → length xs < n → length xs < m
    → records_from cfg n s xs ≡ records_from cfg m s xs
unfolding records_from
records_from-fuel cfg zero m s xs h k = absurd (omega arith)
records_from-fuel cfg (suc n) zero s xs h k = absurd (omega arith)
records_from-fuel cfg (suc n) (suc m) s xs h k = by (next_record cfg s [] [] xs) refl (records_from-fuel cfg n m)
  where
    by : (o : Option Read) → next_record cfg s [] [] xs ≡ o
        → ((s2 : State) (ys : List ℕ) → length ys < n → length ys < m
        → records_from cfg n s2 ys ≡ records_from cfg m s2 ys)
        → records_next (records_from cfg n) o ≡ records_next (records_from cfg m) o
    by None e more = refl
    by (Some r) e more = elim (next_record-Shrinks cfg s [] [] xs r e).is [
      | inl a ↦ ap (λ (rs : List (List (List ℕ))). r.0 ∷ rs) (more r.1 r.2 (omega arith) (omega arith))
      | inr b ↦ rw (b.0, b.1, records_from-nil cfg n, records_from-nil cfg m) refl
    ]

-- where no record follows, there is none
pub records_at-None : (cfg : Config) (s : State) (xs : List ℕ) → next_record cfg s [] [] xs ≡ None
    → records_at cfg s xs ≡ []
unfolding records_from
records_at-None cfg s xs h = rw (add-one (length xs), h) refl

-- where a record follows, it is the first, and the others are those of the bytes that it leaves
pub records_at-Some : (cfg : Config) (s : State) (xs : List ℕ) (r : Read) → next_record cfg s [] [] xs ≡ Some r
    → records_at cfg s xs ≡ r.0 ∷ records_at cfg r.1 r.2
unfolding records_from
records_at-Some cfg s xs r h = rw (add-one (length xs), h) (ap (λ (rs : List (List (List ℕ))). r.0 ∷ rs) same)
  where
    same : records_from cfg (length xs) r.1 r.2 ≡ records_from cfg (length r.2 + 1) r.1 r.2
    same = elim (next_record-Shrinks cfg s [] [] xs r h).is [
      | inl a ↦ records_from-fuel cfg (length xs) (length r.2 + 1) r.1 r.2 (omega arith) (omega arith)
      | inr b ↦ rw (b.0, b.1, records_from-nil cfg (length xs)) (sym (records_from-nil cfg 1))
    ]

NextIs-true : (cfg : Config) (s : State) (xs : List ℕ) (o : Option Read) (fields : List (List ℕ)) (s2 : State)
    (ys : List ℕ)
    → next_record cfg s [] [] xs ≡ o → NextIs o true fields s2 ys
    → records_at cfg s xs ≡ fields ∷ records_at cfg s2 ys
NextIs-true cfg s xs None fields s2 ys e n = cc n
NextIs-true cfg s xs (Some r) fields s2 ys e n = rw (n.1, n.2, n.3) (records_at-Some cfg s xs r e)

NextIs-false : (cfg : Config) (s : State) (xs : List ℕ) (o : Option Read) (fields : List (List ℕ)) (s2 : State)
    (ys : List ℕ)
    → next_record cfg s [] [] xs ≡ o → NextIs o false fields s2 ys → records_at cfg s xs ≡ []
NextIs-false cfg s xs None fields s2 ys e n = records_at-None cfg s xs e
NextIs-false cfg s xs (Some r) fields s2 ys e n = cc n.0

-- what a read of csv does to the records that are left
ReadsNext-Advances : (cfg : Config) (s : State) (xs : List ℕ) (after : Option (List ℕ)) (found : Bool)
    (fields : List (List ℕ)) (s2 : State)
    → ReadsNext cfg s (Some xs) after found fields s2
    → Advances (Some (records_at cfg s xs)) found
    (record { left = option_map (records_at cfg s2) after; fields = fields })
ReadsNext-Advances cfg s xs None found fields s2 h = absurd h
ReadsNext-Advances cfg s xs (Some ys) true fields s2 h =
    rw (NextIs-true cfg s xs (next_record cfg s [] [] xs) fields s2 ys refl h) (refl, refl, refl)
ReadsNext-Advances cfg s xs (Some ys) false fields s2 h =
    rw (NextIs-false cfg s xs (next_record cfg s [] [] xs) fields s2 ys refl h) refl

-- a read takes the first of the records that are left
pub ReadRecord-Advances : {R : Type 0} (remaining : R → Option (List ℕ)) (old new : Reader R) (found : Bool)
    (fields : List (List ℕ))
    → ReadsPlainly old → (reader_trim old ≡ trim.None → Ready old → ReadRecord remaining old new found fields)
    → Advances (left_of remaining old) found (record { left = left_of remaining new; fields = fields })
ReadRecord-Advances {R} remaining old new found fields plain reads = by (has_failed old) refl
  where
    known : has_failed old ≡ false → (source : Option (List ℕ)) → source_of remaining old ≡ source
        → Advances (option_map (records_at (reader_config old) (reader_state old)) source) found
        (record { left = left_of remaining new; fields = fields })
    known e None q = tt
    known e (Some xs) q =
        let read = reads (plain.trims e) (plain.ready e) in
        let next = rw q at read.0 in
        rw (read.1, read.2) (ReadsNext-Advances old.config old.state xs (pending_of (remaining new.rdr) new) found
        fields new.state next)

    by : (failed : Bool) → has_failed old ≡ failed
        → Advances (left_of remaining old) found (record { left = left_of remaining new; fields = fields })
    by true e = rw e tt
    by false e = known e (source_of remaining old) refl
