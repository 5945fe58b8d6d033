-- What is read on of bytes whose records have a bound, and what it tells of their end.
use Rattle.std.proofs.Common.{◌≡◌, ◌==◌, ◌<◌, ◌+◌, ℕ, Bool, true, false, List, [], ◌∷◌, refl, sym, ap, subst, arith}
use Rattle.std.specs.Bool.{MatchBool}
use Rattle.std.specs.Prelude.{⊤, ◌&&◌, ◌||◌, nat_lt, if◌then◌else◌}
use Rattle.std.proofs.lemmas.Bool.{and_parts, eqb-true, false_from_ne_true, le-ltb, lt-ltb, ltb-false, ltb-true}
use Rattle.csv.specs.Machine.{is_end, next_record, step, fields_after, field_after}
use Rattle.csv.specs.Reading.{is_bom, records, records_from, strip_bom}
use Rattle.csv.specs.declared.parser.State.{State}
use Rattle.csv.specs.declared.parser.State.TheVariants as st
use Rattle.cube_core.specs.FeedRecords.{TextEnd, InLongRecord, config_by, is_within_quotes, state_after, whole_records}
use Rattle.cube_core.specs.RecordBound.{is_between, is_exceeded, mark_length, up_to_excess}
use Rattle.cube_feed.specs.FeedBytes.{bounded, is_before_record, is_quoted, mark, place_after, place_of}
use Rattle.cube_feed.specs.FeedText.{TextLeft, without_mark}
use Rattle.cube_feed.specs.Reading.{records_by}
use Rattle.cube_feed.specs.declared.place.Place.TheVariants as place
use Rattle.cube_feed.proofs.MarkLaws.{Fits, Fits-between, Goes-step, Marks-bounded, bounded_at, end_in}
use Rattle.cube_feed.proofs.MarkLaws.{records_at-nil, records_at-within}

-- ---- places and states

-- a state that is reached without escapes and comments
Fits-step : (d c : ℕ) (s : State) → Fits s [] [] → Fits (step (config_by d) s c).0 [] []
Fits-step d c s fit = by (is_end (step (config_by d) s c).1) (Goes-step d [] [] c s fit)
  where
    next : State
    next = (step (config_by d) s c).0

    nothing : (at : State) (fields : List (List ℕ)) (field : List ℕ) → Fits at fields field → Fits at [] []
    nothing st.StartRecord fields field fits = (refl, refl)
    nothing st.AfterCr fields field fits = (refl, refl)
    nothing st.StartField fields field fits = tt
    nothing st.InField fields field fits = tt
    nothing st.InQuoted fields field fits = tt
    nothing st.AfterQuote fields field fits = tt
    nothing st.InEscape fields field fits = fits
    nothing st.InComment fields field fits = fits

    by : (ends : Bool) → MatchBool ends (is_between next ≡ true)
        (Fits next (fields_after (step (config_by d) s c).1 [] []) (field_after (step (config_by d) s c).1 c []))
        → Fits next [] []
    by true between = Fits-between next between
    by false fits = nothing next _ _ fits

before-place_of : (s : State) → is_before_record (place_of s) ≡ is_between s
before-place_of st.StartRecord = refl
before-place_of st.AfterCr = refl
before-place_of st.StartField = refl
before-place_of st.InField = refl
before-place_of st.InQuoted = refl
before-place_of st.AfterQuote = refl
before-place_of st.InEscape = refl
before-place_of st.InComment = refl

quoted-place_of : (s : State) → is_quoted (place_of s) ≡ is_within_quotes s
quoted-place_of st.StartRecord = refl
quoted-place_of st.AfterCr = refl
quoted-place_of st.StartField = refl
quoted-place_of st.InField = refl
quoted-place_of st.InQuoted = refl
quoted-place_of st.AfterQuote = refl
quoted-place_of st.InEscape = refl
quoted-place_of st.InComment = refl

after-place_of : (d c : ℕ) (s : State) → Fits s [] [] → place_after d (place_of s) c ≡ place_of (step (config_by d) s c).0
after-place_of d c st.StartRecord fit = refl
after-place_of d c st.AfterCr fit = refl
after-place_of d c st.StartField fit = refl
after-place_of d c st.InField fit = refl
after-place_of d c st.InQuoted fit = refl
after-place_of d c st.AfterQuote fit = refl
after-place_of d c st.InEscape fit = absurd fit
after-place_of d c st.InComment fit = absurd fit

module _ (d most : ℕ) (by_name : Bool) where
  -- what is read on from a place is what is read on from its state
  bounded-place_of : (xs : List ℕ) (s : State) (count : ℕ) → Fits s [] []
      → bounded d most by_name (place_of s) count xs ≡ bounded_at (config_by d) most by_name s count xs
  bounded-place_of [] s count fit = rw (quoted-place_of s) refl
  bounded-place_of (c ∷ xs) s count fit =
      rw (after-place_of d c s fit, before-place_of next) (by (is_between next) (nat_lt count most)
      (λ so_far. ap (λ (l : List ℕ). c ∷ l)
      (bounded-place_of xs (step (config_by d) s c).0 so_far (Fits-step d c s fit))))
    where
      next : State
      next = (step (config_by d) s c).0

      by : (between below : Bool)
          → ((so_far : ℕ) → (c ∷ bounded d most by_name (place_of next) so_far xs)
          ≡ (c ∷ bounded_at (config_by d) most by_name next so_far xs))
          → (if between then c ∷ bounded d most by_name (place_of next) 0 xs
          else if below then c ∷ bounded d most by_name (place_of next) (count + 1) xs else 255 ∷ [])
          ≡ (if between then c ∷ bounded_at (config_by d) most by_name next 0 xs
          else if below then c ∷ bounded_at (config_by d) most by_name next (count + 1) xs else 255 ∷ [])
      by true below on = on 0
      by false true on = on (count + 1)
      by false false on = refl

  -- behind a byte order mark it is what is read on before a record
  bounded-marked : (xs : List ℕ) (count : ℕ)
      → bounded d most by_name place.Marked count xs ≡ bounded d most by_name place.Record count xs
  bounded-marked [] count = refl
  bounded-marked (c ∷ xs) count = refl

-- ---- the byte order mark

-- a text doesn't begin with this byte
abbrev NotFirst : ℕ → List ℕ → Type 0
NotFirst byte [] = ⊤
NotFirst byte (x ∷ xs) = (x == byte) ≡ false

-- nor with the last two bytes of the mark
abbrev NotBegun : List ℕ → Type 0
NotBegun [] = ⊤
NotBegun (x ∷ xs) = (x == 0xBB) ≡ true → NotFirst 0xBF xs

-- nor with the whole mark
abbrev NotMarked : List ℕ → Type 0
NotMarked [] = ⊤
NotMarked (x ∷ xs) = (x == 0xEF) ≡ true → NotBegun xs

NotMarked-length : (xs : List ℕ) → mark_length xs ≡ 0 → NotMarked xs
NotMarked-length [] none = tt
NotMarked-length (a ∷ []) none = λ first. tt
NotMarked-length (a ∷ b ∷ []) none = λ first second. tt
NotMarked-length (a ∷ b ∷ c ∷ xs) none = by (a == 0xEF) (b == 0xBB) (c == 0xBF) none
  where
    by : (p q r : Bool) → ◌≡◌ {A = ℕ} (if p && q && r then 3 else 0) 0 → p ≡ true → q ≡ true → r ≡ false
    by true true true e first second = absurd (omega (arith, e))
    by true true false e first second = refl
    by true false r e first second = cc second
    by false q r e first second = cc first

strip_bom-none : (xs : List ℕ) → NotMarked xs → strip_bom xs ≡ xs
unfolding strip_bom
strip_bom-none [] none = refl
strip_bom-none (a ∷ []) none = refl
strip_bom-none (a ∷ b ∷ []) none = refl
strip_bom-none (a ∷ b ∷ c ∷ xs) none = by (a == 0xEF) (b == 0xBB) (c == 0xBF) none
  where
    by : (p q r : Bool) → (p ≡ true → q ≡ true → r ≡ false)
        → (if p && q && r then xs else a ∷ b ∷ c ∷ xs) ≡ a ∷ b ∷ c ∷ xs
    by true true true other = cc (other refl refl)
    by true true false other = refl
    by true false r other = refl
    by false q r other = refl

module _ (d most : ℕ) (by_name : Bool) (ascii : d < 128) where
  -- no byte from 128 on is a delimiter
  apart : (n : ℕ) → 128 < n → (n == d) ≡ false
  apart n above = false_from_ne_true (n == d) (λ same. let is = eqb-true n d same in absurd (omega arith))

  no_EF : (0xEF == d) ≡ false
  no_EF = apart 0xEF (omega arith)

  no_BB : (0xBB == d) ≡ false
  no_BB = apart 0xBB (omega arith)

  no_255 : (255 == d) ≡ false
  no_255 = apart 255 (omega arith)

  -- where no mark goes on, its first bytes are those of a field
  bounded-goes_on : (xs : List ℕ) (count : ℕ) → NotFirst 0xBF xs
      → bounded d most by_name place.MarkGoesOn count xs ≡ bounded d most by_name place.Plain count xs
  bounded-goes_on [] count other = refl
  bounded-goes_on (c ∷ xs) count other = rw other refl

  bounded-begun : (xs : List ℕ) (count : ℕ) → NotBegun xs
      → bounded d most by_name place.MarkBegun count xs ≡ bounded d most by_name place.Plain count xs
  bounded-begun [] count other = refl
  bounded-begun (c ∷ xs) count other = by (c == 0xBB) refl
    where
      second : (xs : List ℕ) → NotFirst 0xBF xs
          → bounded d most by_name place.MarkBegun count (0xBB ∷ xs) ≡ bounded d most by_name place.Plain count (0xBB ∷ xs)
      second xs other = rw no_BB (on (nat_lt count most))
        where
          on : (below : Bool)
              → (if below then 0xBB ∷ bounded d most by_name place.MarkGoesOn (count + 1) xs else 255 ∷ [])
              ≡ (if below then 0xBB ∷ bounded d most by_name place.Plain (count + 1) xs else 255 ∷ [])
          on true = ap (λ (l : List ℕ). 0xBB ∷ l) (bounded-goes_on xs (count + 1) other)
          on false = refl

      by : (is : Bool) → (c == 0xBB) ≡ is
          → bounded d most by_name place.MarkBegun count (c ∷ xs) ≡ bounded d most by_name place.Plain count (c ∷ xs)
      by false e = rw e refl
      by true e = subst (λ (n : ℕ). bounded d most by_name place.MarkBegun count (n ∷ xs)
          ≡ bounded d most by_name place.Plain count (n ∷ xs)) (sym (eqb-true c 0xBB e)) (second xs (other e))

  bounded-start : (xs : List ℕ) (count : ℕ) → NotMarked xs
      → bounded d most by_name place.Start count xs ≡ bounded d most by_name place.Record count xs
  bounded-start [] count other = refl
  bounded-start (c ∷ xs) count other = by (c == 0xEF) refl
    where
      first : (xs : List ℕ) → NotBegun xs
          → bounded d most by_name place.Start count (0xEF ∷ xs) ≡ bounded d most by_name place.Record count (0xEF ∷ xs)
      first xs other = rw no_EF (on (nat_lt count most))
        where
          on : (below : Bool)
              → (if below then 0xEF ∷ bounded d most by_name place.MarkBegun (count + 1) xs else 255 ∷ [])
              ≡ (if below then 0xEF ∷ bounded d most by_name place.Plain (count + 1) xs else 255 ∷ [])
          on true = ap (λ (l : List ℕ). 0xEF ∷ l) (bounded-begun xs (count + 1) other)
          on false = refl

      by : (is : Bool) → (c == 0xEF) ≡ is
          → bounded d most by_name place.Start count (c ∷ xs) ≡ bounded d most by_name place.Record count (c ∷ xs)
      by false e = rw e refl
      by true e = subst (λ (n : ℕ). bounded d most by_name place.Start count (n ∷ xs)
          ≡ bounded d most by_name place.Record count (n ∷ xs)) (sym (eqb-true c 0xEF e)) (first xs (other e))

  -- what is read on begins with no mark where the bytes don't
  NotFirst-bounded : (xs : List ℕ) (count : ℕ) → NotFirst 0xBF xs
      → NotFirst 0xBF (bounded d most by_name place.Plain count xs)
  NotFirst-bounded [] count other = refl
  NotFirst-bounded (c ∷ xs) count other = by (is_before_record (place_after d place.Plain c)) (nat_lt count most)
    where
      rest : ℕ → List ℕ
      rest so_far = bounded d most by_name (place_after d place.Plain c) so_far xs

      by : (before below : Bool)
          → NotFirst 0xBF (if before then c ∷ rest 0 else if below then c ∷ rest (count + 1) else 255 ∷ [])
      by true below = other
      by false true = other
      by false false = refl

  NotBegun-bounded : (xs : List ℕ) (count : ℕ) → NotBegun xs → NotBegun (bounded d most by_name place.Plain count xs)
  NotBegun-bounded [] count other = λ second. cc
  NotBegun-bounded (c ∷ xs) count other = at (c == 0xBB) refl
    where
      rest : ℕ → List ℕ
      rest so_far = bounded d most by_name (place_after d place.Plain c) so_far xs

      apart_by : (before below : Bool) → (c == 0xBB) ≡ false
          → NotBegun (if before then c ∷ rest 0 else if below then c ∷ rest (count + 1) else 255 ∷ [])
      apart_by true below e = λ second. cc
      apart_by false true e = λ second. cc
      apart_by false false e = λ second. cc

      same : (xs : List ℕ) → NotFirst 0xBF xs → NotBegun (bounded d most by_name place.Plain count (0xBB ∷ xs))
      same xs other = rw no_BB (on (nat_lt count most))
        where
          on : (below : Bool) → NotBegun (if below then 0xBB ∷ bounded d most by_name place.Plain (count + 1) xs else 255 ∷ [])
          on true = λ second. NotFirst-bounded xs (count + 1) other
          on false = λ second. cc

      at : (is : Bool) → (c == 0xBB) ≡ is → NotBegun (bounded d most by_name place.Plain count (c ∷ xs))
      at false e = apart_by (is_before_record (place_after d place.Plain c)) (nat_lt count most) e
      at true e = subst (λ (n : ℕ). NotBegun (bounded d most by_name place.Plain count (n ∷ xs)))
          (sym (eqb-true c 0xBB e)) (same xs (other e))

  NotMarked-bounded : (xs : List ℕ) (count : ℕ) → NotMarked xs
      → NotMarked (bounded d most by_name place.Record count xs)
  NotMarked-bounded [] count other = λ first. cc
  NotMarked-bounded (c ∷ xs) count other = at (c == 0xEF) refl
    where
      rest : ℕ → List ℕ
      rest so_far = bounded d most by_name (place_after d place.Record c) so_far xs

      apart_by : (before below : Bool) → (c == 0xEF) ≡ false
          → NotMarked (if before then c ∷ rest 0 else if below then c ∷ rest (count + 1) else 255 ∷ [])
      apart_by true below e = λ first. cc
      apart_by false true e = λ first. cc
      apart_by false false e = λ first. cc

      same : (xs : List ℕ) → NotBegun xs → NotMarked (bounded d most by_name place.Record count (0xEF ∷ xs))
      same xs other = rw no_EF (on (nat_lt count most))
        where
          on : (below : Bool)
              → NotMarked (if below then 0xEF ∷ bounded d most by_name place.Plain (count + 1) xs else 255 ∷ [])
          on true = λ first. NotBegun-bounded xs (count + 1) other
          on false = λ first. cc

      at : (is : Bool) → (c == 0xEF) ≡ is → NotMarked (bounded d most by_name place.Record count (c ∷ xs))
      at false e = apart_by (is_before_record (place_after d place.Record c)) (nat_lt count most) e
      at true e = subst (λ (n : ℕ). NotMarked (bounded d most by_name place.Record count (n ∷ xs)))
          (sym (eqb-true c 0xEF e)) (same xs (other e))

  -- ---- what the bytes that are read on tell

  -- what is read of a text within its bound, and how it ends
  abbrev pub text_within : List ℕ → List ℕ
  text_within bytes = if nat_lt most (mark_length bytes) then []
      else up_to_excess (config_by d) most st.StartRecord (mark_length bytes) (strip_bom bytes)

  abbrev pub end_within : List ℕ → TextEnd
  end_within bytes =
      if nat_lt most (mark_length bytes)
      || is_exceeded (config_by d) most st.StartRecord (mark_length bytes) (strip_bom bytes)
      then InLongRecord
      else end_in (by_name && is_within_quotes (state_after (config_by d) st.StartRecord (strip_bom bytes)))

  abbrev Tells : List ℕ → Type 0
  Tells bytes = without_mark (records_by d (bounded d most by_name place.Start 0 bytes))
      ≡ record {
        records = whole_records (end_within bytes) (records (config_by d) (text_within bytes));
        end = end_within bytes;
      }

  -- a text without a byte order mark
  tells-unmarked : (bytes : List ℕ) → (10 == d) ≡ false → mark_length bytes ≡ 0 → Tells bytes
  tells-unmarked bytes line none =
      let other = NotMarked-length bytes none in
      rw (
        none,
        le-ltb most 0 (omega arith),
        strip_bom-none bytes other,
        bounded-start bytes 0 other,
        strip_bom-none (bounded d most by_name place.Record 0 bytes) (NotMarked-bounded bytes 0 other),
        bounded-place_of d most by_name bytes st.StartRecord 0 (refl, refl),
        records_at-within (config_by d) st.StartRecord
            (bounded_at (config_by d) most by_name st.StartRecord 0 bytes),
        records_at-within (config_by d) st.StartRecord (up_to_excess (config_by d) most st.StartRecord 0 bytes),
      ) (Marks-bounded d most by_name bytes st.StartRecord 0 [] [] line no_255 (refl, refl)).left

  -- one with a mark that is longer than a record may be
  cut-0 : without_mark (records_by d (255 ∷ [])) ≡ record { records = []; end = InLongRecord }
  unfolding strip_bom records_from next_record
  cut-0 = rw no_255 refl

  cut-1 : without_mark (records_by d (0xEF ∷ 255 ∷ [])) ≡ record { records = []; end = InLongRecord }
  unfolding strip_bom records_from next_record
  cut-1 = rw (no_EF, no_255) refl

  cut-2 : without_mark (records_by d (0xEF ∷ 0xBB ∷ 255 ∷ [])) ≡ record { records = []; end = InLongRecord }
  unfolding strip_bom records_from next_record
  cut-2 = rw (no_EF, no_BB, no_255) refl

  tells-marked : (rest : List ℕ) → (10 == d) ≡ false → Tells (0xEF ∷ 0xBB ∷ 0xBF ∷ rest)
  unfolding strip_bom
  tells-marked rest line = by (nat_lt 0 most) refl (nat_lt 1 most) refl (nat_lt 2 most) refl
    where
      at_3 : List ℕ
      at_3 = bounded d most by_name place.Marked 3 rest

      told : Bool → TextLeft
      told over = record {
        records = whole_records
            (if over || is_exceeded (config_by d) most st.StartRecord 3 rest then InLongRecord
            else end_in (by_name && is_within_quotes (state_after (config_by d) st.StartRecord rest)))
            (records (config_by d) (if over then [] else up_to_excess (config_by d) most st.StartRecord 3 rest));
        end = if over || is_exceeded (config_by d) most st.StartRecord 3 rest then InLongRecord
            else end_in (by_name && is_within_quotes (state_after (config_by d) st.StartRecord rest));
      }

      over : most < 3 → (read : List ℕ) → without_mark (records_by d read) ≡ record { records = []; end = InLongRecord }
          → without_mark (records_by d read) ≡ told (nat_lt most 3)
      over small read cut = rw (lt-ltb most 3 small, records_at-nil d) cut

      whole : 2 < most → without_mark (records_by d (0xEF ∷ 0xBB ∷ 0xBF ∷ at_3)) ≡ told (nat_lt most 3)
      whole large =
          rw (
            le-ltb most 3 (omega arith),
            bounded-marked d most by_name rest 3,
            bounded-place_of d most by_name rest st.StartRecord 3 (refl, refl),
            records_at-within (config_by d) st.StartRecord
                (bounded_at (config_by d) most by_name st.StartRecord 3 rest),
            records_at-within (config_by d) st.StartRecord (up_to_excess (config_by d) most st.StartRecord 3 rest),
          ) (Marks-bounded d most by_name rest st.StartRecord 3 [] [] line no_255 (refl, refl)).left

      by : (p : Bool) → nat_lt 0 most ≡ p → (q : Bool) → nat_lt 1 most ≡ q → (r : Bool) → nat_lt 2 most ≡ r
          → without_mark (records_by d
          (if p then 0xEF ∷ (if q then 0xBB ∷ (if r then 0xBF ∷ at_3 else 255 ∷ []) else 255 ∷ []) else 255 ∷ []))
          ≡ told (nat_lt most 3)
      by false e q f r g = let few = ltb-false 0 most e in over (omega arith) (255 ∷ []) cut-0
      by true e false f r g = let few = ltb-false 1 most f in over (omega arith) (0xEF ∷ 255 ∷ []) cut-1
      by true e true f false g =
          let few = ltb-false 2 most g in over (omega arith) (0xEF ∷ 0xBB ∷ 255 ∷ []) cut-2
      by true e true f true g = whole (ltb-true 2 most g)

pub without_mark-bounded : (d most : ℕ) (by_name : Bool) (bytes : List ℕ) → (10 == d) ≡ false → (ascii : d < 128)
    → without_mark (records_by d (bounded d most by_name place.Start 0 bytes))
    ≡ record {
      records = whole_records (end_within d most by_name ascii bytes)
          (records (config_by d) (text_within d most by_name ascii bytes));
      end = end_within d most by_name ascii bytes;
    }
without_mark-bounded d most by_name [] line ascii = tells-unmarked d most by_name ascii [] line refl
without_mark-bounded d most by_name (a ∷ []) line ascii = tells-unmarked d most by_name ascii (a ∷ []) line refl
without_mark-bounded d most by_name (a ∷ b ∷ []) line ascii =
    tells-unmarked d most by_name ascii (a ∷ b ∷ []) line refl
without_mark-bounded d most by_name (a ∷ b ∷ c ∷ rest) line ascii = by (is_bom a b c) refl
  where
    by : (is : Bool) → is_bom a b c ≡ is → Tells d most by_name ascii (a ∷ b ∷ c ∷ rest)
    by false e = tells-unmarked d most by_name ascii (a ∷ b ∷ c ∷ rest) line (rw e refl)
    by true e =
        let (front, last) = and_parts _ _ e in
        let (first, second) = and_parts _ _ front in
        subst (λ (n : ℕ). Tells d most by_name ascii (n ∷ b ∷ c ∷ rest)) (sym (eqb-true a 0xEF first))
        (subst (λ (n : ℕ). Tells d most by_name ascii (0xEF ∷ n ∷ c ∷ rest)) (sym (eqb-true b 0xBB second))
        (subst (λ (n : ℕ). Tells d most by_name ascii (0xEF ∷ 0xBB ∷ n ∷ rest)) (sym (eqb-true c 0xBF last))
        (tells-marked d most by_name ascii rest line)))
