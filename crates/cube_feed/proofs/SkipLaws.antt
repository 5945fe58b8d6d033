-- Bytes without quotes, of which no record can have too many, needn't be looked at one by one up to a line feed.
use Rattle.std.proofs.Common.{◌≡◌, ◌==◌, ◌<◌, ◌≤◌, ◌+◌, ◌-◌, ℕ, zero, suc, Bool, true, false, List, [], ◌∷◌, ◌++◌, length, get_or}
use Rattle.std.proofs.Common.{take, drop, cond, count_by, refl, sym, ap, subst, arith, ◌∙◌}
use Rattle.std.specs.Prelude.{nat_eq, nat_lt, if◌then◌else◌}
use Rattle.std.proofs.lemmas.List.Sums.{sum_by-cons}
use Rattle.std.proofs.lemmas.Bool.{eq-eqb, eqb-true, false_from_ne_true, lt-ltb}
use Rattle.csv.specs.Machine.{step, in_field, start_field, start_record, ends_with}
use Rattle.csv.specs.declared.parser.Action.{Action}
use Rattle.csv.specs.declared.parser.Action.TheVariants as act
use Rattle.csv.specs.declared.parser.State.{State}
use Rattle.csv.specs.declared.parser.State.TheVariants as st
use Rattle.csv.specs.declared.parser.Terminator.TheVariants as term
use Rattle.cube_core.specs.FeedRecords.{config_by}
use Rattle.cube_feed.specs.FeedBytes.{IsSkipped, bounded, is_before_record, is_quoted, place_after, place_of}
use Rattle.cube_feed.specs.declared.feed_bytes.Bounds.{Bounds}
use Rattle.cube_feed.specs.declared.place.Place.{Place}
use Rattle.cube_feed.specs.declared.place.Place.TheVariants as place

-- ---- a byte that is no quote, outside quotes

abbrev state_in : State × Action → State
state_in step = step.0

module _ (d c : ℕ) (other : (c == 34) ≡ false) where
  quoted-in_field : is_quoted (place_of (in_field (config_by d) c).0) ≡ false
  quoted-in_field = by (c == d) (ends_with term.CRLF c) (c == 13)
    where
      by : (delimits ends cr : Bool) → is_quoted (place_of (state_in (if delimits then (st.StartField, act.EndField)
          else if ends then ((if cr then st.AfterCr else st.StartRecord), act.EndRecord) else (st.InField, act.Copy))))
          ≡ false
      by true ends cr = refl
      by false true true = refl
      by false true false = refl
      by false false cr = refl

  quoted-start_field : is_quoted (place_of (start_field (config_by d) c).0) ≡ false
  quoted-start_field = rw other quoted-in_field

  quoted-start_record : is_quoted (place_of (start_record (config_by d) c).0) ≡ false
  quoted-start_record = by (ends_with term.CRLF c)
    where
      by : (ends : Bool)
          → is_quoted (place_of (state_in (if ends then (st.StartRecord, act.Skip) else start_field (config_by d) c)))
          ≡ false
      by true = refl
      by false = quoted-start_field

  -- it opens none
  quoted-after : (at : Place) → is_quoted at ≡ false → is_quoted (place_after d at c) ≡ false
  quoted-after place.Start outside = by (c == 0xEF)
    where
      by : (b : Bool) → is_quoted (if b then place.MarkBegun else place_of (start_record (config_by d) c).0) ≡ false
      by true = refl
      by false = quoted-start_record
  quoted-after place.MarkBegun outside = by (c == 0xBB)
    where
      by : (b : Bool) → is_quoted (if b then place.MarkGoesOn else place_of (in_field (config_by d) c).0) ≡ false
      by true = refl
      by false = quoted-in_field
  quoted-after place.MarkGoesOn outside = by (c == 0xBF)
    where
      by : (b : Bool) → is_quoted (if b then place.Marked else place_of (in_field (config_by d) c).0) ≡ false
      by true = refl
      by false = quoted-in_field
  quoted-after place.Marked outside = quoted-start_record
  quoted-after place.Record outside = quoted-start_record
  quoted-after place.Cr outside = by (c == 10)
    where
      by : (b : Bool) → is_quoted (place_of (state_in (if b then (st.StartRecord, act.Skip) else start_record (config_by d) c)))
          ≡ false
      by true = refl
      by false = quoted-start_record
  quoted-after place.Field outside = quoted-start_field
  quoted-after place.Plain outside = quoted-in_field
  quoted-after place.Quoted outside = cc outside
  quoted-after place.Quote outside = rw other quoted-in_field

-- behind a line feed a record may begin
after-line_feed : (d : ℕ) (at : Place) → (10 == d) ≡ false → is_quoted at ≡ false → place_after d at 10 ≡ place.Record
after-line_feed d place.Start apart outside = refl
after-line_feed d place.MarkBegun apart outside = rw apart refl
after-line_feed d place.MarkGoesOn apart outside = rw apart refl
after-line_feed d place.Marked apart outside = refl
after-line_feed d place.Record apart outside = refl
after-line_feed d place.Cr apart outside = refl
after-line_feed d place.Field apart outside = rw apart refl
after-line_feed d place.Plain apart outside = rw apart refl
after-line_feed d place.Quoted apart outside = cc outside
after-line_feed d place.Quote apart outside = rw apart refl

-- ---- bytes without quotes

-- the first byte is no quote, nor are the others
no_quotes : (c : ℕ) (bytes : List ℕ) → count_by (nat_eq 34) (c ∷ bytes) ≡ 0
    → ((c == 34) ≡ false) × (count_by (nat_eq 34) bytes ≡ 0)
no_quotes c bytes none =
    by (nat_eq 34 c) refl (sym (sum_by-cons (λ (x : ℕ). cond (nat_eq 34 x) 1 0) c bytes) ∙ none)
  where
    by : (is : Bool) → nat_eq 34 c ≡ is → cond is 1 0 + count_by (nat_eq 34) bytes ≡ 0
        → ((c == 34) ≡ false) × (count_by (nat_eq 34) bytes ≡ 0)
    by true e n = absurd (omega arith)
    by false e n = (
      false_from_ne_true (c == 34) (λ same. cc (sym e, eq-eqb 34 c (sym (eqb-true c 34 same)))),
      omega arith,
    )

pub skip-passes : (d most : ℕ) (by_name : Bool) (bytes rest : List ℕ) (at : Place) (count n : ℕ)
    → (10 == d) ≡ false → is_quoted at ≡ false → count_by (nat_eq 34) bytes ≡ 0 → count + length bytes ≤ most
    → n < length bytes → get_or bytes n 0 ≡ 10
    → bounded d most by_name at count (bytes ++ rest)
    ≡ take (suc n) bytes ++ bounded d most by_name place.Record 0 (drop (suc n) bytes ++ rest)
skip-passes d most by_name [] rest at count n apart outside none room below is = absurd (omega arith)
skip-passes d most by_name (c ∷ bytes) rest at count zero apart outside none room below is =
    subst (λ (b : ℕ). bounded d most by_name at count (b ∷ bytes ++ rest)
    ≡ b ∷ bounded d most by_name place.Record 0 (bytes ++ rest)) (sym is)
    (rw (after-line_feed d at apart outside) refl)
skip-passes d most by_name (c ∷ bytes) rest at count (suc n) apart outside none room below is =
    let (other, others) = no_quotes c bytes none in
    let next = place_after d at c in
    by (is_before_record next) (lt-ltb count most (omega arith))
    (λ so_far fits. ap (λ (l : List ℕ). c ∷ l)
    (skip-passes d most by_name bytes rest next so_far n apart (quoted-after d c other at outside) others fits
    (omega arith) is))
    (omega arith) (omega arith)
  where
    left : ℕ → List ℕ
    left so_far = c ∷ bounded d most by_name (place_after d at c) so_far (bytes ++ rest)

    right : List ℕ
    right = c ∷ (take (suc n) bytes ++ bounded d most by_name place.Record 0 (drop (suc n) bytes ++ rest))

    by : (before : Bool) → nat_lt count most ≡ true
        → ((so_far : ℕ) → so_far + length bytes ≤ most → left so_far ≡ right)
        → 0 + length bytes ≤ most → (count + 1) + length bytes ≤ most
        → (if before then left 0 else if nat_lt count most then left (count + 1) else 255 ∷ []) ≡ right
    by true below on first more = on 0 first
    by false below on first more = rw below (on (count + 1) more)

-- so bytes are skipped up to behind a line feed, or none are
pub IsSkipped-behind : (bounds : Bounds) (bytes : List ℕ) (at : ℕ) → (10 == bounds.delimiter) ≡ false
    → is_quoted bounds.place ≡ false → count_by (nat_eq 34) bytes ≡ 0 → bounds.count + length bytes ≤ bounds.most
    → at ≤ length bytes → (0 < at → get_or bytes (at - 1) 0 ≡ 10) → IsSkipped bounds bytes at
IsSkipped-behind bounds bytes zero apart outside none room below behind =
    record { at_most = below; passes = λ rest. refl }
IsSkipped-behind bounds bytes (suc n) apart outside none room below behind =
    let back : suc n - 1 ≡ n = omega arith in
    let some : 0 < suc n = omega arith in
    let later : (suc n == 0) ≡ false =
    false_from_ne_true (suc n == 0) (λ same. let is = eqb-true (suc n) 0 same in absurd (omega arith)) in
    record {
      at_most = below;
      passes = λ rest. rw later (skip-passes bounds.delimiter bounds.most bounds.is_by_name bytes rest bounds.place bounds.count n
          apart outside none room (omega arith) (rw back at (behind some)));
    }
