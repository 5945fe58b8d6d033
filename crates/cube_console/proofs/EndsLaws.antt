-- What a reader of csv makes of a byte is what the place makes of it.
use Rattle.std.proofs.Common.{◌≡◌, ◌||◌, ◌==◌, ◌∙◌, ◌+◌, ◌≤◌, ℕ, Bool, true, false, List, []}
use Rattle.std.proofs.Common.{◌∷◌, refl, sym, ap, subst, arith}
use Rattle.std.specs.Prelude.{if◌then◌else◌}
use Rattle.std.specs.Int.{from_bool}
use Rattle.csv.specs.Machine.{in_field, is_end, start_field, start_record, step}
use Rattle.csv.specs.Reading.{default_config}
use Rattle.csv.specs.declared.parser.Action.{Action}
use Rattle.csv.specs.declared.parser.Action.TheVariants as act
use Rattle.csv.specs.declared.parser.State.{State}
use Rattle.csv.specs.declared.parser.State.TheVariants as st
use Rattle.cube_console.specs.Ends.{IsAt, IsUsual, after_byte, after_open, after_plain, ends_in, is_line_end, place_of}
use Rattle.cube_console.specs.Ends.{state_after}
use Rattle.cube_console.specs.declared.place.Place.{Place}
use Rattle.cube_console.specs.declared.place.Place.TheVariants as at

-- what a step of the reader says of a place
abbrev seen : State × Action → Place × Bool
seen next = (place_of next.0, is_end next.1)

seen-plain : (comma return feed : Bool)
    → seen (if comma then (st.StartField, act.EndField)
    else if return || feed then ((if return then st.AfterCr else st.StartRecord), act.EndRecord)
    else (st.InField, act.Copy))
    ≡ (if comma then (at.Field, false) else if return || feed then (at.Record, true) else (at.Plain, false))
seen-plain true return feed = refl
seen-plain false true feed = refl
seen-plain false false true = refl
seen-plain false false false = refl

seen-in_field : (b : ℕ) → seen (in_field default_config b) ≡ after_plain b
seen-in_field b = seen-plain (b == 44) (b == 13) (b == 10)

seen-if : (quote : Bool) (here else_ : State × Action) (then_place else_place : Place × Bool) → seen here ≡ then_place
    → seen else_ ≡ else_place → seen (if quote then here else else_) ≡ (if quote then then_place else else_place)
seen-if true here else_ then_place else_place one other = one
seen-if false here else_ then_place else_place one other = other

seen-start_field : (b : ℕ) → seen (start_field default_config b) ≡ after_open b
seen-start_field b = seen-if (b == 34) (st.InQuoted, act.Skip) (in_field default_config b) (at.Quoted, false)
    (after_plain b) refl (seen-in_field b)

seen-start_record : (b : ℕ) → seen (start_record default_config b) ≡ after_byte at.Record b
seen-start_record b = seen-if (is_line_end b) (st.StartRecord, act.Skip) (start_field default_config b)
    (at.Record, false) (after_open b) refl (seen-start_field b)

-- behind a carriage return a line feed ends nothing, as before a record
seen-feed : (return feed : Bool) (more : State × Action) (opened : Place × Bool)
    → seen more ≡ (if return || feed then (at.Record, false) else opened)
    → seen (if feed then (st.StartRecord, act.Skip) else more) ≡ (if return || feed then (at.Record, false) else opened)
seen-feed true true more opened is = refl
seen-feed false true more opened is = refl
seen-feed true false more opened is = is
seen-feed false false more opened is = is

seen-step : (s : State) (b : ℕ) → IsUsual s → seen (step default_config s b) ≡ after_byte (place_of s) b
seen-step st.StartRecord b usual = seen-start_record b
seen-step st.AfterCr b usual =
    seen-feed (b == 13) (b == 10) (start_record default_config b) (after_open b) (seen-start_record b)
seen-step st.StartField b usual = seen-start_field b
seen-step st.InField b usual = seen-in_field b
seen-step st.InQuoted b usual = seen-if (b == 34) (st.AfterQuote, act.Skip) (st.InQuoted, act.Copy) (at.Quote, false)
    (at.Quoted, false) refl refl
seen-step st.AfterQuote b usual = seen-if (b == 34) (st.InQuoted, act.Copy) (in_field default_config b)
    (at.Quoted, false) (after_plain b) refl (seen-in_field b)
seen-step st.InEscape b usual = absurd usual
seen-step st.InComment b usual = absurd usual

-- and it goes on to stand as usual
abbrev StaysUsual : State × Action → Type 0
StaysUsual next = IsUsual next.0

usual-plain : (comma return feed : Bool)
    → StaysUsual (if comma then (st.StartField, act.EndField)
    else if return || feed then ((if return then st.AfterCr else st.StartRecord), act.EndRecord)
    else (st.InField, act.Copy))
usual-plain true return feed = tt
usual-plain false true feed = tt
usual-plain false false true = tt
usual-plain false false false = tt

usual-if : (which : Bool) (one other : State × Action) → StaysUsual one → StaysUsual other
    → StaysUsual (if which then one else other)
usual-if true one other here there = here
usual-if false one other here there = there

usual-in_field : (b : ℕ) → StaysUsual (in_field default_config b)
usual-in_field b = usual-plain (b == 44) (b == 13) (b == 10)

usual-start_field : (b : ℕ) → StaysUsual (start_field default_config b)
usual-start_field b = usual-if (b == 34) (st.InQuoted, act.Skip) (in_field default_config b) tt (usual-in_field b)

usual-start_record : (b : ℕ) → StaysUsual (start_record default_config b)
usual-start_record b =
    usual-if (is_line_end b) (st.StartRecord, act.Skip) (start_field default_config b) tt (usual-start_field b)

pub usual-step : (s : State) (b : ℕ) → IsUsual s → StaysUsual (step default_config s b)
usual-step st.StartRecord b usual = usual-start_record b
usual-step st.AfterCr b usual =
    usual-if (b == 10) (st.StartRecord, act.Skip) (start_record default_config b) tt (usual-start_record b)
usual-step st.StartField b usual = usual-start_field b
usual-step st.InField b usual = usual-in_field b
usual-step st.InQuoted b usual = usual-if (b == 34) (st.AfterQuote, act.Skip) (st.InQuoted, act.Copy) tt tt
usual-step st.AfterQuote b usual =
    usual-if (b == 34) (st.InQuoted, act.Copy) (in_field default_config b) tt (usual-in_field b)
usual-step st.InEscape b usual = absurd usual
usual-step st.InComment b usual = absurd usual

-- a truth as a number
as_number : (is : Bool) → from_bool is ≡ (if is then 1 else 0)
as_number true = refl
as_number false = refl

pub from_bool-most : (is : Bool) → from_bool is ≤ 1
from_bool-most true = omega arith
from_bool-most false = omega arith

-- ---- all bytes
-- a reader of csv that stood at the first place stands at this one, and what is to come of the bytes says the rest
pub record Goes (s : State) (now : Place) (count : ℕ) (all left : List ℕ) : Type 0 where
  pub t : State
  pub is_at : IsAt t now
  pub state : state_after t left ≡ state_after s all
  pub ends : count + ends_in t left ≡ ends_in s all

pub Goes-none : (s : State) (place : Place) (all : List ℕ) → IsAt s place → Goes s place 0 all all
Goes-none s place all is = record { t = s; is_at = is; state = refl; ends = omega arith }

pub Goes-next : (s : State) (now next : Place) (count : ℕ) (ends : Bool) (all : List ℕ) (left : List ℕ) (b : ℕ)
    (rest : List ℕ) → left ≡ b ∷ rest → (next, ends) ≡ after_byte now b → Goes s now count all left
    → Goes s next (count + from_bool ends) all rest
Goes-next s now next count ends all left b rest is after goes =
    let t : State = goes.t in
    let same : (next, ends) ≡ seen (step default_config t b) =
    after ∙ ap (λ place. after_byte place b) goes.is_at.same ∙ sym (seen-step t b goes.is_at.usual) in
    let next_is : next ≡ place_of (step default_config t b).0 = ap (λ (pair : Place × Bool). pair.0) same in
    let ends_is : ends ≡ is_end (step default_config t b).1 = ap (λ (pair : Place × Bool). pair.1) same in
    let state : state_after t (b ∷ rest) ≡ state_after s all =
    subst (λ bytes. state_after t bytes ≡ state_after s all) is goes.state in
    let total : count + ends_in t (b ∷ rest) ≡ ends_in s all =
    subst (λ bytes. count + ends_in t bytes ≡ ends_in s all) is goes.ends in
    record {
      t = (step default_config t b).0;
      is_at = record { usual = usual-step t b goes.is_at.usual; same = next_is };
      state = state;
      ends = counted count (if is_end (step default_config t b).1 then 1 else 0)
          (ends_in (step default_config t b).0 rest) (ends_in s all) (from_bool ends)
          (as_number ends ∙ ap (λ (it : Bool). if it then 1 else 0) ends_is) total;
    }
  where
    counted : (count one more whole was : ℕ) → was ≡ one → count + (one + more) ≡ whole
        → count + was + more ≡ whole
    counted count one more whole was same total = omega (arith, same, total)

pub Goes-all : (s : State) (now : Place) (count : ℕ) (all left : List ℕ) → left ≡ [] → Goes s now count all left
    → IsAt (state_after s all) now × (count ≡ ends_in s all)
Goes-all s now count all left none goes =
    let state : goes.t ≡ state_after s all =
    subst (λ bytes. state_after goes.t bytes ≡ state_after s all) none goes.state in
    let ends : count + 0 ≡ ends_in s all =
    subst (λ bytes. count + ends_in goes.t bytes ≡ ends_in s all) none goes.ends in
    (subst (λ (t : State). IsAt t now) state goes.is_at, omega (arith, ends))
