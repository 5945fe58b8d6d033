-- What a reader of csv makes of a byte is what the reading makes of it.
use Rattle.std.proofs.Common.{◌≡◌, ◌||◌, ◌==◌, ◌∙◌, ◌∷◌, [], ℕ, Bool, true, false, List, refl, sym, ap}
use Rattle.std.specs.Prelude.{if◌then◌else◌}
use Rattle.csv.specs.Machine.{ends_at_end, in_field, is_end, start_field, start_record}
use Rattle.csv.specs.Machine as csv
use Rattle.csv.specs.Reading.{default_config}
use Rattle.csv.specs.declared.parser.Action.{Action}
use Rattle.csv.specs.declared.parser.Action.TheVariants as act
use Rattle.csv.specs.declared.parser.State.{State}
use Rattle.csv.specs.declared.parser.State.TheVariants as st
use Rattle.cube_console.specs.Ends.{IsAt, IsUsual, is_line_end, place_of}
use Rattle.cube_console.specs.Records.{Reading, ends, field_after, fields_after, open_step, plain_step, read_byte, step}
use Rattle.cube_console.specs.declared.place.Place.{Place}
use Rattle.cube_console.specs.declared.place.Place.TheVariants as at
use Rattle.cube_console.specs.declared.views.records.Effect.{Effect}
use Rattle.cube_console.specs.declared.views.records.Effect.TheVariants as effect
use Rattle.cube_console.proofs.EndsLaws.{usual-step}

-- what an action of the reader does in a record
abbrev pub effect_of : Action → Effect
effect_of act.Skip = effect.Skip
effect_of act.Copy = effect.Copy
effect_of act.EndField = effect.EndField
effect_of act.EndRecord = effect.EndRecord

-- what a step of the reader says of a place
abbrev pub told : State × Action → Place × Effect
told next = (place_of next.0, effect_of next.1)

told-plain : (comma return feed : Bool)
    → told (if comma then (st.StartField, act.EndField)
    else if return || feed then ((if return then st.AfterCr else st.StartRecord), act.EndRecord)
    else (st.InField, act.Copy))
    ≡ (if comma then (at.Field, effect.EndField)
    else if return || feed then (at.Record, effect.EndRecord) else (at.Plain, effect.Copy))
told-plain true return feed = refl
told-plain false true feed = refl
told-plain false false true = refl
told-plain false false false = refl

told-in_field : (b : ℕ) → told (in_field default_config b) ≡ plain_step b
told-in_field b = told-plain (b == 44) (b == 13) (b == 10)

told-if : (which : Bool) (here there : State × Action) (here_is there_is : Place × Effect) → told here ≡ here_is
    → told there ≡ there_is → told (if which then here else there) ≡ (if which then here_is else there_is)
told-if true here there here_is there_is one other = one
told-if false here there here_is there_is one other = other

told-start_field : (b : ℕ) → told (start_field default_config b) ≡ open_step b
told-start_field b = told-if (b == 34) (st.InQuoted, act.Skip) (in_field default_config b) (at.Quoted, effect.Skip)
    (plain_step b) refl (told-in_field b)

told-start_record : (b : ℕ) → told (start_record default_config b) ≡ step at.Record b
told-start_record b = told-if (is_line_end b) (st.StartRecord, act.Skip) (start_field default_config b)
    (at.Record, effect.Skip) (open_step b) refl (told-start_field b)

-- behind a carriage return a line feed ends nothing, as before a record
told-feed : (return feed : Bool) (more : State × Action) (opened : Place × Effect)
    → told more ≡ (if return || feed then (at.Record, effect.Skip) else opened)
    → told (if feed then (st.StartRecord, act.Skip) else more)
    ≡ (if return || feed then (at.Record, effect.Skip) else opened)
told-feed true true more opened is = refl
told-feed false true more opened is = refl
told-feed true false more opened is = is
told-feed false false more opened is = is

told-step : (s : State) (b : ℕ) → IsUsual s → told (csv.step default_config s b) ≡ step (place_of s) b
told-step st.StartRecord b usual = told-start_record b
told-step st.AfterCr b usual =
    told-feed (b == 13) (b == 10) (start_record default_config b) (open_step b) (told-start_record b)
told-step st.StartField b usual = told-start_field b
told-step st.InField b usual = told-in_field b
told-step st.InQuoted b usual = told-if (b == 34) (st.AfterQuote, act.Skip) (st.InQuoted, act.Copy)
    (at.Quote, effect.Skip) (at.Quoted, effect.Copy) refl refl
told-step st.AfterQuote b usual = told-if (b == 34) (st.InQuoted, act.Copy) (in_field default_config b)
    (at.Quoted, effect.Copy) (plain_step b) refl (told-in_field b)
told-step st.InEscape b usual = absurd usual
told-step st.InComment b usual = absurd usual

-- ---- a reader of csv and a reading of the same text, behind one more byte

step-at : (s : State) (place : Place) (b : ℕ) → IsAt s place → told (csv.step default_config s b) ≡ step place b
step-at s place b is = told-step s b is.usual ∙ ap (λ (p : Place). step p b) (sym is.same)

pub IsAt-step : (s : State) (place : Place) (b : ℕ) → IsAt s place
    → IsAt (csv.step default_config s b).0 (step place b).0
IsAt-step s place b is = record {
  usual = usual-step s b is.usual;
  same = ap (λ (pair : Place × Effect). pair.0) (sym (step-at s place b is));
}

effect-at : (s : State) (place : Place) (b : ℕ) → IsAt s place
    → (step place b).1 ≡ effect_of (csv.step default_config s b).1
effect-at s place b is = ap (λ (pair : Place × Effect). pair.1) (sym (step-at s place b is))

ends-effect_of : (a : Action) → ends (effect_of a) ≡ is_end a
ends-effect_of act.Skip = refl
ends-effect_of act.Copy = refl
ends-effect_of act.EndField = refl
ends-effect_of act.EndRecord = refl

fields-effect_of : (a : Action) (fields : List (List ℕ)) (field : List ℕ)
    → fields_after (effect_of a) fields field ≡ csv.fields_after a fields field
fields-effect_of act.Skip fields field = refl
fields-effect_of act.Copy fields field = refl
fields-effect_of act.EndField fields field = refl
fields-effect_of act.EndRecord fields field = refl

field-effect_of : (a : Action) (b : ℕ) (field : List ℕ)
    → field_after (effect_of a) b field ≡ csv.field_after a b field
field-effect_of act.Skip b field = refl
field-effect_of act.Copy b field = refl
field-effect_of act.EndField b field = refl
field-effect_of act.EndRecord b field = refl

pub ends-step : (s : State) (place : Place) (b : ℕ) → IsAt s place
    → is_end (csv.step default_config s b).1 ≡ ends (step place b).1
ends-step s place b is =
    sym (ap ends (effect-at s place b is) ∙ ends-effect_of (csv.step default_config s b).1)

pub fields-step : (s : State) (r : Reading) (b : ℕ) → IsAt s r.place
    → csv.fields_after (csv.step default_config s b).1 r.fields r.field ≡ (read_byte r b).fields
fields-step s r b is =
    sym (ap (λ (e : Effect). fields_after e r.fields r.field) (effect-at s r.place b is)
    ∙ fields-effect_of (csv.step default_config s b).1 r.fields r.field)

pub field-step : (s : State) (r : Reading) (b : ℕ) → IsAt s r.place
    → csv.field_after (csv.step default_config s b).1 b r.field ≡ (read_byte r b).field
field-step s r b is =
    sym (ap (λ (e : Effect). field_after e b r.field) (effect-at s r.place b is)
    ∙ field-effect_of (csv.step default_config s b).1 b r.field)

-- a byte that ends a record leaves no bytes of a field
pub field-ends : (e : Effect) (b : ℕ) (field : List ℕ) → ends e ≡ true → field_after e b field ≡ []
field-ends effect.Skip b field is = cc
field-ends effect.Copy b field is = cc
field-ends effect.EndField b field is = refl
field-ends effect.EndRecord b field is = refl

-- before a record a text may end
pub ends_at_end-none : (s : State) → IsAt s at.Record → ends_at_end s ≡ false
ends_at_end-none st.StartRecord is = refl
ends_at_end-none st.AfterCr is = refl
ends_at_end-none st.StartField is = let bad : at.Record ≡ at.Field = is.same in cc
ends_at_end-none st.InField is = let bad : at.Record ≡ at.Plain = is.same in cc
ends_at_end-none st.InQuoted is = let bad : at.Record ≡ at.Quoted = is.same in cc
ends_at_end-none st.AfterQuote is = let bad : at.Record ≡ at.Quote = is.same in cc
ends_at_end-none st.InEscape is = absurd is.usual
ends_at_end-none st.InComment is = absurd is.usual
