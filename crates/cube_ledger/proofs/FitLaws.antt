-- Facts that fit a schema: those that a change puts, and amendments of them.
use Rattle.std.proofs.Common.{◌≡◌, ℕ, Bool, true, false, ◌&&◌, ◌==◌, List, [], ◌∷◌, length, refl, sym, ap, ◌∙◌}
use Rattle.std.specs.Prelude.{Option, Some, None, IfSome, option_map}
use Rattle.std.specs.List.{list_all}
use Rattle.std.specs.Str.{bytes_eq}
use Rattle.std.proofs.lemmas.Bool.{and_parts, eqb-true, eq-eqb}
use Rattle.std.proofs.lemmas.Option.{IfSome_then, same_Some}
use Rattle.std.proofs.lemmas.Map.Views.{IfSome-lookup_from_All}
use Rattle.cube_core.specs.Amendment.{over, fields_over}
use Rattle.cube_core.specs.Layout.{Layout}
use Rattle.cube_core.specs.Life.{id_of}
use Rattle.cube_core.specs.Takes.{takes, fits, fits_part, is_id, may_amend, may_upsert, is_dimension_value}
use Rattle.cube_core.specs.Takes.{puts_dimension_value}
use Rattle.cube_core.specs.declared.fact.Fact.{Fact}
use Rattle.cube_core.specs.declared.change.Change.{Change}
use Rattle.cube_core.specs.declared.change.Change.TheVariants.{Insert, Update, Amend, Upsert, Delete, Remove}
use Rattle.cube_core.specs.declared.partial.Field.{Field}
use Rattle.cube_core.specs.declared.partial.Field.TheVariants.{Keep, Put}
use Rattle.cube_core.specs.declared.partial.Partial.{Partial}
use Rattle.cube_ledger.specs.Book.{Entries, AmendsAlike, fact_at, fact_put, facts_of}
use Rattle.cube_ledger.specs.Ledger.{AllFit, RulingFits, ComesTo}
use Rattle.cube_ledger.specs.declared.ruling.Ruling.{Ruling}
use Rattle.cube_ledger.specs.declared.ruling.Ruling.TheVariants.{Refuse, Take}
use Rattle.cube_ledger.specs.declared.ruling.Ruling.TheVariants as ruling
use Rattle.cube_core.proofs.AmendmentLaws.{length-fields_over}

-- what three tests that hold together say each
and-three : (a b c : Bool) → (a && b && c) ≡ true → (a ≡ true) × (b ≡ true) × (c ≡ true)
and-three true true true all = (refl, refl, refl)
and-three true true false all = cc
and-three true false true all = cc
and-three true false false all = cc
and-three false true true all = cc
and-three false true false all = cc
and-three false false true all = cc
and-three false false false all = cc

-- lawful values over lawful values are lawful
list_all-fields_over : (fields : List (Field (Option (List ℕ)))) (olds : List (Option (List ℕ)))
    → list_all puts_dimension_value fields ≡ true → list_all is_dimension_value olds ≡ true
    → list_all is_dimension_value (fields_over fields olds) ≡ true
list_all-fields_over [] olds put old = refl
list_all-fields_over (f ∷ fields) [] put old = refl
list_all-fields_over (Keep ∷ fields) (o ∷ olds) put old =
    let parts = and_parts (is_dimension_value o) (list_all is_dimension_value olds) old in
    rw (parts.0) (list_all-fields_over fields olds put parts.1)
list_all-fields_over (Put value ∷ fields) (o ∷ olds) put old =
    let parts = and_parts (is_dimension_value o) (list_all is_dimension_value olds) old in
    let puts = and_parts (is_dimension_value value) (list_all puts_dimension_value fields) put in
    rw (puts.0) (list_all-fields_over fields olds puts.1 parts.1)

-- what it says of a fact that it fits
fits-parts : (s : Layout) (fact : Fact) → fits s fact ≡ true
    → (length fact.dims ≡ length s.dimensions) × (length fact.measures ≡ length s.measures)
    × (list_all is_dimension_value fact.dims ≡ true)
fits-parts s fact fit =
    let three = and-three (length fact.dims == length s.dimensions) (length fact.measures == length s.measures)
    (list_all is_dimension_value fact.dims) fit in (
      eqb-true (length fact.dims) (length s.dimensions) three.0,
      eqb-true (length fact.measures) (length s.measures) three.1,
      three.2,
    )

-- a fact of the right shape fits
fits-shape : (s : Layout) (fact : Fact) → length fact.dims ≡ length s.dimensions
    → length fact.measures ≡ length s.measures
    → list_all is_dimension_value fact.dims ≡ true → fits s fact ≡ true
fits-shape s fact dims measures lawful =
    rw (
      eq-eqb (length fact.dims) (length s.dimensions) dims,
      eq-eqb (length fact.measures) (length s.measures) measures,
      lawful,
    ) refl

-- what it says of an amendment that it fits
fits_part-parts : (s : Layout) (part : Partial) → fits_part s part ≡ true
    → (length part.dims ≡ length s.dimensions) × (length part.measures ≡ length s.measures)
    × (list_all puts_dimension_value part.dims ≡ true)
fits_part-parts s part fit =
    let three = and-three (length part.dims == length s.dimensions) (length part.measures == length s.measures)
    (list_all puts_dimension_value part.dims) fit in (
      eqb-true (length part.dims) (length s.dimensions) three.0,
      eqb-true (length part.measures) (length s.measures) three.1,
      three.2,
    )

-- an amendment of a fact fits where both do
pub fits-over : (s : Layout) (part : Partial) (fact : Fact) → fits_part s part ≡ true → fits s fact ≡ true
    → fits s (over part fact) ≡ true
fits-over s part fact part_fits fact_fits =
    let p = fits_part-parts s part part_fits in
    let f = fits-parts s fact fact_fits in
    fits-shape s (over part fact)
    (length-fields_over part.dims fact.dims (p.0 ∙ sym f.0) ∙ f.0)
    (length-fields_over part.measures fact.measures (p.1 ∙ sym f.1) ∙ f.1)
    (list_all-fields_over part.dims fact.dims p.2 f.2)

-- a fact that stands in a book fits where all its facts do
fact_at-fits : (s : Layout) (book : Entries) (id : List ℕ) → AllFit s (facts_of book)
    → IfSome (fact_at book id) (λ fact. fits s fact ≡ true)
fact_at-fits s book id all = IfSome-lookup_from_All (λ (fact : Fact). fits s fact ≡ true) (bytes_eq id) book all

-- an amendment that a schema takes fits
pub amend-fits : (s : Layout) (id : List ℕ) (part : Partial) → takes s (Amend id part) ≡ true → fits_part s part ≡ true
amend-fits s id part taken = (and-three (may_amend s) (is_id id) (fits_part s part) taken).2

-- an amendment that a schema takes has as many fields as each fact of a book whose facts fit
pub AmendsAlike-takes : (s : Layout) (book : Entries) (change : Change) → takes s change ≡ true
    → AllFit s (facts_of book) → AmendsAlike book change
AmendsAlike-takes s book (Insert id fact) taken all = tt
AmendsAlike-takes s book (Update id fact) taken all = tt
AmendsAlike-takes s book (Upsert id fact) taken all = tt
AmendsAlike-takes s book (Delete id) taken all = tt
AmendsAlike-takes s book (Remove id) taken all = tt
AmendsAlike-takes s book (Amend id part) taken all =
    let p = fits_part-parts s part (amend-fits s id part taken) in
    IfSome_then (fact_at book id) (fact_at-fits s book id all)
    (λ fact fit. let f = fits-parts s fact fit in (p.0 ∙ sym f.0, p.1 ∙ sym f.1))

-- the fact that an amendment makes of one that fits
amended-fits : (s : Layout) (part : Partial) (old : Option Fact) (fact : Fact) → fits_part s part ≡ true
    → IfSome old (λ f. fits s f ≡ true) → option_map (over part) old ≡ Some fact → fits s fact ≡ true
amended-fits s part None fact part_fits fit is = cc
amended-fits s part (Some f) fact part_fits fit is =
    let same : over part f ≡ fact = same_Some (over part f) fact is in
    ap (fits s) (sym same) ∙ fits-over s part f part_fits fit

-- the fact that a taken change puts fits
pub fact_put-fits : (s : Layout) (book : Entries) (change : Change) (fact : Fact) → takes s change ≡ true
    → AllFit s (facts_of book)
    → fact_put change (fact_at book (id_of change)) ≡ Some fact → fits s fact ≡ true
fact_put-fits s book (Insert id f) fact taken all put =
    ap (fits s) (sym (same_Some f fact put)) ∙ (and_parts (is_id id) (fits s f) taken).1
fact_put-fits s book (Update id f) fact taken all put =
    ap (fits s) (sym (same_Some f fact put)) ∙ (and_parts (is_id id) (fits s f) taken).1
fact_put-fits s book (Upsert id f) fact taken all put =
    ap (fits s) (sym (same_Some f fact put)) ∙ (and-three (may_upsert s) (is_id id) (fits s f) taken).2
fact_put-fits s book (Delete id) fact taken all put = cc
fact_put-fits s book (Remove id) fact taken all put = cc
fact_put-fits s book (Amend id part) fact taken all put =
    amended-fits s part (fact_at book id) fact (amend-fits s id part taken) (fact_at-fits s book id all) put

-- so does what comes of settling a change
pub RulingFits-ComesTo : (s : Layout) (book : Entries) (change : Change) → takes s change ≡ true
    → AllFit s (facts_of book)
    → (ruling : Ruling) → ComesTo book change ruling → RulingFits s ruling
RulingFits-ComesTo s book change taken all (Refuse code) settles = absurd settles
RulingFits-ComesTo s book change taken all (ruling.Put id fact) settles =
    fact_put-fits s book change fact taken all (ap (λ i. fact_put change (fact_at book i)) settles.0 ∙ settles.1)
RulingFits-ComesTo s book change taken all (Take id) settles = tt
