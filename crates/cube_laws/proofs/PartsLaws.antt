-- The partial form of a schema has what each of its aggregates, and each of the schema's, is made of.
use Rattle.std.proofs.Common.{◌≡◌, ◌==◌, ◌&&◌, ℕ, zero, suc, ◌≤◌, true, List, [], ◌∷◌, length, fold, Some}
use Rattle.std.proofs.Common.{Contains, ◌⊎◌, refl, sym}
use Rattle.std.proofs.Common.{ap, ◌∙◌, subst, inl, inr, eqb-true, eq-eqb, map}
use Rattle.std.specs.Prelude.{Bool}
use Rattle.std.specs.List.{AllByRecursion, AllZip, list_all}
use Rattle.std.proofs.lemmas.Bool.{and_from, and_parts, cases_Bool, false≢true}
use Rattle.std.proofs.lemmas.List.Elements.{Contains-append_left, Contains-push, Contains-push_cases}
use Rattle.cube_core.specs.Cube.{AreRows}
use Rattle.cube_core.specs.Layout.{Layout, counted_names, spelling_of}
use Rattle.cube_core.specs.PartialForm.{is_aggregate, has_aggregate, with_aggregate, with_parts, partial_aggregates}
use Rattle.cube_core.specs.PartialForm.{partial_form, with_mean_parts, with_variance_parts}
use Rattle.cube_core.specs.declared.aggregate.Agg.{Agg}
use Rattle.cube_core.specs.declared.aggregate.Agg.TheVariants.{CountAll, Count, Sum, Min, Max, Avg}
use Rattle.cube_core.specs.declared.aggregate.Agg.TheVariants.{CountDistinct, PercentileDisc}
use Rattle.cube_core.specs.declared.aggregate.Agg.TheVariants.{SumOfSquares, VarPop, VarSamp, Values}
use Rattle.cube_core.specs.declared.fact.Fact.{Fact}
use Rattle.cube_core.specs.declared.key.Row.{Row}
use Rattle.cube_core.proofs.ListLaws.{Contains-AllByRecursion, Contains-cases, Contains-list_any, Contains-nil}
use Rattle.cube_core.proofs.ListLaws.{list_any-Contains}
use Rattle.cube_merge.specs.Source.{can_be_made, can_make_variance}
use Rattle.cube_laws.specs.Merging.{joined, AreMergedOf, Stands, CanBeMadeOf, HasVarianceParts}
use Rattle.cube_laws.proofs.MergedLaws.{AreRows-AreMergedOf}

-- aggregates that are the same are one
is_aggregate-same : (a b : Agg) → is_aggregate a b ≡ true → a ≡ b
is_aggregate-same CountAll CountAll h = refl
is_aggregate-same (Count m) (Count n) h = ap Count (eqb-true m n h)
is_aggregate-same (Sum m) (Sum n) h = ap Sum (eqb-true m n h)
is_aggregate-same (Min m) (Min n) h = ap Min (eqb-true m n h)
is_aggregate-same (Max m) (Max n) h = ap Max (eqb-true m n h)
is_aggregate-same (Avg m) (Avg n) h = ap Avg (eqb-true m n h)
is_aggregate-same (CountDistinct m) (CountDistinct n) h = ap CountDistinct (eqb-true m n h)
is_aggregate-same (PercentileDisc m units places) (PercentileDisc n others digits) h =
    let (parts, same_places) = and_parts (m == n && units == others) (places == digits) h in
    let (measures, levels) = and_parts (m == n) (units == others) parts in
    rw (eqb-true m n measures, eqb-true units others levels, eqb-true places digits same_places) refl
is_aggregate-same (SumOfSquares m) (SumOfSquares n) h = ap SumOfSquares (eqb-true m n h)
is_aggregate-same (VarPop m) (VarPop n) h = ap VarPop (eqb-true m n h)
is_aggregate-same (VarSamp m) (VarSamp n) h = ap VarSamp (eqb-true m n h)
is_aggregate-same (Values m) (Values n) h = ap Values (eqb-true m n h)
is_aggregate-same _ _ h = absurd (false≢true h)

-- what a list contains stands at a place
Contains-Stands : (given : List Agg) (agg : Agg) → Contains given agg → Stands given agg
Contains-Stands [] agg among = absurd (Contains-nil agg among)
Contains-Stands (first ∷ given) agg among = elim (Contains-cases first given agg among) [
  | inl here ↦ (zero, ap Some here)
  | inr after ↦ let rest = Contains-Stands given agg after in (suc rest.0, rest.1)
]

-- ---- a list with one more aggregate
with_aggregate-keeps : (given : List Agg) (agg other : Agg) → Contains given other
    → Contains (with_aggregate given agg) other
with_aggregate-keeps given agg other among = elim (cases_Bool (has_aggregate agg given)) [
  | inl there ↦ rw there among
  | inr missing ↦ rw missing (Contains-append_left given (agg ∷ []) other among)
]

with_aggregate-has : (given : List Agg) (agg : Agg) → Contains (with_aggregate given agg) agg
with_aggregate-has given agg = elim (cases_Bool (has_aggregate agg given)) [
  | inl there ↦
      let found = list_any-Contains (is_aggregate agg) given there in
      rw there (subst (Contains given) (sym (is_aggregate-same agg found.0 found.2)) found.1)
  | inr missing ↦ rw missing (Contains-push given agg)
]

-- it has no other
with_aggregate-cases : (given : List Agg) (agg other : Agg) → Contains (with_aggregate given agg) other
    → Contains given other ⊎ (agg ≡ other)
with_aggregate-cases given agg other among = elim (cases_Bool (has_aggregate agg given)) [
  | inl there ↦ inl (rw there at among)
  | inr missing ↦ Contains-push_cases given agg other (rw missing at among)
]

-- ---- a list with the parts of another aggregate
mean_parts-keeps : (given : List Agg) (m : ℕ) (other : Agg) → Contains given other
    → Contains (with_mean_parts given m) other
mean_parts-keeps given m other among =
    with_aggregate-keeps (with_aggregate given (Sum m)) (Count m) other (with_aggregate-keeps given (Sum m) other among)

variance_parts-keeps : (given : List Agg) (m : ℕ) (other : Agg) → Contains given other
    → Contains (with_variance_parts given m) other
variance_parts-keeps given m other among =
    with_aggregate-keeps (with_mean_parts given m) (SumOfSquares m) other (mean_parts-keeps given m other among)

with_parts-keeps : (given : List Agg) (agg other : Agg) → Contains given other → Contains (with_parts given agg) other
with_parts-keeps given (Avg m) other among = mean_parts-keeps given m other among
with_parts-keeps given (VarPop m) other among = variance_parts-keeps given m other among
with_parts-keeps given (VarSamp m) other among = variance_parts-keeps given m other among
with_parts-keeps given (SumOfSquares m) other among = among
with_parts-keeps given CountAll other among = among
with_parts-keeps given (Count m) other among = among
with_parts-keeps given (Sum m) other among = among
with_parts-keeps given (Min m) other among = among
with_parts-keeps given (Max m) other among = among
with_parts-keeps given (CountDistinct m) other among = with_aggregate-keeps given (Values m) other among
with_parts-keeps given (PercentileDisc m units places) other among = with_aggregate-keeps given (Values m) other among
with_parts-keeps given (Values m) other among = among

-- an aggregate that is neither a sum, a count of values, a sum of squares nor values
record IsNoPart (other : Agg) : Type 0 where
  no_sum : (m : ℕ) → Sum m ≡ other → ⊥
  no_count : (m : ℕ) → Count m ≡ other → ⊥
  no_squares : (m : ℕ) → SumOfSquares m ≡ other → ⊥
  no_values : (m : ℕ) → Values m ≡ other → ⊥

Avg-IsNoPart : (n : ℕ) → IsNoPart (Avg n)
Avg-IsNoPart n =
    record { no_sum = λ m same. cc; no_count = λ m same. cc; no_squares = λ m same. cc; no_values = λ m same. cc }

VarPop-IsNoPart : (n : ℕ) → IsNoPart (VarPop n)
VarPop-IsNoPart n =
    record { no_sum = λ m same. cc; no_count = λ m same. cc; no_squares = λ m same. cc; no_values = λ m same. cc }

VarSamp-IsNoPart : (n : ℕ) → IsNoPart (VarSamp n)
VarSamp-IsNoPart n =
    record { no_sum = λ m same. cc; no_count = λ m same. cc; no_squares = λ m same. cc; no_values = λ m same. cc }

CountDistinct-IsNoPart : (n : ℕ) → IsNoPart (CountDistinct n)
CountDistinct-IsNoPart n =
    record { no_sum = λ m same. cc; no_count = λ m same. cc; no_squares = λ m same. cc; no_values = λ m same. cc }

PercentileDisc-IsNoPart : (n units places : ℕ) → IsNoPart (PercentileDisc n units places)
PercentileDisc-IsNoPart n units places =
    record { no_sum = λ m same. cc; no_count = λ m same. cc; no_squares = λ m same. cc; no_values = λ m same. cc }

-- it is none of the parts that are added
no_part-mean : (given : List Agg) (m : ℕ) (other : Agg) → IsNoPart other → Contains (with_mean_parts given m) other
    → Contains given other
no_part-mean given m other no_part among =
    elim (with_aggregate-cases (with_aggregate given (Sum m)) (Count m) other among) [
      | inl sums ↦ elim (with_aggregate-cases given (Sum m) other sums) [
        | inl own ↦ own
        | inr same ↦ absurd (no_part.no_sum m same)
      ]
      | inr same ↦ absurd (no_part.no_count m same)
    ]

no_part-variance : (given : List Agg) (m : ℕ) (other : Agg) → IsNoPart other
    → Contains (with_variance_parts given m) other → Contains given other
no_part-variance given m other no_part among =
    elim (with_aggregate-cases (with_mean_parts given m) (SumOfSquares m) other among) [
      | inl means ↦ no_part-mean given m other no_part means
      | inr same ↦ absurd (no_part.no_squares m same)
    ]

no_part-values : (given : List Agg) (m : ℕ) (other : Agg) → IsNoPart other
    → Contains (with_aggregate given (Values m)) other → Contains given other
no_part-values given m other no_part among = elim (with_aggregate-cases given (Values m) other among) [
  | inl own ↦ own
  | inr same ↦ absurd (no_part.no_values m same)
]

with_parts-no_part : (given : List Agg) (agg other : Agg) → IsNoPart other → Contains (with_parts given agg) other
    → Contains given other
with_parts-no_part given (Avg m) other no_part among = no_part-mean given m other no_part among
with_parts-no_part given (VarPop m) other no_part among = no_part-variance given m other no_part among
with_parts-no_part given (VarSamp m) other no_part among = no_part-variance given m other no_part among
with_parts-no_part given (SumOfSquares m) other no_part among = among
with_parts-no_part given CountAll other no_part among = among
with_parts-no_part given (Count m) other no_part among = among
with_parts-no_part given (Sum m) other no_part among = among
with_parts-no_part given (Min m) other no_part among = among
with_parts-no_part given (Max m) other no_part among = among
with_parts-no_part given (CountDistinct m) other no_part among = no_part-values given m other no_part among
with_parts-no_part given (PercentileDisc m units places) other no_part among =
    no_part-values given m other no_part among
with_parts-no_part given (Values m) other no_part among = among

-- ---- the parts of all aggregates
fold-keeps : (given means : List Agg) (other : Agg) → Contains given other
    → Contains (fold with_parts given means) other
fold-keeps given [] other among = among
fold-keeps given (agg ∷ means) other among =
    fold-keeps (with_parts given agg) means other (with_parts-keeps given agg other among)

fold-no_part : (given means : List Agg) (other : Agg) → IsNoPart other → Contains (fold with_parts given means) other
    → Contains given other
fold-no_part given [] other no_part among = among
fold-no_part given (agg ∷ means) other no_part among =
    with_parts-no_part given agg other no_part (fold-no_part (with_parts given agg) means other no_part among)

-- the sum and the count of each mean
HasMeanParts-with : (given : List Agg) (m : ℕ)
    → Contains (with_mean_parts given m) (Sum m) × Contains (with_mean_parts given m) (Count m)
HasMeanParts-with given m = (
  with_aggregate-keeps (with_aggregate given (Sum m)) (Count m) (Sum m) (with_aggregate-has given (Sum m)),
  with_aggregate-has (with_aggregate given (Sum m)) (Count m),
)

-- and the sum of squares of each variance
abbrev ContainsParts : List Agg → ℕ → Type 0
ContainsParts given m = Contains given (Sum m) × Contains given (Count m) × Contains given (SumOfSquares m)

ContainsParts-with : (given : List Agg) (m : ℕ) → ContainsParts (with_variance_parts given m) m
ContainsParts-with given m =
    let parts = HasMeanParts-with given m in (
      with_aggregate-keeps (with_mean_parts given m) (SumOfSquares m) (Sum m) parts.0,
      with_aggregate-keeps (with_mean_parts given m) (SumOfSquares m) (Count m) parts.1,
      with_aggregate-has (with_mean_parts given m) (SumOfSquares m),
    )

-- a part that one of the aggregates adds stands there in the end
fold-part : (given aggregates : List Agg) (agg part : Agg)
    → ((some : List Agg) → Contains (with_parts some agg) part) → Contains aggregates agg
    → Contains (fold with_parts given aggregates) part
fold-part given [] agg part adds among = absurd (Contains-nil agg among)
fold-part given (first ∷ aggregates) agg part adds among = elim (Contains-cases first aggregates agg among) [
  | inl here ↦
      fold-keeps (with_parts given first) aggregates part
      (subst (λ other. Contains (with_parts given other) part) (sym here) (adds given))
  | inr after ↦ fold-part (with_parts given first) aggregates agg part adds after
]

-- so what each mean, variance, distinct count and percentile of the partial form is made of stands there
partial-mean : (aggregates : List Agg) (m : ℕ) → Contains (partial_aggregates aggregates) (Avg m)
    → Contains (partial_aggregates aggregates) (Sum m) × Contains (partial_aggregates aggregates) (Count m)
partial-mean aggregates m among =
    let own = fold-no_part aggregates aggregates (Avg m) (Avg-IsNoPart m) among in (
      fold-part aggregates aggregates (Avg m) (Sum m) (λ some. (HasMeanParts-with some m).0) own,
      fold-part aggregates aggregates (Avg m) (Count m) (λ some. (HasMeanParts-with some m).1) own,
    )

partial-variance : (aggregates : List Agg) (agg : Agg) (m : ℕ) → IsNoPart agg
    → ((some : List Agg) → with_parts some agg ≡ with_variance_parts some m)
    → Contains (partial_aggregates aggregates) agg → ContainsParts (partial_aggregates aggregates) m
partial-variance aggregates agg m no_part adds among =
    let own = fold-no_part aggregates aggregates agg no_part among in
    let has : (part : Agg) → ((some : List Agg) → Contains (with_variance_parts some m) part)
    → Contains (partial_aggregates aggregates) part
    = λ part each. fold-part aggregates aggregates agg part
    (λ some. subst (λ more. Contains more part) (sym (adds some)) (each some)) own in (
      has (Sum m) (λ some. (ContainsParts-with some m).0),
      has (Count m) (λ some. (ContainsParts-with some m).1),
      has (SumOfSquares m) (λ some. (ContainsParts-with some m).2),
    )

partial-VarPop : (aggregates : List Agg) (m : ℕ) → Contains (partial_aggregates aggregates) (VarPop m)
    → ContainsParts (partial_aggregates aggregates) m
partial-VarPop aggregates m among =
    partial-variance aggregates (VarPop m) m (VarPop-IsNoPart m) (λ some. refl) among

partial-VarSamp : (aggregates : List Agg) (m : ℕ) → Contains (partial_aggregates aggregates) (VarSamp m)
    → ContainsParts (partial_aggregates aggregates) m
partial-VarSamp aggregates m among =
    partial-variance aggregates (VarSamp m) m (VarSamp-IsNoPart m) (λ some. refl) among

partial-values : (aggregates : List Agg) (agg : Agg) (m : ℕ) → IsNoPart agg
    → ((some : List Agg) → with_parts some agg ≡ with_aggregate some (Values m))
    → Contains (partial_aggregates aggregates) agg → Contains (partial_aggregates aggregates) (Values m)
partial-values aggregates agg m no_part adds among =
    fold-part aggregates aggregates agg (Values m)
    (λ some. subst (λ more. Contains more (Values m)) (sym (adds some)) (with_aggregate-has some (Values m)))
    (fold-no_part aggregates aggregates agg no_part among)

partial-CountDistinct : (aggregates : List Agg) (m : ℕ) → Contains (partial_aggregates aggregates) (CountDistinct m)
    → Contains (partial_aggregates aggregates) (Values m)
partial-CountDistinct aggregates m among =
    partial-values aggregates (CountDistinct m) m (CountDistinct-IsNoPart m) (λ some. refl) among

partial-PercentileDisc : (aggregates : List Agg) (m units places : ℕ)
    → Contains (partial_aggregates aggregates) (PercentileDisc m units places)
    → Contains (partial_aggregates aggregates) (Values m)
partial-PercentileDisc aggregates m units places among =
    partial-values aggregates (PercentileDisc m units places) m (PercentileDisc-IsNoPart m units places) (λ some. refl)
    among

-- ---- what an answer is made of
ContainsParts-Stand : (given : List Agg) (m : ℕ) → ContainsParts given m → HasVarianceParts given m
ContainsParts-Stand given m parts = (
  Contains-Stands given (Sum m) parts.0,
  Contains-Stands given (Count m) parts.1,
  Contains-Stands given (SumOfSquares m) parts.2,
)

partial-CanBeMadeOf : (aggregates : List Agg) (agg : Agg)
    → Contains (partial_aggregates aggregates) agg → CanBeMadeOf (partial_aggregates aggregates) agg
partial-CanBeMadeOf aggregates (CountDistinct m) among =
    Contains-Stands (partial_aggregates aggregates) (Values m) (partial-CountDistinct aggregates m among)
partial-CanBeMadeOf aggregates (PercentileDisc m units places) among =
    Contains-Stands (partial_aggregates aggregates) (Values m) (partial-PercentileDisc aggregates m units places among)
partial-CanBeMadeOf aggregates (Avg m) among =
    let parts = partial-mean aggregates m among in (
      Contains-Stands (partial_aggregates aggregates) (Sum m) parts.0,
      Contains-Stands (partial_aggregates aggregates) (Count m) parts.1,
    )
partial-CanBeMadeOf aggregates (VarPop m) among =
    ContainsParts-Stand (partial_aggregates aggregates) m (partial-VarPop aggregates m among)
partial-CanBeMadeOf aggregates (VarSamp m) among =
    ContainsParts-Stand (partial_aggregates aggregates) m (partial-VarSamp aggregates m among)
partial-CanBeMadeOf aggregates (SumOfSquares m) among =
    Contains-Stands (partial_aggregates aggregates) (SumOfSquares m) among
partial-CanBeMadeOf aggregates (Values m) among = Contains-Stands (partial_aggregates aggregates) (Values m) among
partial-CanBeMadeOf aggregates CountAll among = Contains-Stands (partial_aggregates aggregates) CountAll among
partial-CanBeMadeOf aggregates (Count m) among = Contains-Stands (partial_aggregates aggregates) (Count m) among
partial-CanBeMadeOf aggregates (Sum m) among = Contains-Stands (partial_aggregates aggregates) (Sum m) among
partial-CanBeMadeOf aggregates (Min m) among = Contains-Stands (partial_aggregates aggregates) (Min m) among
partial-CanBeMadeOf aggregates (Max m) among = Contains-Stands (partial_aggregates aggregates) (Max m) among

pub partial-each : (aggregates : List Agg)
    → AllByRecursion (CanBeMadeOf (partial_aggregates aggregates)) (partial_aggregates aggregates)
partial-each aggregates = Contains-AllByRecursion (CanBeMadeOf (partial_aggregates aggregates))
    (partial_aggregates aggregates) (λ agg among. partial-CanBeMadeOf aggregates agg among)

pub own-each : (aggregates : List Agg)
    → AllByRecursion (CanBeMadeOf (partial_aggregates aggregates)) aggregates
own-each aggregates =
    Contains-AllByRecursion (CanBeMadeOf (partial_aggregates aggregates)) aggregates
    (λ agg among. partial-CanBeMadeOf aggregates agg (fold-keeps aggregates aggregates agg among))

-- the rows of the whole are merged rows
pub AreMergedOf-whole : (s : Layout) (parts : List (List Fact)) (cubes : List (List Row)) (rows : List Row)
    → 1 ≤ length parts → AllZip (AreRows (partial_form s)) parts cubes
    → AreRows s (joined parts) rows → AreMergedOf (partial_aggregates s.aggregates) s.aggregates cubes rows
AreMergedOf-whole s parts cubes rows some are whole =
    AreRows-AreMergedOf s (partial_aggregates s.aggregates) s.aggregates parts cubes rows (own-each s.aggregates) some are whole

pub AreMergedOf-partial : (s : Layout) (parts : List (List Fact)) (cubes : List (List Row)) (rows : List Row)
    → 1 ≤ length parts → AllZip (AreRows (partial_form s)) parts cubes
    → AreRows (partial_form s) (joined parts) rows
    → AreMergedOf (partial_aggregates s.aggregates) (partial_aggregates s.aggregates) cubes rows
AreMergedOf-partial s parts cubes rows some are whole =
    AreRows-AreMergedOf s (partial_aggregates s.aggregates)
    (partial_aggregates s.aggregates) parts cubes rows (partial-each s.aggregates) some are whole

-- ---- the partial form of a partial form
is_aggregate-itself : (agg : Agg) → is_aggregate agg agg ≡ true
is_aggregate-itself CountAll = refl
is_aggregate-itself (Count m) = eq-eqb m m refl
is_aggregate-itself (Sum m) = eq-eqb m m refl
is_aggregate-itself (Min m) = eq-eqb m m refl
is_aggregate-itself (Max m) = eq-eqb m m refl
is_aggregate-itself (Avg m) = eq-eqb m m refl
is_aggregate-itself (CountDistinct m) = eq-eqb m m refl
is_aggregate-itself (SumOfSquares m) = eq-eqb m m refl
is_aggregate-itself (VarPop m) = eq-eqb m m refl
is_aggregate-itself (VarSamp m) = eq-eqb m m refl
is_aggregate-itself (Values m) = eq-eqb m m refl
is_aggregate-itself (PercentileDisc m units places) =
    and_from (m == m && units == units) (places == places)
    (and_from (m == m) (units == units) (eq-eqb m m refl) (eq-eqb units units refl)) (eq-eqb places places refl)

has_aggregate-among : (given : List Agg) (agg : Agg) → Contains given agg → has_aggregate agg given ≡ true
has_aggregate-among given agg among = Contains-list_any (is_aggregate agg) given agg among (is_aggregate-itself agg)

-- what stands there isn't added again
with_aggregate-there : (given : List Agg) (agg : Agg) → Contains given agg → with_aggregate given agg ≡ given
with_aggregate-there given agg among = rw (has_aggregate-among given agg among) refl

mean_parts-there : (given : List Agg) (m : ℕ) → Contains given (Sum m) → Contains given (Count m)
    → with_mean_parts given m ≡ given
mean_parts-there given m sums counts =
    ap (λ more. with_aggregate more (Count m)) (with_aggregate-there given (Sum m) sums)
    ∙ with_aggregate-there given (Count m) counts

variance_parts-there : (given : List Agg) (m : ℕ) → ContainsParts given m → with_variance_parts given m ≡ given
variance_parts-there given m parts =
    ap (λ more. with_aggregate more (SumOfSquares m)) (mean_parts-there given m parts.0 parts.1)
    ∙ with_aggregate-there given (SumOfSquares m) parts.2

-- no aggregate of the partial form adds anything to it
partial-there : (aggregates : List Agg) (agg : Agg) → Contains (partial_aggregates aggregates) agg
    → with_parts (partial_aggregates aggregates) agg ≡ partial_aggregates aggregates
partial-there aggregates (Avg m) among =
    let parts = partial-mean aggregates m among in
    mean_parts-there (partial_aggregates aggregates) m parts.0 parts.1
partial-there aggregates (VarPop m) among =
    variance_parts-there (partial_aggregates aggregates) m (partial-VarPop aggregates m among)
partial-there aggregates (VarSamp m) among =
    variance_parts-there (partial_aggregates aggregates) m (partial-VarSamp aggregates m among)
partial-there aggregates (SumOfSquares m) among = refl
partial-there aggregates CountAll among = refl
partial-there aggregates (Count m) among = refl
partial-there aggregates (Sum m) among = refl
partial-there aggregates (Min m) among = refl
partial-there aggregates (Max m) among = refl
partial-there aggregates (CountDistinct m) among =
    with_aggregate-there (partial_aggregates aggregates) (Values m) (partial-CountDistinct aggregates m among)
partial-there aggregates (PercentileDisc m units places) among =
    with_aggregate-there (partial_aggregates aggregates) (Values m)
    (partial-PercentileDisc aggregates m units places among)
partial-there aggregates (Values m) among = refl

fold-there : (given aggregates : List Agg) → AllByRecursion (λ agg. with_parts given agg ≡ given) aggregates
    → fold with_parts given aggregates ≡ given
fold-there given [] there = refl
fold-there given (agg ∷ aggregates) there =
    ap (λ more. fold with_parts more aggregates) there.0 ∙ fold-there given aggregates there.1

partial_aggregates-itself : (aggregates : List Agg)
    → partial_aggregates (partial_aggregates aggregates) ≡ partial_aggregates aggregates
partial_aggregates-itself aggregates =
    fold-there (partial_aggregates aggregates) (partial_aggregates aggregates)
    (Contains-AllByRecursion (λ agg. with_parts (partial_aggregates aggregates) agg ≡ partial_aggregates aggregates)
    (partial_aggregates aggregates) (partial-there aggregates))

pub partial_form-itself : (s : Layout) → partial_form (partial_form s) ≡ partial_form s
partial_form-itself s =
    ap (λ (aggregates : List Agg). let form : Layout = record s {
      aggregates = aggregates;
      aggregate_texts = map (spelling_of (counted_names s)) aggregates;
    } in form) (partial_aggregates-itself s.aggregates)

-- ---- what can be made
each-passes : (p : Agg → Bool) (xs : List Agg) → AllByRecursion (λ x. p x ≡ true) xs → list_all p xs ≡ true
each-passes p [] all = refl
each-passes p (x ∷ xs) all = rw (all.0, each-passes p xs all.1) refl

ContainsParts-makes : (given : List Agg) (m : ℕ) → ContainsParts given m → can_make_variance given m ≡ true
ContainsParts-makes given m parts =
    rw (
      has_aggregate-among given (Count m) parts.1,
      has_aggregate-among given (Sum m) parts.0,
      has_aggregate-among given (SumOfSquares m) parts.2,
    ) refl

partial-makes : (aggregates : List Agg) (agg : Agg)
    → Contains (partial_aggregates aggregates) agg → can_be_made (partial_aggregates aggregates) agg ≡ true
partial-makes aggregates (CountDistinct m) among =
    has_aggregate-among (partial_aggregates aggregates) (Values m) (partial-CountDistinct aggregates m among)
partial-makes aggregates (PercentileDisc m units places) among =
    has_aggregate-among (partial_aggregates aggregates) (Values m)
    (partial-PercentileDisc aggregates m units places among)
partial-makes aggregates (VarPop m) among =
    ContainsParts-makes (partial_aggregates aggregates) m (partial-VarPop aggregates m among)
partial-makes aggregates (VarSamp m) among =
    ContainsParts-makes (partial_aggregates aggregates) m (partial-VarSamp aggregates m among)
partial-makes aggregates (SumOfSquares m) among =
    has_aggregate-among (partial_aggregates aggregates) (SumOfSquares m) among
partial-makes aggregates (Values m) among = has_aggregate-among (partial_aggregates aggregates) (Values m) among
partial-makes aggregates (Avg m) among =
    let parts = partial-mean aggregates m among in
    rw (
      has_aggregate-among (partial_aggregates aggregates) (Sum m) parts.0,
      has_aggregate-among (partial_aggregates aggregates) (Count m) parts.1,
    ) refl
partial-makes aggregates CountAll among = has_aggregate-among (partial_aggregates aggregates) CountAll among
partial-makes aggregates (Count m) among = has_aggregate-among (partial_aggregates aggregates) (Count m) among
partial-makes aggregates (Sum m) among = has_aggregate-among (partial_aggregates aggregates) (Sum m) among
partial-makes aggregates (Min m) among = has_aggregate-among (partial_aggregates aggregates) (Min m) among
partial-makes aggregates (Max m) among = has_aggregate-among (partial_aggregates aggregates) (Max m) among

pub partial-makes_each : (aggregates : List Agg)
    → list_all (can_be_made (partial_aggregates aggregates)) (partial_aggregates aggregates) ≡ true
partial-makes_each aggregates =
    each-passes (can_be_made (partial_aggregates aggregates)) (partial_aggregates aggregates)
    (Contains-AllByRecursion (λ agg. can_be_made (partial_aggregates aggregates) agg ≡ true)
    (partial_aggregates aggregates) (λ agg among. partial-makes aggregates agg among))

pub own-makes_each : (aggregates : List Agg)
    → list_all (can_be_made (partial_aggregates aggregates)) aggregates ≡ true
own-makes_each aggregates =
    each-passes (can_be_made (partial_aggregates aggregates)) aggregates
    (Contains-AllByRecursion (λ agg. can_be_made (partial_aggregates aggregates) agg ≡ true) aggregates
    (λ agg among. partial-makes aggregates agg (fold-keeps aggregates aggregates agg among)))
