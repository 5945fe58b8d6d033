-- In a schema no two aggregates share a spelling.
use Rattle.std.proofs.Common.{◌≡◌, ℕ, ◌+◌, ◌<◌, true, false, not, zero, suc, List, [], ◌∷◌, ◌++◌, length, get_or, codes}
use Rattle.std.proofs.Common.{Option, Some, None, option_map, nat_lt, position, append_assoc, add-zero, arith, refl}
use Rattle.std.proofs.Common.{ap, ◌∙◌, sym, inl, inr}
use Rattle.std.specs.Str.{bytes_eq}
use Rattle.std.specs.Option.{option_or}
use Rattle.std.specs.List.{list_all, position_from}
use Rattle.std.proofs.lemmas.Slice.Eq.{bytes_eq-Decides}
use Rattle.std.proofs.lemmas.Bool.{false_from_ne_true, false≢true, not-true, and_parts, cases_Bool, or_left}
use Rattle.std.proofs.lemmas.Bool.Decides.{nat_tests}
use Rattle.std.proofs.lemmas.List.Sums.{AllPass-from_list_all}
use Rattle.std.proofs.lemmas.Iterator.Adapters.{position_from-zero}
use Rattle.std.proofs.lemmas.List.Folds.{list_all-append}
use Rattle.cube_core.specs.Layout.{Layout, IsSchema, spelling_of, is_aggregate_of, is_listed, are_distinct}
use Rattle.cube_core.specs.Layout.{is_lawful_name, is_level, level_text, percentile_opening}
use Rattle.cube_core.specs.SchemaDocument.{aggregate_spelled, statistic_spelled}
use Rattle.cube_core.specs.declared.aggregate.Agg.{Agg}
use Rattle.cube_core.specs.declared.aggregate.Agg.TheVariants.{CountAll, Count, Sum, Min, Max, Avg}
use Rattle.cube_core.specs.declared.aggregate.Agg.TheVariants.{CountDistinct, PercentileDisc}
use Rattle.cube_core.specs.declared.aggregate.Agg.TheVariants.{SumOfSquares, VarPop, VarSamp, Values}
use Rattle.cube_core.proofs.SchemaSpellingLaws.{aggregate_spelled_measure_in, measure_in, position-between}
use Rattle.cube_core.proofs.SchemaSpellingLaws.{position-between_none, bytes_eq-between, statistic_spelled_measure_in}
use Rattle.cube_core.proofs.PercentileSpellingLaws.{percentiles_over-one}
use Rattle.cube_laws.specs.Written.{is_told_apart}

-- a text that is at a place of a list is listed
is_listed-get_or : (text : List ℕ) (texts : List (List ℕ)) (m : ℕ) → m < length texts → text ≡ get_or texts m []
    → is_listed text texts ≡ true
is_listed-get_or text [] m inside same = absurd (omega arith)
is_listed-get_or text (first ∷ texts) zero inside same = rw ((bytes_eq-Decides text first).1 same)
is_listed-get_or text (first ∷ texts) (suc m) inside same =
    elim (cases_Bool (bytes_eq text first)) [
      | inl here ↦ rw here
      | inr there ↦ rw there (is_listed-get_or text texts m (omega arith) same)
    ]

-- a name stands at one place among names that differ
position_of-name : (names : List (List ℕ)) (m k : ℕ) → are_distinct names ≡ true → m < length names
    → position_from (λ name. bytes_eq name (get_or names m [])) k names ≡ Some (k + m)
position_of-name [] m k distinct inside = absurd (omega arith)
position_of-name (name ∷ names) zero k distinct inside = rw ((bytes_eq-Decides name name).1 refl, add-zero k)
position_of-name (name ∷ names) (suc m) k distinct inside =
    let (alone, others) = and_parts (not (is_listed name names)) (are_distinct names) distinct in
    let other : bytes_eq name (get_or names m []) ≡ false =
    false_from_ne_true _ (λ same. false≢true (sym (not-true _ alone)
    ∙ is_listed-get_or name names m (omega arith) ((bytes_eq-Decides name (get_or names m [])).0 same))) in
    rw other (position_of-name names m (k + 1) others (omega arith) ∙ ap Some (omega arith))

position-own : (measures : List (List ℕ)) (m : ℕ) → are_distinct measures ≡ true → m < length measures
    → position (λ name. bytes_eq name (get_or measures m [])) measures ≡ Some m
position-own measures m distinct inside =
    position_from-zero (λ name. bytes_eq name (get_or measures m [])) measures
    ∙ position_of-name measures m 0 distinct inside
    ∙ ap Some (omega arith)

-- what isn't listed stands at no place
position_from-not_listed : (text : List ℕ) (names : List (List ℕ)) (k : ℕ) → is_listed text names ≡ false
    → position_from (λ name. bytes_eq name text) k names ≡ None
position_from-not_listed text [] k other = refl
position_from-not_listed text (name ∷ names) k other = elim (cases_Bool (bytes_eq text name)) [
  | inl same ↦ absurd (false≢true (sym other ∙ or_left (bytes_eq text name) (is_listed text names) same))
  | inr apart ↦
      let here : bytes_eq name text ≡ false =
      false_from_ne_true _ (λ same. false≢true (sym apart
      ∙ (bytes_eq-Decides text name).1 (sym ((bytes_eq-Decides name text).0 same)))) in
      let rest : is_listed text names ≡ false = rw apart at other in
      rw here (position_from-not_listed text names (k + 1) rest)
]

-- no count has the spelling of a distinct count that is told apart
measure_in-apart : (measures : List (List ℕ)) (m : ℕ) → is_told_apart measures (CountDistinct m) ≡ true
    → measure_in measures (spelling_of measures (CountDistinct m)) (codes "count(") ≡ None
measure_in-apart measures m apart =
    let argument : List ℕ = codes "distinct " ++ get_or measures m [] in
    sym (position-between (codes "count(") (codes ")") (spelling_of measures (CountDistinct m)) argument measures refl)
    ∙ position_from-zero (λ name. bytes_eq name argument) measures
    ∙ position_from-not_listed argument measures 0 (not-true (is_listed argument measures) apart)

-- the measure that a spelling names
measure_in-own : (measures : List (List ℕ)) (m : ℕ) (opening : List ℕ) → are_distinct measures ≡ true
    → m < length measures
    → measure_in measures ((opening ++ get_or measures m []) ++ codes ")") opening ≡ Some m
measure_in-own measures m opening distinct inside =
    sym (position-between opening (codes ")") ((opening ++ get_or measures m []) ++ codes ")")
    (get_or measures m []) measures refl)
    ∙ position-own measures m distinct inside

-- no measure is named by a text that another function begins
measure_in-other : (measures : List (List ℕ)) (text opening : List ℕ)
    → ((name : List ℕ) → bytes_eq text ((opening ++ name) ++ codes ")") ≡ false)
    → measure_in measures text opening ≡ None
measure_in-other measures text opening other =
    position-between_none opening (codes ")") text measures
    (λ name same. false≢true (sym (other name) ∙ (bytes_eq-Decides text ((opening ++ name) ++ codes ")")).1 (sym same)))

-- a function that has no such measure is passed over, and one that has is taken
option_or-None : (make : ℕ → Agg) (measure : Option ℕ) (others : Option Agg) (agg : Agg) → measure ≡ None
    → others ≡ Some agg → option_or (option_map make measure) others ≡ Some agg
option_or-None make measure others agg none rest = rw none rest

option_or-Some : (make : ℕ → Agg) (measure : Option ℕ) (others : Option Agg) (m : ℕ) → measure ≡ Some m
    → option_or (option_map make measure) others ≡ Some (make m)
option_or-Some make measure others m some = rw some

-- a lawful name isn't a star
is_lawful_name-star : (names : List (List ℕ)) (m : ℕ) → list_all is_lawful_name names ≡ true → m < length names
    → bytes_eq (codes "*") (get_or names m []) ≡ false
is_lawful_name-star names m lawful inside =
    let this : is_lawful_name (get_or names m []) ≡ true =
    AllPass-from_list_all is_lawful_name names lawful m [] inside in
    false_from_ne_true _
    (λ star. false≢true (ap is_lawful_name ((bytes_eq-Decides (codes "*") (get_or names m [])).0 star) ∙ this))

-- what a percentile's spelling has in brackets: its level, a comma and a name
percentile-argument : (units places : ℕ) (name : List ℕ)
    → (codes "percentile_disc(" ++ (level_text places units ++ 44 ∷ name)) ++ codes ")"
    ≡ (percentile_opening units places ++ name) ++ codes ")"
percentile-argument units places name =
    ap (λ t. t ++ codes ")") (sym (append_assoc (codes "percentile_disc(" ++ level_text places units) (codes ",") name
    ∙ append_assoc (codes "percentile_disc(") (level_text places units) (44 ∷ name)))

-- a text that no count, sum, least or greatest value or mean has is looked for among the others
statistic-last : (measures : List (List ℕ)) (text : List ℕ) (agg : Agg) → bytes_eq text (codes "count(*)") ≡ false
    → measure_in measures text (codes "count(") ≡ None
    → ((name : List ℕ) → bytes_eq text ((codes "sum(" ++ name) ++ codes ")") ≡ false)
    → ((name : List ℕ) → bytes_eq text ((codes "min(" ++ name) ++ codes ")") ≡ false)
    → ((name : List ℕ) → bytes_eq text ((codes "max(" ++ name) ++ codes ")") ≡ false)
    → ((name : List ℕ) → bytes_eq text ((codes "avg(" ++ name) ++ codes ")") ≡ false)
    → statistic_spelled measures text ≡ Some agg → aggregate_spelled measures text ≡ Some agg
statistic-last measures text agg star counts sums least greatest means found =
    aggregate_spelled_measure_in measures text
    ∙ rw star (option_or-None Count _ _ _ counts
    (option_or-None Sum _ _ _ (measure_in-other measures text (codes "sum(") sums)
    (option_or-None Min _ _ _ (measure_in-other measures text (codes "min(") least)
    (option_or-None Max _ _ _ (measure_in-other measures text (codes "max(") greatest)
    (option_or-None Avg _ _ _ (measure_in-other measures text (codes "avg(") means) found)))))

pub aggregate_spelled-spelling_of : (measures : List (List ℕ)) (agg : Agg) → list_all is_lawful_name measures ≡ true
    → are_distinct measures ≡ true → is_aggregate_of (length measures) agg ≡ true → is_told_apart measures agg ≡ true
    → aggregate_spelled measures (spelling_of measures agg) ≡ Some agg
aggregate_spelled-spelling_of measures CountAll lawful distinct of apart =
    aggregate_spelled_measure_in measures (codes "count(*)")
aggregate_spelled-spelling_of measures (Count m) lawful distinct of apart =
    let inside : m < length measures = grind (arith, nat_tests) in
    let text : List ℕ = spelling_of measures (Count m) in
    let star : bytes_eq text (codes "count(*)") ≡ false =
    bytes_eq-between (codes "count(") (codes ")") (codes "*") text (get_or measures m []) refl
    ∙ is_lawful_name-star measures m lawful inside in
    aggregate_spelled_measure_in measures text
    ∙ rw star (option_or-Some Count _ _ m (measure_in-own measures m (codes "count(") distinct inside))
aggregate_spelled-spelling_of measures (Sum m) lawful distinct of apart =
    let inside : m < length measures = grind (arith, nat_tests) in
    let text : List ℕ = spelling_of measures (Sum m) in
    aggregate_spelled_measure_in measures text
    ∙ option_or-None Count _ _ _ (measure_in-other measures text (codes "count(") (λ name. refl))
    (option_or-Some Sum _ _ m (measure_in-own measures m (codes "sum(") distinct inside))
aggregate_spelled-spelling_of measures (Min m) lawful distinct of apart =
    let inside : m < length measures = grind (arith, nat_tests) in
    let text : List ℕ = spelling_of measures (Min m) in
    aggregate_spelled_measure_in measures text
    ∙ option_or-None Count _ _ _ (measure_in-other measures text (codes "count(") (λ name. refl))
    (option_or-None Sum _ _ _ (measure_in-other measures text (codes "sum(") (λ name. refl))
    (option_or-Some Min _ _ m (measure_in-own measures m (codes "min(") distinct inside)))
aggregate_spelled-spelling_of measures (Max m) lawful distinct of apart =
    let inside : m < length measures = grind (arith, nat_tests) in
    let text : List ℕ = spelling_of measures (Max m) in
    aggregate_spelled_measure_in measures text
    ∙ option_or-None Count _ _ _ (measure_in-other measures text (codes "count(") (λ name. refl))
    (option_or-None Sum _ _ _ (measure_in-other measures text (codes "sum(") (λ name. refl))
    (option_or-None Min _ _ _ (measure_in-other measures text (codes "min(") (λ name. refl))
    (option_or-Some Max _ _ m (measure_in-own measures m (codes "max(") distinct inside))))
aggregate_spelled-spelling_of measures (Avg m) lawful distinct of apart =
    let inside : m < length measures = grind (arith, nat_tests) in
    let text : List ℕ = spelling_of measures (Avg m) in
    aggregate_spelled_measure_in measures text
    ∙ option_or-None Count _ _ _ (measure_in-other measures text (codes "count(") (λ name. refl))
    (option_or-None Sum _ _ _ (measure_in-other measures text (codes "sum(") (λ name. refl))
    (option_or-None Min _ _ _ (measure_in-other measures text (codes "min(") (λ name. refl))
    (option_or-None Max _ _ _ (measure_in-other measures text (codes "max(") (λ name. refl))
    (option_or-Some Avg _ _ m (measure_in-own measures m (codes "avg(") distinct inside)))))
aggregate_spelled-spelling_of measures (CountDistinct m) lawful distinct of apart =
    let inside : m < length measures = grind (arith, nat_tests) in
    let text : List ℕ = spelling_of measures (CountDistinct m) in
    statistic-last measures text (CountDistinct m) refl (measure_in-apart measures m apart) (λ name. refl)
    (λ name. refl) (λ name. refl) (λ name. refl)
    (statistic_spelled_measure_in measures text
    ∙ option_or-Some CountDistinct _ _ m (measure_in-own measures m (codes "count(distinct ") distinct inside))
aggregate_spelled-spelling_of measures (SumOfSquares m) lawful distinct of apart =
    let inside : m < length measures = grind (arith, nat_tests) in
    let text : List ℕ = spelling_of measures (SumOfSquares m) in
    statistic-last measures text (SumOfSquares m) refl (measure_in-other measures text (codes "count(") (λ name. refl))
    (λ name. refl) (λ name. refl) (λ name. refl) (λ name. refl)
    (statistic_spelled_measure_in measures text
    ∙ option_or-None CountDistinct _ _ _ (measure_in-other measures text (codes "count(distinct ") (λ name. refl))
    (option_or-Some SumOfSquares _ _ m (measure_in-own measures m (codes "sum_of_squares(") distinct inside)))
aggregate_spelled-spelling_of measures (VarPop m) lawful distinct of apart =
    let inside : m < length measures = grind (arith, nat_tests) in
    let text : List ℕ = spelling_of measures (VarPop m) in
    statistic-last measures text (VarPop m) refl (measure_in-other measures text (codes "count(") (λ name. refl))
    (λ name. refl) (λ name. refl) (λ name. refl) (λ name. refl)
    (statistic_spelled_measure_in measures text
    ∙ option_or-None CountDistinct _ _ _ (measure_in-other measures text (codes "count(distinct ") (λ name. refl))
    (option_or-None SumOfSquares _ _ _ (measure_in-other measures text (codes "sum_of_squares(") (λ name. refl))
    (option_or-Some VarPop _ _ m (measure_in-own measures m (codes "var_pop(") distinct inside))))
aggregate_spelled-spelling_of measures (VarSamp m) lawful distinct of apart =
    let inside : m < length measures = grind (arith, nat_tests) in
    let text : List ℕ = spelling_of measures (VarSamp m) in
    statistic-last measures text (VarSamp m) refl (measure_in-other measures text (codes "count(") (λ name. refl))
    (λ name. refl) (λ name. refl) (λ name. refl) (λ name. refl)
    (statistic_spelled_measure_in measures text
    ∙ option_or-None CountDistinct _ _ _ (measure_in-other measures text (codes "count(distinct ") (λ name. refl))
    (option_or-None SumOfSquares _ _ _ (measure_in-other measures text (codes "sum_of_squares(") (λ name. refl))
    (option_or-None VarPop _ _ _ (measure_in-other measures text (codes "var_pop(") (λ name. refl))
    (option_or-Some VarSamp _ _ m (measure_in-own measures m (codes "var_samp(") distinct inside)))))
aggregate_spelled-spelling_of measures (Values m) lawful distinct of apart =
    let inside : m < length measures = grind (arith, nat_tests) in
    let text : List ℕ = spelling_of measures (Values m) in
    statistic-last measures text (Values m) refl (measure_in-other measures text (codes "count(") (λ name. refl))
    (λ name. refl) (λ name. refl) (λ name. refl) (λ name. refl)
    (statistic_spelled_measure_in measures text
    ∙ option_or-None CountDistinct _ _ _ (measure_in-other measures text (codes "count(distinct ") (λ name. refl))
    (option_or-None SumOfSquares _ _ _ (measure_in-other measures text (codes "sum_of_squares(") (λ name. refl))
    (option_or-None VarPop _ _ _ (measure_in-other measures text (codes "var_pop(") (λ name. refl))
    (option_or-None VarSamp _ _ _ (measure_in-other measures text (codes "var_samp(") (λ name. refl))
    (option_or-Some Values _ _ m (measure_in-own measures m (codes "values(") distinct inside))))))
aggregate_spelled-spelling_of measures (PercentileDisc m units places) lawful distinct of apart =
    let (below, level) = and_parts (nat_lt m (length measures)) (is_level units places) of in
    let inside : m < length measures = grind (arith, nat_tests, below) in
    let text : List ℕ = spelling_of measures (PercentileDisc m units places) in
    let argument : List ℕ = level_text places units ++ 44 ∷ get_or measures m [] in
    statistic-last measures text (PercentileDisc m units places) refl
    (measure_in-other measures text (codes "count(") (λ name. refl)) (λ name. refl) (λ name. refl) (λ name. refl)
    (λ name. refl)
    (statistic_spelled_measure_in measures text
    ∙ option_or-None CountDistinct _ _ _ (measure_in-other measures text (codes "count(distinct ") (λ name. refl))
    (option_or-None SumOfSquares _ _ _ (measure_in-other measures text (codes "sum_of_squares(") (λ name. refl))
    (option_or-None VarPop _ _ _ (measure_in-other measures text (codes "var_pop(") (λ name. refl))
    (option_or-None VarSamp _ _ _ (measure_in-other measures text (codes "var_samp(") (λ name. refl))
    (option_or-None Values _ _ _ (measure_in-other measures text (codes "values(") (λ name. refl))
    (percentiles_over-one measures text argument units places (get_or measures m []) level
    (percentile-argument units places (get_or measures m [])) refl
    ∙ ap (option_map (λ k. PercentileDisc k units places)) (position-own measures m distinct inside)))))))

-- the measures of a schema are lawful and differ, being its last names
are_distinct-end : (front end : List (List ℕ)) → are_distinct (front ++ end) ≡ true → are_distinct end ≡ true
are_distinct-end [] end distinct = distinct
are_distinct-end (name ∷ front) end distinct = are_distinct-end front end
    (and_parts (not (is_listed name (front ++ end))) (are_distinct (front ++ end)) distinct).1

pub aggregate_spelled-IsSchema : (s : Layout) (agg : Agg) → IsSchema s → is_aggregate_of (length s.measures) agg ≡ true
    → is_told_apart s.measures agg ≡ true → aggregate_spelled s.measures (spelling_of s.measures agg) ≡ Some agg
aggregate_spelled-IsSchema s agg is of apart =
    let lawful : list_all is_lawful_name s.measures ≡ true =
    (and_parts (list_all is_lawful_name s.dimensions) (list_all is_lawful_name s.measures)
    (sym (list_all-append is_lawful_name s.dimensions s.measures) ∙ is.names_are_lawful)).1 in
    aggregate_spelled-spelling_of s.measures agg lawful
    (are_distinct-end s.dimensions s.measures is.names_are_distinct) of apart
