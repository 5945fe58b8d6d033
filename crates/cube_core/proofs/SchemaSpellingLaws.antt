-- The aggregate that a text spells, found function by function among the names of the measures.
use Rattle.std.proofs.Common.{◌≡◌, ◌≢◌, ℕ, ◌+◌, Bool, true, false, cond, suc, Bor, MatchOption, List, [], ◌∷◌, ◌++◌}
use Rattle.std.proofs.Common.{length, get_or, map, find, codes, position, Option, Some, None, option_map, zero-add}
use Rattle.std.proofs.Common.{arith, refl, ap, ◌∙◌, sym, append_assoc}
use Rattle.std.specs.Str.{bytes_eq}
use Rattle.std.specs.Option.{option_or}
use Rattle.std.proofs.lemmas.List.Folds.{find-append}
use Rattle.std.specs.List.{position_from, range_with_len}
use Rattle.std.proofs.lemmas.Slice.Eq.{bytes_eq-Decides}
use Rattle.std.proofs.lemmas.Bool.{false_from_ne_true}
use Rattle.std.proofs.lemmas.List.{append_cancel_left, append_cancel_right}
use Rattle.std.proofs.lemmas.Iterator.Adapters.{position_from-zero}
use Rattle.cube_core.specs.Layout.{spelling_of}
use Rattle.cube_core.specs.SchemaDocument.{aggregate_spelled, percentiles_over, statistic_spelled, statistics_over}
use Rattle.cube_core.specs.declared.aggregate.Agg.{Agg}
use Rattle.cube_core.specs.declared.aggregate.Agg.TheVariants.{CountAll, Count, Sum, Min, Max, Avg, CountDistinct}
use Rattle.cube_core.specs.declared.aggregate.Agg.TheVariants.{SumOfSquares, VarPop, VarSamp, Values}

-- two tests that hold together are one
Bool-same : (a b : Bool) → (a ≡ true → b ≡ true) → (b ≡ true → a ≡ true) → a ≡ b
Bool-same true true there back = refl
Bool-same true false there back = sym (there refl)
Bool-same false true there back = back refl
Bool-same false false there back = refl

-- a text is a name between an opening and a closing exactly where it's that name
pub bytes_eq-between : (opening closing name text argument : List ℕ) → (opening ++ argument) ++ closing ≡ text
    → bytes_eq text ((opening ++ name) ++ closing) ≡ bytes_eq name argument
bytes_eq-between opening closing name text argument is =
    Bool-same _ _
    (λ yes. (bytes_eq-Decides name argument).1 (append_cancel_left opening name argument
    (append_cancel_right _ _ closing (sym ((bytes_eq-Decides text ((opening ++ name) ++ closing)).0 yes) ∙ sym is))))
    (λ yes. (bytes_eq-Decides text ((opening ++ name) ++ closing)).1
    (sym (ap (λ t. (opening ++ t) ++ closing) ((bytes_eq-Decides name argument).0 yes) ∙ is)))

position-same : {X : Type 0} (p q : X → Bool) → ((x : X) → p x ≡ q x) → (xs : List X) → position p xs ≡ position q xs
position-same p q same xs = ap (λ test. position test xs) (λ i x. same x i)

position_from-none : {X : Type 0} (p : X → Bool) → ((x : X) → p x ≡ false) → (k : ℕ) (xs : List X)
    → position_from p k xs ≡ None
position_from-none p none k [] = refl
position_from-none p none k (x ∷ xs) = rw (none x) (position_from-none p none (k + 1) xs)

-- the measure that a text names between an opening and a closing
pub position-between : (opening closing text argument : List ℕ) (names : List (List ℕ))
    → (opening ++ argument) ++ closing ≡ text
    → position (λ name. bytes_eq name argument) names
    ≡ position (λ name. bytes_eq text ((opening ++ name) ++ closing)) names
position-between opening closing text argument names is =
    position-same _ _ (λ name. sym (bytes_eq-between opening closing name text argument is)) names

-- no measure, where the text has no such opening and closing
pub position-between_none : (opening closing text : List ℕ) (names : List (List ℕ))
    → ((name : List ℕ) → (opening ++ name) ++ closing ≢ text)
    → position (λ name. bytes_eq text ((opening ++ name) ++ closing)) names ≡ None
position-between_none opening closing text names other =
    position_from-zero (λ name. bytes_eq text ((opening ++ name) ++ closing)) names
    ∙ position_from-none _
    (λ name. false_from_ne_true _ (λ yes. other name (sym ((bytes_eq-Decides text _).0 yes)))) 0 names

-- what stands between, read off the front of the text first and then off its end
pub argument-between : (opening text rest : List ℕ) (found : Option (Bor (List ℕ))) → text ≡ opening ++ rest
    → MatchOption found ((front : List ℕ) → rest ≢ front ++ (41 ∷ [])) (λ name. rest ≡ name.now ++ (41 ∷ []))
    → MatchOption found ((name : List ℕ) → (opening ++ name) ++ (41 ∷ []) ≢ text)
    (λ name. (opening ++ name.now) ++ (41 ∷ []) ≡ text)
argument-between opening text rest None is other = λ name same.
    other name
    (append_cancel_left opening rest (name ++ (41 ∷ [])) (sym is ∙ sym same ∙ append_assoc opening name (41 ∷ [])))
argument-between opening text rest (Some name) is ends =
    append_assoc opening name.now (41 ∷ []) ∙ ap (λ t. opening ++ t) (sym ends) ∙ sym is

-- the first of the aggregates made of the measures from k on that passes a test, by the first name that passes its own
find-made : (test : Agg → Bool) (named : List ℕ → Bool) (make : ℕ → Agg) (k : ℕ) (names : List (List ℕ))
    → ((m j : ℕ) → m ≡ k + j → test (make m) ≡ named (get_or names j []))
    → find test (map make (range_with_len k (length names))) ≡ option_map make (position_from named k names)
find-made test named make k [] same = refl
find-made test named make k (name ∷ names) same =
    rw (same k 0 (omega arith), find-made test named make (k + 1) names (λ m j e. same m (suc j) (omega arith)))
    (elim (named name) as (λ b. cond b (Some (make k)) (option_map make (position_from named (k + 1) names))
    ≡ option_map make (cond b (Some k) (position_from named (k + 1) names))) [ true ↦ refl | false ↦ refl ])

-- the measure that a text names between an opening and a last `)`
abbrev pub measure_in : List (List ℕ) → List ℕ → List ℕ → Option ℕ
measure_in measures text opening = position (λ name. bytes_eq text ((opening ++ name) ++ codes ")")) measures

-- the aggregates of one function
pub find-function : (measures : List (List ℕ)) (text opening : List ℕ) (make : ℕ → Agg)
    → ((m : ℕ) → spelling_of measures (make m) ≡ (opening ++ get_or measures m []) ++ codes ")")
    → find (λ agg. bytes_eq text (spelling_of measures agg)) (map make (range_with_len 0 (length measures)))
    ≡ option_map make (measure_in measures text opening)
find-function measures text opening make spelled =
    find-made _ (λ name. bytes_eq text ((opening ++ name) ++ codes ")")) make 0 measures
    (λ m j e.
    ap (bytes_eq text) (spelled m ∙ ap (λ i. (opening ++ get_or measures i []) ++ codes ")") (e ∙ zero-add j)))
    ∙ ap (option_map make) (sym (position_from-zero _ measures))

-- the aggregates of one function, and others after them
find-functions : (measures : List (List ℕ)) (text opening : List ℕ) (make : ℕ → Agg) (others : List Agg)
    (found : Option Agg) → ((m : ℕ) → spelling_of measures (make m) ≡ (opening ++ get_or measures m []) ++ codes ")")
    → find (λ agg. bytes_eq text (spelling_of measures agg)) others ≡ found
    → find (λ agg. bytes_eq text (spelling_of measures agg)) (map make (range_with_len 0 (length measures)) ++ others)
    ≡ option_or (option_map make (measure_in measures text opening)) found
find-functions measures text opening make others found spelled rest =
    find-append (λ agg. bytes_eq text (spelling_of measures agg)) (map make (range_with_len 0 (length measures))) others
    ∙ ap (λ o. option_or o (find (λ agg. bytes_eq text (spelling_of measures agg)) others))
    (find-function measures text opening make spelled)
    ∙ ap (option_or (option_map make (measure_in measures text opening))) rest

-- the distinct count, sum of squares, variance, values or percentile that a text spells, function by function
pub statistic_spelled_measure_in : (measures : List (List ℕ)) (text : List ℕ) → statistic_spelled measures text
    ≡ option_or (option_map CountDistinct (measure_in measures text (codes "count(distinct ")))
    (option_or (option_map SumOfSquares (measure_in measures text (codes "sum_of_squares(")))
    (option_or (option_map VarPop (measure_in measures text (codes "var_pop(")))
    (option_or (option_map VarSamp (measure_in measures text (codes "var_samp(")))
    (option_or (option_map Values (measure_in measures text (codes "values(")))
    (find (λ agg. bytes_eq text (spelling_of measures agg)) (percentiles_over (length measures)))))))
unfolding statistics_over statistic_spelled
statistic_spelled_measure_in measures text =
    let over : (ℕ → Agg) → List Agg = λ make. map make (range_with_len 0 (length measures)) in
    let percentiles = percentiles_over (length measures) in
    let values : List Agg = over Values ++ percentiles in
    let samples : List Agg = over VarSamp ++ values in
    let variances : List Agg = over VarPop ++ samples in
    let fifth = find-functions measures text (codes "values(") Values percentiles _ (λ m. refl) refl in
    let fourth = find-functions measures text (codes "var_samp(") VarSamp values _ (λ m. refl) fifth in
    let third = find-functions measures text (codes "var_pop(") VarPop samples _ (λ m. refl) fourth in
    let second = find-functions measures text (codes "sum_of_squares(") SumOfSquares variances _ (λ m. refl) third in
    find-functions measures text (codes "count(distinct ") CountDistinct (over SumOfSquares ++ variances) _
    (λ m. refl) second

-- the aggregate that a text spells, function by function
pub aggregate_spelled_measure_in : (measures : List (List ℕ)) (text : List ℕ) → aggregate_spelled measures text
    ≡ cond (bytes_eq text (codes "count(*)")) (Some CountAll)
    (option_or (option_map Count (measure_in measures text (codes "count(")))
    (option_or (option_map Sum (measure_in measures text (codes "sum(")))
    (option_or (option_map Min (measure_in measures text (codes "min(")))
    (option_or (option_map Max (measure_in measures text (codes "max(")))
    (option_or (option_map Avg (measure_in measures text (codes "avg(")))
    (statistic_spelled measures text))))))
unfolding aggregate_spelled statistic_spelled
aggregate_spelled_measure_in measures text =
    let over : (ℕ → Agg) → List Agg = λ make. map make (range_with_len 0 (length measures)) in
    let statistics = statistics_over (length measures) in
    let means : List Agg = over Avg ++ statistics in
    let greatest : List Agg = over Max ++ means in
    let least : List Agg = over Min ++ greatest in
    let fifth = find-functions measures text (codes "avg(") Avg statistics _ (λ m. refl) refl in
    let fourth = find-functions measures text (codes "max(") Max means _ (λ m. refl) fifth in
    let third = find-functions measures text (codes "min(") Min greatest _ (λ m. refl) fourth in
    let second = find-functions measures text (codes "sum(") Sum least _ (λ m. refl) third in
    let first = find-functions measures text (codes "count(") Count (over Sum ++ least) _ (λ m. refl) second in
    ap (cond (bytes_eq text (codes "count(*)")) (Some CountAll)) first
