-- The percentile that a text spells, found by its level among the names of the measures.
use Rattle.std.proofs.Common.{◌≡◌, ◌≢◌, ℕ, ◌+◌, ◌<◌, ◌≤◌, ◌^◌, zero, suc, Bool, true, List, [], ◌∷◌, ◌++◌, length}
use Rattle.std.proofs.Common.{get_or, map, find, codes, position, Option, Some, None, option_map, nat_lt, inl, inr}
use Rattle.std.proofs.Common.{Bor, lit<, arith, refl, ap, ◌∙◌, sym, append_assoc}
use Rattle.std.specs.Str.{bytes_eq}
use Rattle.std.specs.Option.{option_or}
use Rattle.std.specs.List.{flat_map, range_with_len}
use Rattle.std.proofs.lemmas.Bool.{cases_Bool}
use Rattle.std.proofs.lemmas.Bool.Decides.{nat_tests}
use Rattle.std.proofs.lemmas.List.{append_cancel_left, append_cancel_right}
use Rattle.std.proofs.lemmas.List.Concat.{flat_map-cons}
use Rattle.std.proofs.lemmas.List.Folds.{find-append}
use Rattle.std.proofs.lemmas.Str.Pattern.{IsSplitOnceResult, split_after, split_parts}
use Rattle.cube_core.specs.Layout.{is_level, level_text, percentile_opening, spelling_of}
use Rattle.cube_core.specs.SchemaDocument.{percentiles_at, percentiles_over}
use Rattle.cube_core.specs.declared.aggregate.Agg.{Agg}
use Rattle.cube_core.specs.declared.aggregate.Agg.TheVariants.{PercentileDisc}
use Rattle.cube_core.proofs.LevelLaws.{is_level-within, is_level-bounds, level_text-same, level_text-no_comma}
use Rattle.cube_core.proofs.SchemaSpellingLaws.{find-function, measure_in, position-between, position-between_none}

option_or-none : {X : Type 0} (found : Option X) → option_or found None ≡ found
option_or-none None = refl
option_or-none (Some x) = refl

-- nothing is found in the lists of a range of numbers where nothing is in each
find-range_none : (test : Agg → Bool) (make : ℕ → List Agg) (k n : ℕ)
    → ((j : ℕ) → k ≤ j → j < k + n → find test (make j) ≡ None)
    → find test (flat_map make (range_with_len k n)) ≡ None
find-range_none test make k zero none = refl
find-range_none test make k (suc n) none =
    ap (find test) (flat_map-cons make k (range_with_len (k + 1) n))
    ∙ find-append test (make k) (flat_map make (range_with_len (k + 1) n))
    ∙ ap (λ found. option_or found (find test (flat_map make (range_with_len (k + 1) n))))
    (none k (omega arith) (omega arith))
    ∙ find-range_none test make (k + 1) n (λ j from below. none j (omega (arith, from)) (omega (arith, below)))

-- what is found in the lists of a range of numbers where nothing is in each but one
find-range_one : (test : Agg → Bool) (make : ℕ → List Agg) (k n one : ℕ) → k ≤ one → one < k + n
    → ((j : ℕ) → j ≢ one → k ≤ j → j < k + n → find test (make j) ≡ None)
    → find test (flat_map make (range_with_len k n)) ≡ find test (make one)
find-range_one test make k zero one from below none = absurd (omega (arith, from, below))
find-range_one test make k (suc n) one from below none =
    let others = flat_map make (range_with_len (k + 1) n) in
    let split : find test (flat_map make (range_with_len k (suc n))) ≡ option_or (find test (make k)) (find test others) =
    ap (find test) (flat_map-cons make k (range_with_len (k + 1) n)) ∙ find-append test (make k) others in
    elim (cases_Bool (nat_lt k one)) [
      | inl before ↦
          let lower : k < one = grind (arith, nat_tests) in
          split
          ∙ ap (λ found. option_or found (find test others))
          (none k (λ same. absurd (omega (arith, same, lower))) (omega arith) (omega arith))
          ∙ find-range_one test make (k + 1) n one (omega (arith, lower)) (omega (arith, below))
          (λ j apart start end. none j apart (omega (arith, start)) (omega (arith, end)))
      | inr here ↦
          let same : k ≡ one = grind (arith, nat_tests) in
          split
          ∙ ap (option_or (find test (make k)))
          (find-range_none test make (k + 1) n
          (λ j start end. none j (λ is. absurd (omega (arith, is, same, start))) (omega (arith, start))
          (omega (arith, end))))
          ∙ option_or-none (find test (make k)) ∙ ap (λ m. find test (make m)) same
    ]

-- the percentiles of one level
abbrev at_level : List (List ℕ) → ℕ → ℕ → List Agg
at_level measures places units = map (λ m. PercentileDisc m units places) (range_with_len 0 (length measures))

find-level : (measures : List (List ℕ)) (text : List ℕ) (units places : ℕ)
    → find (λ agg. bytes_eq text (spelling_of measures agg)) (at_level measures places units)
    ≡ option_map (λ m. PercentileDisc m units places) (measure_in measures text (percentile_opening units places))
find-level measures text units places =
    find-function measures text (percentile_opening units places) (λ m. PercentileDisc m units places) (λ m. refl)

find-level_none : (measures : List (List ℕ)) (text : List ℕ) (units places : ℕ)
    → ((name : List ℕ) → (percentile_opening units places ++ name) ++ codes ")" ≢ text)
    → find (λ agg. bytes_eq text (spelling_of measures agg)) (at_level measures places units) ≡ None
find-level_none measures text units places other =
    find-level measures text units places
    ∙ ap (option_map (λ m. PercentileDisc m units places))
    (position-between_none (percentile_opening units places) (codes ")") text measures other)

-- a text that begins with no level spells no percentile
pub percentiles_over-none : (measures : List (List ℕ)) (text : List ℕ)
    → ((units places : ℕ) (name : List ℕ) → is_level units places ≡ true
    → (percentile_opening units places ++ name) ++ codes ")" ≢ text)
    → find (λ agg. bytes_eq text (spelling_of measures agg)) (percentiles_over (length measures)) ≡ None
unfolding percentiles_over
percentiles_over-none measures text other =
    let test : Agg → Bool = λ agg. bytes_eq text (spelling_of measures agg) in
    find-range_none test (percentiles_at (length measures)) 0 5
    (λ places _ few. find-range_none test (at_level measures places) 0 (10 ^ places + 1)
    (λ units _ most. find-level_none measures text units places
    (λ name. other units places name (is_level-within units places few most))))

-- the opening of a percentile, its level and its comma
opening-split : (units places : ℕ) (name : List ℕ)
    → percentile_opening units places ++ name ≡ codes "percentile_disc(" ++ (level_text places units ++ 44 ∷ name)
opening-split units places name =
    append_assoc (codes "percentile_disc(" ++ level_text places units) (codes ",") name
    ∙ append_assoc (codes "percentile_disc(") (level_text places units) (44 ∷ name)

-- a text with no such opening and closing spells no percentile
pub no-argument : (measures : List (List ℕ)) (text : List ℕ)
    → ((argument : List ℕ) → (codes "percentile_disc(" ++ argument) ++ codes ")" ≢ text)
    → find (λ agg. bytes_eq text (spelling_of measures agg)) (percentiles_over (length measures)) ≡ None
no-argument measures text other =
    percentiles_over-none measures text
    (λ units places name lawful spelled. other (level_text places units ++ 44 ∷ name)
    (sym (ap (λ t. t ++ codes ")") (opening-split units places name)) ∙ spelled))

-- lists that hold no comma before their first one are the same before it
before-same : (xs ys us vs : List ℕ) → ((i : ℕ) → i < length xs → get_or xs i 0 ≢ 44)
    → ((i : ℕ) → i < length ys → get_or ys i 0 ≢ 44) → xs ++ 44 ∷ us ≡ ys ++ 44 ∷ vs → xs ≡ ys
before-same [] [] us vs free without same = refl
before-same [] (y ∷ ys) us vs free without same =
    let comma : y ≡ 44 = cc in absurd (without 0 (omega arith) comma)
before-same (x ∷ xs) [] us vs free without same =
    let comma : x ≡ 44 = cc in absurd (free 0 (omega arith) comma)
before-same (x ∷ xs) (y ∷ ys) us vs free without same =
    let heads : x ≡ y = cc in
    let tails : xs ++ 44 ∷ us ≡ ys ++ 44 ∷ vs = cc in
    let rest = before-same xs ys us vs (λ i below. free (suc i) (omega (arith, below)))
    (λ i below. without (suc i) (omega (arith, below))) tails in
    rw (heads, rest) refl

-- what stands between the opening of a percentile and the last `)`
argument-level : (argument text : List ℕ) (units places : ℕ) (name : List ℕ)
    → (codes "percentile_disc(" ++ argument) ++ codes ")" ≡ text
    → (percentile_opening units places ++ name) ++ codes ")" ≡ text
    → argument ≡ level_text places units ++ 44 ∷ name
argument-level argument text units places name is spelled =
    append_cancel_left (codes "percentile_disc(") argument (level_text places units ++ 44 ∷ name)
    (append_cancel_right (codes "percentile_disc(" ++ argument)
    (codes "percentile_disc(" ++ (level_text places units ++ 44 ∷ name)) (codes ")")
    (is ∙ sym spelled ∙ ap (λ t. t ++ codes ")") (opening-split units places name)))

level-argument : (argument text : List ℕ) (units places : ℕ) (name : List ℕ)
    → (codes "percentile_disc(" ++ argument) ++ codes ")" ≡ text → argument ≡ level_text places units ++ 44 ∷ name
    → (percentile_opening units places ++ name) ++ codes ")" ≡ text
level-argument argument text units places name is level_is =
    ap (λ t. t ++ codes ")") (opening-split units places name)
    ∙ ap (λ t. (codes "percentile_disc(" ++ t) ++ codes ")") (sym level_is) ∙ is

-- a text spells percentiles of one level alone
level-same : (argument text : List ℕ) (units places others digits : ℕ) (name rest : List ℕ)
    → (codes "percentile_disc(" ++ argument) ++ codes ")" ≡ text → argument ≡ level_text places units ++ 44 ∷ name
    → (percentile_opening others digits ++ rest) ++ codes ")" ≡ text
    → level_text digits others ≡ level_text places units
level-same argument text units places others digits name rest is level_is spelled =
    before-same (level_text digits others) (level_text places units) rest name (level_text-no_comma digits others)
    (level_text-no_comma places units) (sym (argument-level argument text others digits rest is spelled) ∙ level_is)

-- the percentile that a text spells with a level and a name
pub percentiles_over-one : (measures : List (List ℕ)) (text argument : List ℕ) (units places : ℕ) (name : List ℕ)
    → is_level units places ≡ true → (codes "percentile_disc(" ++ argument) ++ codes ")" ≡ text
    → argument ≡ level_text places units ++ 44 ∷ name
    → find (λ agg. bytes_eq text (spelling_of measures agg)) (percentiles_over (length measures))
    ≡ option_map (λ m. PercentileDisc m units places) (position (λ other. bytes_eq other name) measures)
unfolding percentiles_over
percentiles_over-one measures text argument units places name lawful is level_is =
    let test : Agg → Bool = λ agg. bytes_eq text (spelling_of measures agg) in
    let bounds = is_level-bounds units places lawful in
    find-range_one test (percentiles_at (length measures)) 0 5 places (omega arith) bounds.0
    (λ digits apart _ few. find-range_none test (at_level measures digits) 0 (10 ^ digits + 1)
    (λ others _ most. find-level_none measures text others digits
    (λ rest spelled. apart (level_text-same digits places others units (is_level-within others digits few most) lawful
    (level-same argument text units places others digits name rest is level_is spelled)).0)))
    ∙ find-range_one test (at_level measures places) 0 (10 ^ places + 1) units (omega arith) bounds.1
    (λ others apart _ most. find-level_none measures text others places
    (λ rest spelled. apart (level_text-same places places others units (is_level-within others places bounds.0 most)
    lawful (level-same argument text units places others places name rest is level_is spelled)).1))
    ∙ find-level measures text units places
    ∙ ap (option_map (λ m. PercentileDisc m units places))
    (sym (position-between (percentile_opening units places) (codes ")") text name measures
    (level-argument argument text units places name is level_is)))

-- a text whose argument begins with no level spells no percentile
pub no-level : (measures : List (List ℕ)) (text argument : List ℕ)
    → (codes "percentile_disc(" ++ argument) ++ codes ")" ≡ text
    → ((units places : ℕ) (name : List ℕ) → is_level units places ≡ true → argument ≢ level_text places units ++ 44 ∷ name)
    → find (λ agg. bytes_eq text (spelling_of measures agg)) (percentiles_over (length measures)) ≡ None
no-level measures text argument is other =
    percentiles_over-none measures text
    (λ units places name lawful spelled. other units places name lawful
    (argument-level argument text units places name is spelled))

-- an argument without a comma begins with no level
pub no-comma : (argument : List ℕ) (parts : Option (Bor (List ℕ) × Bor (List ℕ))) → IsSplitOnceResult 44 argument parts
    → parts ≡ None → (units places : ℕ) (name : List ℕ) → argument ≢ level_text places units ++ 44 ∷ name
no-comma argument None split none units places name same =
    split_after 44 argument (level_text places units) name None split (lit< tt) same (level_text-no_comma places units)
no-comma argument (Some found) split none units places name same = cc

-- the level that an argument begins with stands before its first comma
pub before-comma : (argument : List ℕ) (parts : Option (Bor (List ℕ) × Bor (List ℕ)))
    (level name : Bor (List ℕ)) → IsSplitOnceResult 44 argument parts → parts ≡ Some (level, name)
    → (units places : ℕ) (rest : List ℕ) → argument ≡ level_text places units ++ 44 ∷ rest
    → level_text places units ≡ level.now
before-comma argument parts level name split is units places rest same =
    let clause : IsSplitOnceResult 44 argument (Some (level, name)) = rw is at split in
    sym (split_after 44 argument (level_text places units) rest (Some (level, name)) clause (lit< tt) same
    (level_text-no_comma places units)).0

-- an argument is what stands before and after its first comma
pub round-comma : (argument : List ℕ) (parts : Option (Bor (List ℕ) × Bor (List ℕ))) (level name : Bor (List ℕ))
    → IsSplitOnceResult 44 argument parts → parts ≡ Some (level, name) → argument ≡ level.now ++ 44 ∷ name.now
round-comma argument parts level name split is =
    let clause : IsSplitOnceResult 44 argument (Some (level, name)) = rw is at split in
    (split_parts 44 argument (Some (level, name)) clause (lit< tt)).0
