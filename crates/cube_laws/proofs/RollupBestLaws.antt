-- The answers of groups, against the answer of the groups joined: of sums the sum, of least values the least.
use Rattle.std.proofs.Common.{◌≡◌, ℕ, ℤ, ◌+ℤ◌, List, [], ◌∷◌, ◌++◌, length, flat_map, Contains, ◌↔◌, ◌⊎◌, refl, sym, ap}
use Rattle.std.proofs.Common.{◌∙◌, subst, inl, inr, arith, length-append}
use Rattle.std.specs.List.{AllByRecursion, cons_option, filter_map}
use Rattle.std.proofs.lemmas.Int.{ints}
use Rattle.std.proofs.lemmas.List.Elements.{Contains-append_left, Contains-append_right, Contains-append_cases}
use Rattle.cube_core.specs.Answer.{IsSum, IsBest, IsPercentile}
use Rattle.cube_core.specs.Group.{total_of}
use Rattle.cube_core.specs.Merged.{number_in}
use Rattle.cube_core.specs.declared.aggregate.Answer.{Answer}
use Rattle.cube_core.specs.declared.aggregate.Answer.TheVariants as answer
use Rattle.cube_core.proofs.ListLaws.{AllByRecursion-Contains, Contains-AllByRecursion, Contains-cases, Contains-head}
use Rattle.cube_core.proofs.ListLaws.{Contains-nil, Contains-tail}

-- a sum of joined lists
total_of-append : (xs ys : List ℤ) → total_of (xs ++ ys) ≡ total_of xs +ℤ total_of ys
total_of-append [] ys = omega (arith, ints)
total_of-append (x ∷ xs) ys =
    let rest : total_of (xs ++ ys) ≡ total_of xs +ℤ total_of ys = total_of-append xs ys in
    omega (arith, ints)

-- an answer to values: null where there are none, else a number
unfoldable pub Says : List ℤ → Answer → Type 0
Says [] a = a ≡ answer.Null
Says (v ∷ vs) a = (m : ℤ) × (a ≡ answer.Whole m)

pub IsSum-Says : (values : List ℤ) (a : Answer) → IsSum values a → Says values a
unfolding Says
IsSum-Says [] a h = h
IsSum-Says (v ∷ vs) a h = (total_of (v ∷ vs), h)

-- one more answer, with its values, keeps both lists empty or neither
number_in-none : (values : List ℤ) (a : Answer) (numbers others : List ℤ) → Says values a →
    (length numbers ≡ 0) ↔ (length others ≡ 0) →
    (length (cons_option (number_in a) numbers) ≡ 0) ↔ (length (values ++ others) ≡ 0)
unfolding Says
number_in-none [] a numbers others h both =
    subst (λ b. (length (cons_option (number_in b) numbers) ≡ 0) ↔ (length others ≡ 0)) (sym h) both
number_in-none (v ∷ vs) a numbers others h both =
    subst (λ b. (length (cons_option (number_in b) numbers) ≡ 0) ↔ (length (v ∷ vs ++ others) ≡ 0)) (sym h.1)
    (λ some. absurd (omega (arith, some)), λ some. absurd (omega (arith, some)))

-- one more answer that is a sum
number_in-total_of : (values : List ℤ) (a : Answer) (numbers others : List ℤ) → IsSum values a →
    total_of numbers ≡ total_of others → total_of (cons_option (number_in a) numbers) ≡ total_of (values ++ others)
number_in-total_of [] a numbers others h same = ap (λ b. total_of (cons_option (number_in b) numbers)) h ∙ same
number_in-total_of (v ∷ vs) a numbers others h same =
    ap (λ b. total_of (cons_option (number_in b) numbers)) h
    ∙ ap (λ t. total_of (v ∷ vs) +ℤ t) same
    ∙ sym (total_of-append (v ∷ vs) others)

-- so does what is best by an order
pub IsBest-Says : (R : ℤ → ℤ → Type 0) (values : List ℤ) (a : Answer) → IsBest R values a → Says values a
unfolding Says
IsBest-Says R [] a h = h
IsBest-Says R (v ∷ vs) a h = (h.0, h.1)

-- and a percentile
pub IsPercentile-Says : (units places : ℕ) (values : List ℤ) (a : Answer) → IsPercentile units places values a
    → Says values a
unfolding Says
IsPercentile-Says units places [] a h = h
IsPercentile-Says units places (v ∷ vs) a h = (h.0, h.1)

module _ (R : ℤ → ℤ → Type 0) where
  -- an answer that is best is one of its values, and no value is better
  IsBest-Contains : (values : List ℤ) (a : Answer) (x : ℤ) → IsBest R values a → Contains values x →
      (n : ℤ) × (a ≡ answer.Whole n) × R n x
  IsBest-Contains [] a x h among = absurd (Contains-nil x among)
  IsBest-Contains (v ∷ vs) a x h among = (h.0, h.1, AllByRecursion-Contains (R h.0) (v ∷ vs) x h.3 among)

  IsBest-Whole : (values : List ℤ) (a : Answer) (n : ℤ) → IsBest R values a → a ≡ answer.Whole n → Contains values n
  IsBest-Whole [] a n h is =
      let clash : answer.Null ≡ answer.Whole n = sym h ∙ is in
      cc
  IsBest-Whole (v ∷ vs) a n h is =
      let whole : answer.Whole h.0 ≡ answer.Whole n = sym h.1 ∙ is in
      let same : h.0 ≡ n = cc in
      subst (Contains (v ∷ vs)) same h.2

-- numbers that are among values, where for each value there is a number as good
module _ (R : ℤ → ℤ → Type 0) where
  -- what is best of the values is best of the numbers, where no two values are as good as each other
  IsBest-as_good : ((m n : ℤ) → R m n → R n m → m ≡ n) → (numbers values : List ℤ) (a : Answer) →
      (length numbers ≡ 0) ↔ (length values ≡ 0) → ((n : ℤ) → Contains numbers n → Contains values n) →
      ((x : ℤ) → Contains values x → (n : ℤ) × Contains numbers n × R n x) → IsBest R values a → IsBest R numbers a
  IsBest-as_good one [] [] a both within found h = h
  IsBest-as_good one [] (v ∷ vs) a both within found h = absurd (omega (arith, both.0 refl))
  IsBest-as_good one (n ∷ ns) [] a both within found h = absurd (omega (arith, both.1 refl))
  IsBest-as_good one (n ∷ ns) (v ∷ vs) a both within found h =
      let good = found h.0 h.2 in
      let below : (x : ℤ) → Contains (v ∷ vs) x → R h.0 x =
      λ x among. AllByRecursion-Contains (R h.0) (v ∷ vs) x h.3 among in
      let same : h.0 ≡ good.0 = one h.0 good.0 (below good.0 (within good.0 good.1)) good.2 in (
        h.0,
        h.1,
        subst (Contains (n ∷ ns)) (sym same) good.1,
        Contains-AllByRecursion (R h.0) (n ∷ ns) (λ x among. below x (within x among)),
      )

  -- what is best of the numbers is best of the values, where what is as good as a better one is as good
  IsBest-better : ((m n x : ℤ) → R m n → R n x → R m x) → (numbers values : List ℤ) (a : Answer) →
      (length numbers ≡ 0) ↔ (length values ≡ 0) → ((n : ℤ) → Contains numbers n → Contains values n) →
      ((x : ℤ) → Contains values x → (n : ℤ) × Contains numbers n × R n x) → IsBest R numbers a → IsBest R values a
  IsBest-better better [] [] a both within found h = h
  IsBest-better better [] (v ∷ vs) a both within found h = absurd (omega (arith, both.0 refl))
  IsBest-better better (n ∷ ns) [] a both within found h = absurd (omega (arith, both.1 refl))
  IsBest-better better (n ∷ ns) (v ∷ vs) a both within found h = (
    h.0,
    h.1,
    within h.0 h.2,
    Contains-AllByRecursion (R h.0) (v ∷ vs) (λ x among.
        let good = found x among in
        better h.0 good.0 x (AllByRecursion-Contains (R h.0) (n ∷ ns) good.0 h.3 good.1) good.2),
  )

-- the numbers among answers, nulls left out
abbrev pub numbers_among : {X : Type 0} → (X → Answer) → List X → List ℤ
numbers_among answer_of xs = filter_map (λ x. number_in (answer_of x)) xs

-- each of some things has values and an answer to them
module _ {X : Type 0} (values_under : X → List ℤ) (answer_of : X → Answer) where
  -- the answers and the values are both none or both some
  pub numbers_among-none : (rows : List X) → AllByRecursion (λ row. Says (values_under row) (answer_of row)) rows →
      (length (numbers_among answer_of rows) ≡ 0) ↔ (length (flat_map values_under rows) ≡ 0)
  numbers_among-none [] h = (λ e. e, λ e. e)
  numbers_among-none (row ∷ rows) h =
      number_in-none (values_under row) (answer_of row) (numbers_among answer_of rows) (flat_map values_under rows)
      h.0 (numbers_among-none rows h.1)

  -- the sum of the sums is the sum of the values
  pub numbers_among-total_of : (rows : List X) →
      AllByRecursion (λ row. IsSum (values_under row) (answer_of row)) rows →
      total_of (numbers_among answer_of rows) ≡ total_of (flat_map values_under rows)
  numbers_among-total_of [] h = refl
  numbers_among-total_of (row ∷ rows) h =
      number_in-total_of (values_under row) (answer_of row) (numbers_among answer_of rows) (flat_map values_under rows)
      h.0 (numbers_among-total_of rows h.1)

  -- a number that is answered stands among the numbers
  numbers_among-Contains : (row : X) (rows : List X) (n : ℤ) → answer_of row ≡ answer.Whole n →
      Contains (numbers_among answer_of (row ∷ rows)) n
  numbers_among-Contains row rows n is =
      subst (λ a. Contains (cons_option (number_in a) (numbers_among answer_of rows)) n) (sym is)
      (Contains-head n (numbers_among answer_of rows))

  -- and so do the numbers of the other rows
  number_in-Contains : (a : Answer) (numbers : List ℤ) (n : ℤ) → Contains numbers n →
      Contains (cons_option (number_in a) numbers) n
  number_in-Contains answer.Null numbers n among = among
  number_in-Contains (answer.Count c) numbers n among = among
  number_in-Contains (answer.Whole z) numbers n among = Contains-tail z numbers n among
  number_in-Contains (answer.Ratio p q) numbers n among = among
  number_in-Contains (answer.Squares k) numbers n among = among
  number_in-Contains (answer.Variance p q) numbers n among = among
  number_in-Contains (answer.Values held) numbers n among = among

  -- a number is an answer, or among the other numbers
  number_in-cases : (a : Answer) (numbers : List ℤ) (n : ℤ) → Contains (cons_option (number_in a) numbers) n →
      (a ≡ answer.Whole n) ⊎ Contains numbers n
  number_in-cases answer.Null numbers n among = inr among
  number_in-cases (answer.Count c) numbers n among = inr among
  number_in-cases (answer.Whole z) numbers n among = elim (Contains-cases z numbers n among) [
    | inl here ↦ inl (ap answer.Whole here)
    | inr after ↦ inr after
  ]
  number_in-cases (answer.Ratio p q) numbers n among = inr among
  number_in-cases (answer.Squares k) numbers n among = inr among
  number_in-cases (answer.Variance p q) numbers n among = inr among
  number_in-cases (answer.Values held) numbers n among = inr among

  module _ (R : ℤ → ℤ → Type 0) where
    -- each number is one of the values
    numbers_among-values : (rows : List X) (n : ℤ) →
        AllByRecursion (λ row. IsBest R (values_under row) (answer_of row)) rows →
        Contains (numbers_among answer_of rows) n → Contains (flat_map values_under rows) n
    numbers_among-values [] n h among = among
    numbers_among-values (row ∷ rows) n h among =
        elim (number_in-cases (answer_of row) (numbers_among answer_of rows) n among) [
          | inl here ↦
              Contains-append_left (values_under row) (flat_map values_under rows) n
              (IsBest-Whole R (values_under row) (answer_of row) n h.0 here)
          | inr after ↦
              Contains-append_right (values_under row) (flat_map values_under rows) n
              (numbers_among-values rows n h.1 after)
        ]

    -- for each value there is a number as good
    numbers_among-as_good : (rows : List X) (x : ℤ) →
        AllByRecursion (λ row. IsBest R (values_under row) (answer_of row)) rows →
        Contains (flat_map values_under rows) x → (n : ℤ) × Contains (numbers_among answer_of rows) n × R n x
    numbers_among-as_good [] x h among = absurd (Contains-nil x among)
    numbers_among-as_good (row ∷ rows) x h among =
        elim (Contains-append_cases (values_under row) (flat_map values_under rows) x among) [
          | inl here ↦
              let found = IsBest-Contains R (values_under row) (answer_of row) x h.0 here in
              (found.0, numbers_among-Contains row rows found.0 found.1, found.2)
          | inr after ↦
              let found = numbers_among-as_good rows x h.1 after in
              (found.0, number_in-Contains (answer_of row) (numbers_among answer_of rows) found.0 found.1, found.2)
        ]

    -- each answer says whether there are values
    IsBest-all_Says : (rows : List X) → AllByRecursion (λ row. IsBest R (values_under row) (answer_of row)) rows →
        AllByRecursion (λ row. Says (values_under row) (answer_of row)) rows
    IsBest-all_Says [] each = each
    IsBest-all_Says (row ∷ rows) each =
        (IsBest-Says R (values_under row) (answer_of row) each.0, IsBest-all_Says rows each.1)

    -- the best of the best is the best of the values, where no two values are as good as each other
    pub IsBest-numbers_among : ((m n : ℤ) → R m n → R n m → m ≡ n) → (rows : List X) (a : Answer) →
        AllByRecursion (λ row. IsBest R (values_under row) (answer_of row)) rows →
        IsBest R (flat_map values_under rows) a → IsBest R (numbers_among answer_of rows) a
    IsBest-numbers_among one rows a each h =
        IsBest-as_good R one (numbers_among answer_of rows) (flat_map values_under rows) a
        (numbers_among-none rows (IsBest-all_Says rows each))
        (λ n. numbers_among-values rows n each) (λ x. numbers_among-as_good rows x each) h

    -- and what is best of the best is best of the values, where what is as good as a better one is as good
    pub IsBest-values_under : ((m n x : ℤ) → R m n → R n x → R m x) → (rows : List X) (a : Answer) →
        AllByRecursion (λ row. IsBest R (values_under row) (answer_of row)) rows →
        IsBest R (numbers_among answer_of rows) a → IsBest R (flat_map values_under rows) a
    IsBest-values_under better rows a each h =
        IsBest-better R better (numbers_among answer_of rows) (flat_map values_under rows) a
        (numbers_among-none rows (IsBest-all_Says rows each))
        (λ n. numbers_among-values rows n each) (λ x. numbers_among-as_good rows x each) h

-- a sum of values is one of numbers with the same sum
pub IsSum-total_of : (numbers values : List ℤ) (a : Answer) → (length numbers ≡ 0) ↔ (length values ≡ 0) →
    total_of numbers ≡ total_of values → IsSum values a → IsSum numbers a
IsSum-total_of [] [] a both same h = h
IsSum-total_of [] (v ∷ vs) a both same h = absurd (omega (arith, both.0 refl))
IsSum-total_of (n ∷ ns) [] a both same h = absurd (omega (arith, both.1 refl))
IsSum-total_of (n ∷ ns) (v ∷ vs) a both same h = h ∙ ap answer.Whole (sym same)

-- an answer is null where there are no values, and only there
pub Says-Null : (values : List ℤ) (a : Answer) → Says values a → (a ≡ answer.Null) ↔ (length values ≡ 0)
unfolding Says
Says-Null [] a h = (λ _. refl, λ _. h)
Says-Null (v ∷ vs) a h = (
  λ null. absurd (let clash : answer.Null ≡ answer.Whole h.0 = sym null ∙ h.1 in cc),
  λ some. absurd (omega (arith, some)),
)

-- answers are all null where there are no values, and only there
pub Says-all_Null : {X : Type 0} (values_under : X → List ℤ) (answer_of : X → Answer) (rows : List X) →
    AllByRecursion (λ row. Says (values_under row) (answer_of row)) rows →
    AllByRecursion (λ row. answer_of row ≡ answer.Null) rows ↔ (length (flat_map values_under rows) ≡ 0)
Says-all_Null values_under answer_of [] h = (λ _. refl, λ _. tt)
Says-all_Null values_under answer_of (row ∷ rows) h =
    let here = Says-Null (values_under row) (answer_of row) h.0 in
    let after = Says-all_Null values_under answer_of rows h.1 in
    let joined = length-append (values_under row) (flat_map values_under rows) in (
      λ nulls. omega (arith, joined, here.0 nulls.0, after.0 nulls.1),
      λ none. (here.1 (omega (arith, joined, none)), after.1 (omega (arith, joined, none))),
    )
