-- The rows of a cube over one list of facts are one list.
use Rattle.std.proofs.Common.{◌≡◌, ℕ, ◌≤ℤ◌, ℤ, true, false, List, [], ◌∷◌, length, map, refl, sym}
use Rattle.std.proofs.Common.{ap, ap₂, ◌∙◌, subst, arith, zero-lt-suc}
use Rattle.std.specs.List.{AllByRecursion}
use Rattle.std.proofs.lemmas.Int.{ints}
use Rattle.cube_core.specs.Layout.{Layout}
use Rattle.cube_laws.specs.Cells.{all_counted}
use Rattle.cube_core.specs.Answer.{IsSum, IsBest, IsMean, IsAnswer, AreAnswers}
use Rattle.cube_core.specs.Cube.{AreRows, AreRowsOver, HasAnswers, key_of}
use Rattle.cube_core.specs.Group.{group_of, total_of, values_of}
use Rattle.cube_core.specs.Printed.{IsPrinted}
use Rattle.cube_core.specs.Text.{text_of_rows}
use Rattle.cube_core.specs.declared.aggregate.Agg.{Agg}
use Rattle.cube_core.specs.declared.aggregate.Agg.TheVariants as agg
use Rattle.cube_core.specs.declared.aggregate.Answer.{Answer}
use Rattle.cube_core.specs.declared.aggregate.Answer.TheVariants as answer
use Rattle.cube_core.specs.declared.fact.Fact.{Fact}
use Rattle.cube_core.specs.declared.key.Row.{Row}
use Rattle.cube_laws.proofs.FractionLaws.{IsInLowestTerms-unique}
use Rattle.cube_laws.proofs.HeldLaws.{AreValues-unique}
use Rattle.cube_laws.proofs.HolisticLaws.{IsDistinctCount-unique, IsPercentile-unique}
use Rattle.cube_laws.proofs.StatisticsLaws.{IsSumOfSquares-unique, IsVarianceAnswer-unique}
use Rattle.cube_laws.proofs.SortedLaws.{IsStrictlySortedBy-unique}
use Rattle.cube_core.proofs.KeyOrderLaws.{key_cmp-IsTotalOrder}
use Rattle.cube_core.proofs.ListLaws.{AllByRecursion-Contains}

-- a sum is determined
IsSum-unique : (values : List ℤ) (a b : Answer) → IsSum values a → IsSum values b → a ≡ b
IsSum-unique [] a b h k = h ∙ sym k
IsSum-unique (v ∷ vs) a b h k = h ∙ sym k

-- what is best is determined, where no two values are as good as each other
IsBest-unique : (IsAsGood : ℤ → ℤ → Type 0) → ((m n : ℤ) → IsAsGood m n → IsAsGood n m → m ≡ n)
    → (values : List ℤ) (a b : Answer) →
    IsBest IsAsGood values a → IsBest IsAsGood values b → a ≡ b
IsBest-unique IsAsGood one [] a b h k = h ∙ sym k
IsBest-unique IsAsGood one (v ∷ vs) a b h k =
    let there : IsAsGood h.0 k.0 = AllByRecursion-Contains (IsAsGood h.0) (v ∷ vs) k.0 h.3 k.2 in
    let back : IsAsGood k.0 h.0 = AllByRecursion-Contains (IsAsGood k.0) (v ∷ vs) h.0 k.3 h.2 in
    h.1 ∙ ap answer.Whole (one h.0 k.0 there back) ∙ sym k.1

-- a mean is determined
IsMean-unique : (values : List ℤ) (a b : Answer) → IsMean values a → IsMean values b → a ≡ b
IsMean-unique [] a b h k = h ∙ sym k
IsMean-unique (v ∷ vs) a b h k =
    let same =
    IsInLowestTerms-unique (total_of (v ∷ vs)) (length (v ∷ vs)) h.0 k.0 h.1 k.1 (zero-lt-suc (length vs)) h.3 k.3 in
    h.2 ∙ ap₂ answer.Ratio same.0 same.1 ∙ sym k.2

-- an answer over a group is determined
pub IsAnswer-unique : (group : List Fact) (aggregate : Agg) (a b : Answer) → IsAnswer group aggregate a →
    IsAnswer group aggregate b → a ≡ b
IsAnswer-unique group agg.CountAll a b h k = h ∙ sym k
IsAnswer-unique group (agg.Count m) a b h k = h ∙ sym k
IsAnswer-unique group (agg.Sum m) a b h k = IsSum-unique (values_of m group) a b h k
IsAnswer-unique group (agg.Min m) a b h k =
    IsBest-unique (λ m x. m ≤ℤ x) (λ m n h k. omega (arith, ints)) (values_of m group) a b h k
IsAnswer-unique group (agg.Max m) a b h k =
    IsBest-unique (λ m x. x ≤ℤ m) (λ m n h k. omega (arith, ints)) (values_of m group) a b h k
IsAnswer-unique group (agg.Avg m) a b h k = IsMean-unique (values_of m group) a b h k
IsAnswer-unique group (agg.CountDistinct m) a b h k = IsDistinctCount-unique (values_of m group) a b h k
IsAnswer-unique group (agg.PercentileDisc m units places) a b h k =
    IsPercentile-unique units places (values_of m group) a b h k
IsAnswer-unique group (agg.SumOfSquares m) a b h k = IsSumOfSquares-unique (values_of m group) a b h k
IsAnswer-unique group (agg.VarPop m) a b h k = IsVarianceAnswer-unique false (values_of m group) a b h k
IsAnswer-unique group (agg.VarSamp m) a b h k = IsVarianceAnswer-unique true (values_of m group) a b h k
IsAnswer-unique group (agg.Values m) a b h k = AreValues-unique (values_of m group) a b h k

-- the answers over a group are determined
pub AreAnswers-unique : (group : List Fact) (aggregates : List Agg) (as' bs : List Answer) →
    AreAnswers group aggregates as' → AreAnswers group aggregates bs → as' ≡ bs
AreAnswers-unique group [] [] [] h k = refl
AreAnswers-unique group [] [] (b ∷ bs) h k = elim k [ ]
AreAnswers-unique group [] (a ∷ as') bs h k = elim h [ ]
AreAnswers-unique group (aggregate ∷ aggregates) [] bs h k = elim h [ ]
AreAnswers-unique group (aggregate ∷ aggregates) (a ∷ as') [] h k = elim k [ ]
AreAnswers-unique group (aggregate ∷ aggregates) (a ∷ as') (b ∷ bs) h k =
    ap₂ (λ x xs. x ∷ xs) (IsAnswer-unique group aggregate a b h.0 k.0)
    (AreAnswers-unique group aggregates as' bs h.1 k.1)

-- rows with the same key over the same facts are one
pub HasAnswers-unique : (aggregates : List Agg) (facts : List Fact) (r r' : Row) → r.key ≡ r'.key
    → HasAnswers aggregates facts r →
    HasAnswers aggregates facts r' → r ≡ r'
HasAnswers-unique aggregates facts r r' same h k =
    ap₂ (λ key answers. let row : Row = record { key = key; answers = answers } in row) same
    (AreAnswers-unique (group_of r'.key facts) aggregates r.answers r'.answers
    (subst (λ key. AreAnswers (group_of key facts) aggregates r.answers) same h) k)

-- rows with the same keys over the same facts are the same rows
pub HasAnswers-keys : (aggregates : List Agg) (facts : List Fact) (rows rows' : List Row) →
    map key_of rows ≡ map key_of rows' → AllByRecursion (HasAnswers aggregates facts) rows →
    AllByRecursion (HasAnswers aggregates facts) rows' → rows ≡ rows'
HasAnswers-keys aggregates facts [] [] same h k = refl
HasAnswers-keys aggregates facts [] (r' ∷ rows') same h k = cc
HasAnswers-keys aggregates facts (r ∷ rows) [] same h k = cc
HasAnswers-keys aggregates facts (r ∷ rows) (r' ∷ rows') same h k =
    let key : r.key ≡ r'.key = cc in
    let keys : map key_of rows ≡ map key_of rows' = cc in
    ap₂ (λ x xs. x ∷ xs) (HasAnswers-unique aggregates facts r r' key h.0 k.0)
    (HasAnswers-keys aggregates facts rows rows' keys h.1 k.1)

-- the rows over grouping sets are determined
pub AreRowsOver-unique : (sets : List ℕ) (dimensions : ℕ) (aggregates : List Agg) (facts : List Fact)
    (rows rows' : List Row) →
    AreRowsOver sets dimensions aggregates facts rows → AreRowsOver sets dimensions aggregates facts rows' →
    rows ≡ rows'
AreRowsOver-unique sets dimensions aggregates facts rows rows' h k =
    HasAnswers-keys aggregates facts rows rows'
    (IsStrictlySortedBy-unique key_cmp-IsTotalOrder (map key_of rows) (map key_of rows') h.ordered k.ordered
    (λ key among. (k.cells key).1 ((h.cells key).0 among))
    (λ key among. (h.cells key).1 ((k.cells key).0 among)))
    h.answers k.answers

-- and so are the rows of a schema's cube
pub AreRows-unique : (s : Layout) (facts : List Fact) (rows rows' : List Row) → AreRows s facts rows →
    AreRows s facts rows' → rows ≡ rows'
AreRows-unique s facts rows rows' h k =
    AreRowsOver-unique _ _ s.aggregates (all_counted s facts) rows rows' h k

-- the printed cube is determined
pub IsPrinted-unique : (s : Layout) (facts : List Fact) (text text' : List ℕ) → IsPrinted s facts text →
    IsPrinted s facts text' → text ≡ text'
IsPrinted-unique s facts text text' h k =
    h.text_is ∙ ap (text_of_rows s) (AreRows-unique s facts h.rows k.rows h.are_rows k.are_rows)
    ∙ sym k.text_is
