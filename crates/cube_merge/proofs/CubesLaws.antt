-- How the text of a merged cube grows, and what its inputs held.
use Rattle.std.proofs.Common.{◌≡◌, ◌++◌, ◌<◌, ◌≤◌, ◌∷◌, [], ℕ, zero, suc, Bool, true, false, List, Option, Some, None}
use Rattle.std.proofs.Common.{length, get_or, map, take, drop, refl, sym, ap, ◌∙◌, subst, arith, append_assoc, flat_map}
use Rattle.std.proofs.Common.{IfSome, inl, inr, option_to_list}
use Rattle.std.specs.List.{AllByRecursion, AllZip}
use Rattle.std.specs.List.Sorted.{IsStrictlySortedBy}
use Rattle.cube_core.specs.Cube.{key_of}
use Rattle.cube_core.specs.Order.{key_cmp}
use Rattle.std.specs.Io.KnownBytes.{Consumes, IsAtEnd}
use Rattle.std.proofs.lemmas.Grind.{flat_map-append}
use Rattle.std.proofs.lemmas.Bool.{cases_lt}
use Rattle.std.proofs.lemmas.List.{append-nil, length-map}
use Rattle.cube_core.specs.Layout.{Layout}
use Rattle.cube_core.specs.Text.{header_fields, line, row_line, text_of_rows}
use Rattle.cube_core.specs.declared.aggregate.Agg.{Agg}
use Rattle.cube_core.specs.declared.key.Row.{Row}
use Rattle.cube_core.proofs.ListLaws.{AllZip-length}
use Rattle.cube_merge.specs.Lawful.{IsLawfulRow, IsRightRow}
use Rattle.cube_merge.specs.Merging.{HasConsistentAnswers, InputView, nothing_left, IsMergeOf, IsLeastSoFar}
use Rattle.cube_merge.proofs.MergedLaws.{AllByRecursion-map}
use Rattle.cube_merge.specs.Merging.{IsNotBelow, Gave, IsEnded, TookHeader, TookHeaders, AllMove, IsMerging}
use Rattle.cube_merge.specs.Merging.{MergesInputs}
use Rattle.cube_merge.specs.Merging.{IsToldTextOf}
use Rattle.cube_merge.proofs.LeastLaws.{past, not_below-none}
use Rattle.cube_merge.proofs.StepLaws.{IsMerging-start}

-- what a vector holds after its slice was written whole
pub refill-same : {X : Type 0} (n : ℕ) (news olds : List X) → length news ≡ length olds → n ≡ length olds
    → take n (news ++ drop (length news) olds) ≡ news
refill-same n news olds same long =
    ap (λ t. take n (news ++ t)) (all-dropped (length news) olds (omega (arith, same))) ∙ ap (take n) (append-nil news)
    ∙ all-taken n news (omega (arith, same, long)) where
      all-dropped : {Y : Type 0} (k : ℕ) (xs : List Y) → length xs ≤ k → drop k xs ≡ []
      all-dropped zero [] h = refl
      all-dropped zero (x ∷ xs) h = absurd (omega (arith, h))
      all-dropped (suc k) [] h = refl
      all-dropped (suc k) (x ∷ xs) h = all-dropped k xs (omega (arith, h))

      all-taken : {Y : Type 0} (k : ℕ) (xs : List Y) → length xs ≤ k → take k xs ≡ xs
      all-taken zero [] h = refl
      all-taken zero (x ∷ xs) h = absurd (omega (arith, h))
      all-taken (suc k) [] h = refl
      all-taken (suc k) (x ∷ xs) h = ap (λ t. x ∷ t) (all-taken k xs (omega (arith, h)))

-- the least key of all inputs
pub IsLeastSoFar-all : (inputs : List InputView) (place : ℕ) (row : Row)
    → IsLeastSoFar inputs (Some place) (length inputs) → (get_or inputs place nothing_left).row ≡ Some row → (k : ℕ)
    → IsNotBelow row.key (get_or inputs k nothing_left)
IsLeastSoFar-all inputs place row least is k =
    let same : least.1 ≡ row = same_row least.1 row (sym least.2 ∙ is) in
    subst (λ (r : Row). IsNotBelow r.key (get_or inputs k nothing_left)) same (elim (cases_lt k (length inputs)) [
      | inl below ↦ least.3 k below
      | inr above ↦ not_below-none least.1.key (get_or inputs k nothing_left)
          (ap (λ (i : InputView). i.row) (past inputs k nothing_left above))
    ]) where
      same_row : (a b : Row) → Some a ≡ Some b → a ≡ b
      same_row a b e = cc

-- no input has a row
pub IsLeastSoFar-none : (inputs : List InputView) → IsLeastSoFar inputs None (length inputs) → (k : ℕ)
    → (get_or inputs k nothing_left).row ≡ None
IsLeastSoFar-none inputs none k = elim (cases_lt k (length inputs)) [
  | inl below ↦ none k below
  | inr above ↦ ap (λ (i : InputView). i.row) (past inputs k nothing_left above)
]

-- one more row's line
pub text_of_rows-push : (s : Layout) (rows : List Row) (row : Row) (sent old more left : List ℕ)
    → sent ++ old ≡ text_of_rows s rows → old ++ row_line s row ≡ more ++ left
    → (sent ++ more) ++ left ≡ text_of_rows s (rows ++ row ∷ [])
text_of_rows-push s rows row sent old more left so_far parts =
    let header = line (header_fields s) in
    append_assoc sent more left ∙ ap (λ t. sent ++ t) (sym parts) ∙ sym (append_assoc sent old (row_line s row))
    ∙ ap (λ t. t ++ row_line s row) so_far
    ∙ append_assoc header (flat_map (row_line s) rows) (row_line s row)
    ∙ ap (λ t. header ++ t)
    (sym (flat_map-append (row_line s) rows (row ∷ []) ∙ ap (λ t. flat_map (row_line s) rows ++ t) (append-nil (row_line s row))))

-- one more row's line, of which nothing was sent
pub text_of_rows-more : (s : Layout) (rows : List Row) (row : Row) (sent old new : List ℕ)
    → sent ++ old ≡ text_of_rows s rows → new ≡ old ++ row_line s row → sent ++ new ≡ text_of_rows s (rows ++ row ∷ [])
text_of_rows-more s rows row sent old new so_far grown =
    ap (λ t. t ++ new) (sym (append-nil sent)) ∙ text_of_rows-push s rows row sent old [] new so_far (sym grown)

-- where each input of a list took the header, by place
module _ {R : Type 0} (remaining : R → Option (List ℕ)) (header : List ℕ) where
  pub taken-row : (readers : List R) (inputs : List InputView) → AllZip (TookHeader remaining header) readers inputs
      → (k : ℕ) → (get_or inputs k nothing_left).row ≡ None
  taken-row [] [] all k = refl
  taken-row [] (i ∷ is) all k = absurd all
  taken-row (r ∷ rs) [] all k = absurd all
  taken-row (r ∷ rs) (i ∷ is) all zero = all.0.1
  taken-row (r ∷ rs) (i ∷ is) all (suc k) = taken-row rs is all.1 k

  pub taken-lines : (readers : List R) (inputs : List InputView) → AllZip (TookHeader remaining header) readers inputs
      → (k : ℕ) → (get_or inputs k nothing_left).lines ≡ 1
  taken-lines [] [] all k = refl
  taken-lines [] (i ∷ is) all k = absurd all
  taken-lines (r ∷ rs) [] all k = absurd all
  taken-lines (r ∷ rs) (i ∷ is) all zero = all.0.2
  taken-lines (r ∷ rs) (i ∷ is) all (suc k) = taken-lines rs is all.1 k

  pub taken-header : (readers : List R) (inputs : List InputView) → AllZip (TookHeader remaining header) readers inputs
      → (k : ℕ)
      → Consumes (get_or (map remaining readers) k None) (get_or (map (λ (i : InputView). i.left) inputs) k None) header
  taken-header [] [] all k = tt
  taken-header [] (i ∷ is) all k = absurd all
  taken-header (r ∷ rs) [] all k = absurd all
  taken-header (r ∷ rs) (i ∷ is) all zero = all.0.0
  taken-header (r ∷ rs) (i ∷ is) all (suc k) = taken-header rs is all.1 k

pub Consumes-same : (a : Option (List ℕ)) → Consumes a a []
Consumes-same None = tt
Consumes-same (Some x) = refl

pub lefts-at : (inputs : List InputView) (k : ℕ)
    → Consumes (get_or (map (λ (i : InputView). i.left) inputs) k None) (get_or inputs k nothing_left).left []
lefts-at [] k = tt
lefts-at (i ∷ is) zero = Consumes-same i.left
lefts-at (i ∷ is) (suc k) = lefts-at is k

-- inputs that took the header alone
pub taken-TookHeaders : {R : Type 0} (remaining : R → Option (List ℕ)) (header : List ℕ)
    (readers : List R) (inputs : List InputView) → AllZip (TookHeader remaining header) readers inputs
    → TookHeaders (map (λ (i : InputView). i.left) inputs) inputs
taken-TookHeaders remaining header readers inputs taken = record {
  left = lefts-at inputs;
  row = taken-row remaining header readers inputs taken;
  lines = taken-lines remaining header readers inputs taken;
}

-- what an input held that has ended
pub text-of_ended : (s : Layout) (text start : Option (List ℕ)) (input : InputView) (rows : List Row)
    → Consumes text start (line (header_fields s)) → Gave s start input rows → IsEnded start input → input.row ≡ None
    → IsToldTextOf s text rows
text-of_ended s None start input rows head gave ended none = tt
text-of_ended s (Some t) None input rows head gave ended none = absurd head
text-of_ended s (Some t) (Some x) input rows head gave ended none = by_left input.left given_rows (ended none) where
  given_rows : Consumes (Some x) input.left (flat_map (row_line s) rows)
  given_rows = subst (λ rs. Consumes (Some x) input.left (flat_map (row_line s) rs))
      (ap (λ o. rows ++ option_to_list o) none ∙ append-nil rows) gave

  by_left : (left : Option (List ℕ)) → Consumes (Some x) left (flat_map (row_line s) rows) → IsAtEnd left
      → t ≡ text_of_rows s rows
  by_left None c e = absurd c
  by_left (Some y) c e = head ∙ ap (λ l. line (header_fields s) ++ l)
      (c ∙ ap (λ l. flat_map (row_line s) rows ++ l) e ∙ append-nil (flat_map (row_line s) rows))

-- the merge of all texts
pub IsMergeOf-ends : {R : Type 0} (remaining : R → Option (List ℕ)) (given wanted : Layout) (readers : List R)
    (inputs : List InputView) (old new : Option (List ℕ))
    → AllZip (TookHeader remaining (line (header_fields given))) readers inputs
    → MergesInputs given wanted inputs old new
    → IsMergeOf given wanted (map remaining readers) old new
IsMergeOf-ends remaining given wanted readers inputs old new taken merges =
    let header = line (header_fields given) in
    let starts = map (λ (i : InputView). i.left) inputs in
    let m = merges starts (taken-TookHeaders remaining header readers inputs taken) in
    let merging = m.3 in
    let of_schema : (k : ℕ) → AllByRecursion (IsRightRow given) (get_or merging.cubes k []) =
    λ k. subst (λ rs. AllByRecursion (IsRightRow given) rs)
    (ap (λ o. get_or merging.cubes k [] ++ option_to_list o) (m.4 k) ∙ append-nil (get_or merging.cubes k []))
    (merging.of_schema k) in
    record {
      cubes = merging.cubes;
      parts = merging.parts;
      rows = m.1;
      as_many = merging.width ∙ m.2 ∙ sym (AllZip-length (TookHeader remaining header) readers inputs taken)
          ∙ sym (length-map readers remaining);
      read = λ k. text-of_ended given (get_or (map remaining readers) k None) (get_or starts k None)
          (get_or m.0 k nothing_left) (get_or merging.cubes k [])
          (taken-header remaining header readers inputs taken k) (merging.gave k) (merging.ended k) (m.4 k);
      of_schema = λ k. AllByRecursion-map (IsRightRow given) (IsLawfulRow given) (get_or merging.cubes k [])
          (λ row right. right.lawful) (of_schema k);
      consistent = λ k. AllByRecursion-map (IsRightRow given) (HasConsistentAnswers given) (get_or merging.cubes k [])
          (λ row right. right.consistent) (of_schema k);
      ordered = λ k. subst (λ rs. IsStrictlySortedBy key_cmp (map key_of rs))
          (ap (λ o. get_or merging.cubes k [] ++ option_to_list o) (m.4 k) ∙ append-nil (get_or merging.cubes k []))
          (merging.ordered k);
      complete = λ k below. merging.whole k (subst (λ n. k < n)
          (length-map readers remaining ∙ AllZip-length (TookHeader remaining header) readers inputs taken ∙ sym m.2)
          below) (m.4 k);
      drawn = merging.drawn;
      merged = merging.merged;
      fit = merging.fit;
      written = m.5;
    }

-- an input without a row gave none yet
pub Gave-none : (s : Layout) (start : Option (List ℕ)) (input : InputView) → Consumes start input.left [] → input.row ≡ None
    → Gave s start input []
Gave-none s start input c none =
    subst (λ o. Consumes start input.left (flat_map (row_line s) ([] ++ option_to_list o))) (sym none) c

-- past the inputs, of which each is used, nothing is left
pub IsEnded-unused : (start : Option (List ℕ)) (us : List Bool) (inputs : List InputView) (k : ℕ)
    → ((n : ℕ) → n < length inputs → get_or us n false ≡ true) → get_or us k false ≡ false
    → IsEnded start (get_or inputs k nothing_left)
IsEnded-unused start us inputs k used unused none = elim (cases_lt k (length inputs)) [
  | inl below ↦ let clash : true ≡ false = sym (used k below) ∙ unused in absurd (cc)
  | inr above ↦ subst (λ (i : InputView). IfSome start (λ _. IsAtEnd i.left)) (sym (past inputs k nothing_left above))
      (nothing start)
] where
  nothing : (o : Option (List ℕ)) → IfSome o (λ _. IsAtEnd None)
  nothing None = tt
  nothing (Some x) = tt

-- where inputs that took the header alone took their first lines, nothing is merged yet
pub IsMerging-begun : (given : Layout) (wanted : List Agg) (starts : List (Option (List ℕ)))
    (olds news : List InputView) (us : List Bool)
    → ((k : ℕ) → k < length olds → get_or us k false ≡ true) → TookHeaders starts olds → length news ≡ length olds
    → AllMove given us olds news → IsMerging given wanted starts news []
IsMerging-begun given wanted starts olds news us used fresh same moved =
    IsMerging-start given wanted starts olds news us
    (λ k. Gave-none given (get_or starts k None) (get_or olds k nothing_left) (fresh.left k) (fresh.row k))
    fresh.row fresh.lines
    (λ k unused. IsEnded-unused (get_or starts k None) us olds k used unused) used same moved
