-- Laws of groups: the facts that the key of a cell of a grouping set covers, and how these groups part the facts.
use Rattle.std.proofs.Common.{◌≡◌, ℕ, ◌<◌, List, [], ◌∷◌, ◌++◌, Bool, true, false, not, ◌||◌, refl, sym, ap, ◌∙◌, subst}
use Rattle.std.proofs.Common.{arith, inl, inr, length, filter, get_or, append_assoc}
use Rattle.std.specs.Prelude.{All}
use Rattle.std.specs.List.{IsDistinct, list_any}
use Rattle.std.specs.List.Sorted.{IsPermutation}
use Rattle.std.specs.Map.{keys_of}
use Rattle.std.proofs.lemmas.Bool.{cases_Bool, and_parts, both_ways, false_from_ne_true}
use Rattle.std.proofs.lemmas.List.{append-nil, length-append}
use Rattle.std.proofs.lemmas.List.Elements.{All-head, All-tail, All-cons, All-nil, All-from_recursion}
use Rattle.std.proofs.lemmas.List.Sorted.{IsPermutation-refl, IsPermutation-trans, IsPermutation-append_left}
use Rattle.std.proofs.lemmas.List.Sorted.{IsPermutation-append_comm, IsPermutation-filter_both}
use Rattle.std.proofs.lemmas.List.Sums.{sum_by-append}
use Rattle.cube_core.specs.Covers.{covers}
use Rattle.cube_core.specs.Group.{group_of, value_of}
use Rattle.cube_core.specs.GroupingSet.{mask_of}
use Rattle.cube_core.specs.declared.fact.Fact.{Fact}
use Rattle.cube_core.specs.declared.key.Key.{Key}
use Rattle.cube_core.proofs.ListLaws.{filter-passed, filter-failed}
use Rattle.cube_cells.specs.Codes.{Dictionaries, IsDictionary, IsCodeOf, AreCodesOf, is_code, are_codes, coord_at}
use Rattle.cube_cells.specs.Codes.{coords_at, key_at, null_code}
use Rattle.cube_cells.specs.Coded.{CodedCells, same_codes}
use Rattle.cube_cells.specs.Tally.{Tally, IsTallyOf, PlusTally, one_of}
use Rattle.cube_cells.specs.declared.cube.codes.Codes.{Codes}
use Rattle.cube_cells.proofs.Codes.DictionaryLaws.{is_code-cases, coord_at-place, code_of_all, code_of_null}
use Rattle.cube_cells.proofs.Codes.DictionaryLaws.{IsCodeOf-StandsAt}
use Rattle.cube_cells.proofs.Tallies.FactLaws.{count_by-values_of}
use Rattle.cube_cells.proofs.Codes.KeyLaws.{AreCodesOf-alone, covering_key, covering_key-mask_of}
use Rattle.cube_cells.proofs.Cells.WalkLaws.{same_codes-IsEquivalence}

-- ---- the facts of two groups
-- a tally with another besides is that of the facts of both
pub IsTallyOf-append : (more facts : List Fact) (t old new : Tally) → length t.bags ≡ length old.bags → IsTallyOf more t
    → IsTallyOf facts old → PlusTally old new t → IsTallyOf (more ++ facts) new
IsTallyOf-append more facts t old new widths is_more is plus = record {
  count = omega (arith, plus.facts, is_more.count, is.count, length-append more facts);
  bags = λ m inside. record {
    held = λ x.
        omega (
          arith,
          (plus.bags.each m).held x,
          (is_more.bags m (omega (arith, inside, plus.bags.same_length, widths))).held x,
          (is.bags m (omega (arith, inside, plus.bags.same_length))).held x,
          count_by-values_of x m more,
          count_by-values_of x m facts,
          count_by-values_of x m (more ++ facts),
          sum_by-append (λ (f : Fact). one_of x (value_of m f)) more facts,
        );
  };
}

-- ---- codes of keys
-- a code is that of its coordinate
IsCodeOf-coord_at : (texts : List (List ℕ)) (code : ℕ) → IsDictionary texts → is_code texts code ≡ true
    → IsCodeOf texts (coord_at texts code) code
IsCodeOf-coord_at texts code is valid = elim (is_code-cases texts code valid) [
  | inl all ↦ rw all (code_of_all texts is)
  | inr rest ↦ elim rest [
    | inl null ↦ rw null (code_of_null texts is)
    | inr place ↦
        let small : code < null_code = omega (arith, place, is.few) in
        rw (coord_at-place texts code small)
        (IsCodeOf-StandsAt texts (get_or texts code []) code is (record { below = place; is_text = refl }))
  ]
]

-- codes are those of their coordinates
pub AreCodesOf-coords_at : (dictionaries : Dictionaries) (codes : List ℕ) → All IsDictionary dictionaries
    → are_codes dictionaries codes ≡ true → AreCodesOf dictionaries (coords_at dictionaries codes) codes
AreCodesOf-coords_at [] codes all valid = valid
AreCodesOf-coords_at (texts ∷ dictionaries) [] all valid = cc valid
AreCodesOf-coords_at (texts ∷ dictionaries) (x ∷ codes) all valid =
    let parts = and_parts (is_code texts x) (are_codes dictionaries codes) valid in (
      IsCodeOf-coord_at texts x (All-head IsDictionary texts dictionaries all) parts.0,
      AreCodesOf-coords_at dictionaries codes (All-tail IsDictionary texts dictionaries all) parts.1,
    )

-- ---- cells of a grouping set
-- the key of a cell
abbrev pub cell_key : Dictionaries → Codes × Tally → Key
cell_key dictionaries cell = key_at dictionaries cell.0.codes

-- the codes of a cell are of the dimensions, and its key is of a grouping set
pub record IsOfSet (dictionaries : Dictionaries) (set : ℕ) (cell : Codes × Tally) : Type 0 where
  pub valid : are_codes dictionaries cell.0.codes ≡ true
  pub eight : length cell.0.codes ≡ 8
  pub in_set : mask_of (cell_key dictionaries cell) ≡ set

-- the key of one that covers a fact is that of the fact in the set
pub cell_key-covering_key : (dictionaries : Dictionaries) (set : ℕ) (cell : Codes × Tally) (fact : Fact)
    → IsOfSet dictionaries set cell → covers (cell_key dictionaries cell) fact ≡ true
    → cell_key dictionaries cell ≡ covering_key fact set
cell_key-covering_key dictionaries set cell fact is stands =
    covering_key-mask_of fact (cell_key dictionaries cell) stands ∙ ap (covering_key fact) is.in_set

-- no fact is covered by the keys of two
covers-same_codes : (dictionaries : Dictionaries) (set : ℕ) (a b : Codes × Tally) (fact : Fact)
    → All IsDictionary dictionaries → IsOfSet dictionaries set a → IsOfSet dictionaries set b
    → same_codes a.0 b.0 ≡ false → covers (cell_key dictionaries a) fact ≡ true
    → covers (cell_key dictionaries b) fact ≡ false
covers-same_codes dictionaries set a b fact texts is_a is_b apart stands =
    false_from_ne_true (covers (cell_key dictionaries b) fact) (λ also.
    let coords : coords_at dictionaries b.0.codes ≡ coords_at dictionaries a.0.codes = ap (λ (k : Key). k.coords)
    (cell_key-covering_key dictionaries set b fact is_b also
    ∙ sym (cell_key-covering_key dictionaries set a fact is_a stands)) in
    let lists : b.0.codes ≡ a.0.codes =
    AreCodesOf-alone dictionaries (coords_at dictionaries a.0.codes) a.0.codes b.0.codes
    (AreCodesOf-coords_at dictionaries a.0.codes texts is_a.valid) is_b.valid
    (omega (arith, is_a.eight, is_b.eight)) coords in
    let make : List ℕ → Codes = λ xs. record { codes = xs } in
    both_ways (same_codes a.0 b.0) apart
    (subst (λ (x : Codes). same_codes a.0 x ≡ true) (ap make (sym lists)) (same_codes-IsEquivalence.refl a.0)))

-- ---- the facts, part by part
-- facts that pass a test are among those that pass a wider one
filter-weaker : (p q : Fact → Bool) (facts : List Fact) → ((fact : Fact) → p fact ≡ true → q fact ≡ true)
    → filter p (filter q facts) ≡ filter p facts
filter-weaker p q [] wider = refl
filter-weaker p q (fact ∷ facts) wider = elim (cases_Bool (q fact)) [
  | inl passes ↦ rw (filter-passed q fact facts passes) (elim (cases_Bool (p fact)) [
    | inl passed ↦ filter-passed p fact (filter q facts) passed
        ∙ ap (λ (fs : List Fact). fact ∷ fs) (filter-weaker p q facts wider) ∙ sym (filter-passed p fact facts passed)
    | inr failed ↦ filter-failed p fact (filter q facts) failed ∙ filter-weaker p q facts wider
        ∙ sym (filter-failed p fact facts failed)
  ])
  | inr fails ↦
      let not_p : p fact ≡ false =
      false_from_ne_true (p fact) (λ passed. both_ways (q fact) fails (wider fact passed)) in
      rw (filter-failed q fact facts fails) (filter-weaker p q facts wider ∙ sym (filter-failed p fact facts not_p))
]

-- what passes one of two tests and not the first passes the second
All-filter_not : (p q : Fact → Bool) (facts : List Fact) → All (λ fact. (p fact || q fact) ≡ true) facts
    → All (λ fact. q fact ≡ true) (filter (λ fact. not (p fact)) facts)
All-filter_not p q [] either = All-nil (λ (fact : Fact). q fact ≡ true)
All-filter_not p q (fact ∷ facts) either =
    let here = All-head (λ (f : Fact). (p f || q f) ≡ true) fact facts either in
    let rest = All-filter_not p q facts (All-tail (λ (f : Fact). (p f || q f) ≡ true) fact facts either) in
    elim (cases_Bool (p fact)) [
      | inl passed ↦ rw (filter-failed (λ (f : Fact). not (p f)) fact facts (ap not passed)) rest
      | inr failed ↦
          let second : q fact ≡ true = rw failed at here in
          rw (filter-passed (λ (f : Fact). not (p f)) fact facts (ap not failed))
          (All-cons (λ (f : Fact). q f ≡ true) fact (filter (λ (f : Fact). not (p f)) facts) second rest)
    ]

-- the groups of cells, one before another
abbrev pub gathered : Dictionaries → List Fact → CodedCells → List Fact → List Fact
gathered dictionaries facts [] done = done
gathered dictionaries facts (cell ∷ cells) done =
    gathered dictionaries facts cells (group_of (cell_key dictionaries cell) facts ++ done)

-- whether the key of one of some cells covers a fact
abbrev pub one_covers : Dictionaries → CodedCells → Fact → Bool
one_covers dictionaries cells fact = list_any (λ cell. covers (cell_key dictionaries cell) fact) cells

-- what is left of facts has the same groups as all of them
abbrev pub HasGroupsOf : Dictionaries → List Fact → List Fact → Codes × Tally → Type 0
HasGroupsOf dictionaries facts left cell =
    group_of (cell_key dictionaries cell) facts ≡ group_of (cell_key dictionaries cell) left

-- the groups of cells whose keys cover each fact that is left have these facts
pub gathered-IsPermutation_from_HasGroupsOf : (dictionaries : Dictionaries) (set : ℕ)
    (facts : List Fact) (cells : CodedCells) (left done : List Fact)
    → All IsDictionary dictionaries → All (IsOfSet dictionaries set) cells → IsDistinct same_codes (keys_of cells)
    → All (HasGroupsOf dictionaries facts left) cells → All (λ fact. one_covers dictionaries cells fact ≡ true) left
    → IsPermutation (left ++ done) (gathered dictionaries facts cells done)
unfolding IsDistinct
gathered-IsPermutation_from_HasGroupsOf dictionaries set facts [] [] done texts of_set distinct groups each =
    IsPermutation-refl done
gathered-IsPermutation_from_HasGroupsOf dictionaries set facts [] (fact ∷ left) done texts of_set distinct groups each =
    cc (All-head (λ (f : Fact). one_covers dictionaries [] f ≡ true) fact left each)
gathered-IsPermutation_from_HasGroupsOf dictionaries set facts
    (cell ∷ cells) left done texts of_set distinct groups each =
    let key = cell_key dictionaries cell in
    let mine : group_of key facts ≡ filter (covers key) left =
    All-head (HasGroupsOf dictionaries facts left) cell cells groups in
    let rest : List Fact = filter (λ fact. not (covers key fact)) left in
    let split : IsPermutation left (filter (covers key) left ++ rest) =
    IsPermutation-filter_both (covers key) (λ fact. not (covers key fact)) (λ fact. refl) left in
    let first : IsPermutation (left ++ done) ((filter (covers key) left ++ rest) ++ done) =
    IsPermutation-append_left done left (filter (covers key) left ++ rest) split in
    let turned :
    IsPermutation ((filter (covers key) left ++ rest) ++ done) ((rest ++ filter (covers key) left) ++ done) =
    IsPermutation-append_left done (filter (covers key) left ++ rest) (rest ++ filter (covers key) left)
    (IsPermutation-append_comm (filter (covers key) left) rest) in
    let same : (rest ++ filter (covers key) left) ++ done ≡ rest ++ (group_of key facts ++ done) =
    append_assoc rest (filter (covers key) left) done ∙ ap (λ (g : List Fact). rest ++ (g ++ done)) (sym mine) in
    let others : IsPermutation (rest ++ (group_of key facts ++ done))
    (gathered dictionaries facts cells (group_of key facts ++ done)) =
    gathered-IsPermutation_from_HasGroupsOf dictionaries set facts cells rest (group_of key facts ++ done) texts
    (All-tail (IsOfSet dictionaries set) cell cells of_set) distinct.1
    (groups_left cells (All-tail (IsOfSet dictionaries set) cell cells of_set)
    (All-from_recursion (λ y. same_codes cell.0 y ≡ false) (keys_of cells) distinct.0)
    (All-tail (HasGroupsOf dictionaries facts left) cell cells groups))
    (All-filter_not (covers key) (one_covers dictionaries cells) left each) in
    IsPermutation-trans _ _ _ first (IsPermutation-trans _ _ _ turned
    (subst (λ (l : List Fact). IsPermutation l (gathered dictionaries facts cells (group_of key facts ++ done)))
    (sym same) others))
  where
    groups_left : (others : CodedCells) → All (IsOfSet dictionaries set) others
        → All (λ y. same_codes cell.0 y ≡ false) (keys_of others) → All (HasGroupsOf dictionaries facts left) others
        → All (HasGroupsOf dictionaries facts (filter (λ fact. not (covers (cell_key dictionaries cell) fact)) left))
        others
    groups_left [] of_others apart same =
        All-nil (HasGroupsOf dictionaries facts (filter (λ fact. not (covers (cell_key dictionaries cell) fact)) left))
    groups_left (other ∷ others) of_others apart same =
        All-cons (HasGroupsOf dictionaries facts (filter (λ fact. not (covers (cell_key dictionaries cell) fact)) left))
        other others
        (All-head (HasGroupsOf dictionaries facts left) other others same
        ∙ sym (filter-weaker (covers (cell_key dictionaries other))
        (λ fact. not (covers (cell_key dictionaries cell) fact)) left (λ fact stands.
        let out : covers (cell_key dictionaries cell) fact ≡ false =
        false_from_ne_true (covers (cell_key dictionaries cell) fact) (λ also.
        both_ways (covers (cell_key dictionaries other) fact)
        (covers-same_codes dictionaries set cell other fact texts
        (All-head (IsOfSet dictionaries set) cell cells of_set)
        (All-head (IsOfSet dictionaries set) other others of_others)
        (All-head (λ y. same_codes cell.0 y ≡ false) other.0 (keys_of others) apart) also)
        stands) in
        ap not out)))
        (groups_left others (All-tail (IsOfSet dictionaries set) other others of_others)
        (All-tail (λ y. same_codes cell.0 y ≡ false) other.0 (keys_of others) apart)
        (All-tail (HasGroupsOf dictionaries facts left) other others same))

-- the groups of cells whose keys cover each fact have all facts
pub gathered-IsPermutation : (dictionaries : Dictionaries) (set : ℕ) (facts : List Fact) (cells : CodedCells)
    → All IsDictionary dictionaries → All (IsOfSet dictionaries set) cells → IsDistinct same_codes (keys_of cells)
    → All (λ fact. one_covers dictionaries cells fact ≡ true) facts
    → IsPermutation facts (gathered dictionaries facts cells [])
gathered-IsPermutation dictionaries set facts cells texts of_set distinct each =
    subst (λ (l : List Fact). IsPermutation l (gathered dictionaries facts cells [])) (append-nil facts)
    (gathered-IsPermutation_from_HasGroupsOf dictionaries set facts cells facts [] texts of_set distinct
    (λ k d inside. refl) each)
