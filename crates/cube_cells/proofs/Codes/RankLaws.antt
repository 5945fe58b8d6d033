-- Laws of ranks: they compare as the coordinates of their codes do.
use Rattle.std.proofs.Common.{◌≡◌, ℕ, ◌+◌, ◌<◌, ◌≤◌, ◌==◌, List, [], ◌∷◌, zero-add, Bool, true, false, refl, sym, ap, ◌∙◌, subst}
use Rattle.std.proofs.Common.{arith, inl, inr, length, get_or, Bor, ◌⊎◌}
use Rattle.std.specs.Prelude.{All, Contains}
use Rattle.std.specs.Cmp.{IsTotalOrder, IsStrictWeakOrder}
use Rattle.std.specs.Cmp.Lexicographic.{slice_cmp}
use Rattle.std.specs.Fn.{Called, ComparesAs}
use Rattle.std.specs.List.{IsDistinct, range_with_len}
use Rattle.std.specs.List.Sorted.{IsSortedBy, IsPermutation}
use Rattle.std.specs.Ordering.{nat_cmp, is_lt, ordering_reverse}
use Rattle.std.specs.declared.cmp.Ordering.{Ordering}
use Rattle.std.specs.declared.cmp.Ordering.TheVariants.{Less, Equal, Greater}
use denote.Param.Members.{Mut}
use Rattle.std.proofs.lemmas.Bool.{both_ways, cases_eq, cases_lt, and_parts, eq-eqb, lt-ltb, le-ltb, ne_eqb}
use Rattle.std.proofs.lemmas.Map.Keys.{IsDistinct-IsPermutation, IsDistinct-from_apart, apart_from_distinct}
use Rattle.std.proofs.lemmas.Cmp.{nat_cmp_total, nat_list_cmp_total, tied_itself}
use Rattle.std.proofs.lemmas.Fn.{always_returns_same}
use Rattle.std.proofs.lemmas.List.Elements.{All-head, All-tail, Contains-get_or}
use Rattle.std.proofs.lemmas.List.Sorted.{ranks_by, sorted_far, length_permutation, IsPermutation-sym}
use Rattle.std.proofs.lemmas.List.Sorted.{Contains-permutation}
use Rattle.std.proofs.lemmas.List.{get_or_default}
use Rattle.std.proofs.lemmas.List.FromFn.{length-range_with_len, get_or-range_with_len}
use Rattle.std.proofs.lemmas.Map.Lookups.{CmpEqualImpliesEq, exact_bytes}
use Rattle.cube_core.specs.Order.{coord_cmp}
use Rattle.cube_core.specs.declared.key.Coord.{Coord}
use Rattle.cube_core.specs.declared.key.Coord.TheVariants as coord
use Rattle.cube_cells.specs.Codes.{Dictionaries, IsDictionary, is_code, are_codes, coord_at, coords_at, all_code}
use Rattle.cube_cells.specs.Codes.{null_code}
use Rattle.cube_cells.specs.Ranks.{AreRanks, AreAllRanks, AreInOrder, LeadBack, rank_of, ranks_of}
use Rattle.cube_cells.proofs.Codes.DictionaryLaws.{is_code-cases, coord_at-place, StandsAt-are_distinct}
use Rattle.cube_cells.proofs.Codes.KeyLaws.{all_code-length}

-- ---- orders
-- what a sort by a key ensures
pub IsSortedBy-key : {X K : Type 0} {R : K → K → Ordering} (o : IsTotalOrder R) (key : X → K) {F : Type 0}
    {g : Mut F (Bor X × (Bor X × Unit {0})) Ordering} {f : F} (xs : List X)
    → ((lt : X → X → Bool) → IsStrictWeakOrder lt → ComparesAs g lt f → IsSortedBy lt xs)
    → ((a : Bor X × (Bor X × Unit {0})) (r : Ordering) (f' : F) → Called g f a r f'
    → (r ≡ R (key a.0.now) (key a.1.0.now)) × (f' ≡ f))
    → IsSortedBy (λ x y. is_lt (R (key x) (key y))) xs
IsSortedBy-key {R = R} o key {g = g} {f = f} xs up h = up (λ x y. is_lt (R (key x) (key y))) (ranks_by o key)
    (always_returns_same g (λ a r. is_lt r ≡ is_lt (R (key a.0.now) (key a.1.0.now))) f
    (λ a r f' k. (ap is_lt (h a r f' k).0, (h a r f' k).1)))

-- what isn't above another, nor the same, is below it
pub Less-from_is_lt : {K : Type 0} {R : K → K → Ordering} (o : IsTotalOrder R) (exact : CmpEqualImpliesEq R) (x y : K)
    → is_lt (R y x) ≡ false → (x ≡ y → ⊥) → R x y ≡ Less
Less-from_is_lt {R = R} o exact x y upward apart = by_cases (R x y) refl where
  by_cases : (r : Ordering) → R x y ≡ r → r ≡ Less
  by_cases Less is = refl
  by_cases Equal is = absurd (apart (exact x y is))
  by_cases Greater is = cc (sym (ap is_lt (o.antisymm y x ∙ ap ordering_reverse is)) ∙ upward)

pub Greater-from_Less : {K : Type 0} {R : K → K → Ordering} (o : IsTotalOrder R) (x y : K) → R y x ≡ Less
    → R x y ≡ Greater
Greater-from_Less o x y below = o.antisymm x y ∙ ap ordering_reverse below

pub nat_cmp-Less : (x y : ℕ) → x < y → nat_cmp x y ≡ Less
nat_cmp-Less x y below = rw (lt-ltb x y below) refl

-- ---- the ranks of texts
-- places from 0 on, put in the order of their texts
pub AreInOrder-IsSortedBy : (texts : List (List ℕ)) (places : List ℕ)
    → IsPermutation (range_with_len 0 (length texts)) places
    → IsSortedBy (λ a b. is_lt (slice_cmp nat_cmp (get_or texts a []) (get_or texts b []))) places
    → AreInOrder texts places
AreInOrder-IsSortedBy texts places moved sorted = record {
  same_length = long;
  below = λ i inside. small (get_or places i 0) (Contains-get_or places i 0 inside);
  each = λ a inside.
      let first : Contains (range_with_len 0 (length texts)) a =
      let at : get_or (range_with_len 0 (length texts)) a 0 ≡ a =
      get_or-range_with_len 0 (length texts) a 0 inside ∙ zero-add a in
      subst (Contains (range_with_len 0 (length texts))) at (Contains-get_or (range_with_len 0 (length texts)) a 0
      (omega (arith, inside, length-range_with_len 0 (length texts)))) in
      let there = Contains-permutation (range_with_len 0 (length texts)) places a moved first in
      (there.0, there.1, get_or_default places there.0 0 a there.1 ∙ there.2);
  apart = λ i j up inside same. both_ways (get_or places i 0 == get_or places j 0)
      (apart_from_distinct (λ a b. a == b) places i j 0 distinct up inside)
      (eq-eqb (get_or places i 0) (get_or places j 0) same);
  ordered = λ i j up inside. sorted_far (λ a b. is_lt (slice_cmp nat_cmp (get_or texts a []) (get_or texts b [])))
      (ranks_by nat_list_cmp_total (λ a. get_or texts a [])) places sorted i j 0 up inside;
} where
  all : List ℕ
  all = range_with_len 0 (length texts)

  flips : (x y : ℕ) → (x == y) ≡ (y == x)
  flips x y = elim (cases_eq x y) [
    | inl same ↦ eq-eqb x y same ∙ sym (eq-eqb y x (sym same))
    | inr other ↦ ne_eqb x y other ∙ sym (ne_eqb y x (λ same. other (sym same)))
  ]

  distinct : IsDistinct (λ a b. a == b) places
  distinct = IsDistinct-IsPermutation (λ a b. a == b) flips all places moved
      (IsDistinct-from_apart (λ a b. a == b) all rises)
    where
      rises : (i j d : ℕ) → i < j → j < length all → (get_or all i d == get_or all j d) ≡ false
      rises i j d up inside =
          let small : j < length texts = omega (arith, inside, length-range_with_len 0 (length texts)) in
          rw (
            get_or-range_with_len 0 (length texts) i d (omega (arith, up, small)),
            get_or-range_with_len 0 (length texts) j d small,
          )
          (ne_eqb (0 + i) (0 + j) (λ same. absurd (omega (arith, up, same))))

  long : length places ≡ length texts
  long = length_permutation (range_with_len 0 (length texts)) places moved ∙ length-range_with_len 0 (length texts)

  small : (a : ℕ) → Contains places a → a < length texts
  small a there =
      let back = Contains-permutation places (range_with_len 0 (length texts)) a
      (IsPermutation-sym (range_with_len 0 (length texts)) places moved) there in
      let inside : back.0 < length texts = omega (arith, back.1, length-range_with_len 0 (length texts)) in
      omega (arith, inside, sym back.2, get_or-range_with_len 0 (length texts) back.0 a inside)

-- ranks that lead back to places lead from each place to where it is
pub LeadBack-place : (texts : List (List ℕ)) (order ranks : List ℕ) → AreInOrder texts order
    → LeadBack (length order) order ranks → (a : ℕ) → a < length texts
    → (get_or order (get_or ranks a 0) 0 ≡ a) × (get_or ranks a 0 < length order)
LeadBack-place texts order ranks in_order has a small =
    let at = in_order.each a small in
    let back = has.back at.0 at.1 in
    let below = has.below at.0 at.1 in
    let P : ℕ → Type 0 = λ p. (get_or order (get_or ranks p 0) 0 ≡ p) × (get_or ranks p 0 < length order) in
    subst P at.2 (back, below)

-- ranks that lead back to places in order are ranks of the texts
pub AreRanks-LeadBack : (texts : List (List ℕ)) (order ranks : List ℕ) → IsDictionary texts → AreInOrder texts order
    → LeadBack (length order) order ranks → AreRanks texts ranks
AreRanks-LeadBack texts order ranks is in_order has = record {
  same_length = has.same_length ∙ in_order.same_length;
  below = λ a small. omega (arith, (place_of a small).1, in_order.same_length);
  order = λ a b small_a small_b. by_rank a b small_a small_b (cases_lt (get_or ranks a 0) (get_or ranks b 0))
      (cases_lt (get_or ranks b 0) (get_or ranks a 0));
} where
  text : ℕ → List ℕ
  text a = get_or texts a []

  place_of : (a : ℕ) → a < length texts → (get_or order (get_or ranks a 0) 0 ≡ a) × (get_or ranks a 0 < length order)
  place_of = LeadBack-place texts order ranks in_order has

  rising : (a b : ℕ) → a < length texts → b < length texts → get_or ranks a 0 < get_or ranks b 0
      → slice_cmp nat_cmp (text a) (text b) ≡ Less
  rising a b small_a small_b up =
      let at_a = place_of a small_a in
      let at_b = place_of b small_b in
      let sorted = in_order.ordered (get_or ranks a 0) (get_or ranks b 0) (omega (arith, up)) at_b.1 in
      let upward : is_lt (slice_cmp nat_cmp (text b) (text a)) ≡ false = rw (at_a.0, at_b.0) at sorted in
      Less-from_is_lt nat_list_cmp_total exact_bytes (text a) (text b) upward (λ same.
      let one : a ≡ b = StandsAt-are_distinct (text b) texts a b is.distinct
      (record { below = small_a; is_text = same }) (record { below = small_b; is_text = refl }) in
      absurd (omega (arith, up, ap (λ p. get_or ranks p 0) one)))

  by_rank : (a b : ℕ) → a < length texts
      → b < length texts → (get_or ranks a 0 < get_or ranks b 0) ⊎ (get_or ranks b 0 ≤ get_or ranks a 0)
      → (get_or ranks b 0 < get_or ranks a 0) ⊎ (get_or ranks a 0 ≤ get_or ranks b 0)
      → nat_cmp (get_or ranks a 0) (get_or ranks b 0) ≡ slice_cmp nat_cmp (text a) (text b)
  by_rank a b small_a small_b (inl up) other =
      nat_cmp-Less (get_or ranks a 0) (get_or ranks b 0) up ∙ sym (rising a b small_a small_b up)
  by_rank a b small_a small_b (inr not_up) (inl down) = Greater-from_Less nat_cmp_total (get_or ranks a 0)
      (get_or ranks b 0) (nat_cmp-Less (get_or ranks b 0) (get_or ranks a 0) down)
      ∙ sym (Greater-from_Less nat_list_cmp_total (text a) (text b) (rising b a small_b small_a down))
  by_rank a b small_a small_b (inr not_up) (inr not_down) =
      let same_rank : get_or ranks a 0 ≡ get_or ranks b 0 = omega (arith, not_up, not_down) in
      let same : a ≡ b = sym (place_of a small_a).0 ∙ ap (λ p. get_or order p 0) same_rank ∙ (place_of b small_b).0 in
      let tied : nat_cmp (get_or ranks a 0) (get_or ranks b 0) ≡ Equal =
      ap (nat_cmp (get_or ranks a 0)) (sym same_rank) ∙ tied_itself nat_cmp_total (get_or ranks a 0) in
      tied ∙ sym (ap (λ p. slice_cmp nat_cmp (text a) (text p)) (sym same) ∙ tied_itself nat_list_cmp_total (text a))

-- ---- the ranks of codes
rank_of-text : (texts : List (List ℕ)) (ranks : List ℕ) (code : ℕ) → AreRanks texts ranks → code < length texts
    → rank_of ranks code ≡ get_or ranks code 0
rank_of-text texts ranks code are below = rw (lt-ltb code (length ranks) (omega (arith, below, are.same_length))) refl

rank_of-top : (texts : List (List ℕ)) (ranks : List ℕ) (code : ℕ) → AreRanks texts ranks → length texts ≤ code
    → rank_of ranks code ≡ code
rank_of-top texts ranks code are past = rw (le-ltb code (length ranks) (omega (arith, past, are.same_length))) refl

-- the ranks of two codes compare as their coordinates do
rank_of-coord_cmp : (texts : List (List ℕ)) (ranks : List ℕ) (a b : ℕ) → IsDictionary texts → AreRanks texts ranks
    → is_code texts a ≡ true → is_code texts b ≡ true
    → nat_cmp (rank_of ranks a) (rank_of ranks b) ≡ coord_cmp (coord_at texts a) (coord_at texts b)
rank_of-coord_cmp texts ranks a b is are valid_a valid_b =
    by_kind (is_code-cases texts a valid_a) (is_code-cases texts b valid_b)
  where
    text : ℕ → Coord
    text code = coord.Text (get_or texts code [])

    between : (ra rb : ℕ) (ca cb : Coord) → rank_of ranks a ≡ ra → rank_of ranks b ≡ rb → coord_at texts a ≡ ca
        → coord_at texts b ≡ cb → nat_cmp ra rb ≡ coord_cmp ca cb
        → nat_cmp (rank_of ranks a) (rank_of ranks b) ≡ coord_cmp (coord_at texts a) (coord_at texts b)
    between ra rb ca cb rank_a rank_b coord_a coord_b same = rw (rank_a, rank_b, coord_a, coord_b) same

    top_rank : (code top : ℕ) → code ≡ top → null_code ≤ top → rank_of ranks code ≡ top
    top_rank code top same high = rank_of-top texts ranks code are (omega (arith, is.few, same, high)) ∙ same

    text_coord : (code : ℕ) → code < length texts → coord_at texts code ≡ text code
    text_coord code below = coord_at-place texts code (omega (arith, below, is.few))

    low : (code top : ℕ) → code < length texts → null_code ≤ top → get_or ranks code 0 < top
    low code top below high = omega (arith, are.below code below, is.few, high)

    by_kind : (a ≡ all_code) ⊎ ((a ≡ null_code) ⊎ (a < length texts))
        → (b ≡ all_code) ⊎ ((b ≡ null_code) ⊎ (b < length texts))
        → nat_cmp (rank_of ranks a) (rank_of ranks b) ≡ coord_cmp (coord_at texts a) (coord_at texts b)
    by_kind (inl all_a) (inl all_b) = between all_code all_code coord.All coord.All
        (top_rank a all_code all_a (omega arith)) (top_rank b all_code all_b (omega arith)) (ap (coord_at texts) all_a)
        (ap (coord_at texts) all_b) (tied_itself nat_cmp_total all_code)
    by_kind (inl all_a) (inr (inl null_b)) =
        between all_code null_code coord.All coord.Null (top_rank a all_code all_a (omega arith))
        (top_rank b null_code null_b (omega arith)) (ap (coord_at texts) all_a) (ap (coord_at texts) null_b)
        (Greater-from_Less nat_cmp_total all_code null_code (nat_cmp-Less null_code all_code (omega arith)))
    by_kind (inl all_a) (inr (inr below_b)) =
        between all_code (get_or ranks b 0) coord.All (text b) (top_rank a all_code all_a (omega arith))
        (rank_of-text texts ranks b are below_b) (ap (coord_at texts) all_a) (text_coord b below_b)
        (Greater-from_Less nat_cmp_total all_code (get_or ranks b 0)
        (nat_cmp-Less (get_or ranks b 0) all_code (low b all_code below_b (omega arith))))
    by_kind (inr (inl null_a)) (inl all_b) = between null_code all_code coord.Null coord.All
        (top_rank a null_code null_a (omega arith)) (top_rank b all_code all_b (omega arith))
        (ap (coord_at texts) null_a) (ap (coord_at texts) all_b) (nat_cmp-Less null_code all_code (omega arith))
    by_kind (inr (inl null_a)) (inr (inl null_b)) = between null_code null_code coord.Null coord.Null
        (top_rank a null_code null_a (omega arith)) (top_rank b null_code null_b (omega arith))
        (ap (coord_at texts) null_a) (ap (coord_at texts) null_b) (tied_itself nat_cmp_total null_code)
    by_kind (inr (inl null_a)) (inr (inr below_b)) =
        between null_code (get_or ranks b 0) coord.Null (text b) (top_rank a null_code null_a (omega arith))
        (rank_of-text texts ranks b are below_b) (ap (coord_at texts) null_a) (text_coord b below_b)
        (Greater-from_Less nat_cmp_total null_code (get_or ranks b 0)
        (nat_cmp-Less (get_or ranks b 0) null_code (low b null_code below_b (omega arith))))
    by_kind (inr (inr below_a)) (inl all_b) = between (get_or ranks a 0) all_code (text a) coord.All
        (rank_of-text texts ranks a are below_a) (top_rank b all_code all_b (omega arith)) (text_coord a below_a)
        (ap (coord_at texts) all_b) (nat_cmp-Less (get_or ranks a 0) all_code (low a all_code below_a (omega arith)))
    by_kind (inr (inr below_a)) (inr (inl null_b)) = between (get_or ranks a 0) null_code (text a) coord.Null
        (rank_of-text texts ranks a are below_a) (top_rank b null_code null_b (omega arith)) (text_coord a below_a)
        (ap (coord_at texts) null_b) (nat_cmp-Less (get_or ranks a 0) null_code (low a null_code below_a (omega arith)))
    by_kind (inr (inr below_a)) (inr (inr below_b)) = between (get_or ranks a 0) (get_or ranks b 0) (text a) (text b)
        (rank_of-text texts ranks a are below_a) (rank_of-text texts ranks b are below_b) (text_coord a below_a)
        (text_coord b below_b) (are.order a b below_a below_b)

-- the ranks of codes compare as their coordinates do
pub ranks_of-coord_cmp : (dictionaries : Dictionaries) (ranks : List (List ℕ)) (a b : List ℕ)
    → All IsDictionary dictionaries → AreAllRanks dictionaries ranks → are_codes dictionaries a ≡ true
    → are_codes dictionaries b ≡ true → length a ≡ length b → slice_cmp nat_cmp (ranks_of ranks a) (ranks_of ranks b)
    ≡ slice_cmp coord_cmp (coords_at dictionaries a) (coords_at dictionaries b)
ranks_of-coord_cmp [] [] a b all are valid_a valid_b lengths =
    ap (slice_cmp nat_cmp a) (sym (all_code-length a b valid_a valid_b lengths)) ∙ tied_itself nat_list_cmp_total a
ranks_of-coord_cmp [] (r ∷ ranks) a b all are valid_a valid_b lengths = absurd are
ranks_of-coord_cmp (texts ∷ dictionaries) [] a b all are valid_a valid_b lengths = absurd are
ranks_of-coord_cmp (texts ∷ dictionaries) (r ∷ ranks) [] b all are valid_a valid_b lengths = cc valid_a
ranks_of-coord_cmp (texts ∷ dictionaries) (r ∷ ranks) (x ∷ a) [] all are valid_a valid_b lengths = cc valid_b
ranks_of-coord_cmp (texts ∷ dictionaries) (r ∷ ranks) (x ∷ a) (y ∷ b) all are valid_a valid_b lengths =
    let in_a = and_parts (is_code texts x) (are_codes dictionaries a) valid_a in
    let in_b = and_parts (is_code texts y) (are_codes dictionaries b) valid_b in
    let head = rank_of-coord_cmp texts r x y (All-head IsDictionary texts dictionaries all) are.0 in_a.0 in_b.0 in
    let tail = ranks_of-coord_cmp dictionaries ranks a b
    (All-tail IsDictionary texts dictionaries all) are.1 in_a.1 in_b.1 (omega (arith, lengths)) in
    rw (head, tail) refl
