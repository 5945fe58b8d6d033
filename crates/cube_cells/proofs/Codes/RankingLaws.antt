-- Laws of texts that are put in their order, and of codes that become ranks.
use Rattle.std.proofs.Common.{◌≡◌, ℕ, ◌+◌, ◌<◌, ◌≤◌, List, [], ◌∷◌, true, false, not, refl, sym, ap, ◌∙◌, arith, inl, inr}
use Rattle.std.proofs.Common.{◌⊎◌, length, get_or, map}
use Rattle.std.specs.Prelude.{All}
use Rattle.std.specs.Cmp.Lexicographic.{slice_cmp}
use Rattle.std.specs.List.{AllByRecursion}
use Rattle.std.specs.List.Sorted.{IsStrictlySortedBy}
use Rattle.std.specs.Ordering.{nat_cmp}
use Rattle.std.specs.Str.{bytes_eq}
use Rattle.std.specs.declared.cmp.Ordering.TheVariants.{Less, Equal}
use Rattle.std.proofs.lemmas.Bool.{and_from, and_parts, cases_Bool, le-ltb, lt-ltb}
use Rattle.std.proofs.lemmas.Cmp.{nat_list_cmp_total, tied_itself}
use Rattle.std.proofs.lemmas.List.{get_or-map, length-map}
use Rattle.std.proofs.lemmas.List.Elements.{All-cons, All-head, All-nil, All-tail}
use Rattle.std.proofs.lemmas.Map.Keys.{sorted_from_all_adjacent}
use Rattle.std.proofs.lemmas.Map.Lookups.{exact_bytes}
use Rattle.std.proofs.lemmas.Slice.Eq.{bytes_eq-Decides}
use Rattle.cube_core.specs.Layout.{are_distinct, is_listed}
use Rattle.cube_core.specs.declared.key.Coord.{Coord}
use Rattle.cube_core.specs.declared.key.Coord.TheVariants as coord
use Rattle.cube_cells.specs.BottomUp.{AreInTextOrder, AreSortedTexts}
use Rattle.cube_cells.specs.Codes.{Dictionaries, IsDictionary, all_code, are_codes, coord_at, coords_at, is_code}
use Rattle.cube_cells.specs.Codes.{null_code}
use Rattle.cube_cells.specs.Ranking.{AreRankings, IsRanking, ranked_dictionaries}
use Rattle.cube_cells.specs.Ranks.{AreInOrder, LeadBack, rank_of, ranks_of, texts_at}
use Rattle.cube_cells.specs.declared.cube.ranks.RankedTexts.{RankedTexts}
use Rattle.cube_cells.proofs.Codes.DictionaryLaws.{StandsAt-are_distinct, coord_at-place, is_code-cases, is_code-place}
use Rattle.cube_cells.proofs.Codes.RankLaws.{LeadBack-place, Less-from_is_lt}

-- ---- texts in their order
-- a text below others isn't one of them
not_listed : (text : List ℕ) (texts : List (List ℕ)) → AllByRecursion (λ y. slice_cmp nat_cmp text y ≡ Less) texts
    → is_listed text texts ≡ false
not_listed text [] above = refl
not_listed text (t ∷ texts) above = elim (cases_Bool (bytes_eq text t)) [
  | inl same ↦
      let tied : slice_cmp nat_cmp text t ≡ Equal =
      ap (slice_cmp nat_cmp text) (sym ((bytes_eq-Decides text t).0 same)) ∙ tied_itself nat_list_cmp_total text in
      cc (sym tied ∙ above.0)
  | inr apart ↦ rw apart (not_listed text texts above.1)
]

-- texts that rise differ
are_distinct-sorted : (texts : List (List ℕ)) → IsStrictlySortedBy (slice_cmp nat_cmp) texts → are_distinct texts ≡ true
unfolding IsStrictlySortedBy
are_distinct-sorted [] rises = refl
are_distinct-sorted (t ∷ texts) rises = and_from (not (is_listed t texts)) (are_distinct texts)
    (ap not (not_listed t texts rises.0)) (are_distinct-sorted texts rises.1)

-- the texts at places in their order
AreInTextOrder-AreInOrder : (texts : List (List ℕ)) (places : List ℕ) → IsDictionary texts → AreInOrder texts places
    → AreInTextOrder (texts_at texts places)
AreInTextOrder-AreInOrder texts places is in_order = record {
  rises = sorted_from_all_adjacent nat_list_cmp_total (texts_at texts places) [] rises;
} where
  text : ℕ → List ℕ
  text place = get_or texts place []

  at : (k : ℕ) → k < length places → get_or (texts_at texts places) k [] ≡ text (get_or places k 0)
  at k inside = get_or-map (λ place. get_or texts place []) places k 0 [] inside

  rises : (k : ℕ) → k + 1 < length (texts_at texts places)
      → slice_cmp nat_cmp (get_or (texts_at texts places) k []) (get_or (texts_at texts places) (k + 1) []) ≡ Less
  rises k within =
      let inside : k + 1 < length places = omega (arith, within, length-map places (λ place. get_or texts place [])) in
      let below : k < length places = omega (arith, inside) in
      let a : ℕ = get_or places k 0 in
      let b : ℕ = get_or places (k + 1) 0 in
      ap (λ t. slice_cmp nat_cmp t (get_or (texts_at texts places) (k + 1) [])) (at k below)
      ∙ ap (slice_cmp nat_cmp (text a)) (at (k + 1) inside)
      ∙ Less-from_is_lt nat_list_cmp_total exact_bytes (text a) (text b)
      (in_order.ordered k (k + 1) (omega arith) inside) (λ same. in_order.apart k (k + 1) (omega arith) inside
      (StandsAt-are_distinct (text b) texts a b is.distinct (record { below = in_order.below k below; is_text = same })
      (record { below = in_order.below (k + 1) inside; is_text = refl })))

-- they are texts with codes
pub AreSortedTexts-AreInOrder : (texts : List (List ℕ)) (places : List ℕ) → IsDictionary texts → AreInOrder texts places
    → AreSortedTexts (texts_at texts places)
AreSortedTexts-AreInOrder texts places is in_order =
    let sorted = AreInTextOrder-AreInOrder texts places is in_order in
    record {
      dictionary = record {
        distinct = are_distinct-sorted (texts_at texts places) sorted.rises;
        few = omega (arith, length-map places (λ place. get_or texts place []), in_order.same_length, is.few);
      };
      in_order = sorted;
    }

-- and ranks that lead back to the places lead to them
pub IsRanking-LeadBack : (old : List (List ℕ)) (places : List ℕ) (ranked : RankedTexts) → IsDictionary old
    → AreInOrder old places → LeadBack (length places) places ranked.ranks → ranked.texts ≡ texts_at old places
    → IsRanking old ranked
IsRanking-LeadBack old places ranked is in_order has texts_are = record {
  sorted = rw texts_are (AreSortedTexts-AreInOrder old places is in_order);
  long = ap length texts_are ∙ length-map places (λ place. get_or old place []) ∙ in_order.same_length;
  same_length = has.same_length ∙ in_order.same_length;
  below = λ code small.
      omega (arith, (LeadBack-place old places ranked.ranks in_order has code small).1, in_order.same_length);
  same = λ code small.
      let at = LeadBack-place old places ranked.ranks in_order has code small in
      let rank : ℕ = get_or ranked.ranks code 0 in
      ap (λ ts. get_or ts rank []) texts_are ∙ get_or-map (λ place. get_or old place []) places rank 0 [] at.1
      ∙ ap (λ (place : ℕ). get_or old place []) at.0;
}

-- ---- codes by their ranks
-- the rank of a code stands for the same coordinate
record SameCoord (old : List (List ℕ)) (one : RankedTexts) (code : ℕ) : Type 0 where
  pub coord : coord_at one.texts (rank_of one.ranks code) ≡ coord_at old code
  pub valid : is_code one.texts (rank_of one.ranks code) ≡ true

SameCoord-IsRanking : (old : List (List ℕ)) (one : RankedTexts) (code : ℕ) → IsDictionary old → IsRanking old one
    → is_code old code ≡ true → SameCoord old one code
SameCoord-IsRanking old one code is ranking valid = by_kind (is_code-cases old code valid) where
  top : (high : ℕ) → code ≡ high → null_code ≤ high → rank_of one.ranks code ≡ high
  top high same up =
      rw (le-ltb code (length one.ranks) (omega (arith, is.few, same, up, ranking.same_length))) same

  by_kind : (code ≡ all_code) ⊎ ((code ≡ null_code) ⊎ (code < length old)) → SameCoord old one code
  by_kind (inl all) =
      let rank = top all_code all (omega arith) in
      record {
        coord = ap (coord_at one.texts) rank ∙ sym (ap (coord_at old) all);
        valid = ap (is_code one.texts) rank;
      }
  by_kind (inr (inl null)) =
      let rank = top null_code null (omega arith) in
      record {
        coord = ap (coord_at one.texts) rank ∙ sym (ap (coord_at old) null);
        valid = ap (is_code one.texts) rank;
      }
  by_kind (inr (inr below)) =
      let to : ℕ = get_or one.ranks code 0 in
      let low : to < length old = ranking.below code below in
      let rank : rank_of one.ranks code ≡ to =
      rw (lt-ltb code (length one.ranks) (omega (arith, below, ranking.same_length))) refl in
      record {
        coord = ap (coord_at one.texts) rank ∙ coord_at-place one.texts to (omega (arith, low, is.few))
            ∙ ap coord.Text (ranking.same code below) ∙ sym (coord_at-place old code (omega (arith, below, is.few)));
        valid = ap (is_code one.texts) rank
            ∙ is_code-place one.texts to (omega (arith, low, ranking.long));
      }

-- the ranks of codes stand for the same coordinates
pub record SameCoords (old : Dictionaries) (ranked : List RankedTexts) (codes : List ℕ) : Type 0 where
  pub coords : coords_at (ranked_dictionaries ranked) (ranks_of (map (λ one. one.ranks) ranked) codes)
      ≡ coords_at old codes
  pub valid : are_codes (ranked_dictionaries ranked) (ranks_of (map (λ one. one.ranks) ranked) codes) ≡ true

pub SameCoords-AreRankings : (old : Dictionaries) (ranked : List RankedTexts) (codes : List ℕ) → All IsDictionary old
    → AreRankings old ranked → are_codes old codes ≡ true → SameCoords old ranked codes
SameCoords-AreRankings [] [] codes texts are valid = record { coords = refl; valid = valid }
SameCoords-AreRankings [] (one ∷ ranked) codes texts are valid = absurd are
SameCoords-AreRankings (t ∷ old) [] codes texts are valid = absurd are
SameCoords-AreRankings (t ∷ old) (one ∷ ranked) [] texts are valid = cc valid
SameCoords-AreRankings (t ∷ old) (one ∷ ranked) (code ∷ codes) texts are valid =
    let parts = and_parts (is_code t code) (are_codes old codes) valid in
    let first = SameCoord-IsRanking t one code (All-head IsDictionary t old texts) are.0 parts.0 in
    let rest = SameCoords-AreRankings old ranked codes (All-tail IsDictionary t old texts) are.1 parts.1 in
    let ranks : List ℕ = ranks_of (map (λ one. one.ranks) ranked) codes in
    record {
      coords = ap (λ (c : Coord). c ∷ coords_at (ranked_dictionaries ranked) ranks) first.coord
          ∙ ap (λ (cs : List Coord). coord_at t code ∷ cs) rest.coords;
      valid = and_from (is_code one.texts (rank_of one.ranks code)) (are_codes (ranked_dictionaries ranked) ranks)
          first.valid rest.valid;
    }

pub length-ranks_of : (ranks : List (List ℕ)) (codes : List ℕ) → length (ranks_of ranks codes) ≡ length codes
length-ranks_of [] codes = refl
length-ranks_of (r ∷ ranks) [] = refl
length-ranks_of (r ∷ ranks) (code ∷ codes) = omega (arith, length-ranks_of ranks codes)

-- ---- all dimensions
pub length-ranked_dictionaries : (old : Dictionaries) (ranked : List RankedTexts) → AreRankings old ranked
    → length (ranked_dictionaries ranked) ≡ length old
length-ranked_dictionaries [] [] are = refl
length-ranked_dictionaries [] (one ∷ ranked) are = absurd are
length-ranked_dictionaries (t ∷ old) [] are = absurd are
length-ranked_dictionaries (t ∷ old) (one ∷ ranked) are =
    omega (arith, length-ranked_dictionaries old ranked are.1)

pub All-AreSortedTexts : (old : Dictionaries) (ranked : List RankedTexts) → AreRankings old ranked
    → All AreSortedTexts (ranked_dictionaries ranked)
All-AreSortedTexts [] [] are = All-nil AreSortedTexts
All-AreSortedTexts [] (one ∷ ranked) are = absurd are
All-AreSortedTexts (t ∷ old) [] are = absurd are
All-AreSortedTexts (t ∷ old) (one ∷ ranked) are = All-cons AreSortedTexts one.texts (ranked_dictionaries ranked)
    are.0.sorted (All-AreSortedTexts old ranked are.1)
