-- Laws of cells kept by codes:
-- what one cell's change says of each look-up and of each weight, and what many changes say.
use Rattle.std.proofs.Common.{◌≡◌, ℕ, ◌+◌, ◌*◌, List, [], ◌∷◌, Bool, true, false, cond, ◌||◌, refl, sym, ap, ◌∙◌, subst}
use Rattle.std.proofs.Common.{arith, inl, inr, length, replicate, Option, Some, None, nat_lt}
use Rattle.std.specs.Prelude.{ℤ, IsSome, Result, Ok, Err, OnOk, OnErr}
use Rattle.std.specs.Cmp.{IsEquivalence}
use Rattle.std.specs.List.Sorted.{IsPermutation}
use Rattle.std.specs.Map.{set_value, remove_entry}
use Rattle.std.proofs.lemmas.Bool.{cases_Bool, or_cases, or_from, cases_lt, or_parts, false_from_ne_true, cond-true}
use Rattle.std.proofs.lemmas.Bool.{cond-false, le-ltb}
use Rattle.std.proofs.lemmas.Cmp.{nat_list_eq_equiv}
use Rattle.std.proofs.lemmas.List.Sorted.{sum_by-IsPermutation}
use Rattle.std.proofs.lemmas.List.Sums.{sum_by-cons}
use Rattle.std.proofs.lemmas.Map.{lookup-set_value}
use Rattle.std.proofs.lemmas.Slice.Eq.{bytes_eq-Decides}
use Rattle.std.proofs.lemmas.List.{get_or-replicate, get_or_past, length-replicate}
use Rattle.cube_values.specs.Bag.{Bag, held_of}
use Rattle.cube_cells.specs.Coded.{CodedCells, same_codes, coded_at, is_total_code}
use Rattle.cube_cells.specs.Cube.{AddsAt, TakesAt, SameCell, cell_holds, tally_or_empty, empty_tally}
use Rattle.cube_cells.specs.Tally.{Tally, IsTallyOf, PlusFact, SameTally, bag_at, holds_fact}
use Rattle.cube_cells.specs.Walk.{is_in, weight_of_cells, CountMore, HasRoom, AddsIn, TakesIn, SameCoded, LosesFact}
use Rattle.cube_cells.specs.declared.cube.codes.Codes.{Codes}
use Rattle.cube_cells.proofs.Tallies.ValueLaws.{AddsValues-SameBags}

-- ---- codes
-- codes are the same where their lists are
pub same_codes-exact : (a b : Codes) → same_codes a b ≡ true → a ≡ b
same_codes-exact a b same =
    let make : List ℕ → Codes = λ xs. record { codes = xs } in
    ap make ((bytes_eq-Decides a.codes b.codes).0 same)

pub same_codes-IsEquivalence : IsEquivalence same_codes
same_codes-IsEquivalence = record {
  refl = λ x. nat_list_eq_equiv.refl x.codes;
  symm = λ x y. nat_list_eq_equiv.symm x.codes y.codes;
  congr = λ x y z. nat_list_eq_equiv.congr x.codes y.codes z.codes;
}

-- what is among one is that one
pub is_in-one : (k q : Codes) → is_in (k ∷ []) q ≡ true → q ≡ k
is_in-one k q inside = elim (or_cases (same_codes q k) false inside) [
  | inl same ↦ same_codes-exact q k same
  | inr never ↦ cc never
]

pub is_in-other : (k q : Codes) → is_in (k ∷ []) q ≡ false → same_codes k q ≡ false
is_in-other k q outside = same_codes-IsEquivalence.symm k q ∙ (or_parts (same_codes q k) false outside).0

-- ---- one cell
-- the cells with another tally at codes that are there
pub coded_at-set : (k q : Codes) (t : Tally) (cells : CodedCells) → IsSome (coded_at cells k)
    → coded_at (set_value (same_codes k) cells t) q ≡ cond (same_codes k q) (Some t) (coded_at cells q)
coded_at-set k q t cells there = lookup-set_value same_codes-IsEquivalence (same_codes k)
    (λ x y. same_codes-IsEquivalence.congr k x y) q t cells there

-- what one cell weighs
abbrev pub weigh : (Codes → ℕ) → Codes × Tally → ℕ
weigh weight cell = weight cell.0 * cell.1.facts

-- the weight after a tally is set
pub weight-set : (weight : Codes → ℕ) (k : Codes) (t new : Tally) (cells : CodedCells) → coded_at cells k ≡ Some t
    → weight_of_cells weight (set_value (same_codes k) cells new) + weight k * t.facts
    ≡ weight_of_cells weight cells + weight k * new.facts
weight-set weight k t new [] h = cc h
weight-set weight k t new (e ∷ cells) h = by_head (same_codes k e.0) refl (weight-set weight k t new cells) where
  by_head : (b : Bool) → same_codes k e.0 ≡ b →
      (coded_at cells k ≡ Some t → weight_of_cells weight (set_value (same_codes k) cells new) + weight k * t.facts
      ≡ weight_of_cells weight cells + weight k * new.facts)
      → weight_of_cells weight (set_value (same_codes k) (e ∷ cells) new) + weight k * t.facts
      ≡ weight_of_cells weight (e ∷ cells) + weight k * new.facts
  by_head true same rest =
      let found : e.1 ≡ t = cc (rw same at h) in
      let here : k ≡ e.0 = same_codes-exact k e.0 same in
      rw (same, here) (omega (
        arith,
        sum_by-cons (weigh weight) e cells,
        sum_by-cons (weigh weight) (e.0, new) cells,
        ap (λ (x : Tally). weight e.0 * x.facts) found,
      ))
  by_head false apart rest =
      let found : coded_at cells k ≡ Some t = rw apart at h in
      rw apart (omega (
        arith,
        sum_by-cons (weigh weight) e cells,
        sum_by-cons (weigh weight) e (set_value (same_codes k) cells new),
        rest found,
      ))

-- the weight after a cell is taken out
pub weight-remove : (weight : Codes → ℕ) (k : Codes) (t : Tally) (cells : CodedCells) → coded_at cells k ≡ Some t
    → weight_of_cells weight (remove_entry (same_codes k) cells) + weight k * t.facts ≡ weight_of_cells weight cells
weight-remove weight k t [] h = cc h
weight-remove weight k t (e ∷ cells) h = by_head (same_codes k e.0) refl (weight-remove weight k t cells) where
  by_head : (b : Bool) → same_codes k e.0 ≡ b → (coded_at cells k ≡ Some t
      → weight_of_cells weight (remove_entry (same_codes k) cells) + weight k * t.facts ≡ weight_of_cells weight cells)
      → weight_of_cells weight (remove_entry (same_codes k) (e ∷ cells)) + weight k * t.facts
      ≡ weight_of_cells weight (e ∷ cells)
  by_head true same rest =
      let found : e.1 ≡ t = cc (rw same at h) in
      let here : k ≡ e.0 = same_codes-exact k e.0 same in
      rw (same, here)
      (omega (arith, sum_by-cons (weigh weight) e cells, ap (λ (x : Tally). weight e.0 * x.facts) found))
  by_head false apart rest =
      let found : coded_at cells k ≡ Some t = rw apart at h in
      rw apart (omega (
        arith,
        sum_by-cons (weigh weight) e cells,
        sum_by-cons (weigh weight) e (remove_entry (same_codes k) cells),
        rest found,
      ))

-- codes whose tally is set count what it has more
pub CountMore-set_value : (facts : ℕ) (k : Codes) (old new : CodedCells) (t more : Tally) → coded_at old k ≡ Some t
    → new ≡ set_value (same_codes k) old more → more.facts ≡ t.facts + facts → CountMore facts (k ∷ []) old new
CountMore-set_value facts k old new t more there is grows = λ weight. omega (
  arith,
  ap (weight_of_cells weight) is,
  weight-set weight k t more old there,
  ap (λ (n : ℕ). weight k * n) grows,
)

-- codes that are new count what their tally has
pub CountMore-new : (facts : ℕ) (k : Codes) (old new : CodedCells) (t : Tally) → IsPermutation ((k, t) ∷ old) new
    → t.facts ≡ facts → CountMore facts (k ∷ []) old new
CountMore-new facts k old new t moved has = λ weight. omega (
  arith,
  sum_by-cons (weigh weight) (k, t) old,
  sum_by-IsPermutation (weigh weight) ((k, t) ∷ old) new moved,
  ap (λ (n : ℕ). weight k * n) has,
)

-- a fact more at one cell, told by its look-ups and counts
AddsIn-coded_at : (k : Codes) (values : List (Option ℤ)) (old new : CodedCells) (t : Tally)
    → ((q : Codes) → coded_at new q ≡ cond (same_codes k q) (Some t) (coded_at old q))
    → PlusFact values (tally_or_empty (length values) (coded_at old k)) t → holds_fact t values ≡ true
    → CountMore 1 (k ∷ []) old new → AddsIn (k ∷ []) values old new
AddsIn-coded_at k values old new t look plus holds counts = record {
  added = λ q inside. let P : Codes → Type 0 = λ z. AddsAt values (coded_at old z) (coded_at new z) in
      subst P (sym (is_in-one k q inside)) (record { tally = t; is_cell = here; plus = plus });
  held = λ q inside. let P : Codes → Type 0 = λ z. cell_holds values (coded_at new z) ≡ true in
      subst P (sym (is_in-one k q inside)) (rw here holds);
  others = λ q outside. look q ∙ cond-false (same_codes k q) (Some t) (coded_at old q) (is_in-other k q outside);
  counts_more = counts;
} where
  here : coded_at new k ≡ Some t
  here = look k ∙ cond-true (same_codes k k) (Some t) (coded_at old k) (same_codes-IsEquivalence.refl k)

-- a fact more in a cell that is there
pub AddsIn-set_value : (k : Codes) (values : List (Option ℤ)) (old new : CodedCells) (t more : Tally)
    → coded_at old k ≡ Some t → new ≡ set_value (same_codes k) old more → PlusFact values t more
    → holds_fact more values ≡ true → AddsIn (k ∷ []) values old new
AddsIn-set_value k values old new t more there is plus holds =
    let some : IsSome (coded_at old k) = rw there refl in
    AddsIn-coded_at k values old new more
    (λ q. ap (λ (cells : CodedCells). coded_at cells q) is ∙ coded_at-set k q more old some)
    (rw there plus) holds (CountMore-set_value 1 k old new t more there is plus.facts)

-- a fact in a cell that is new
pub AddsIn-new : (k : Codes) (values : List (Option ℤ)) (old new : CodedCells) (t : Tally) → coded_at old k ≡ None
    → ((q : Codes) → coded_at new q ≡ cond (same_codes k q) (Some t) (coded_at old q))
    → IsPermutation ((k, t) ∷ old) new → PlusFact values (empty_tally (length values)) t → holds_fact t values ≡ true
    → AddsIn (k ∷ []) values old new
AddsIn-new k values old new t none look moved plus holds =
    AddsIn-coded_at k values old new t look (rw none plus) holds (CountMore-new 1 k old new t moved plus.facts)

-- a tally counts the same as itself
pub SameTally-refl : (t : Tally) → SameTally t t
SameTally-refl t =
    record { facts = refl; bags = record { same_length = refl; bags = λ m. record { held = λ x. refl } } }

pub SameCell-refl : (cell : Option Tally) → SameCell cell cell
SameCell-refl None = tt
SameCell-refl (Some t) = SameTally-refl t

-- a cell whose tally counts the same
pub SameCoded-set_value : (k : Codes) (old new : CodedCells) (t other : Tally) → coded_at old k ≡ Some t
    → new ≡ set_value (same_codes k) old other → SameTally t other → SameCoded (k ∷ []) old new
SameCoded-set_value k old new t other there is same =
    let some : IsSome (coded_at old k) = rw there refl in
    let look : (q : Codes) → coded_at new q ≡ cond (same_codes k q) (Some other) (coded_at old q) =
    λ q. ap (λ (cells : CodedCells). coded_at cells q) is ∙ coded_at-set k q other old some in
    record {
      cells = λ q. at q (same_codes k q) refl (look q);
      others =
          λ q outside. look q ∙ cond-false (same_codes k q) (Some other) (coded_at old q) (is_in-other k q outside);
      counts_same = CountMore-set_value 0 k old new t other there is (omega (arith, same.facts));
    } where
      at : (q : Codes) (b : Bool) → same_codes k q ≡ b
          → coded_at new q ≡ cond (same_codes k q) (Some other) (coded_at old q)
          → SameCell (coded_at old q) (coded_at new q)
      at q true here look =
          let P : Codes → Type 0 = λ z. SameCell (coded_at old z) (coded_at new q) in
          subst P (same_codes-exact k q here)
          (rw (there, look ∙ cond-true (same_codes k q) (Some other) (coded_at old q) here) same)
      at q false apart look =
          rw (look ∙ cond-false (same_codes k q) (Some other) (coded_at old q) apart) (SameCell-refl (coded_at old q))

-- nothing changes
pub SameCoded-refl : (keys : List Codes) (old new : CodedCells) → new ≡ old → SameCoded keys old new
SameCoded-refl keys old new is =
    let P : CodedCells → Type 0 = λ cells. SameCoded keys old cells in
    subst P (sym is)
    (record {
      cells = λ q. SameCell-refl (coded_at old q);
      others = λ q outside. refl;
      counts_same = λ weight. omega arith;
    })

-- codes that lose a fact counted one more
counts_less-LosesFact : (k : Codes) (values : List (Option ℤ)) (old new : CodedCells) (count : ℕ)
    → LosesFact k values old new count → CountMore 1 (k ∷ []) new old
counts_less-LosesFact k values old new count loses = λ weight. omega (
  arith,
  ap (weight_of_cells weight) loses.is_left,
  weight-set weight k loses.tally loses.left old loses.was_cell,
  ap (λ (n : ℕ). weight k * n) loses.minus.facts,
)

-- a fact less in a cell that stays
pub TakesIn-set_value : (k : Codes) (values : List (Option ℤ)) (old new : CodedCells) (count : ℕ)
    → LosesFact k values old new count → (is_total_code k || nat_lt 0 count) ≡ true → TakesIn (k ∷ []) values old new
TakesIn-set_value k values old new count loses stays =
    let some : IsSome (coded_at old k) = rw loses.was_cell refl in
    let look : (q : Codes) → coded_at new q ≡ cond (same_codes k q) (Some loses.left) (coded_at old q) =
    λ q. ap (λ (cells : CodedCells). coded_at cells q) loses.is_left ∙ coded_at-set k q loses.left old some in
    let here : coded_at new k ≡ Some loses.left =
    look k ∙ cond-true (same_codes k k) (Some loses.left) (coded_at old k) (same_codes-IsEquivalence.refl k) in
    let is : (is_total_code k || nat_lt 0 loses.left.facts) ≡ true =
    ap (λ (n : ℕ). is_total_code k || nat_lt 0 n) (sym loses.counts) ∙ stays in
    record {
      taken = λ q inside. let P : Codes → Type 0 =
          λ z. TakesAt (is_total_code z) values (coded_at old z) (coded_at new z) in
          subst P (sym (is_in-one k q inside)) (record {
            tally = loses.tally;
            left = loses.left;
            was_cell = loses.was_cell;
            minus = loses.minus;
            is_left = here ∙ sym (cond-true (is_total_code k || nat_lt 0 loses.left.facts) (Some loses.left) None is);
          });
      others = λ q outside.
          look q ∙ cond-false (same_codes k q) (Some loses.left) (coded_at old q) (is_in-other k q outside);
      counts_less = counts_less-LosesFact k values old new count loses;
    }

-- a fact less in a cell that goes
pub TakesIn-remove_entry : (k : Codes) (values : List (Option ℤ)) (old mid new : CodedCells) (count : ℕ)
    → LosesFact k values old mid count → count ≡ 0 → is_total_code k ≡ false
    → ((q : Codes) → coded_at new q ≡ cond (same_codes k q) None (coded_at mid q))
    → IsPermutation (remove_entry (same_codes k) mid) new → TakesIn (k ∷ []) values old new
TakesIn-remove_entry k values old mid new count loses none other gone moved =
    let some : IsSome (coded_at old k) = rw loses.was_cell refl in
    let look : (q : Codes) → coded_at mid q ≡ cond (same_codes k q) (Some loses.left) (coded_at old q) =
    λ q. ap (λ (cells : CodedCells). coded_at cells q) loses.is_left ∙ coded_at-set k q loses.left old some in
    let there : coded_at mid k ≡ Some loses.left =
    look k ∙ cond-true (same_codes k k) (Some loses.left) (coded_at old k) (same_codes-IsEquivalence.refl k) in
    let here : coded_at new k ≡ None =
    gone k ∙ cond-true (same_codes k k) None (coded_at mid k) (same_codes-IsEquivalence.refl k) in
    let empty : loses.left.facts ≡ 0 = omega (arith, loses.counts, none) in
    let is : (is_total_code k || nat_lt 0 loses.left.facts) ≡ false =
    or_from (is_total_code k) (nat_lt 0 loses.left.facts) other (le-ltb 0 loses.left.facts (omega (arith, empty))) in
    record {
      taken = λ q inside. let P : Codes → Type 0 =
          λ z. TakesAt (is_total_code z) values (coded_at old z) (coded_at new z) in
          subst P (sym (is_in-one k q inside)) (record {
            tally = loses.tally;
            left = loses.left;
            was_cell = loses.was_cell;
            minus = loses.minus;
            is_left = here ∙ sym (cond-false (is_total_code k || nat_lt 0 loses.left.facts) (Some loses.left) None is);
          });
      others = λ q outside. gone q ∙ cond-false (same_codes k q) None (coded_at mid q) (is_in-other k q outside)
          ∙ look q ∙ cond-false (same_codes k q) (Some loses.left) (coded_at old q) (is_in-other k q outside);
      counts_less = λ weight. omega (
        arith,
        counts_less-LosesFact k values old mid count loses weight,
        weight-remove weight k loses.left mid there,
        ap (λ (n : ℕ). weight k * n) empty,
        sum_by-IsPermutation (weigh weight) (remove_entry (same_codes k) mid) new moved,
      );
    }

-- ---- what was added and taken
-- a cell counts what it counted
AddsAt-TakesAt : (k : Codes) (values : List (Option ℤ)) (old mid new : Option Tally) → HasRoom values k old
    → AddsAt values old mid → TakesAt (is_total_code k) values mid new → SameCell old new
AddsAt-TakesAt k values None mid new room adds takes =
    let same : adds.tally ≡ takes.tally = cc (sym adds.is_cell ∙ takes.was_cell) in
    let empty : takes.left.facts ≡ 0 =
    omega (arith, adds.plus.facts, takes.minus.facts, ap (λ (t : Tally). t.facts) same) in
    let other : is_total_code k ≡ false = false_from_ne_true (is_total_code k) (λ total. cc (room.total total)) in
    let gone : new ≡ None =
    takes.is_left ∙ cond-false (is_total_code k || nat_lt 0 takes.left.facts) (Some takes.left) None
    (or_from (is_total_code k) (nat_lt 0 takes.left.facts) other (le-ltb 0 takes.left.facts (omega (arith, empty)))) in
    rw gone tt
AddsAt-TakesAt k values (Some t) mid new room adds takes =
    let same : takes.tally ≡ adds.tally = cc (sym adds.is_cell ∙ takes.was_cell) in
    let minus : PlusFact values takes.left adds.tally =
    subst (λ (x : Tally). PlusFact values takes.left x) same takes.minus in
    let count : takes.left.facts ≡ t.facts = omega (arith, adds.plus.facts, minus.facts) in
    let some : (is_total_code k || nat_lt 0 takes.left.facts) ≡ true =
    ap (λ (n : ℕ). is_total_code k || nat_lt 0 n) count ∙ room.some in
    let stays : new ≡ Some takes.left =
    takes.is_left ∙ cond-true (is_total_code k || nat_lt 0 takes.left.facts) (Some takes.left) None some in
    rw stays (record {
      facts = sym count;
      bags = AddsValues-SameBags t.bags adds.tally.bags takes.left.bags values adds.plus.bags minus.bags;
    })

-- a fact that was added at codes and taken again
pub AddsIn-TakesIn : (k : Codes) (values : List (Option ℤ)) (old mid new : CodedCells)
    → HasRoom values k (coded_at old k) → AddsIn (k ∷ []) values old mid → TakesIn (k ∷ []) values mid new
    → SameCoded (k ∷ []) old new
AddsIn-TakesIn k values old mid new room adds takes = record {
  cells = λ q. elim (cases_Bool (is_in (k ∷ []) q)) [
    | inl here ↦
        let P : Codes → Type 0 = λ z. HasRoom values z (coded_at old z) in
        AddsAt-TakesAt q values (coded_at old q) (coded_at mid q) (coded_at new q)
        (subst P (sym (is_in-one k q here)) room) (adds.added q here) (takes.taken q here)
    | inr apart ↦ rw (takes.others q apart, adds.others q apart) (SameCell-refl (coded_at old q))
  ];
  others = λ q outside. takes.others q outside ∙ adds.others q outside;
  counts_same = λ weight. omega (arith, adds.counts_more weight, takes.counts_less weight);
}

-- what follows from two facts of a success
pub OnOk-both : {T E P Q R : Type 0} (r : Result T E) → (P → Q → R) → OnOk r P → OnOk r Q → OnOk r R
OnOk-both (Ok x) both p q = both p q
OnOk-both (Err e) both p q = tt

-- ---- what is empty
-- an empty bag, however it is reached
pub bag_at-replicate : (n m : ℕ) → bag_at (replicate n []) m ≡ []
bag_at-replicate n m = elim (cases_lt m n) [
  | inl inside ↦ get_or-replicate n m [] [] inside
  | inr past ↦ get_or_past (replicate n []) m [] (omega (arith, length-replicate {A = Bag} n [], past))
]

-- a tally of no fact holds nothing
held_of-nil : (t : Tally) (m : ℕ) (x : ℤ) → IsTallyOf [] t → held_of (bag_at t.bags m) x ≡ 0
held_of-nil t m x is = elim (cases_lt m (length t.bags)) [
  | inl inside ↦ (is.bags m inside).held x
  | inr past ↦ ap (λ (bag : Bag). held_of bag x) (get_or_past t.bags m [] past)
]

-- what is a fact more than a new cell is one more than the empty tally
pub PlusFact-empty_tally : (values : List (Option ℤ)) (n : ℕ) (cell t : Tally) → IsTallyOf [] cell
    → length cell.bags ≡ n → PlusFact values cell t → PlusFact values (empty_tally n) t
PlusFact-empty_tally values n cell t is width plus = record {
  facts = omega (arith, plus.facts, is.count);
  bags = record {
    same_length = omega (arith, plus.bags.same_length, width, length-replicate {A = Bag} n []);
    each = λ m. record {
      held = λ x. omega (
        arith,
        (plus.bags.each m).held x,
        held_of-nil cell m x is,
        ap (λ (bag : Bag). held_of bag x) (bag_at-replicate n m),
      );
    };
  };
}

-- what holds whatever a call answers
pub OnErr-always : {T E P : Type 0} (r : Result T E) → P → OnErr r P
OnErr-always (Ok x) p = tt
OnErr-always (Err e) p = p
