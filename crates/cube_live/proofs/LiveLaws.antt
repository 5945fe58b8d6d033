-- Taking the next record of a source.
use Rattle.std.proofs.Common.{◌≡◌, ◌==◌, ◌+◌, ◌-◌, ◌<◌, ◌≤◌, ◌≢◌, ◌++◌, ℕ, Bool, List, true, false, [], ◌∷◌, length}
use Rattle.std.proofs.Common.{get_or, refl, sym, ap, ◌∙◌, subst, arith}
use Rattle.std.specs.Prelude.{None, Option, Result, Some, slice_set}
use Rattle.std.specs.List.{last_or}
use Rattle.std.specs.Option.{option_map_or}
use Rattle.std.proofs.lemmas.Bool.{eqb-true, eq-eqb, both_ways}
use Rattle.std.proofs.lemmas.List.{get_or-set_same, get_or-set_other}
use Rattle.cube_core.specs.Arrival.{Arrivals, of_source}
use Rattle.cube_core.specs.declared.change.Change.{Change}
use Rattle.cube_core.specs.declared.change.Item.{Item}
use Rattle.cube_core.specs.declared.change.LineFault.{LineFault}
use Rattle.cube_core.proofs.ArrivalLaws.{of_source-append}
use Rattle.cube_ledger.specs.Ledger.{LedgerStandsAt}
use Rattle.cube_ledger.proofs.StandLaws.{of_source-other}
use Rattle.cube_live.specs.Live.{AreLast, LiveView, TakesNext, last_number, said_item}

-- the last of items that end with this one
last_or-append : {A : Type 0} (o : Option A) (xs : List A) (x : A) → last_or o (xs ++ x ∷ []) ≡ Some x
last_or-append o [] x = refl
last_or-append o (y ∷ ys) x = last_or-append (Some y) ys x

-- an item of a source is its last then, and leaves the last of another as it was
pub last_number-own : (arrivals : Arrivals) (source : ℕ) (item : Item)
    → last_number (of_source (arrivals ++ (source, item) ∷ []) source) ≡ item.number
last_number-own arrivals source item =
    let own : of_source (arrivals ++ (source, item) ∷ []) source ≡ of_source arrivals source ++ item ∷ [] =
    of_source-append arrivals ((source, item) ∷ []) source ∙ rw (eq-eqb source source refl) refl in
    ap last_number own ∙ ap (λ (last : Option Item). option_map_or (λ (it : Item). it.number) last 0)
    (last_or-append None (of_source arrivals source) item)

-- numbers are those of the last items where that of a source is its next item's
pub AreLast-more : (numbers more : List ℕ) (arrivals : Arrivals) (source : ℕ) (item : Item) → 1 ≤ source → source ≤ 64
    → length numbers ≡ 64
    → more ≡ slice_set numbers (source - 1) item.number → AreLast numbers arrivals
    → AreLast more (arrivals ++ (source, item) ∷ [])
AreLast-more numbers more arrivals source item first last long set are =
    λ other some within. by other some within (other == source) refl where
      by : (other : ℕ) → 1 ≤ other → other ≤ 64 → (test : Bool) → (other == source) ≡ test
          → get_or more (other - 1) 0 ≡ last_number (of_source (arrivals ++ (source, item) ∷ []) other)
      by other some within true same =
          let here : other ≡ source = eqb-true other source same in
          let inside : source - 1 < length numbers = omega (arith, first, last, long) in
          subst (λ n. get_or more (n - 1) 0 ≡ last_number (of_source (arrivals ++ (source, item) ∷ []) n)) (sym here)
          (ap (λ l. get_or l (source - 1) 0) set ∙ get_or-set_same numbers (source - 1) item.number 0 inside
          ∙ sym (last_number-own arrivals source item))
      by other some within false differs =
          let apart : source ≢ other = λ same. both_ways _ differs (eq-eqb other source (sym same)) in
          let places : other - 1 ≢ source - 1 = λ same. apart (omega (arith, same, some, first)) in
          ap (λ l. get_or l (other - 1) 0) set ∙ get_or-set_other numbers (source - 1) (other - 1) item.number 0 places
          ∙ are other some within ∙ sym (ap last_number (of_source-other arrivals source other item apart))

-- the ledger took the item, and the number of its source is one more
pub TakesNext-numbered : (old new : LiveView) (source number : ℕ) (what : Result Change LineFault) → 1 ≤ source
    → length old.numbers ≡ 64 → source ≤ 64
    → number ≡ get_or old.numbers (source - 1) 0
    → ((arrivals : Arrivals) → LedgerStandsAt old.ledger arrivals
    → LedgerStandsAt new.ledger (arrivals ++ (source, record { number = number + 1; what = what }) ∷ []))
    → new.numbers ≡ slice_set old.numbers (source - 1) (number + 1) → TakesNext source what old new
TakesNext-numbered old new source number what first long last is took set arrivals stands = record {
  ledger = subst (λ (item : Item). LedgerStandsAt new.ledger (arrivals ++ (source, item) ∷ [])) said
      (took arrivals stands.ledger);
  numbers =
      AreLast-more old.numbers new.numbers arrivals source (said_item arrivals source what) first last long
      (set ∙ ap (λ n. slice_set old.numbers (source - 1) (n + 1)) (is ∙ stands.numbers source first last))
      stands.numbers;
} where
  said : record { number = number + 1; what = what } ≡ said_item arrivals source what
  said =
      ap (λ n. let item : Item = record { number = n + 1; what = what } in item) (is ∙ stands.numbers source first last)
