-- Books, accounts and ledgers that keep the facts of interest alone.
use Rattle.std.proofs.Common.{◌≡◌, ◌<◌, ℕ, zero, suc, true, List, [], ◌∷◌, ◌++◌, length, map}
use Rattle.std.proofs.Common.{take, drop, get_or, set, refl, sym, ap, ◌∙◌, arith, inl, inr}
use Rattle.std.proofs.lemmas.List.{length-map}
use Rattle.std.proofs.Math.Seq.{take-append_seam}
use Rattle.std.specs.Prelude.{◌==◌}
use Rattle.std.proofs.lemmas.Bool.{cases_Bool, eqb-true}
use Rattle.std.proofs.lemmas.List.Elements.{All-filter, filter-append}
use Rattle.cube_core.specs.Conditions.{hold, of_interest}
use Rattle.cube_core.specs.Layout.{Layout}
use Rattle.cube_core.specs.Takes.{fits}
use Rattle.cube_core.specs.declared.change.Refusal.{Refusal}
use Rattle.cube_core.specs.declared.condition.Condition.{Condition}
use Rattle.cube_core.specs.declared.fact.Fact.{Fact}
use Rattle.cube_ledger.specs.Book.{Entries, facts_of}
use Rattle.cube_ledger.specs.Interest.{account_of_interest, entries_of_interest, ledger_of_interest}
use Rattle.cube_ledger.specs.Ledger.{AccountView, IsLedger, LedgerView, all_facts}

-- the facts of a book that keeps those of interest
facts_of-entries_of_interest : (conditions : List Condition) (book : Entries)
    → facts_of (entries_of_interest conditions book) ≡ of_interest conditions (facts_of book)
facts_of-entries_of_interest conditions [] = refl
facts_of-entries_of_interest conditions (e ∷ book) = elim (cases_Bool (hold conditions e.1)) [
  | inl holds ↦ rw holds (ap (λ (facts : List Fact). e.1 ∷ facts) (facts_of-entries_of_interest conditions book))
  | inr other ↦ rw other (facts_of-entries_of_interest conditions book)
]

-- those of all books
pub all_facts-of_interest : (conditions : List Condition) (accounts : List AccountView)
    → all_facts (map (account_of_interest conditions) accounts) ≡ of_interest conditions (all_facts accounts)
all_facts-of_interest conditions [] = refl
all_facts-of_interest conditions (a ∷ accounts) =
    (λ i. facts_of-entries_of_interest conditions a.book i ++ all_facts-of_interest conditions accounts i)
    ∙ sym (filter-append (hold conditions) (facts_of a.book) (all_facts accounts))

-- the refusals stay
pub refusals-of_interest : (conditions : List Condition) (accounts : List AccountView)
    → map (λ (account : AccountView). account.refusals) (map (account_of_interest conditions) accounts)
    ≡ map (λ (account : AccountView). account.refusals) accounts
refusals-of_interest conditions [] = refl
refusals-of_interest conditions (a ∷ accounts) =
    ap (λ (refusals : List (List Refusal)). a.refusals ∷ refusals) (refusals-of_interest conditions accounts)

-- a list without an element
none-of : {X : Type 0} (xs : List X) → true ≡ (length xs == 0) → xs ≡ []
none-of [] none = refl
none-of (x ∷ xs) none = let long : length (x ∷ xs) ≡ 0 = eqb-true _ _ (sym none) in absurd (omega (arith, long))

-- without a condition all facts are of interest
pub of_interest-all : (facts : List Fact) → of_interest [] facts ≡ facts
of_interest-all [] = refl
of_interest-all (fact ∷ facts) = ap (λ (more : List Fact). fact ∷ more) (of_interest-all facts)

entries_of_interest-all : (book : Entries) → entries_of_interest [] book ≡ book
entries_of_interest-all [] = refl
entries_of_interest-all (e ∷ book) = ap (λ (more : Entries). e ∷ more) (entries_of_interest-all book)

accounts-all : (accounts : List AccountView) → map (account_of_interest []) accounts ≡ accounts
accounts-all [] = refl
accounts-all (a ∷ accounts) = λ i.
    record { book = entries_of_interest-all a.book i; refusals = a.refusals } ∷ accounts-all accounts i

pub ledger_of_interest-all : (ledger : LedgerView) → ledger_of_interest [] ledger ≡ ledger
ledger_of_interest-all ledger = λ i. record { schema = ledger.schema; accounts = accounts-all ledger.accounts i }

pub ledger_of_interest-none : (conditions : List Condition) (ledger : LedgerView) → true ≡ (length conditions == 0)
    → ledger ≡ ledger_of_interest conditions ledger
ledger_of_interest-none conditions ledger none =
    sym (ap (λ (cs : List Condition). ledger_of_interest cs ledger) (none-of conditions none)
    ∙ ledger_of_interest-all ledger)

-- facts that fit still do
pub IsLedger-of_interest : (conditions : List Condition) (s : Layout) (accounts : List AccountView)
    → IsLedger s accounts → IsLedger s (map (account_of_interest conditions) accounts)
IsLedger-of_interest conditions s accounts is =
    let few = is.sources_at_most in
    record {
      sources_at_most = omega (arith, length-map accounts (account_of_interest conditions), few);
      all_fit = rw (all_facts-of_interest conditions accounts)
          (All-filter (hold conditions) (λ (fact : Fact). fits s fact ≡ true) (all_facts accounts) is.all_fit);
    }

-- a list that was written back in place of one that is as long
pub written-back : {X : Type 0} (old new : List X) (n : ℕ) → n ≡ length old → length new ≡ length old
    → take n (new ++ drop (length new) old) ≡ new
written-back old new n all long =
    ap (λ (k : ℕ). take k (new ++ drop (length new) old)) (all ∙ sym long) ∙ take-append_seam new (drop (length new) old)

-- one account more in a list of which the first so many keep those of interest alone
pub kept-more : {X : Type 0} (f : X → X) (xs : List X) (i : ℕ) (d : X) → i < length xs
    → set (map f (take i xs) ++ drop i xs) i (f (get_or (map f (take i xs) ++ drop i xs) i d))
    ≡ map f (take (suc i) xs) ++ drop (suc i) xs
kept-more f [] i d below = absurd (omega arith)
kept-more f (x ∷ xs) zero d below = refl
kept-more {X} f (x ∷ xs) (suc i) d below = ap (λ (rest : List X). f x ∷ rest) (kept-more f xs i d (omega arith))
