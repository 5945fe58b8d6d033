-- What a change of one account does to the facts of all sources.
use Rattle.std.proofs.Common.{◌≡◌, ◌<◌, ◌≤◌, ◌+◌, ◌-◌, ℕ, zero, suc, Bool, true, false, List, []}
use Rattle.std.proofs.Common.{◌∷◌, ◌++◌, length, get_or, replicate, refl}
use Rattle.std.proofs.Common.{sym, ap, ◌∙◌, subst, arith, append_assoc, length-append}
use Rattle.std.specs.Prelude.{Option, Some, None, All, IfSome, map, slice_set, Result, Ok, Err, IfOk, OnOk, OnErr}
use Rattle.std.specs.Prelude.{if◌then◌else◌}
use Rattle.std.specs.Option.{option_to_list}
use Rattle.std.specs.List.Sorted.{IsPermutation}
use Rattle.std.proofs.Math.ListN.{length-set}
use Rattle.std.proofs.Math.Seq.{take-append_seam}
use Rattle.std.proofs.lemmas.List.{length-map, length-replicate}
use Rattle.std.proofs.lemmas.Grind.{flat_map-append}
use Rattle.std.proofs.lemmas.List.Elements.{All-append, All-nil, All-cons, All-tail, All-take}
use Rattle.std.proofs.lemmas.List.Sorted.{IsPermutation-refl, IsPermutation-trans, IsPermutation-append_left}
use Rattle.std.proofs.lemmas.List.Sorted.{IsPermutation-append_right, IsPermutation-append_comm, All-permutation}
use Rattle.cube_core.specs.Layout.{Layout}
use Rattle.cube_core.specs.Life.{id_of}
use Rattle.cube_core.specs.Takes.{fits}
use Rattle.cube_core.specs.declared.change.Change.{Change}
use Rattle.cube_core.specs.declared.change.Item.{Item}
use Rattle.cube_core.specs.declared.change.LineFault.{LineFault}
use Rattle.cube_core.specs.declared.fact.Fact.{Fact}
use Rattle.cube_ledger.specs.Book.{fact_at, fact_put, facts_of}
use Rattle.cube_ledger.specs.Ledger.{AccountView, AtSource, Enters, Exchanges, AllFit, IsLedger, LedgerView}
use Rattle.cube_ledger.specs.Ledger.{account_of, all_facts, code_in, new_account, says_taken, with_refusal}
use Rattle.cube_ledger.specs.Ledger.{without_facts}
use Rattle.cube_ledger.proofs.FitLaws.{fact_put-fits}

-- what holds of all elements of joined lists holds of those of the first and of the second
pub All-append_right : {X : Type 0} (P : X → Type 0) (xs ys : List X) → All P (xs ++ ys) → All P ys
All-append_right P [] ys all = all
All-append_right P (x ∷ xs) ys all = All-append_right P xs ys (All-tail P x (xs ++ ys) all)

pub All-append_left : {X : Type 0} (P : X → Type 0) (xs ys : List X) → All P (xs ++ ys) → All P xs
All-append_left P xs ys all = subst (All P) (take-append_seam xs ys) (All-take P (length xs) (xs ++ ys) all)

-- the first two of three joined lists change places
pub swap-front : {X : Type 0} (xs ys zs : List X) → IsPermutation (xs ++ (ys ++ zs)) (ys ++ (xs ++ zs))
swap-front xs ys zs =
    subst (λ l. IsPermutation l (ys ++ (xs ++ zs))) (append_assoc xs ys zs)
    (subst (IsPermutation ((xs ++ ys) ++ zs)) (append_assoc ys xs zs)
    (IsPermutation-append_left zs (xs ++ ys) (ys ++ xs) (IsPermutation-append_comm xs ys)))

-- the account at a place within the list, whatever stands past its end
pub account-at : (accounts : List AccountView) (place : ℕ) (account : AccountView) → place < length accounts
    → account ≡ get_or accounts place account → account ≡ get_or accounts place new_account
account-at [] place account below is = absurd (omega arith)
account-at (a ∷ accounts) zero account below is = is
account-at (a ∷ accounts) (suc place) account below is = account-at accounts place account (omega arith) is

-- the facts of all sources change as those of the one account
pub all_facts-set : (accounts : List AccountView) (place : ℕ) (account : AccountView) (come gone : Option Fact)
    → place < length accounts
    → IsPermutation (option_to_list come ++ facts_of (get_or accounts place new_account).book)
    (option_to_list gone ++ facts_of account.book)
    → IsPermutation (option_to_list come ++ all_facts accounts)
    (option_to_list gone ++ all_facts (slice_set accounts place account))
all_facts-set [] place account come gone below moved = absurd (omega arith)
all_facts-set (a ∷ accounts) zero account come gone below moved =
    subst (λ l. IsPermutation l (option_to_list gone ++ (facts_of account.book ++ all_facts accounts)))
    (append_assoc (option_to_list come) (facts_of a.book) (all_facts accounts))
    (subst (IsPermutation ((option_to_list come ++ facts_of a.book) ++ all_facts accounts))
    (append_assoc (option_to_list gone) (facts_of account.book) (all_facts accounts))
    (IsPermutation-append_left (all_facts accounts) _ _ moved))
all_facts-set (a ∷ accounts) (suc place) account come gone below moved =
    IsPermutation-trans _ _ _
    (swap-front (option_to_list come) (facts_of a.book) (all_facts accounts))
    (IsPermutation-trans _ _ _
    (IsPermutation-append_right (facts_of a.book) _ _
    (all_facts-set accounts place account come gone (omega arith) moved))
    (swap-front (facts_of a.book) (option_to_list gone) (all_facts (slice_set accounts place account))))

-- where all facts fit, those of each account do
pub AllFit-account : (s : Layout) (accounts : List AccountView) (place : ℕ) → AllFit s (all_facts accounts)
    → place < length accounts
    → AllFit s (facts_of (get_or accounts place new_account).book)
AllFit-account s [] place all below = absurd (omega arith)
AllFit-account s (a ∷ accounts) zero all below =
    All-append_left (λ fact. fits s fact ≡ true) (facts_of a.book) (all_facts accounts) all
AllFit-account s (a ∷ accounts) (suc place) all below =
    AllFit-account s accounts place
    (All-append_right (λ fact. fits s fact ≡ true) (facts_of a.book) (all_facts accounts) all) (omega arith)

-- a fact that fits, or none, in front of facts that fit
pub AllFit-come : (s : Layout) (come : Option Fact) (facts : List Fact) → IfSome come (λ fact. fits s fact ≡ true)
    → AllFit s facts
    → AllFit s (option_to_list come ++ facts)
AllFit-come s None facts fit all = all
AllFit-come s (Some fact) facts fit all = All-cons (λ f. fits s f ≡ true) fact facts fit all

-- what is gone and the facts that are left fit, where those did and what comes does
pub AllFit-set : (s : Layout) (accounts : List AccountView) (place : ℕ) (account : AccountView)
    (come gone : Option Fact) → place < length accounts
    → AllFit s (all_facts accounts) → IfSome come (λ fact. fits s fact ≡ true)
    → IsPermutation (option_to_list come ++ facts_of (get_or accounts place new_account).book)
    (option_to_list gone ++ facts_of account.book)
    → AllFit s (option_to_list gone ++ all_facts (slice_set accounts place account))
AllFit-set s accounts place account come gone below all fit moved =
    All-permutation (λ fact. fits s fact ≡ true) _ _ (all_facts-set accounts place account come gone below moved)
    (AllFit-come s come (all_facts accounts) fit all)

-- a ledger in which one account has other facts
pub IsLedger-set : (s : Layout) (accounts : List AccountView) (place : ℕ) (old account : AccountView)
    (come gone : Option Fact) → place < length accounts
    → old ≡ get_or accounts place new_account → IsLedger s accounts → IfSome come (λ fact. fits s fact ≡ true)
    → IsPermutation (option_to_list come ++ facts_of old.book) (option_to_list gone ++ facts_of account.book)
    → IsLedger s (slice_set accounts place account)
IsLedger-set s accounts place old account come gone below was is fit moved = record {
  sources_at_most = subst (λ n. n ≤ 64) (sym (length-set accounts place account)) is.sources_at_most;
  all_fit =
      All-append_right (λ fact. fits s fact ≡ true) (option_to_list gone) _
      (AllFit-set s accounts place account come gone below is.all_fit fit
      (subst (λ (a : AccountView). IsPermutation (option_to_list come ++ facts_of a.book)
      (option_to_list gone ++ facts_of account.book)) was moved));
}

-- one in which an account has the same facts
pub IsLedger-same : (s : Layout) (accounts : List AccountView) (place : ℕ) (old account : AccountView)
    → place < length accounts
    → old ≡ get_or accounts place new_account → IsLedger s accounts → account.book ≡ old.book
    → IsLedger s (slice_set accounts place account)
IsLedger-same s accounts place old account below was is same =
    IsLedger-set s accounts place old account None None below was is tt
    (subst (λ book. IsPermutation (facts_of old.book) (facts_of book)) (sym same) (IsPermutation-refl _))

-- one in which a fact was put, or in which there was no memory for it
pub IsLedger-put : (s : Layout) (accounts : List AccountView) (place : ℕ) (old account : AccountView) (id : List ℕ)
    (fact : Fact) (result : Result (Option Fact) Fact)
    → place < length accounts → old ≡ get_or accounts place new_account → IsLedger s accounts → fits s fact ≡ true
    → IfOk result (λ gone. Exchanges id gone (Some fact) old account)
    → OnErr result (account ≡ old)
    → IsLedger s (slice_set accounts place account)
IsLedger-put s accounts place old account id fact (Ok gone) below was is fit put same =
    IsLedger-set s accounts place old account (Some fact) gone below was is fit put.book.moved
IsLedger-put s accounts place old account id fact (Err back) below was is fit put same =
    IsLedger-same s accounts place old account below was is (ap (λ (a : AccountView). a.book) same)

-- what holds of a value wherever there is one
IfSome-each : {X : Type 0} (P : X → Type 0) (o : Option X) → ((x : X) → o ≡ Some x → P x) → IfSome o P
IfSome-each P None each = tt
IfSome-each P (Some x) each = each x refl

-- one in which an account took an item whose change, where it says one, the schema takes
IsLedger-code : (s : Layout) (accounts : List AccountView) (place : ℕ) (old account : AccountView) (item : Item)
    (what : Result Change LineFault) (code : Option ℕ)
    → item.what ≡ what → code_in s old.book what ≡ code → place < length accounts
    → old ≡ get_or accounts place new_account → IsLedger s accounts
    → says_taken s what ≡ true → Enters s item old account → IsLedger s (slice_set accounts place account)
IsLedger-code s accounts place old account item what (Some code) says coded below was is taken enters =
    IsLedger-same s accounts place old account below was is
    (ap (λ (a : AccountView). a.book) (enters.refused code (ap (code_in s old.book) says ∙ coded)))
IsLedger-code s accounts place old account item (Err fault) None says coded below was is taken enters = cc
IsLedger-code s accounts place old account item (Ok change) None says coded below was is taken enters =
    let exchanged = enters.taken change says (ap (code_in s old.book) says ∙ coded) in
    let fit : AllFit s (facts_of old.book) =
    subst (λ (a : AccountView). AllFit s (facts_of a.book)) (sym was)
    (AllFit-account s accounts place is.all_fit below) in
    IsLedger-set s accounts place old account (fact_put change (fact_at old.book (id_of change)))
    (fact_at old.book (id_of change)) below was is
    (IfSome-each (λ fact. fits s fact ≡ true) _ (λ fact puts. fact_put-fits s old.book change fact taken fit puts))
    exchanged.book.moved

pub IsLedger-enter : {T E : Type 0} (s : Layout) (accounts : List AccountView) (place : ℕ) (old account : AccountView)
    (item : Item) (result : Result T E)
    → place < length accounts → old ≡ get_or accounts place new_account → IsLedger s accounts
    → says_taken s item.what ≡ true
    → OnOk result (Enters s item old account) → OnErr result (account ≡ old)
    → IsLedger s (slice_set accounts place account)
IsLedger-enter s accounts place old account item (Ok x) below was is taken enters same =
    IsLedger-code s accounts place old account item item.what
    (code_in s old.book item.what) refl refl below was is taken enters
IsLedger-enter s accounts place old account item (Err e) below was is taken enters same =
    IsLedger-same s accounts place old account below was is (ap (λ (a : AccountView). a.book) same)

-- a ledger of new accounts has no facts
pub all_facts-new : (sources : ℕ) → all_facts (replicate sources new_account) ≡ []
all_facts-new zero = refl
all_facts-new (suc sources) = all_facts-new sources

pub IsLedger-new : (s : Layout) (accounts : List AccountView) (sources : ℕ) → accounts ≡ replicate sources new_account
    → sources ≤ 64 → IsLedger s accounts
IsLedger-new s accounts sources are few = record {
  sources_at_most = omega (arith, ap length are, length-replicate sources new_account);
  all_fit = subst (AllFit s) (sym (ap all_facts are ∙ all_facts-new sources)) (All-nil (λ fact. fits s fact ≡ true));
}

-- the accounts of two ledgers of one schema, or those of the first alone
pub IsLedger-append : (s t : Layout) (accounts more : List AccountView) (ok : Bool) → t ≡ s
    → length accounts + length more ≤ 64 → IsLedger s accounts → IsLedger t more
    → IsLedger s (if ok then accounts ++ more else accounts)
IsLedger-append s t accounts more false same most is also = is
IsLedger-append s t accounts more true same most is also = record {
  sources_at_most = omega (arith, length-append accounts more, most);
  all_fit =
      subst (AllFit s) (sym (flat_map-append (λ (account : AccountView). facts_of account.book) accounts more))
      (All-append (λ fact. fits s fact ≡ true) (all_facts accounts) (all_facts more) is.all_fit
      (subst (λ l. AllFit l (all_facts more)) same also.all_fit));
}

-- ---- the facts of all books where a fact of one source gives way

pub all_facts-exchange : (old new : LedgerView) (source : ℕ) (id : List ℕ) (out come : Option Fact) → 1 ≤ source
    → source ≤ length old.accounts
    → AtSource (Exchanges id out come) source old new
    → IsPermutation (option_to_list come ++ all_facts old.accounts) (option_to_list out ++ all_facts new.accounts)
all_facts-exchange old new source id out come first last at =
    subst (λ accounts. IsPermutation (option_to_list come ++ all_facts old.accounts)
    (option_to_list out ++ all_facts accounts)) (sym at.accounts)
    (all_facts-set old.accounts (source - 1) at.account come out (omega (arith, first, last)) at.changed.book.moved)

-- what is gone and what is left fit, where what comes does
pub AllFit-exchange : (old new : LedgerView) (source : ℕ) (id : List ℕ) (out come : Option Fact) → 1 ≤ source
    → source ≤ length old.accounts
    → AtSource (Exchanges id out come) source old new → AllFit old.schema (all_facts old.accounts)
    → IfSome come (λ fact. fits old.schema fact ≡ true)
    → AllFit old.schema (option_to_list out ++ all_facts new.accounts)
AllFit-exchange old new source id out come first last at all fit =
    All-permutation (λ fact. fits old.schema fact ≡ true) _ _
    (all_facts-exchange old new source id out come first last at)
    (AllFit-come old.schema come (all_facts old.accounts) fit all)

-- what is out fits
pub fits-out : (old new : LedgerView) (source : ℕ) (id : List ℕ) (fact : Fact) (come : Option Fact) → 1 ≤ source
    → source ≤ length old.accounts
    → AtSource (Exchanges id (Some fact) come) source old new → AllFit old.schema (all_facts old.accounts)
    → IfSome come (λ f. fits old.schema f ≡ true)
    → fits old.schema fact ≡ true
fits-out old new source id fact come first last at all fit =
    AllFit-exchange old new source id (Some fact) come first last at all fit 0 fact (omega arith)

-- ---- an item refused

pub all_facts-refuse : (old new : LedgerView) (source number code : ℕ) → 1 ≤ source → source ≤ length old.accounts
    → AtSource (λ o n. n ≡ with_refusal o number code) source old new
    → IsPermutation (all_facts old.accounts) (all_facts new.accounts)
all_facts-refuse old new source number code first last at =
    subst (λ accounts. IsPermutation (all_facts old.accounts) (all_facts accounts)) (sym at.accounts)
    (all_facts-set old.accounts (source - 1) at.account None None (omega (arith, first, last))
    (subst (λ (a : AccountView). IsPermutation (facts_of (account_of old source).book) (facts_of a.book))
    (sym at.changed) (IsPermutation-refl _)))

-- books without facts have none, so all that they have fits
all_facts-without_facts : (accounts : List AccountView) → all_facts (map without_facts accounts) ≡ []
all_facts-without_facts [] = refl
all_facts-without_facts (account ∷ accounts) = all_facts-without_facts accounts

pub IsLedger-without_facts : (s : Layout) (accounts : List AccountView) → IsLedger s accounts
    → IsLedger s (map without_facts accounts)
IsLedger-without_facts s accounts is =
    let few = is.sources_at_most in
    record {
      sources_at_most = omega (arith, length-map accounts without_facts, few);
      all_fit = subst (AllFit s) (sym (all_facts-without_facts accounts)) (All-nil (λ fact. fits s fact ≡ true));
    }

-- their refusals stay
pub refusals-without_facts : (accounts : List AccountView)
    → map (λ (account : AccountView). account.refusals) (map without_facts accounts)
    ≡ map (λ (account : AccountView). account.refusals) accounts
refusals-without_facts [] = refl
refusals-without_facts (account ∷ accounts) = λ i. account.refusals ∷ refusals-without_facts accounts i
