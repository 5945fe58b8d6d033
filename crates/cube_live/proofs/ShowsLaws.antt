-- From books that stand at an arrival list to what a text shows of it.
use Rattle.std.proofs.Common.{◌≡◌, ◌-◌, ℕ, zero, suc, Bool, List, [], ◌∷◌, get_or, map, refl, ap, ◌∙◌, subst}
use Rattle.std.specs.List.{AllZip}
use Rattle.cube_core.specs.Arrival.{Arrivals, of_sources}
use Rattle.cube_core.specs.Layout.{Layout}
use Rattle.cube_core.specs.Printed.{IsPrinted}
use Rattle.cube_core.specs.Refusals.{refusals_of}
use Rattle.cube_core.specs.Sources.{SurviveTogether}
use Rattle.cube_core.specs.Text.{text_of_refusals}
use Rattle.cube_core.specs.declared.change.Item.{Item}
use Rattle.cube_core.specs.declared.change.Refusal.{Refusal}
use Rattle.cube_core.specs.declared.key.Key.{Key}
use Rattle.cube_ledger.specs.Ledger.{AccountStandsAt, AccountView, LedgerStandsAt, LedgerView, all_facts, new_account}
use Rattle.cube_ledger.proofs.SurvivorLaws.{SurviveTogether-stands}
use Rattle.cube_live.specs.Live.{IsLive}
use Rattle.cube_live.specs.Shows.{AsksRows, IsTextWhere, Shows, ShowsCube, ShowsRows, asks_for, text_after}
use Rattle.cube_live.specs.declared.request.Question.{Question}
use Rattle.cube_live.specs.declared.request.Question.TheVariants.{Print, Slice, Drill, RollUp, Refusals, RefusalsAfter}
use Rattle.cube_live.specs.declared.request.Question.TheVariants.{Sync}

-- the facts of the books survive together in what the list has of the 64 sources
survive : (s : Layout) (ledger : LedgerView) (numbers : List ℕ) (arrivals : Arrivals) → IsLive s ledger numbers
    → LedgerStandsAt ledger arrivals
    → SurviveTogether s (of_sources 64 arrivals) (all_facts ledger.accounts)
survive s ledger numbers arrivals live stands =
    subst (λ (l : Layout). SurviveTogether l (of_sources 64 arrivals) (all_facts ledger.accounts)) live.schema
    (subst (λ n. SurviveTogether ledger.schema (of_sources n arrivals) (all_facts ledger.accounts)) live.sources
    (SurviveTogether-stands ledger arrivals stands))

-- their printed cube is shown
pub ShowsCube-live : (s : Layout) (ledger : LedgerView) (numbers : List ℕ) (arrivals : Arrivals) (text : List ℕ)
    → IsLive s ledger numbers → LedgerStandsAt ledger arrivals
    → IsPrinted s (all_facts ledger.accounts) text → ShowsCube s (of_sources 64 arrivals) text
ShowsCube-live s ledger numbers arrivals text live stands printed =
    record {
      facts = all_facts ledger.accounts;
      survive = survive s ledger numbers arrivals live stands;
      printed = printed;
    }

-- and so are their rows
pub ShowsRows-live : (test : Key → Bool) (s : Layout) (ledger : LedgerView) (numbers : List ℕ) (arrivals : Arrivals)
    (text : List ℕ) → IsLive s ledger numbers → LedgerStandsAt ledger arrivals
    → IsTextWhere test s (all_facts ledger.accounts) text → ShowsRows test s (of_sources 64 arrivals) text
ShowsRows-live test s ledger numbers arrivals text live stands is =
    record { facts = all_facts ledger.accounts; survive = survive s ledger numbers arrivals live stands; is_text = is }

-- accounts that stand at the items of their sources have their refusals
pub refusals-each : (s : Layout) (feeds : List (List Item)) (accounts : List AccountView)
    → AllZip (AccountStandsAt s) feeds accounts
    → map (λ (account : AccountView). account.refusals) accounts ≡ map (refusals_of s) feeds
refusals-each s [] [] stand = refl
refusals-each s [] (a ∷ accounts) stand = absurd stand
refusals-each s (items ∷ feeds) [] stand = absurd stand
refusals-each s (items ∷ feeds) (a ∷ accounts) stand = rw (stand.0.refused, refusals-each s feeds accounts stand.1) refl

refusals-at : (s : Layout) (feeds : List (List Item)) (accounts : List AccountView) (place : ℕ)
    → AllZip (AccountStandsAt s) feeds accounts
    → (get_or accounts place new_account).refusals ≡ refusals_of s (get_or feeds place [])
refusals-at s [] [] place stand = refl
refusals-at s [] (a ∷ accounts) place stand = absurd stand
refusals-at s (items ∷ feeds) [] place stand = absurd stand
refusals-at s (items ∷ feeds) (a ∷ accounts) zero stand = stand.0.refused
refusals-at s (items ∷ feeds) (a ∷ accounts) (suc place) stand = refusals-at s feeds accounts place stand.1

-- the accounts at the 64 sources
accounts-stand : (s : Layout) (ledger : LedgerView) (numbers : List ℕ) (arrivals : Arrivals) → IsLive s ledger numbers
    → LedgerStandsAt ledger arrivals
    → AllZip (AccountStandsAt s) (of_sources 64 arrivals) ledger.accounts
accounts-stand s ledger numbers arrivals live stands =
    subst (λ (l : Layout). AllZip (AccountStandsAt l) (of_sources 64 arrivals) ledger.accounts) live.schema
    (subst (λ n. AllZip (AccountStandsAt ledger.schema) (of_sources n arrivals) ledger.accounts) live.sources stands)

-- the refusals of all sources, and those of one after a record, are theirs
pub refusals-live : (s : Layout) (ledger : LedgerView) (numbers : List ℕ) (arrivals : Arrivals) (text : List ℕ)
    → IsLive s ledger numbers → LedgerStandsAt ledger arrivals
    → text ≡ text_of_refusals (map (λ (account : AccountView). account.refusals) ledger.accounts)
    → text ≡ text_of_refusals (map (refusals_of s) (of_sources 64 arrivals))
refusals-live s ledger numbers arrivals text live stands is =
    is ∙ ap text_of_refusals
    (refusals-each s (of_sources 64 arrivals) ledger.accounts (accounts-stand s ledger numbers arrivals live stands))

pub refusals_after-live : (s : Layout) (ledger : LedgerView) (numbers : List ℕ) (arrivals : Arrivals) (text : List ℕ)
    (source number : ℕ) (refusals : List Refusal) → IsLive s ledger numbers → LedgerStandsAt ledger arrivals
    → refusals ≡ (get_or ledger.accounts (source - 1) new_account).refusals → text ≡ text_after source number refusals
    → text ≡ text_after source number (refusals_of s (get_or (of_sources 64 arrivals) (source - 1) []))
refusals_after-live s ledger numbers arrivals text source number refusals live stands those is =
    is ∙ ap (text_after source number) (those ∙ refusals-at s (of_sources 64 arrivals) ledger.accounts (source - 1)
    (accounts-stand s ledger numbers arrivals live stands))

-- the rows that a question asks for are what it shows
pub Shows-asked : (question : Question) (s : Layout) (feeds : List (List Item)) (text : List ℕ) → AsksRows question
    → ShowsRows (asks_for question) s feeds text → Shows question s feeds text
Shows-asked Print s feeds text asks shows = absurd asks
Shows-asked (Slice pattern) s feeds text asks shows = shows
Shows-asked (Drill key dimension) s feeds text asks shows = shows
Shows-asked (RollUp key dimension) s feeds text asks shows = shows
Shows-asked Refusals s feeds text asks shows = absurd asks
Shows-asked (RefusalsAfter source number) s feeds text asks shows = absurd asks
Shows-asked Sync s feeds text asks shows = absurd asks
