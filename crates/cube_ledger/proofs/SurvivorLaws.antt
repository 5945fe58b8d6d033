-- The facts of a ledger that stands at an arrival list are those that survive what the list has of its sources.
use Rattle.std.proofs.Common.{◌≡◌, ℕ, List, [], ◌∷◌, ◌++◌, length, map, flat_map, Contains, refl, sym, ap, ◌∙◌, subst}
use Rattle.std.specs.Prelude.{Option, Some, IsSome}
use Rattle.std.specs.List.{AllZip}
use Rattle.std.specs.Map.{keys_of, values_of}
use Rattle.std.specs.Cmp.Lexicographic.{nat_list_eq_equiv}
use Rattle.std.proofs.lemmas.Slice.Eq.{bytes_eq-Decides}
use Rattle.std.proofs.lemmas.Map.Views.{Contains-keys_from_lookup, IsSome-lookup_from_Contains, lookup-from_Contains}
use Rattle.cube_core.proofs.ListLaws.{Contains-head, Contains-tail}
use Rattle.cube_core.specs.Arrival.{Arrivals, of_sources}
use Rattle.cube_core.specs.Layout.{Layout}
use Rattle.cube_core.specs.Life.{life_of, changes_of}
use Rattle.cube_core.specs.Sources.{SurviveTogether}
use Rattle.cube_core.specs.Surviving.{AreSurviving}
use Rattle.cube_core.specs.declared.fact.Fact.{Fact}
use Rattle.cube_core.specs.declared.change.Item.{Item}
use Rattle.cube_ledger.specs.Book.{Entries, IsBook, fact_at, facts_of, ids_of}
use Rattle.cube_ledger.specs.Ledger.{AccountView, LedgerView, AccountStandsAt, LedgerStandsAt, all_facts}

-- what is looked up of the ids of some entries of a book are their facts
facts-looked_up : (book es : Entries) → IsBook book → ((e : List ℕ × Fact) → Contains es e → Contains book e)
    → map Some (values_of es) ≡ map (fact_at book) (keys_of es)
facts-looked_up book [] once among = refl
facts-looked_up book (e ∷ es) once among =
    let here : Some e.1 ≡ fact_at book e.0 =
    sym (lookup-from_Contains nat_list_eq_equiv e.0 e.1 book once (among e (Contains-head e es))) in
    let rest : map Some (values_of es) ≡ map (fact_at book) (keys_of es) =
    facts-looked_up book es once (λ x x_in. among x (Contains-tail e es x x_in)) in
    λ i. here i ∷ rest i

-- a map of functions that are alike
map-alike : {X Y : Type 0} (f g : X → Y) (xs : List X) → ((x : X) → f x ≡ g x) → map f xs ≡ map g xs
map-alike f g [] same = refl
map-alike f g (x ∷ xs) same = λ i. same x i ∷ map-alike f g xs same i

-- the facts of an account that stands at items survive them
AreSurviving-account : (s : Layout) (items : List Item) (account : AccountView) → AccountStandsAt s items account
    → AreSurviving s items (facts_of account.book)
AreSurviving-account s items account stands = record {
  ids = ids_of account.book;
  each_once = stands.each_once;
  present = λ id. (
    λ there. Contains-keys_from_lookup (λ x y same. (bytes_eq-Decides x y).0 same) id account.book
        (subst (λ (o : Option Fact). IsSome o) (sym (stands.facts id)) there),
    λ among. subst (λ (o : Option Fact). IsSome o) (stands.facts id)
        (IsSome-lookup_from_Contains nat_list_eq_equiv id account.book among),
  );
  facts_are_theirs =
      facts-looked_up account.book account.book stands.each_once (λ e among. among)
      ∙ map-alike (fact_at account.book) (λ id. life_of id (changes_of s items)) (ids_of account.book) stands.facts;
}

-- so do those of accounts one after another
survive-each : (s : Layout) (feeds : List (List Item)) (accounts : List AccountView)
    → AllZip (AccountStandsAt s) feeds accounts
    → AllZip (AreSurviving s) feeds (map (λ (account : AccountView). facts_of account.book) accounts)
survive-each s [] [] stand = tt
survive-each s [] (a ∷ accounts) stand = absurd stand
survive-each s (items ∷ feeds) [] stand = absurd stand
survive-each s (items ∷ feeds) (a ∷ accounts) stand =
    (AreSurviving-account s items a stand.0, survive-each s feeds accounts stand.1)

all_facts-joined : (accounts : List AccountView)
    → all_facts accounts ≡ flat_map (λ part. part) (map (λ (account : AccountView). facts_of account.book) accounts)
all_facts-joined [] = refl
all_facts-joined (a ∷ accounts) = ap (λ facts. facts_of a.book ++ facts) (all_facts-joined accounts)

-- the facts of all sources survive together
pub SurviveTogether-stands : (ledger : LedgerView) (arrivals : Arrivals) → LedgerStandsAt ledger arrivals
    → SurviveTogether ledger.schema (of_sources (length ledger.accounts) arrivals) (all_facts ledger.accounts)
SurviveTogether-stands ledger arrivals stands = record {
  parts = map (λ (account : AccountView). facts_of account.book) ledger.accounts;
  of_each = survive-each ledger.schema (of_sources (length ledger.accounts) arrivals) ledger.accounts stands;
  joined = all_facts-joined ledger.accounts;
}
