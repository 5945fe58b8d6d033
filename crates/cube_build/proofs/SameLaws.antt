-- Cubes of the same facts, and builders that stand at lists which have the same items of each source.
use Rattle.std.proofs.Common.{◌≡◌, ℕ, Bool, List, [], ◌∷◌, ◌++◌, length, sym, ap, ◌∙◌, subst, inl, inr}
use Rattle.std.proofs.Common.{false}
use Rattle.std.specs.Prelude.{Option, Some, None, if◌then◌else◌}
use Rattle.std.specs.Option.{option_to_list}
use Rattle.std.specs.List.{AllByRecursion, AllZip}
use Rattle.std.specs.List.Sorted.{IsPermutation}
use Rattle.std.specs.Map.{keys_of, remove_entry}
use Rattle.std.specs.Str.{bytes_eq}
use Rattle.std.specs.Cmp.Lexicographic.{nat_list_eq_equiv}
use Rattle.std.proofs.lemmas.Bool.{cases_Bool, cond-true}
use Rattle.std.proofs.lemmas.Map.{lookup-remove_entry}
use Rattle.std.proofs.lemmas.Map.Keys.{IsDistinct-cons, IsDistinct-head, IsDistinct-tail}
use Rattle.std.proofs.lemmas.List.Sorted.{IsPermutation-append, IsPermutation-cons, IsPermutation-refl}
use Rattle.std.proofs.lemmas.List.Sorted.{IsPermutation-middle, IsPermutation-sym, IsPermutation-trans}
use Rattle.cube_core.specs.Arrival.{Arrivals, of_sources}
use Rattle.cube_core.specs.Layout.{Layout}
use Rattle.cube_core.specs.declared.change.Item.{Item}
use Rattle.cube_core.specs.declared.fact.Fact.{Fact}
use Rattle.cube_cells.specs.Cube.{Lattice, SameCells, SameSets}
use Rattle.cube_build.specs.Builder.{BuilderView, CountsFacts, StandsAt}
use Rattle.cube_ledger.specs.Book.{Entries, IsBook, fact_at, facts_of}
use Rattle.cube_ledger.specs.Ledger.{AccountView, AccountStandsAt, all_facts}
use Rattle.cube_build.proofs.FactLaws.{CountsFacts-permutation, CountsFacts-plain, SameCells-CountsFacts}

pub SameCells-permutation : (facts others : List Fact) (a b : Lattice) → IsPermutation facts others → SameSets a b
    → CountsFacts facts a → CountsFacts others b → SameCells a b
SameCells-permutation facts others a b moved same of_a of_b =
    SameCells-CountsFacts others a b same (CountsFacts-permutation facts others a moved of_a) of_b

-- ---- books that agree at each id

all-without : (P : List ℕ → Type 0) (test : List ℕ → Bool) (es : Entries) → AllByRecursion P (keys_of es)
    → AllByRecursion P (keys_of (remove_entry test es))
all-without P test [] all = tt
all-without P test (e ∷ es) all = elim (cases_Bool (test e.0)) [
  | inl here ↦ rw here all.1
  | inr other ↦ rw other (all.0, all-without P test es all.1)
]

book-without : (test : List ℕ → Bool) (es : Entries) → IsBook es → IsBook (remove_entry test es)
book-without test [] once = once
book-without test (e ∷ es) once = elim (cases_Bool (test e.0)) [
  | inl here ↦ rw here (IsDistinct-tail bytes_eq e.0 (keys_of es) once)
  | inr other ↦
      rw other
      (IsDistinct-cons bytes_eq e.0 _
      (all-without (λ y. bytes_eq e.0 y ≡ false) test es (IsDistinct-head bytes_eq e.0 (keys_of es) once))
      (book-without test es (IsDistinct-tail bytes_eq e.0 (keys_of es) once)))
]

-- what a book has without the entry of an id
at-without : (es : Entries) (id other : List ℕ) → IsBook es
    → fact_at (remove_entry (bytes_eq id) es) other ≡ (if bytes_eq id other then None else fact_at es other)
at-without es id other once =
    lookup-remove_entry nat_list_eq_equiv (bytes_eq id) (nat_list_eq_equiv.congr id) other es once

-- the fact of an id, if there is one, and those that a book has without it
pulled : (es : Entries) (id : List ℕ)
    → IsPermutation (facts_of es) (option_to_list (fact_at es id) ++ facts_of (remove_entry (bytes_eq id) es))
pulled [] id = IsPermutation-refl []
pulled (e ∷ es) id = elim (cases_Bool (bytes_eq id e.0)) [
  | inl found ↦ rw found (IsPermutation-refl (e.1 ∷ facts_of es))
  | inr other ↦
      rw other
      (IsPermutation-trans _ _ _
      (IsPermutation-cons e.1 _ _ (pulled es id))
      (IsPermutation-sym _ _
      (IsPermutation-middle (option_to_list (fact_at es id)) e.1 (facts_of (remove_entry (bytes_eq id) es)))))
]

-- books that agree at each id have the same facts
facts-alike : (a b : Entries) → IsBook a → IsBook b → ((id : List ℕ) → fact_at a id ≡ fact_at b id)
    → IsPermutation (facts_of a) (facts_of b)
facts-alike [] [] once once' same = IsPermutation-refl []
facts-alike [] (e ∷ b) once once' same =
    let none : None ≡ Some e.1 = rw (nat_list_eq_equiv.refl e.0) at (same e.0) in
    absurd (cc none)
facts-alike (e ∷ a) b once once' same =
    let id = e.0 in
    let here : Some e.1 ≡ fact_at b id = rw (nat_list_eq_equiv.refl id) at (same id) in
    let gone : remove_entry (bytes_eq id) (e ∷ a) ≡ a =
    cond-true (bytes_eq id id) a (e ∷ remove_entry (bytes_eq id) a) (nat_list_eq_equiv.refl id) in
    let rest = facts-alike a (remove_entry (bytes_eq id) b) (IsDistinct-tail bytes_eq id (keys_of a) once)
    (book-without (bytes_eq id) b once')
    (λ other. ap (λ (es : Entries). fact_at es other) (sym gone) ∙ at-without (e ∷ a) id other once
    ∙ ap (λ (found : Option Fact). if bytes_eq id other then None else found) (same other)
    ∙ sym (at-without b id other once')) in
    let left : List Fact = facts_of (remove_entry (bytes_eq id) b) in
    let found : IsPermutation (facts_of b) (e.1 ∷ left) =
    subst (λ (o : Option Fact). IsPermutation (facts_of b) (option_to_list o ++ left)) (sym here) (pulled b id) in
    IsPermutation-trans (e.1 ∷ facts_of a) (e.1 ∷ left) (facts_of b)
    (IsPermutation-cons e.1 (facts_of a) left rest) (IsPermutation-sym (facts_of b) (e.1 ∷ left) found)

-- ---- accounts that stand at the same items

all_facts-alike : (s : Layout) (feeds : List (List Item)) (accounts others : List AccountView)
    → AllZip (AccountStandsAt s) feeds accounts → AllZip (AccountStandsAt s) feeds others
    → IsPermutation (all_facts accounts) (all_facts others)
all_facts-alike s [] [] [] of_a of_b = IsPermutation-refl []
all_facts-alike s [] [] (b ∷ others) of_a of_b = absurd of_b
all_facts-alike s [] (a ∷ accounts) others of_a of_b = absurd of_a
all_facts-alike s (items ∷ feeds) [] others of_a of_b = absurd of_a
all_facts-alike s (items ∷ feeds) (a ∷ accounts) [] of_a of_b = absurd of_b
all_facts-alike s (items ∷ feeds) (a ∷ accounts) (b ∷ others) of_a of_b =
    IsPermutation-append (facts_of a.book) (facts_of b.book) (all_facts accounts) (all_facts others)
    (facts-alike a.book b.book of_a.0.each_once of_b.0.each_once
    (λ id. of_a.0.facts id ∙ sym (of_b.0.facts id)))
    (all_facts-alike s feeds accounts others of_a.1 of_b.1)

pub SameCells-stand : (a b : BuilderView) (arrivals others : Arrivals) → SameSets a.cube b.cube
    → a.ledger.schema.text_places ≡ [] → b.ledger.schema ≡ a.ledger.schema
    → of_sources (length a.ledger.accounts) arrivals ≡ of_sources (length b.ledger.accounts) others
    → StandsAt a arrivals → StandsAt b others → SameCells a.cube b.cube
SameCells-stand a b arrivals others same none schema agree of_a of_b =
    let stand : AllZip (AccountStandsAt a.ledger.schema) (of_sources (length a.ledger.accounts) arrivals)
    b.ledger.accounts =
    subst (λ (feeds : List (List Item)). AllZip (AccountStandsAt a.ledger.schema) feeds b.ledger.accounts) (sym agree)
    (subst (λ (s : Layout). AllZip (AccountStandsAt s) (of_sources (length b.ledger.accounts) others)
    b.ledger.accounts) schema of_b.ledger) in
    SameCells-permutation (all_facts a.ledger.accounts) (all_facts b.ledger.accounts) a.cube b.cube
    (all_facts-alike a.ledger.schema (of_sources (length a.ledger.accounts) arrivals) a.ledger.accounts
    b.ledger.accounts of_a.ledger stand) same
    (CountsFacts-plain a.ledger.schema (all_facts a.ledger.accounts) a.cube none of_a.cube)
    (CountsFacts-plain b.ledger.schema (all_facts b.ledger.accounts) b.cube
    (ap (λ (s : Layout). s.text_places) schema ∙ none) of_b.cube)
