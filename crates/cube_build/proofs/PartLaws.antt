-- Builders that stand at one arrival list have the same facts, and their cubes are the parts of one.
use Rattle.std.proofs.Common.{◌≡◌, ◌<◌, ℕ, false, List, [], ◌∷◌, length, get_or, remove, Contains, IsPermutation}
use Rattle.std.proofs.Common.{refl, sym, subst, ◌∙◌, arith, inl, inr}
use Rattle.std.specs.List.{AllZip}
use Rattle.std.specs.Str.{bytes_eq}
use Rattle.std.specs.Map.{keys_of}
use Rattle.std.specs.Cmp.Lexicographic.{nat_list_eq_equiv}
use Rattle.std.proofs.lemmas.Bool.{both_ways}
use Rattle.std.proofs.lemmas.List.Sorted.{IsPermutation-refl, IsPermutation-sym, IsPermutation-trans}
use Rattle.std.proofs.lemmas.List.Sorted.{IsPermutation-cons, IsPermutation-map, IsPermutation-append}
use Rattle.std.proofs.lemmas.List.Sorted.{IsPermutation-remove, Contains-permutation}
use Rattle.std.proofs.lemmas.Map.Keys.{IsDistinct-head, IsDistinct-tail, IsDistinct-IsPermutation}
use Rattle.std.proofs.lemmas.Map.Views.{lookup-from_Contains, Contains-from_lookup}
use Rattle.std.proofs.lemmas.Slice.Eq.{bytes_eq-Decides}
use Rattle.cube_core.proofs.ListLaws.{AllByRecursion-Contains, Contains-cases, Contains-head, Contains-nil}
use Rattle.cube_core.proofs.ListLaws.{Contains-tail, map-Contains}
use Rattle.cube_core.specs.Arrival.{Arrivals, of_sources}
use Rattle.cube_core.specs.Layout.{Layout, cube_schema}
use Rattle.cube_core.specs.declared.fact.Fact.{Fact}
use Rattle.cube_core.specs.declared.change.Item.{Item}
use Rattle.cube_ledger.specs.Book.{Entries, IsBook, fact_at, facts_of}
use Rattle.cube_build.specs.Builder.{BuilderView}
use Rattle.cube_build.specs.Joined.{ArePartsOfOne, EachSchema}
use Rattle.cube_ledger.specs.Ledger.{AccountView, LedgerView, AccountStandsAt, LedgerStandsAt, all_facts}
use Rattle.cube_build.specs.Parts.{first_ledger, AreParts}

-- an entry of a book isn't among those after it
entry-once : (e : List ℕ × Fact) (es : Entries) → IsBook (e ∷ es) → Contains es e → ⊥
entry-once e es once among =
    both_ways (bytes_eq e.0 e.0) (AllByRecursion-Contains (λ id. bytes_eq e.0 id ≡ false) (keys_of es) e.0
    (IsDistinct-head bytes_eq e.0 (keys_of es) once) (map-Contains (λ (f : List ℕ × Fact). f.0) es e among))
    (nat_list_eq_equiv.refl e.0)

-- what is contained after an entry that stands once is contained after it in the other book
after-once : (e : List ℕ × Fact) (es fs : Entries) → (Contains es e → ⊥)
    → ((f : List ℕ × Fact) → Contains (e ∷ es) f → Contains (e ∷ fs) f) → (f : List ℕ × Fact) → Contains es f
    → Contains fs f
after-once e es fs once within f among = elim (Contains-cases e fs f (within f (Contains-tail e es f among))) [
  | inl head ↦ absurd (once (subst (Contains es) (sym head) among))
  | inr rest ↦ rest
]

-- books that contain the same entries have them in some order
entries-alike : (es fs : Entries) → IsBook es → IsBook fs → ((e : List ℕ × Fact) → Contains es e → Contains fs e)
    → ((e : List ℕ × Fact) → Contains fs e → Contains es e) → IsPermutation es fs
entries-alike [] [] once_e once_f to from = IsPermutation-refl []
entries-alike [] (f ∷ fs) once_e once_f to from = absurd (Contains-nil f (from f (Contains-head f fs)))
entries-alike (e ∷ es) fs once_e once_f to from =
    let found = to e (Contains-head e es) in
    let others : Entries = remove fs found.0 in
    let moved : IsPermutation fs (e ∷ others) = IsPermutation-remove fs found.0 e found.1 (sym found.2) in
    let moved_back : IsPermutation (e ∷ others) fs = IsPermutation-sym fs (e ∷ others) moved in
    let once : IsBook (e ∷ others) = IsDistinct-IsPermutation bytes_eq nat_list_eq_equiv.symm (keys_of fs)
    (keys_of (e ∷ others)) (IsPermutation-map (λ (f : List ℕ × Fact). f.0) fs (e ∷ others) moved) once_f in
    IsPermutation-trans (e ∷ es) (e ∷ others) fs
    (IsPermutation-cons e es others
    (entries-alike es others (IsDistinct-tail bytes_eq e.0 (keys_of es) once_e)
    (IsDistinct-tail bytes_eq e.0 (keys_of others) once)
    (after-once e es others (entry-once e es once_e)
    (λ f among. Contains-permutation fs (e ∷ others) f moved (to f among)))
    (after-once e others es (entry-once e others once)
    (λ f among. from f (Contains-permutation (e ∷ others) fs f moved_back among)))))
    moved_back

-- an entry of a book is one of another book that has the same under each id
entry-there : (a b : Entries) → IsBook a → ((id : List ℕ) → fact_at a id ≡ fact_at b id) → (e : List ℕ × Fact)
    → Contains a e → Contains b e
entry-there a b once same e among =
    Contains-from_lookup (λ x y is. (bytes_eq-Decides x y).0 is) e.0 e.1 b
    (sym (same e.0) ∙ lookup-from_Contains nat_list_eq_equiv e.0 e.1 a once among)

-- books that have the same under each id have the same facts, but for their order
facts-alike : (a b : Entries) → IsBook a → IsBook b → ((id : List ℕ) → fact_at a id ≡ fact_at b id)
    → IsPermutation (facts_of a) (facts_of b)
facts-alike a b once_a once_b same =
    IsPermutation-map (λ (e : List ℕ × Fact). e.1) a b
    (entries-alike a b once_a once_b (entry-there a b once_a same) (entry-there b a once_b (λ id. sym (same id))))

-- so do accounts that stand at the same items
all-alike : (s : Layout) (feeds : List (List Item)) (own other : List AccountView)
    → AllZip (AccountStandsAt s) feeds own → AllZip (AccountStandsAt s) feeds other
    → IsPermutation (all_facts own) (all_facts other)
all-alike s [] [] [] stand stand' = IsPermutation-refl []
all-alike s [] (a ∷ own) other stand stand' = absurd stand
all-alike s [] [] (b ∷ other) stand stand' = absurd stand'
all-alike s (items ∷ feeds) [] other stand stand' = absurd stand
all-alike s (items ∷ feeds) (a ∷ own) [] stand stand' = absurd stand'
all-alike s (items ∷ feeds) (a ∷ own) (b ∷ other) stand stand' =
    IsPermutation-append (facts_of a.book) (facts_of b.book) (all_facts own) (all_facts other)
    (facts-alike a.book b.book stand.0.each_once stand'.0.each_once (λ id. stand.0.facts id ∙ sym (stand'.0.facts id)))
    (all-alike s feeds own other stand.1 stand'.1)

-- and ledgers of one schema and as many sources that stand at one arrival list
pub ledgers-alike : (s : Layout) (sources : ℕ) (arrivals : Arrivals) (a b : LedgerView) → a.schema ≡ s → b.schema ≡ s
    → length a.accounts ≡ sources → length b.accounts ≡ sources →
    LedgerStandsAt a arrivals → LedgerStandsAt b arrivals → IsPermutation (all_facts a.accounts) (all_facts b.accounts)
ledgers-alike s sources arrivals a b schema_a schema_b all_a all_b stand_a stand_b =
    all-alike s (of_sources sources arrivals) a.accounts b.accounts (rw (schema_a, all_a) at stand_a)
    (rw (schema_b, all_b) at stand_b)

-- the ledger of builder 0, where there is one
pub first-is : (builders : List BuilderView) (d : BuilderView) → 0 < length builders
    → first_ledger builders ≡ (get_or builders 0 d).ledger
first-is [] d some = absurd (omega arith)
first-is (builder ∷ builders) d some = refl

-- the builders of a run are the parts of one cube
pub of-one : {builders : List BuilderView} → AreParts builders → ArePartsOfOne (λ builder. builder.cube) builders
of-one {builders} parts = record {
  schema = (first_ledger builders).schema;
  facts = all_facts (first_ledger builders).accounts;
  are = parts;
}

-- what is true of the schema of a run's cube is true of that of each builder's cube
pub each-schema : {builders : List BuilderView} (Is : Layout → Type 0) → AreParts builders
    → Is (cube_schema (first_ledger builders).schema) → EachSchema (λ builder. builder.cube) Is builders
each-schema Is parts is = λ part d below. subst Is (sym (parts.each part d below).over.schema) is
