-- A cube that follows the books: facts more, facts less, and facts in another order.
use Rattle.std.proofs.Common.{◌≡◌, ◌≤◌, ℕ, true, List, [], ◌∷◌, ◌++◌, length, map, replicate, sym, ap, ◌∙◌, subst}
use Rattle.std.specs.Prelude.{Option, Some, IfSome, Result, Ok, Err, OnOk, OnErr}
use Rattle.std.specs.Option.{option_to_list}
use Rattle.std.proofs.lemmas.List.Elements.{All-nil}
use Rattle.std.proofs.lemmas.List.Sorted.{All-permutation}
use Rattle.cube_core.specs.Arrival.{Arrivals}
use Rattle.cube_core.specs.Layout.{Layout}
use Rattle.cube_core.specs.Takes.{fits}
use Rattle.cube_core.specs.declared.change.Item.{Item}
use Rattle.cube_core.specs.declared.fact.Fact.{Fact}
use Rattle.cube_cells.specs.CountedCube.{CountedView, HasCounted}
use Rattle.cube_cells.specs.Cube.{IsCubeOf, Lattice, SameCells, SameSets}
use Rattle.cube_cells.specs.TextNumbers.{StandFirst, number_in}
use Rattle.cube_cells.proofs.Cells.CubeLaws.{SameCells-IsCubeOf}
use Rattle.cube_cells.proofs.CountedCubeLaws.{HasCounted-IsPermutation, HasCounted-StandFirst}
use Rattle.cube_core.specs.TextPlaces.{counted_by}
use Rattle.cube_ledger.specs.Ledger.{AccountView, AllFit, AtSource, Enters, Exchanges, LedgerView}
use Rattle.cube_ledger.specs.Ledger.{all_facts, new_account, with_refusal}
use Rattle.cube_ledger.proofs.LedgerLaws.{AllFit-exchange, All-append_right, all_facts-exchange, all_facts-new}
use Rattle.cube_ledger.proofs.LedgerLaws.{all_facts-refuse}
use Rattle.cube_ledger.proofs.StandLaws.{LedgerStandsAt-Enters}
use Rattle.cube_build.specs.Builder.{BuilderView, HasFacts, IsBuilder, IsCountedFor, StandsAt}
use Rattle.cube_build.specs.Parted.{SameCounted}
use Rattle.cube_build.proofs.FactLaws.{HasFacts-HasCounted}

-- the sets stay over two changes
pub SameSets-trans : (a b c : Lattice) → SameSets a b → SameSets b c → SameSets a c
SameSets-trans a b c first second = record { schema = second.schema ∙ first.schema; sets = second.sets ∙ first.sets }

-- what a builder's cube has
pub IsBuilder-has : (ledger : LedgerView) (cube : CountedView) → IsBuilder ledger cube
    → HasFacts ledger.schema (all_facts ledger.accounts) cube.cube
IsBuilder-has ledger cube is =
    HasFacts-HasCounted ledger.schema (all_facts ledger.accounts) cube is.over is.fit is.has

-- ---- a fact of one source gives way

-- a builder whose ledger changed so, and whose cube has the facts
pub IsBuilder-exchange : (old new : LedgerView) (before after : CountedView) (source : ℕ) (id : List ℕ)
    (out come : Option Fact) → 1 ≤ source → source ≤ length old.accounts
    → AtSource (Exchanges id out come) source old new → IsBuilder old before
    → IfSome come (λ fact. fits old.schema fact ≡ true)
    → SameCounted before after → HasCounted (all_facts new.accounts) after → IsBuilder new after
IsBuilder-exchange old new before after source id out come first last at is fit same has = rw (at.schema) (record {
  over = record {
    lawful = is.over.lawful;
    schema = same.same.schema ∙ is.over.schema;
    texts = same.texts ∙ is.over.texts;
  };
  fit =
      All-append_right (λ fact. fits old.schema fact ≡ true) (option_to_list out) (all_facts new.accounts)
      (AllFit-exchange old new source id out come first last at is.fit fit);
  has = has;
})

-- ---- a new builder

-- new books have no facts
pub HasCounted-new : (cube : CountedView) (accounts : List AccountView) (sources : ℕ)
    → accounts ≡ replicate sources new_account → HasCounted [] cube → HasCounted (all_facts accounts) cube
HasCounted-new cube accounts sources are has =
    subst (λ facts. HasCounted facts cube) (sym (ap all_facts are ∙ all_facts-new sources)) has

pub IsBuilder-new : (ledger : LedgerView) (cube : CountedView) (schema : Layout) (sources : ℕ)
    → ledger.schema ≡ schema → ledger.accounts ≡ replicate sources new_account → IsCountedFor schema cube
    → HasCounted [] cube → IsBuilder ledger cube
IsBuilder-new ledger cube schema sources same are is has = rw same (record {
  over = is;
  fit = subst (AllFit schema) (sym (ap all_facts are ∙ all_facts-new sources))
      (All-nil (λ fact. fits schema fact ≡ true));
  has = HasCounted-new cube ledger.accounts sources are has;
})

-- one whose cube was filled
pub IsBuilder-filled : (ledger : LedgerView) (old new : CountedView) → IsCountedFor ledger.schema old
    → AllFit ledger.schema (all_facts ledger.accounts) → SameCounted old new
    → HasCounted (all_facts ledger.accounts) new → IsBuilder ledger new
IsBuilder-filled ledger old new is fit same has = record {
  over = record {
    lawful = is.lawful;
    schema = same.same.schema ∙ is.schema;
    texts = same.texts ∙ is.texts;
  };
  fit = fit;
  has = has;
}

-- ---- an item refused

-- a builder stays one where an item is refused, or the refusal found no memory
pub IsBuilder-refuse : {T E : Type 0} (old new : LedgerView) (cube : CountedView) (source number code : ℕ)
    (result : Result T E) → 1 ≤ source → source ≤ length old.accounts
    → OnOk result (AtSource (λ o n. n ≡ with_refusal o number code) source old new) → OnErr result (new ≡ old)
    → IsBuilder old cube → IsBuilder new cube
IsBuilder-refuse old new cube source number code (Err e) first last ok err is =
    subst (λ (l : LedgerView). IsBuilder l cube) (sym err) is
IsBuilder-refuse old new cube source number code (Ok x) first last ok err is =
    let change = all_facts-refuse old new source number code first last ok in
    rw (ok.schema) (record {
      over = is.over;
      fit = All-permutation (λ fact. fits old.schema fact ≡ true) _ _ change is.fit;
      has = HasCounted-IsPermutation (all_facts old.accounts) (all_facts new.accounts) cube change is.has;
    })

-- ---- the same facts
-- counted cubes that have the same facts, of which one has the numbers of the other, and maybe more, have the same cells
pub SameCells-HasCounted : (facts : List Fact) (old new : CountedView) → SameCounted old new
    → StandFirst old.numbers new.numbers → HasCounted facts old → HasCounted facts new → SameCells old.cube new.cube
SameCells-HasCounted facts old new same first had has =
    let counted = map (counted_by (number_in new.numbers) old.texts) facts in
    let before = HasCounted-StandFirst facts old.texts old.numbers new.numbers old.cube first had in
    SameCells-IsCubeOf old.cube new.cube counted same.same (has.facts_are ∙ sym before.facts_are) before.cells
    (subst (λ texts. IsCubeOf new.cube (map (counted_by (number_in new.numbers) texts) facts)) same.texts has.cells)

-- ---- an item more

-- a builder that stands at an arrival list stands at one arrival more
-- after its ledger took the item and its cube followed
pub StandsAt-Enters : (old new : BuilderView) (source : ℕ) (item : Item) → 1 ≤ source
    → source ≤ length old.ledger.accounts
    → AtSource (Enters old.ledger.schema item) source old.ledger new.ledger
    → HasFacts new.ledger.schema (all_facts new.ledger.accounts) new.cube
    → (arrivals : Arrivals) → StandsAt old arrivals → StandsAt new (arrivals ++ (source, item) ∷ [])
StandsAt-Enters old new source item first last enters has arrivals stands = record {
  ledger = LedgerStandsAt-Enters old.ledger new.ledger source item first last enters arrivals stands.ledger;
  cube = has;
}

-- ---- a fact put, in place of what was there

-- the facts after the fact was added and the ledger changed: what is out, and the facts of the books
pub HasCounted-put : (old new : LedgerView) (before after : CountedView) (source : ℕ) (id : List ℕ) (out : Option Fact)
    (fact : Fact) → 1 ≤ source → source ≤ length old.accounts
    → AtSource (Exchanges id out (Some fact)) source old new
    → ((facts : List Fact) → HasCounted facts before → HasCounted (fact ∷ facts) after)
    → HasCounted (all_facts old.accounts) before
    → HasCounted (option_to_list out ++ all_facts new.accounts) after
HasCounted-put old new before after source id out fact first last at adds has =
    HasCounted-IsPermutation (fact ∷ all_facts old.accounts) (option_to_list out ++ all_facts new.accounts) after
    (all_facts-exchange old new source id out (Some fact) first last at) (adds (all_facts old.accounts) has)
