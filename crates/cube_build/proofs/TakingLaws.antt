-- Builders stand further on after an item, and where they stood after none.
use Rattle.std.proofs.Common.{◌≡◌, ℕ, List, [], ◌∷◌, ◌++◌, length, map, sym, ap, subst, ◌∙◌}
use Rattle.cube_core.specs.Arrival.{Arrivals}
use Rattle.cube_core.specs.Layout.{Layout}
use Rattle.cube_core.specs.TextPlaces.{counted_by}
use Rattle.cube_core.specs.declared.change.Item.{Item}
use Rattle.cube_core.specs.declared.fact.Fact.{Fact}
use Rattle.cube_cells.specs.Cube.{Lattice, SameCells, SameSets}
use Rattle.cube_cells.proofs.Cells.CubeLaws.{IsCubeOf-SameCells}
use Rattle.cube_build.specs.Builder.{BuilderView, HasFacts, SameBuilder, StandsAt}
use Rattle.cube_ledger.specs.Ledger.{LedgerView, LedgerStandsAt, all_facts}
use Rattle.cube_build.specs.Taking.{BuilderStandsFrom}
use Rattle.cube_build.proofs.BuilderLaws.{SameSets-trans}

-- a cube whose cells count the same has the same facts
HasFacts-SameCells : (s : Layout) (facts : List Fact) (old new : Lattice) → SameCells old new → HasFacts s facts old
    → HasFacts s facts new
HasFacts-SameCells s facts old new same has = record {
  schema = has.schema;
  fit = has.fit;
  number = has.number;
  tells_apart = has.tells_apart;
  counts = record {
    cells = IsCubeOf-SameCells old new (map (counted_by has.number (length s.text_places)) facts) same has.counts.cells;
    facts_are = same.facts ∙ has.counts.facts_are;
  };
}

-- a builder with as many accounts as before, over the same sets
pub record TakesOne (old new : BuilderView) : Type 0 where
  pub all : length new.ledger.accounts ≡ length old.ledger.accounts
  pub same : SameSets old.cube new.cube

-- a builder that took an item
pub builder-further : (old new : BuilderView) (source : ℕ) (item : Item) → TakesOne old new
    → ((arrivals : Arrivals) → StandsAt old arrivals → StandsAt new (arrivals ++ (source, item) ∷ []))
    → (first : BuilderView) (arrivals : Arrivals) → BuilderStandsFrom first old arrivals
    → BuilderStandsFrom first new (arrivals ++ (source, item) ∷ [])
builder-further old new source item takes stands first arrivals from = record {
  same = SameSets-trans first.cube old.cube new.cube from.same takes.same;
  all = takes.all ∙ from.all;
  stands_at = stands arrivals from.stands_at;
}

-- a builder whose books and cells count the same
pub builder-same : (old new : BuilderView) → SameBuilder old new → (first : BuilderView) (arrivals : Arrivals)
    → BuilderStandsFrom first old arrivals → BuilderStandsFrom first new arrivals
builder-same old new is first arrivals from =
    let ledger = is.ledger in
    let stands = from.stands_at in
    record {
      same = SameSets-trans first.cube old.cube new.cube from.same is.cells.same;
      all = ap (λ (l : LedgerView). length l.accounts) ledger ∙ from.all;
      stands_at = record {
        ledger = subst (λ (l : LedgerView). LedgerStandsAt l arrivals) (sym ledger) stands.ledger;
        cube = subst (λ (l : LedgerView). HasFacts l.schema (all_facts l.accounts) new.cube) (sym ledger)
            (HasFacts-SameCells old.ledger.schema (all_facts old.ledger.accounts) old.cube new.cube is.cells stands.cube);
      };
    }
