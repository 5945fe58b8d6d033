-- From a run on one thread to what a page is shown.
use Rattle.std.proofs.Common.{◌≡◌, ◌∙◌, ℕ, List, [], ◌∷◌, length, map, drop, sym, subst, ap, refl, Bor}
use Rattle.std.specs.Prelude.{Option, Some, suc}
use Rattle.cube_core.proofs.ListLaws.{AllZip-length}
use Rattle.cube_core.specs.Layout.{Layout}
use Rattle.cube_core.specs.Run.{SourceBytes, AreItemsOf}
use Rattle.cube_core.specs.Text.{text_of_refusals}
use Rattle.cube_build.specs.Builder.{BuilderView, StandsAt}
use Rattle.cube_live.proofs.RefusalLaws.{refusals_of_accounts}
use Rattle.cube_tool.specs.Run.{IsTextOf, OfFeeds, StandsOver, Wrote}
use Rattle.cube_tool.specs.declared.question.Question.TheVariants.{Cube, Refusals}
use Rattle.cube_tool.proofs.RunLaws.{refused-StandsOver}
use Rattle.cube_page.specs.Page.{feeds_in}

-- a text that was written alone is the cube's, and the refusals of the builder are those of the feeds
pub OfFeeds-shown : {s : Layout} {sources : SourceBytes} {builder : BuilderView} {cube refusals : List ℕ}
    → builder.ledger.schema ≡ s → length builder.ledger.accounts ≡ length sources
    → refusals ≡ text_of_refusals (refusals_of_accounts builder.ledger.accounts)
    → OfFeeds s sources (λ feeds. Wrote (IsTextOf Cube s feeds) (Some []) (Some cube)
    × StandsOver (StandsAt builder) feeds)
    → OfFeeds s sources (λ feeds. IsTextOf Cube s feeds cube × IsTextOf Refusals s feeds refusals)
OfFeeds-shown {s = s} {sources = sources} {builder = builder} schema all refused of =
    let wrote = of.holds.0 in
    record {
      feeds = of.feeds;
      good = of.good;
      items = of.items;
      holds = (
        subst (IsTextOf Cube s of.feeds) (sym wrote.written) wrote.holds,
        record {
          facts = wrote.holds.facts;
          survive = wrote.holds.survive;
          tells = refused ∙ ap text_of_refusals (refused-StandsOver {builder = builder} schema
              (all ∙ AllZip-length (AreItemsOf s) sources of.feeds of.items) of.holds.1);
        },
      );
    }

-- the bytes of readers, once or by way of their texts
pub map-once : (readers : List (Bor (List ℕ)))
    → map (λ (bytes : List ℕ). Some bytes) (map (λ (reader : Bor (List ℕ)). reader.now) readers)
    ≡ map (λ (reader : Bor (List ℕ)). Some reader.now) readers
map-once [] = refl
map-once (reader ∷ readers) = ap (λ (rest : List (Option (List ℕ))). Some reader.now ∷ rest) (map-once readers)

-- there is a feed for each length
pub length-feeds_in : (lengths bytes : List ℕ) → length (feeds_in lengths bytes) ≡ length lengths
length-feeds_in [] bytes = refl
length-feeds_in (n ∷ lengths) bytes = ap suc (length-feeds_in lengths (drop n bytes))
