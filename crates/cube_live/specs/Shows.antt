-- What the text shows that a question is answered by, over the items of all sources (this project's choice).
use Rattle.std.specs.Prelude.{◌≡◌, ◌++◌, ◌-◌, nat_lt, ⊤, ℕ, Bool, false, List, [], length, map, filter, get_or}
use Rattle.std.specs.List.{flat_map}
use Rattle.std.specs.Ordering.{eq_by_cmp}
use Rattle.cube_core.specs.Layout.{Layout, number_of_dimensions}
use Rattle.cube_core.specs.Order.{key_cmp}
use Rattle.cube_core.specs.Printed.{IsPrinted}
use Rattle.cube_core.specs.Query.{AreRowsWhere, drills_down, matches, rolled_up}
use Rattle.cube_core.specs.Refusals.{refusals_of}
use Rattle.cube_core.specs.Sources.{SurviveTogether}
use Rattle.cube_core.specs.TextPlaces.{counted}
use Rattle.cube_core.specs.Text.{refusal_header, refusal_line, text_of_refusals, text_of_rows}
use Rattle.cube_core.specs.declared.change.Item.{Item}
use Rattle.cube_core.specs.declared.change.Refusal.{Refusal}
use Rattle.cube_core.specs.declared.fact.Fact.{Fact}
use Rattle.cube_core.specs.declared.key.Key.{Key}
use Rattle.cube_core.specs.declared.key.Row.{Row}
use Rattle.cube_live.specs.declared.request.Question.{Question}
use Rattle.cube_live.specs.declared.request.Question.TheVariants.{Print, Slice, Drill, RollUp, Refusals, RefusalsAfter}
use Rattle.cube_live.specs.declared.request.Question.TheVariants.{Sync}

-- a text shows the printed cube of the facts that survive in all sources
pub record ShowsCube (s : Layout) (feeds : List (List Item)) (text : List ℕ) : Type 0 where
  pub facts : List Fact
  pub survive : SurviveTogether s feeds facts
  pub printed : IsPrinted s facts text

-- a text is that of the rows of the cube over these facts whose keys pass a test; a text that is counted counts as a
-- number of its own
pub record IsTextWhere (test : Key → Bool) (s : Layout) (facts : List Fact) (text : List ℕ) : Type 0 where
  pub rows : List Row
  pub are_rows : AreRowsWhere test s.grouping_sets (number_of_dimensions s) s.aggregates (map (counted s) facts) rows
  pub text_is : text ≡ text_of_rows s rows

-- a text shows the rows, of the cube over the facts that survive in all sources, whose keys pass a test
pub record ShowsRows (test : Key → Bool) (s : Layout) (feeds : List (List Item)) (text : List ℕ) : Type 0 where
  pub facts : List Fact
  pub survive : SurviveTogether s feeds facts
  pub is_text : IsTextWhere test s facts text

-- whether a key is this one
abbrev pub is_key : Key → Key → Bool
is_key above key = eq_by_cmp key_cmp above key

-- a question is one of the rows whose keys pass a test: a slice, a drill-down or a roll-up
abbrev pub AsksRows : Question → Type 0
AsksRows (Slice pattern) = ⊤
AsksRows (Drill key dimension) = ⊤
AsksRows (RollUp key dimension) = ⊤
AsksRows _ = ⊥

-- whether a question of rows asks for that of a key; any other question asks for none
abbrev pub asks_for : Question → Key → Bool
asks_for Print key = false
asks_for (Slice pattern) key = matches pattern key
asks_for (Drill above dimension) key = drills_down dimension above key
asks_for (RollUp below dimension) key = is_key (rolled_up dimension below) key
asks_for Refusals key = false
asks_for (RefusalsAfter source number) key = false
asks_for Sync key = false

-- whether a refusal is numbered above a record
abbrev pub is_after : ℕ → Refusal → Bool
is_after number refusal = nat_lt number refusal.number

-- the text of the refusals of a source after a record of it
abbrev pub text_after : ℕ → ℕ → List Refusal → List ℕ
text_after source number refusals = refusal_header ++ flat_map (refusal_line source) (filter (is_after number) refusals)

-- a text shows what a question asks of the items of all sources
abbrev pub Shows : Question → Layout → List (List Item) → List ℕ → Type 0
Shows Print s feeds text = ShowsCube s feeds text
Shows (Slice pattern) s feeds text = ShowsRows (matches pattern) s feeds text
Shows (Drill key dimension) s feeds text = ShowsRows (drills_down dimension key) s feeds text
Shows (RollUp key dimension) s feeds text = ShowsRows (is_key (rolled_up dimension key)) s feeds text
Shows Refusals s feeds text = text ≡ text_of_refusals (map (refusals_of s) feeds)
Shows (RefusalsAfter source number) s feeds text =
    text ≡ text_after source number (refusals_of s (get_or feeds (source - 1) []))
Shows Sync s feeds text = text ≡ []
