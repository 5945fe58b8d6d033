use Rattle.std.proofs.Common.{◌≤◌, ◌≡◌, ◌∙◌, ◌++◌, Bool, true, false, List, length, map, ap, sym, subst}
use Rattle.std.specs.Prelude.{All, is_ok, if◌then◌else◌}
use Rattle.std.specs.List.{list_all}
use Rattle.std.proofs.lemmas.List.{map-append}
use Rattle.std.proofs.lemmas.List.Elements.{All-append}
use Rattle.cube_core.specs.Layout.{is_aggregate_of}
use Rattle.cube_core.specs.declared.aggregate.Agg.{Agg}
use Rattle.cube_core.specs.declared.key.Key.{Key}
use Rattle.cube_cells.specs.Codes.{key_at}
use Rattle.cube_cells.specs.Rows.{CellsInOrder}
use Rattle.cube_cells.specs.Tally.{Tally}
use Rattle.cube_cells.specs.declared.cube.ordered.Coded.{Coded}
use Rattle.cube_cells.proofs.cube.ordered.OrderedCells.append.Goals as goal

abbrev cell_of : Coded → Key × Tally
cell_of p = (key_at p.dictionaries.now p.codes.now.codes, p.cell.now)

-- what the invariant says of a cell
abbrev Fits : List Agg → Coded → Type 0
Fits aggregates p =
    (length p.dictionaries.now ≤ 8) × (list_all (is_aggregate_of (length p.cell.now.bags)) aggregates ≡ true)

-- what is true of the elements of two lists is true of what an append leaves
All-appended : {X : Type 0} (P : X → Type 0) (done : Bool) (xs ys : List X) → All P xs → All P ys
    → All P (if done then xs ++ ys else xs)
All-appended P true xs ys left right = All-append P xs ys left right
All-appended P false xs ys left right = left

pub invariant_of-self : goal.invariant_of-self
invariant_of-self c =
    let aggregates_of : CellsInOrder → List Agg = λ o. o.aggregates in
    let same : c.other.inside.aggregates.now ≡ c.self.inside.aggregates.now =
    ap aggregates_of c.other.view_is ∙ c.requires ∙ sym (ap aggregates_of c.self.view_is) in
    let right : All (Fits c.self.inside.aggregates.now) c.other.inside.cells.items =
    subst (λ (a : List Agg). All (Fits a) c.other.inside.cells.items) same c.other.invariant in
    subst (All (Fits c.self.inside.aggregates.now)) (sym c.append.ensures.items)
    (All-appended (Fits c.self.inside.aggregates.now)
    (is_ok c.append.result) c.self.inside.cells.items c.other.inside.cells.items c.self.invariant right)

pub invariant_of-self-2 : goal.invariant_of-self-2
invariant_of-self-2 c =
    let aggregates_of : CellsInOrder → List Agg = λ o. o.aggregates in
    let same : c.other.inside.aggregates.now ≡ c.self.inside.aggregates.now =
    ap aggregates_of c.other.view_is ∙ c.requires ∙ sym (ap aggregates_of c.self.view_is) in
    let right : All (Fits c.self.inside.aggregates.now) c.other.inside.cells.items =
    subst (λ (a : List Agg). All (Fits a) c.other.inside.cells.items) same c.other.invariant in
    subst (All (Fits c.self.inside.aggregates.now)) (sym c.append.ensures.items)
    (All-appended (Fits c.self.inside.aggregates.now)
    (is_ok c.append.result) c.self.inside.cells.items c.other.inside.cells.items c.self.invariant right)

pub returns-clause-cells : goal.returns-clause-cells
returns-clause-cells c =
    rw (← c.self.view_is, ← c.other.view_is)
    (ap (map cell_of) c.in_ok-append.ensures.items
    ∙ map-append cell_of c.self.inside.cells.items c.other.inside.cells.items)
