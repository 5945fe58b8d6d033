use Rattle.std.proofs.Common.{◌≡◌, ◌≤◌, refl, true, length}
use Rattle.std.specs.List.{list_all}
use Rattle.cube_core.specs.Layout.{is_aggregate_of}
use Rattle.cube_core.specs.declared.key.Key.{Key}
use Rattle.cube_cells.specs.Codes.{Dictionaries, key_at}
use Rattle.cube_cells.specs.Tally.{Tally}
use Rattle.cube_cells.specs.declared.cube.codes.Codes.{Codes}
use Rattle.cube_cells.proofs.Rows.RowLaws.{All-same, map-same}
use Rattle.cube_cells.proofs.cube.ordered.OrderedCells.of.Goals as goal

pub invariant_of-result : goal.invariant_of-result
invariant_of-result c =
    let dictionaries = c.args.dictionaries.now in
    All-same {A = Dictionaries × (Codes × Tally)}
    (λ s. (length s.0 ≤ 8) × (list_all (is_aggregate_of (length s.1.1.bags)) c.args.aggregates.now ≡ true))
    (λ coded. (
      coded.dictionaries.now,
      (coded.codes.now, coded.cell.now),
    )) (λ place. (dictionaries, (place.codes.now, place.cell.now)))
    c.in_ok-cells.cells.items c.args.places.now c.in_ok-cells.ensures
    (λ k d inside. (c.requires.dictionaries, c.requires.aggregates k d inside))

pub returns : goal.returns
returns c =
    let dictionaries = c.args.dictionaries.now in
    let decoded : Dictionaries × (Codes × Tally) → Key × Tally = λ s. (key_at s.0 s.1.0.codes, s.1.1) in (
      refl,
      map-same decoded (λ coded. (
        coded.dictionaries.now,
        (coded.codes.now, coded.cell.now),
      )) (λ place. (dictionaries, (place.codes.now, place.cell.now)))
          c.in_ok-cells.cells.items c.args.places.now c.in_ok-cells.ensures,
    )
