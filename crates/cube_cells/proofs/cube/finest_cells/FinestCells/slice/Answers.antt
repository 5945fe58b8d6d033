use Rattle.std.proofs.Common.{◌≡◌, ap, arith, length}
use Rattle.std.proofs.lemmas.Result.{IfOk-weaker}
use Rattle.cube_core.specs.Query.{matches}
use Rattle.cube_cells.specs.BottomUp.{cells_of_items}
use Rattle.cube_cells.specs.Rows.{AreWantsMatched, AreWantsOf}
use Rattle.cube_cells.proofs.Cells.SchemaLaws.{few_dimensions, its_schema}
use Rattle.cube_cells.proofs.Rows.FinestRowLaws.{AreRowsWhere-nil}
use Rattle.cube_cells.proofs.Rows.SliceLaws.{AreWantsOf-AreWantsMatched, matches-length}
use Rattle.cube_cells.proofs.cube.finest_cells.FinestCells.slice.Goals as goal

-- a pattern of another width matches no cell
pub returns-then-wanted-len : goal.returns-then-wanted-len
returns-then-wanted-len g c = λ facts of.
    let pattern = c.args.pattern.now in
    rw (← c.self.view_is, c.new.ensures.items) (AreRowsWhere-nil c.self.inside.schema c.self.inside.facts
    c.self.inside.texts.items (cells_of_items c.self.inside.items.items) (matches pattern) facts c.self.invariant.0
    (λ codes. matches-length c.self.inside.texts.items pattern codes
    (λ same. c.if-wanted-len.true (omega (arith, ap (λ ws. length ws) c.wanted-wanted.ensures, same, c.len.ensures))))
    (rw (← c.self.view_is) at of))

pub wants_of-requires : goal.wants_of-requires
wants_of-requires g c = rw (← c.self.view_is) (omega (arith, c.if-wanted-len.false, c.len.ensures))

pub rows_where-requires : goal.rows_where-requires
rows_where-requires g c = rw c.deref.ensures.value (omega (
  arith,
  c.in_ok-wants.ensures.long,
  ap (λ l. length l.dictionaries) c.self.view_is,
  c.self.invariant.0.coded.lattice.dictionaries,
  few_dimensions (its_schema c.self.invariant.0.coded.lattice),
))

pub returns : goal.returns
returns g c =
    let dictionaries = c.args.self.now.dictionaries in
    let pattern = c.args.pattern.now in
    let wants = c.in_ok-wants.wants.items in
    let wide : length pattern ≡ length dictionaries = rw (← c.self.view_is)
    (omega (arith, ap (λ ws. length ws) c.wanted-wanted.ensures, c.if-wanted-len.false, c.len.ensures)) in
    let matched : AreWantsMatched dictionaries pattern wants = rw c.wanted-wanted.ensures at c.in_ok-wants.ensures.wants in
    let are : AreWantsOf dictionaries (matches pattern) wants =
    AreWantsOf-AreWantsMatched dictionaries pattern wants wide c.in_ok-wants.ensures.long matched in
    IfOk-weaker c.rows_where.result _ _
    (λ rows given. given (matches pattern) (rw c.deref.ensures.value are)) c.rows_where.ensures
