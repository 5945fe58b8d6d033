use Rattle.std.proofs.Common.{arith}
use Rattle.cube_cells.proofs.Cells.SchemaLaws.{few_dimensions, its_schema}
use Rattle.cube_cells.proofs.Filling.BottomUpCubeLaws.{AreFinest-IsCoded, All-IsCodedCell, IsCubeOf-IsWalkOf}
use Rattle.cube_cells.proofs.Rows.BottomUpRowLaws.{AreRowsOver-codes_cmp}
use Rattle.cube_cells.proofs.laws.walks_give_cubes.Goals as goal

pub returns : goal.returns
returns c = record {
  cube = λ schema dictionaries facts sets items cells coded of some within walk.
      IsCubeOf-IsWalkOf schema dictionaries facts sets items cells
      (AreFinest-IsCoded schema dictionaries facts items coded of) some within walk;
  rows = λ schema dictionaries facts sets items cells rows coded of some within walk in_order zipped.
      let are = AreFinest-IsCoded schema dictionaries facts items coded of in
      AreRowsOver-codes_cmp schema dictionaries facts sets cells rows
      (omega (arith, coded.lattice.dictionaries, few_dimensions (its_schema coded.lattice))) coded.texts in_order
      (All-IsCodedCell schema dictionaries facts sets items cells are walk) walk.in_order
      (IsCubeOf-IsWalkOf schema dictionaries facts sets items cells are some within walk) zipped;
}
