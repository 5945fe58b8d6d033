-- Laws of the rows of a cube, and which of them are wanted.
pub mod PlaceLaws
pub mod RowLaws
pub mod DrillLaws
pub mod SliceLaws
pub mod BottomUpRowLaws
pub mod CountLaws
pub mod WalkedLaws
pub mod FinestRowLaws
