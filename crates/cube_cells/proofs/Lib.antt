pub mod Tallies
pub mod Codes
pub mod Cells
mod Filling
mod Rows
pub mod TextNumberLaws
pub mod CountedCubeLaws
