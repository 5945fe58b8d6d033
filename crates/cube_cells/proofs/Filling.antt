-- Laws of cubes that are filled at once.
pub mod FillLaws
pub mod FinerLaws
pub mod FilledLaws
pub mod LevelLaws
pub mod MovedLaws
pub mod GatheredLaws
pub mod MergedLaws
pub mod BottomUpLaws
pub mod BottomUpCellLaws
pub mod BottomUpCubeLaws
pub mod RankedLaws
pub mod PruneLaws
pub mod KeptKeyLaws
pub mod PartLaws
pub mod RangeLaws
