pub mod BagLaws
pub mod EndLaws
pub mod NarrowLaws
pub mod PlaceLaws
mod SummaryLaws
pub mod GrownLaws
mod LogLaws
mod OwedLaws
mod OrderedLaws
mod TableLaws
pub mod StatisticsLaws
pub mod HeldLaws
