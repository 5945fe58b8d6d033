-- Laws of the tallies of groups of facts.
pub mod SumLaws
pub mod TallyLaws
pub mod StatisticsLaws
pub mod MergeLaws
pub mod ValueLaws
pub mod FactLaws
pub mod GroupLaws
