mod BookLaws
mod FitLaws
pub mod LedgerLaws
pub mod StandLaws
pub mod SurvivorLaws
mod FeedLaws
mod BuildLaws
pub mod RulingLaws
mod TakingLaws
pub mod InterestLaws
