mod FactLaws
mod CarriedLaws
pub mod BuilderLaws
mod FillLaws
mod TakingLaws
mod PartedLaws
mod JoinLaws
mod OrderLaws
mod WholeLaws
mod DraftLaws
mod PartLaws
pub mod ShareLaws
mod InterestLaws
mod SameLaws
mod CountingLaws
mod CounterShareLaws
mod TakenLaws
mod ShardedLaws
mod ShardLedgerLaws
mod UnitedLaws
mod ShardingLaws
