pub mod RequestLaws
mod LiveLaws
pub mod RowLaws
pub mod RefusalLaws
pub mod ShowsLaws
mod OpeningLaws
mod ReplyLaws
mod ServingLaws
pub mod KeepingLaws
mod TakenLaws
