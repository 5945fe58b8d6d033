mod PieceLaws
mod RecordLaws
mod KeepingLaws
pub mod ReplayLaws
mod StartLaws
mod StoredLaws
mod AskingLaws
mod SessionLaws
mod GoesOnLaws
mod SessionFeedLaws
