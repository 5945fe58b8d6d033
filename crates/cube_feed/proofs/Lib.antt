mod ContiguousLaws
pub mod FieldLaws
mod HeaderLaws
mod LineLaws
pub mod NumberLaws
mod ColumnLaws
mod PlainFieldLaws
mod ArrangedLaws
mod RecordLaws
mod MarkLaws
mod BoundLaws
mod SkipLaws
mod TextLaws
mod FeedLaws
pub mod FaultLaws
pub mod TurnLaws
mod ConditionLaws
