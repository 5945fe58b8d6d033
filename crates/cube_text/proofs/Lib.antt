mod AnswerLaws
mod BriefLaws
mod ColumnLaws
mod FieldLaws
mod KeptLaws
pub mod LineLaws
mod PartLaws
pub mod RowShapeLaws
mod WalkedLaws
mod ShownLaws
