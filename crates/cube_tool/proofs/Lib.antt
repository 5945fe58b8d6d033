mod RefusalLaws
pub mod RunLaws
mod CommandLaws
mod MergingLaws
mod QueryWordLaws
mod CellFactLaws
mod AnsweringLaws
pub mod SessionLaws
mod SchemaFileLaws
