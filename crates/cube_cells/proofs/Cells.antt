-- Laws of the cells of a cube as they are kept, and what a step does to them.
pub mod SchemaLaws
pub mod CodedLaws
pub mod WalkLaws
pub mod NewLaws
pub mod KeptLaws
pub mod StepLaws
pub mod CubeLaws
pub mod JoinLaws
pub mod TableLaws
pub mod LeveledLaws
pub mod TakenLaws
