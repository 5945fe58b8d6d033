pub mod Brief
pub mod Kept
pub mod Lines
pub mod Rows
pub mod Shape
pub mod Walked
pub mod Shown
