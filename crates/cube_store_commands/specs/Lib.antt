pub mod Pieces
pub mod Records
pub mod Changed
pub mod Replay
pub mod Kept
pub mod Serving
pub mod Asking
pub mod Stored
